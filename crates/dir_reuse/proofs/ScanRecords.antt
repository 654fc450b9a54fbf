-- What a whole scan gives as an old database: its records and its paths.
use Rattle.std.proofs.Common.{◌≡◌, ℕ, ◌+◌, ◌≤◌, Bool, true, false, cond, eqb, ◌&&◌, List, [], ◌∷◌, ◌++◌, map, length, take, refl, sym, ap, ◌∙◌, arith, Some, None, Ok, Less, nat_cmp, is_lt}
use Rattle.std.specs.List.{flat_map, list_all}
use Rattle.std.specs.Str.{bytes_eq}
use Rattle.std.specs.Cmp.Lexicographic.{bytes_decides, slice_cmp}
use Rattle.std.specs.FinMap.{entries, entries_sorted, is_sorted}
use Rattle.std.specs.FinMap.Entries.{below_all}
use Rattle.std.proofs.lemmas.Bool.{and_from, and_parts, le-leb}
use Rattle.std.proofs.lemmas.List.{take_all}
use Rattle.path_order.specs.declared.kind.Kind.{Kind}
use Rattle.path_order.specs.NameList.{Listed}
use Rattle.path_order.specs.Names.{is_name}
use Rattle.path_order.specs.Path.{joined}
use Rattle.path_order.specs.Stamp.{Moment}
use Rattle.loc_outside.specs.Trees.{Dir, Dirs}
use Rattle.byte_feed.specs.Front.{front, limit, on_ok, readable}
use Rattle.byte_feed.specs.Paths.{PathAt, ToCome, GivesWhole, contents, given_by, paths_of, preamble_of}
use Rattle.byte_feed.proofs.ReadBack.{database_front, database_given}
use Rattle.mlocate_db.specs.Items.{Head, Item, HeadItem, EntryItem, EndItem, AtStart, Between, Inside, item_at, gate_of, mlocate, spell}
use Rattle.mlocate_db.proofs.ItemLaws.{mlocate_laws}
use Rattle.mlocate_db.proofs.ItemSizes.{mlocate_shrinks}
use Rattle.tree_scan.specs.Admitted.{admitted, fits_in}
use Rattle.tree_scan.specs.Blocks.{block, header, scan_text}
use Rattle.tree_scan.specs.Plan.{Plan}
use Rattle.tree_scan.specs.Reach.{reached}
use Rattle.tree_scan.specs.Records.{Record}
use Rattle.tree_scan.proofs.Lists.{Each, Rises, rises_filter}
use Rattle.tree_scan.proofs.Sorted.{ByName, rises_sorted}
use Rattle.dir_reuse.specs.Naming.{entries_of}
use Rattle.dir_reuse.specs.Scanned.{header_item, head_in, block_items, scan_items, scanned, paths_under, stamp_in, IsWholeScan, HaveFewNames}
use Rattle.dir_reuse.specs.Usable.{are_usable, has_end, leading_entries, record_of, records, records_if_same_setup, records_in, usable_record}
use Rattle.dir_reuse.proofs.Reached.{admitted_fits}
use Rattle.dir_reuse.proofs.ScanItems.{each_of, header_allowed, scan_whole, spelled_scan}

-- ---- names

all_names : (path : List ℕ) (names : Listed) → Each (λ (n : List ℕ × Kind). fits_in path n.0 ≡ true) names → list_all (λ (n : List ℕ × Kind). is_name n.0) names ≡ true
all_names path [] h = refl
all_names path (n ∷ names) h = and_from _ _ (and_parts (is_name n.0) _ h.0).0 (all_names path names h.1)

below_from : (name : List ℕ) (names : Listed) → Each (λ (n : List ℕ × Kind). slice_cmp nat_cmp name n.0 ≡ Less) names → below_all (slice_cmp nat_cmp) name names ≡ true
below_from name [] h = refl
below_from name (n ∷ names) h = and_from _ _ (ap is_lt h.0) (below_from name names h.1)

sorted_from : (names : Listed) → Rises ByName names → is_sorted (slice_cmp nat_cmp) names ≡ true
sorted_from [] h = refl
sorted_from (n ∷ names) h = and_from _ _ (below_from n.0 names h.0) (sorted_from names h.1)

admitted_rises : (path : List ℕ) (dir : Dir) → is_sorted (slice_cmp nat_cmp) (admitted path dir) ≡ true
admitted_rises path dir = sorted_from (admitted path dir) (rises_filter ByName (λ (n : List ℕ × Kind). fits_in path n.0) (entries dir.names) (rises_sorted (slice_cmp nat_cmp) (entries dir.names) (entries_sorted dir.names)))

admitted_usable : (e : List ℕ × Dir) → length (admitted e.0 e.1) ≤ 16777216 → are_usable (admitted e.0 e.1) ≡ true
admitted_usable e few =
    and_from _ _ (and_from _ _ (all_names e.0 (admitted e.0 e.1) (admitted_fits e.0 e.1)) (admitted_rises e.0 e.1)) (le-leb (length (admitted e.0 e.1)) 16777216 few)

-- ---- records

entries_no_records : (version : ℕ) (names : Listed) (items : List Item) → records_in version ((entries_of names ++ EndItem ∷ []) ++ items) ≡ records_in version items
entries_no_records version [] items = refl
entries_no_records version (n ∷ names) items = entries_no_records version names items

entries_first : (names : Listed) (items : List Item) → leading_entries ((entries_of names ++ EndItem ∷ []) ++ items) ≡ names
entries_first [] items = refl
entries_first (n ∷ names) items = ap (λ (l : Listed). n ∷ l) (entries_first names items)

entries_end : (names : Listed) (items : List Item) → has_end ((entries_of names ++ EndItem ∷ []) ++ items) ≡ true
entries_end [] items = refl
entries_end (n ∷ names) items = entries_end names items

one_record : (version : ℕ) (head : Head) (names : Listed) (items : List Item) → are_usable names ≡ true → usable_record version head ((entries_of names ++ EndItem ∷ []) ++ items) ≡ record_of version head names ∷ []
one_record version head names items usable = by _ _ (entries_end names items) (entries_first names items)
  where
    by : (b : Bool) (l : Listed) → b ≡ true → l ≡ names → (cond (b && are_usable l) (record_of version head l ∷ []) []) ≡ record_of version head names ∷ []
    by b l closed are = rw (closed, are, usable) refl

device_by : (b : Bool) (device : ℕ) → cond b (Some (cond b device 0)) None ≡ cond b (Some device) None
device_by true device = refl
device_by false device = refl

scanned_is : (plan : Plan) (now : Moment) (e : List ℕ × Dir) → record_of plan.version (head_in plan now e) (admitted e.0 e.1) ≡ scanned plan now e
scanned_is plan now e = λ i. let r : Record = record { path = e.0; stamp = stamp_in plan now e; device = device_by (eqb plan.version 1) (plan.device_of e.0) i; names = admitted e.0 e.1 } in r

blocks_records : (plan : Plan) (now : Moment) (dirs : List (List ℕ × Dir)) → Each (λ (e : List ℕ × Dir). length (admitted e.0 e.1) ≤ 16777216) dirs → records_in plan.version (flat_map (block_items plan now) dirs) ≡ map (scanned plan now) dirs
blocks_records plan now [] few = refl
blocks_records plan now (e ∷ dirs) few =
    let names : Listed = admitted e.0 e.1 in
    let items : List Item = flat_map (block_items plan now) dirs in
    let one : usable_record plan.version (head_in plan now e) ((entries_of names ++ EndItem ∷ []) ++ items) ≡ scanned plan now e ∷ [] =
    one_record plan.version (head_in plan now e) names items (admitted_usable e few.0) ∙ ap (λ (r : Record). r ∷ []) (scanned_is plan now e) in
    let rest : records_in plan.version ((entries_of names ++ EndItem ∷ []) ++ items) ≡ map (scanned plan now) dirs = entries_no_records plan.version names items ∙ blocks_records plan now dirs few.1 in
    λ i. one i ++ rest i

pub scan_front : (dirs : Dirs) (plan : Plan) (now : Moment) → IsWholeScan dirs plan now → front mlocate (scan_text dirs plan now) ≡ scan_items dirs plan now
scan_front dirs plan now w = ap (front mlocate) (sym (spelled_scan dirs plan now)) ∙ database_front mlocate mlocate_shrinks mlocate_laws (scan_items dirs plan now) (scan_whole dirs plan now w)

same_text : (text : List ℕ) → bytes_eq text text ≡ true
same_text text = (bytes_decides text text).1 refl

pub scan_records : (dirs : Dirs) (plan : Plan) (now : Moment) → IsWholeScan dirs plan now → HaveFewNames (reached dirs plan.pruned plan.root)
    → records plan.root plan.block (scan_text dirs plan now) ≡ map (scanned plan now) (reached dirs plan.pruned plan.root)
scan_records dirs plan now w few =
    let all = reached dirs plan.pruned plan.root in
    ap (records_if_same_setup plan.root plan.block) (scan_front dirs plan now w)
    ∙ ap (λ (b : Bool). cond b (records_in plan.version (flat_map (block_items plan now) all)) []) (and_from _ _ (same_text plan.root) (same_text plan.block))
    ∙ blocks_records plan now all (each_of (λ (e : List ℕ × Dir). length (admitted e.0 e.1) ≤ 16777216) all few)

-- ---- paths

abbrev texts : List PathAt → List (List ℕ)
texts paths = map (λ (p : PathAt). p.text) paths

entries_texts : (version : ℕ) (path : List ℕ) (names : Listed) (items : List Item) (more : List (List ℕ)) → ((place heads : ℕ) → texts (paths_of mlocate (Between version) place heads items) ≡ more)
    → (place heads : ℕ) → texts (paths_of mlocate (Inside version path) place heads ((entries_of names ++ EndItem ∷ []) ++ items)) ≡ map (λ (n : List ℕ × Kind). joined path n.0) names ++ more
entries_texts version path [] items more h place heads = h (place + 1) (heads + 0)
entries_texts version path (n ∷ names) items more h place heads =
    ap (λ (l : List (List ℕ)). joined path n.0 ∷ l) (entries_texts version path names items more h (place + length (spell (EntryItem n.1 n.0))) (heads + 0))

blocks_texts : (plan : Plan) (now : Moment) (dirs : List (List ℕ × Dir)) (place heads : ℕ) → texts (paths_of mlocate (Between plan.version) place heads (flat_map (block_items plan now) dirs)) ≡ flat_map paths_under dirs
blocks_texts plan now [] place heads = refl
blocks_texts plan now (e ∷ dirs) place heads =
    entries_texts plan.version e.0 (admitted e.0 e.1) (flat_map (block_items plan now) dirs) (flat_map paths_under dirs) (blocks_texts plan now dirs) (place + length (spell (HeadItem (head_in plan now e)))) (heads + 1)

given_whole : (given : ToCome) (items : List Item) (paths : List (List ℕ)) → given ≡ given_by mlocate items → texts (paths_of mlocate AtStart 0 0 items) ≡ paths → GivesWhole given paths
given_whole given items paths e h = record { texts = ap (λ (t : ToCome). texts t.paths) e ∙ h; ends = ap (λ (t : ToCome). t.ending) e }

pub scan_paths : (dirs : Dirs) (plan : Plan) (now : Moment) → IsWholeScan dirs plan now → GivesWhole (contents mlocate (scan_text dirs plan now)) (flat_map paths_under (reached dirs plan.pruned plan.root))
scan_paths dirs plan now w =
    given_whole (contents mlocate (scan_text dirs plan now)) (scan_items dirs plan now) (flat_map paths_under (reached dirs plan.pruned plan.root))
    (ap (contents mlocate) (sym (spelled_scan dirs plan now)) ∙ database_given mlocate mlocate_shrinks mlocate_laws (scan_items dirs plan now) (scan_whole dirs plan now w))
    (blocks_texts plan now (reached dirs plan.pruned plan.root) (0 + length (spell (header_item plan))) (0 + 0))

pub scan_preamble : (dirs : Dirs) (plan : Plan) (now : Moment) → IsWholeScan dirs plan now → preamble_of mlocate (readable (scan_text dirs plan now)) ≡ Some (length (header plan), plan.flag)
unfolding header
scan_preamble dirs plan now w =
    let file : List ℕ = scan_text dirs plan now in
    let behind : List ℕ = flat_map (block plan now) (reached dirs plan.pruned plan.root) in
    let read : item_at AtStart (take limit file) ≡ Ok (header_item plan, behind) = ap (item_at AtStart) (take_all limit file (omega (arith, w.below))) ∙ mlocate_laws.again true AtStart (header_item plan) behind (header_allowed plan w.planned) in
    ap (on_ok None (λ (x : Item × List ℕ). Some (length (spell x.0), gate_of x.0))) read
