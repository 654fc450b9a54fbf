-- What is read of a first part of a scan.
use Rattle.std.proofs.Common.{◌≡◌, ℕ, ◌+◌, Bool, true, not, ltb, List, [], ◌∷◌, ◌++◌, length, take, drop, Result, Ok, Err, refl, sym, ap, ◌∙◌, subst, arith, append_assoc, length-append}
use Rattle.std.specs.List.{flat_map}
use Rattle.std.proofs.lemmas.List.{drop_at, take-append-drop}
use Rattle.path_order.specs.declared.kind.Kind.{Kind}
use Rattle.path_order.specs.NameList.{Listed}
use Rattle.path_order.specs.Stamp.{Moment}
use Rattle.loc_outside.specs.Trees.{Dir, Dirs}
use Rattle.byte_feed.specs.declared.damage.DamageCause.TheVariants.{BadNanos, EmptyPath}
use Rattle.byte_feed.specs.declared.damage.Stop.{Stop}
use Rattle.byte_feed.specs.Field.{demand, ended, IsText, max_path, number_at, text_at}
use Rattle.byte_feed.specs.Front.{front, items_of, limit, readable, spelling}
use Rattle.byte_feed.proofs.Fields.{guard_ok, ok_is, seq}
use Rattle.byte_feed.proofs.Fronts.{items_more, items_none}
use Rattle.byte_feed.proofs.Takes.{text_again}
use Rattle.mlocate_db.specs.Items.{Head, HeaderItem, HeadItem, EntryItem, EndItem, Item, State, AtStart, Between, Inside, after, allowed, as_head, head_at, item_at, mlocate, number, numbers_at, numbers_of, room_in, spell, spell_numbers}
use Rattle.mlocate_db.specs.declared.item.Numbers.{Numbers}
use Rattle.mlocate_db.proofs.ItemLaws.{length-number, mlocate_laws}
use Rattle.mlocate_db.proofs.ItemSizes.{mlocate_shrinks}
use Rattle.mlocate_db.proofs.ItemSteady.{item_steady}
use Rattle.tree_scan.specs.Admitted.{admitted}
use Rattle.tree_scan.specs.Blocks.{scan_text}
use Rattle.tree_scan.specs.Plan.{Plan}
use Rattle.tree_scan.specs.Reach.{reached}
use Rattle.tree_scan.proofs.Lists.{Each}
use Rattle.dir_reuse.specs.Naming.{entries_of}
use Rattle.dir_reuse.specs.Scanned.{header_item, head_in, block_items, scan_items, IsPlan}
use Rattle.dir_reuse.proofs.ScanItems.{HasTexts, header_allowed, reached_texts, spelled_scan}

-- ---- what is read of an item's spelling

-- heads of the same path, or the same item
abbrev pub SameItem : Item → Item → Type 0
SameItem (HeadItem h) (HeadItem k) = h.path ≡ k.path
SameItem j i = j ≡ i

same_itself : (i : Item) → SameItem i i
same_itself (HeaderItem h) = refl
same_itself (HeadItem h) = refl
same_itself (EntryItem kind name) = refl
same_itself EndItem = refl

-- What was read of a spelling before these bytes leaves them and the same state. A head that was written with numbers that
-- do not fit is read with others, if it is read at all.
record ReadsAs (s : State) (i : Item) (rest : List ℕ) (j : Item) (left : List ℕ) : Type 0 where
  behind : left ≡ rest
  state : after s j ≡ after s i
  same : SameItem j i

abbrev IsKnown : State → Item → Type 0
IsKnown s i = (rest : List ℕ) (j : Item) (left : List ℕ) → item_at s (spell i ++ rest) ≡ Ok (j, left) → ReadsAs s i rest j left

known_allowed : (s : State) (i : Item) → allowed s i → IsKnown s i
known_allowed s i h rest j left e =
    let same : (i, rest) ≡ (j, left) = ok_is (i, rest) (j, left) (sym (mlocate_laws.again true s i rest h) ∙ e) in
    record {
      behind = sym (ap (λ (p : Item × List ℕ). p.1) same);
      state = ap (λ (p : Item × List ℕ). after s p.0) (sym same);
      same = subst (λ (p : Item × List ℕ). SameItem p.0 i) same (same_itself i);
    }

-- The numbers of a head are passed, whatever they are.
number_off : (width : ℕ) (front rest : List ℕ) (n : ℕ) (left : List ℕ) → length front ≡ width → number_at width (front ++ rest) ≡ Ok (n, left) → left ≡ rest
number_off width front rest n left len e =
    let g = guard_ok _ _ _ (n, left) e in
    sym (ap (λ (p : ℕ × List ℕ). p.1) (ok_is _ (n, left) g.1)) ∙ drop_at front rest width len

numbers_off : (h : Numbers) (rest : List ℕ) (x : Numbers × List ℕ) → numbers_at (spell_numbers h ++ rest) ≡ Ok x → x.1 ≡ rest
unfolding numbers_at
numbers_off h rest x e =
    let last : List ℕ = number 4 h.device ++ rest in
    let behind : List ℕ = number 4 h.nanos ++ last in
    let shape : spell_numbers h ++ rest ≡ number 8 h.seconds ++ behind =
    append_assoc (number 8 h.seconds) (number 4 h.nanos ++ number 4 h.device) rest ∙ ap (λ (r : List ℕ). number 8 h.seconds ++ r) (append_assoc (number 4 h.nanos) (number 4 h.device) rest) in
    seq (number_at 8 (number 8 h.seconds ++ behind)) _ _ _ (ap numbers_at (sym shape) ∙ e) (λ (seconds : ℕ × List ℕ) e1 k1.
    let r1 = number_off 8 (number 8 h.seconds) behind seconds.0 seconds.1 (length-number 8 h.seconds) e1 in
    seq (number_at 4 seconds.1) _ _ _ k1 (λ (nanos : ℕ × List ℕ) e2 k2.
    let r2 = number_off 4 (number 4 h.nanos) last nanos.0 nanos.1 (length-number 4 h.nanos) (ap (number_at 4) (sym r1) ∙ e2) in
    seq (demand (ltb nanos.0 1000000000) BadNanos) _ _ _ k2 (λ (good : Unit {0}) e3 k3.
    seq (number_at 4 nanos.1) _ _ _ k3 (λ (device : ℕ × List ℕ) e4 k4.
    let r4 = number_off 4 (number 4 h.device) rest device.0 device.1 (length-number 4 h.device) (ap (number_at 4) (sym r2) ∙ e4) in
    subst (λ (y : Numbers × List ℕ). y.1 ≡ rest) (ok_is (record { seconds = seconds.0; nanos = nanos.0; device = device.0 }, device.1) x k4) r4))))

head_off : (h : Head) (rest : List ℕ) (x : Head × List ℕ) → IsText max_path h.path → head_at (spell (HeadItem h) ++ rest) ≡ Ok x → (x.0.path ≡ h.path) × (x.1 ≡ rest)
unfolding head_at
head_off h rest x text e =
    seq (numbers_at (spell_numbers (numbers_of h) ++ (ended h.path ++ rest))) _ _ _ (ap head_at (sym (append_assoc (spell_numbers (numbers_of h)) (ended h.path) rest)) ∙ e) (λ (numbers : Numbers × List ℕ) e1 k1.
    let behind = numbers_off (numbers_of h) (ended h.path ++ rest) numbers e1 in
    seq (text_at EmptyPath max_path numbers.1) _ _ _ k1 (λ (path : List ℕ × List ℕ) e2 k2.
    let same : (h.path, rest) ≡ path = ok_is (h.path, rest) path (sym (text_again EmptyPath max_path h.path rest text) ∙ ap (text_at EmptyPath max_path) (sym behind) ∙ e2) in
    subst (λ (y : Head × List ℕ). (y.0.path ≡ h.path) × (y.1 ≡ rest)) (ok_is (as_head numbers.0 path.0, path.1) x k2)
    (sym (ap (λ (p : List ℕ × List ℕ). p.0) same), sym (ap (λ (p : List ℕ × List ℕ). p.1) same))))

known_head : (version : ℕ) (h : Head) → IsText max_path h.path → IsKnown (Between version) (HeadItem h)
known_head version h text rest j left e =
    seq (head_at (spell (HeadItem h) ++ rest)) _ _ _ e (λ (x : Head × List ℕ) e1 k1.
    let off = head_off h rest x text e1 in
    subst (λ (y : Item × List ℕ). ReadsAs (Between version) (HeadItem h) rest y.0 y.1) (ok_is (HeadItem x.0, x.1) (j, left) k1)
    (record { behind = off.1; state = ap (λ (p : List ℕ). Inside version p) off.0; same = off.0 }))

-- ---- a first part

abbrev Reads : State → List Item → Type 0
Reads s [] = Unit {0}
Reads s (i ∷ is) = IsKnown s i × Reads (after s i) is

-- these items are as the first of those
abbrev pub Alike : List Item → List Item → Type 0
Alike [] is = Unit {0}
Alike (j ∷ js) [] = ⊥
Alike (j ∷ js) (i ∷ is) = SameItem j i × Alike js is

-- what is read of a first part of a spelling
first_alike : (is : List Item) (last : Bool) (s : State) (bytes more : List ℕ) → Reads s is → bytes ++ more ≡ spelling mlocate is → Alike (items_of mlocate last s bytes) is
first_alike [] last s bytes more known e = by (item_at s bytes) refl
  where
    by : (r : Result (Item × List ℕ) Stop) → item_at s bytes ≡ r → Alike (items_of mlocate last s bytes) []
    by (Err stop) k = subst (λ (l : List Item). Alike l []) (sym (items_none mlocate last s bytes stop k)) tt
    by (Ok x) k = absurd (let none : length bytes + length more ≡ 0 = sym (length-append bytes more) ∙ ap length e in omega (arith, none, mlocate_shrinks.shorter last s bytes x.0 x.1 k))
first_alike (i ∷ is) last s bytes more known e = by (item_at s bytes) refl (λ t rest reads spells. first_alike is last t rest more reads spells)
  where
    by : (r : Result (Item × List ℕ) Stop) → item_at s bytes ≡ r → ((t : State) (rest : List ℕ) → Reads t is → rest ++ more ≡ spelling mlocate is → Alike (items_of mlocate last t rest) is) → Alike (items_of mlocate last s bytes) (i ∷ is)
    by (Err stop) k others = subst (λ (l : List Item). Alike l (i ∷ is)) (sym (items_none mlocate last s bytes stop k)) tt
    by (Ok x) k others =
        let reads = known.0 (spelling mlocate is) x.0 (x.1 ++ more) (ap (item_at s) (sym e) ∙ (item_steady s).goes_on bytes more x.0 x.1 k) in
        let rest = others (after s x.0) x.1 (subst (λ (t : State). Reads t is) (sym reads.state) known.1) reads.behind in
        subst (λ (l : List Item). Alike l (i ∷ is)) (sym (items_more mlocate mlocate_shrinks last s bytes x.0 x.1 k)) (reads.same, rest)

-- ---- the scan

entries_read : (version : ℕ) (path : List ℕ) (names : Listed) (items : List Item) → Each (λ (n : List ℕ × Kind). IsText (room_in path) n.0) names → Reads (Between version) items
    → Reads (Inside version path) ((entries_of names ++ EndItem ∷ []) ++ items)
entries_read version path [] items h k = (known_allowed (Inside version path) EndItem tt, k)
entries_read version path (n ∷ names) items h k = (known_allowed (Inside version path) (EntryItem n.1 n.0) h.0, entries_read version path names items h.1 k)

blocks_read : (plan : Plan) (now : Moment) (dirs : List (List ℕ × Dir)) → Each HasTexts dirs → Reads (Between plan.version) (flat_map (block_items plan now) dirs)
blocks_read plan now [] h = tt
blocks_read plan now (e ∷ dirs) h =
    (known_head plan.version (head_in plan now e) h.0.path, entries_read plan.version e.0 (admitted e.0 e.1) (flat_map (block_items plan now) dirs) h.0.names (blocks_read plan now dirs h.1))

scan_reads : (dirs : Dirs) (plan : Plan) (now : Moment) → IsPlan plan → Reads AtStart (scan_items dirs plan now)
scan_reads dirs plan now p =
    (known_allowed AtStart (header_item plan) (header_allowed plan p), blocks_read plan now (reached dirs plan.pruned plan.root) (reached_texts dirs plan.pruned plan.root p.root))

pub scan_alike : (dirs : Dirs) (plan : Plan) (now : Moment) → IsPlan plan → Alike (front mlocate (scan_text dirs plan now)) (scan_items dirs plan now)
scan_alike dirs plan now p =
    let file : List ℕ = scan_text dirs plan now in
    first_alike (scan_items dirs plan now) (not (readable file).more) AtStart (take limit file) (drop limit file) (scan_reads dirs plan now p) (take-append-drop limit file ∙ sym (spelled_scan dirs plan now))
