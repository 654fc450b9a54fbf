-- The records of a scan can be relied on, also where it is cut off.
use Rattle.std.proofs.Common.{◌≡◌, ℕ, Bool, true, false, cond, not, ◌&&◌, List, [], ◌∷◌, ◌++◌, Some, refl, sym, ap, ◌∙◌, subst, All}
use Rattle.std.specs.List.{flat_map}
use Rattle.std.specs.Str.{bytes_eq}
use Rattle.std.specs.FinMap.{get}
use Rattle.std.proofs.lemmas.Bool.{and_parts, not-true}
use Rattle.std.proofs.lemmas.List.Elements.{All-cons, All-contains, All-nil}
use Rattle.path_order.specs.NameList.{Listed}
use Rattle.path_order.specs.Stamp.{Moment}
use Rattle.loc_outside.specs.Trees.{Dir, Dirs}
use Rattle.byte_feed.specs.Front.{front}
use Rattle.mlocate_db.specs.Items.{HeaderItem, HeadItem, EntryItem, EndItem, Item, mlocate}
use Rattle.tree_scan.specs.Admitted.{admitted}
use Rattle.tree_scan.specs.Blocks.{scan_text}
use Rattle.tree_scan.specs.Plan.{Plan}
use Rattle.tree_scan.specs.Reach.{is_open, is_tried, reached, tried}
use Rattle.tree_scan.specs.Records.{Honest, Record}
use Rattle.tree_scan.proofs.Lists.{Each, each_append, each_more}
use Rattle.dir_reuse.specs.Naming.{entries_of}
use Rattle.dir_reuse.specs.Scanned.{block_items, header_item, IsPlan}
use Rattle.dir_reuse.specs.Usable.{are_usable, has_end, leading_entries, record_of, records, records_if_same_setup, records_in}
use Rattle.dir_reuse.proofs.Reached.{IsFound, led_found}
use Rattle.dir_reuse.proofs.ScanParts.{Alike, scan_alike}

-- ---- the records of a first part

-- what is read of the entries of a directory and of what follows them
record Passes (names : Listed) (rest js : List Item) : Type 0 where
  left : List Item
  alike : Alike left rest
  records : (version : ℕ) → records_in version js ≡ records_in version left
  ended : has_end js ≡ true → leading_entries js ≡ names

passes : (names : Listed) (rest js : List Item) → Alike js ((entries_of names ++ EndItem ∷ []) ++ rest) → Passes names rest js
passes names rest [] a = record { left = []; alike = tt; records = λ version. refl; ended = λ e. absurd cc }
passes [] rest (EndItem ∷ js) a = record { left = js; alike = a.1; records = λ version. refl; ended = λ e. refl }
passes [] rest (HeaderItem h ∷ js) a = absurd (let z = a.0 in cc)
passes [] rest (HeadItem h ∷ js) a = absurd (let z = a.0 in cc)
passes [] rest (EntryItem kind name ∷ js) a = absurd (let z = a.0 in cc)
passes (n ∷ names) rest (EntryItem kind name ∷ js) a =
    let more = passes names rest js a.1 in
    let same = a.0 in
    let first : name ≡ n.0 = cc in
    let second : kind ≡ n.1 = cc in
    record { left = more.left; alike = more.alike; records = more.records; ended = λ e. λ i. (first i, second i) ∷ more.ended e i }
passes (n ∷ names) rest (HeaderItem h ∷ js) a = absurd (let z = a.0 in cc)
passes (n ∷ names) rest (HeadItem h ∷ js) a = absurd (let z = a.0 in cc)
passes (n ∷ names) rest (EndItem ∷ js) a = absurd (let z = a.0 in cc)

-- a record of this path and these names has a property
abbrev Gives : (Record → Type 0) → List ℕ × Dir → Type 0
Gives P e = (r : Record) → r.path ≡ e.0 → r.names ≡ admitted e.0 e.1 → P r

blocks_give : (P : Record → Type 0) (plan : Plan) (now : Moment) (version : ℕ) (dirs : List (List ℕ × Dir)) (js : List Item) → Each (Gives P) dirs → Alike js (flat_map (block_items plan now) dirs) → Each P (records_in version js)
blocks_give P plan now version dirs [] g a = tt
blocks_give P plan now version [] (j ∷ js) g a = absurd a
blocks_give P plan now version (e ∷ dirs) (HeadItem h ∷ js) g a =
    let p = passes (admitted e.0 e.1) (flat_map (block_items plan now) dirs) js a.1 in
    each_append P _ (records_in version js) (own p (has_end js && are_usable (leading_entries js)) refl)
    (subst (Each P) (sym (p.records version)) (blocks_give P plan now version dirs p.left g.1 p.alike))
  where
    own : Passes (admitted e.0 e.1) (flat_map (block_items plan now) dirs) js → (b : Bool) → (has_end js && are_usable (leading_entries js)) ≡ b → Each P (cond b (record_of version h (leading_entries js) ∷ []) [])
    own p true t = (g.0 (record_of version h (leading_entries js)) a.0 (p.ended (and_parts (has_end js) _ t).0), tt)
    own p false t = tt
blocks_give P plan now version (e ∷ dirs) (HeaderItem h ∷ js) g a = absurd (let z = a.0 in cc)
blocks_give P plan now version (e ∷ dirs) (EntryItem kind name ∷ js) g a = absurd (let z = a.0 in cc)
blocks_give P plan now version (e ∷ dirs) (EndItem ∷ js) g a = absurd (let z = a.0 in cc)

scan_gives : (P : Record → Type 0) (plan : Plan) (now : Moment) (root block : List ℕ) (dirs : List (List ℕ × Dir)) (js : List Item) → Each (Gives P) dirs → Alike js (header_item plan ∷ flat_map (block_items plan now) dirs) → Each P (records_if_same_setup root block js)
scan_gives P plan now root block dirs [] g a = tt
scan_gives P plan now root block dirs (HeaderItem h ∷ js) g a = by (bytes_eq h.root root && bytes_eq h.block block)
  where
    by : (b : Bool) → Each P (cond b (records_in h.version js) [])
    by true = blocks_give P plan now h.version dirs js g a.1
    by false = tt
scan_gives P plan now root block dirs (HeadItem h ∷ js) g a = tt
scan_gives P plan now root block dirs (EntryItem kind name ∷ js) g a = tt
scan_gives P plan now root block dirs (EndItem ∷ js) g a = tt

-- ---- whether they can be relied on

some_is : {A : Type 0} (x y : A) → Some x ≡ Some y → x ≡ y
some_is x y e = cc

-- the names of a directory of this path are those of the record, and it shows them
abbrev IsTrusted : Dirs → Record → Type 0
IsTrusted dirs r = (dir : Dir) → get dirs r.path ≡ Some dir → (dir.hidden ≡ false) × (admitted r.path dir ≡ r.names)

trusted : (dirs : Dirs) (pruned : List ℕ → Bool) (e : List ℕ × Dir) → IsFound dirs (is_open pruned) e → Gives (IsTrusted dirs) e
trusted dirs pruned e f r path names dir there =
    let same : dir ≡ e.1 = some_is dir e.1 (sym there ∙ ap (get dirs) path ∙ f.found) in
    (not-true dir.hidden (ap (λ (d : Dir). not d.hidden) same ∙ (and_parts (not (pruned e.0)) (not e.1.hidden) f.passes).1), (λ i. admitted (path i) (same i)) ∙ sym names)

all_of : {A : Type 0} (P : A → Type 0) (xs : List A) → Each P xs → All P xs
all_of P [] h = All-nil P
all_of P (x ∷ xs) h = All-cons P x xs h.0 (all_of P xs h.1)

pub scan_honest : (dirs : Dirs) (plan : Plan) (now : Moment) → IsPlan plan → Honest (Some (records plan.root plan.block (scan_text dirs plan now))) dirs plan
scan_honest dirs plan now p = λ r dir recorded there bearing.
    let all = reached dirs plan.pruned plan.root in
    let file : List ℕ = scan_text dirs plan now in
    let sure : Each (IsTrusted dirs) (records plan.root plan.block file) =
    scan_gives (IsTrusted dirs) plan now plan.root plan.block all (front mlocate file) (each_more (IsFound dirs (is_open plan.pruned)) (Gives (IsTrusted dirs)) (λ e f. trusted dirs plan.pruned e f) all (led_found dirs plan.pruned (is_open plan.pruned) plan.root p.root)) (scan_alike dirs plan now p) in
    let found : All (IsFound dirs (is_tried plan.pruned)) (tried dirs plan.pruned plan.root) = all_of (IsFound dirs (is_tried plan.pruned)) _ (led_found dirs plan.pruned (is_tried plan.pruned) plan.root p.root) in
    All-contains (IsTrusted dirs) (records plan.root plan.block file) r (all_of (IsTrusted dirs) (records plan.root plan.block file) sure) recorded dir (All-contains (IsFound dirs (is_tried plan.pruned)) (tried dirs plan.pruned plan.root) (r.path, dir) found there).found
