-- The records of a scan can be relied on in later directories that are the same wherever their times agree.
use Rattle.std.proofs.Common.{◌≡◌, ℕ, Bool, true, false, cond, eqb, not, ◌&&◌, List, [], ◌∷◌, ◌++◌, Some, refl, sym, ap, ◌∙◌, subst, All}
use Rattle.std.specs.List.{flat_map}
use Rattle.std.specs.Str.{bytes_eq}
use Rattle.std.specs.FinMap.{get}
use Rattle.std.proofs.lemmas.Bool.{and_parts, eqb-true, not-true}
use Rattle.std.proofs.lemmas.List.Elements.{All-cons, All-contains, All-nil}
use Rattle.path_order.specs.NameList.{Listed}
use Rattle.path_order.specs.Stamp.{Moment, is_recent}
use Rattle.loc_outside.specs.Trees.{Dir, Dirs}
use Rattle.byte_feed.specs.Front.{front}
use Rattle.mlocate_db.specs.Items.{Head, HeaderItem, HeadItem, EntryItem, EndItem, Item, mlocate}
use Rattle.sample_trees.specs.Kept.{AllShown, SameWhereTimesAgree}
use Rattle.tree_scan.specs.Admitted.{admitted}
use Rattle.tree_scan.specs.Blocks.{scan_text, stamped, time_of, zero_moment}
use Rattle.tree_scan.specs.Plan.{Plan}
use Rattle.tree_scan.specs.Reach.{is_open, is_tried, reached, tried}
use Rattle.tree_scan.specs.Records.{Honest, Record, is_moment, is_zero}
use Rattle.tree_scan.proofs.Lists.{Each, each_append, each_more}
use Rattle.dir_reuse.specs.Naming.{entries_of}
use Rattle.dir_reuse.specs.Scanned.{FitsHead, IsPlan, block_items, head_in, header_item, stamp_in}
use Rattle.dir_reuse.specs.Usable.{are_usable, has_end, leading_entries, record_of, records, records_if_same_setup, records_in}
use Rattle.dir_reuse.proofs.Reached.{IsFound, led_found}
use Rattle.update_runs.proofs.FirstItems.{First, scan_first}

-- ---- the records of a first part

-- what is read of the entries of a directory and of what follows them
record Passed (names : Listed) (rest js : List Item) : Type 0 where
  left : List Item
  first : First left rest
  records : (version : ℕ) → records_in version js ≡ records_in version left
  ended : has_end js ≡ true → leading_entries js ≡ names

passed : (names : Listed) (rest js : List Item) → First js ((entries_of names ++ EndItem ∷ []) ++ rest) → Passed names rest js
passed names rest [] a = record { left = []; first = tt; records = λ version. refl; ended = λ e. absurd cc }
passed [] rest (EndItem ∷ js) a = record { left = js; first = a.1; records = λ version. refl; ended = λ e. refl }
passed [] rest (HeaderItem h ∷ js) a = absurd (let z = a.0 in cc)
passed [] rest (HeadItem h ∷ js) a = absurd (let z = a.0 in cc)
passed [] rest (EntryItem kind name ∷ js) a = absurd (let z = a.0 in cc)
passed (n ∷ names) rest (EntryItem kind name ∷ js) a =
    let more = passed names rest js a.1 in
    let same = a.0 in
    let first : name ≡ n.0 = cc in
    let second : kind ≡ n.1 = cc in
    record { left = more.left; first = more.first; records = more.records; ended = λ e. λ i. (first i, second i) ∷ more.ended e i }
passed (n ∷ names) rest (HeaderItem h ∷ js) a = absurd (let z = a.0 in cc)
passed (n ∷ names) rest (HeadItem h ∷ js) a = absurd (let z = a.0 in cc)
passed (n ∷ names) rest (EndItem ∷ js) a = absurd (let z = a.0 in cc)

-- a record of this path, this time and these names has a property
abbrev Gives : (Record → Type 0) → Plan → Moment → List ℕ × Dir → Type 0
Gives P plan now e = (r : Record) → r.path ≡ e.0 → r.stamp ≡ stamp_in plan now e → r.names ≡ admitted e.0 e.1 → P r

blocks_give : (P : Record → Type 0) (plan : Plan) (now : Moment) (version : ℕ) (dirs : List (List ℕ × Dir)) (js : List Item) → Each (Gives P plan now) dirs → First js (flat_map (block_items plan now) dirs) → Each P (records_in version js)
blocks_give P plan now version dirs [] g a = tt
blocks_give P plan now version [] (j ∷ js) g a = absurd a
blocks_give P plan now version (e ∷ dirs) (HeadItem h ∷ js) g a =
    let p = passed (admitted e.0 e.1) (flat_map (block_items plan now) dirs) js a.1 in
    let is = a.0 in
    let same : h ≡ head_in plan now e = cc in
    each_append P _ (records_in version js) (own p same (has_end js && are_usable (leading_entries js)) refl)
    (subst (Each P) (sym (p.records version)) (blocks_give P plan now version dirs p.left g.1 p.first))
  where
    own : Passed (admitted e.0 e.1) (flat_map (block_items plan now) dirs) js → h ≡ head_in plan now e → (b : Bool) → (has_end js && are_usable (leading_entries js)) ≡ b → Each P (cond b (record_of version h (leading_entries js) ∷ []) [])
    own p same true t =
        let time : (record_of version h (leading_entries js)).stamp ≡ stamp_in plan now e = λ i. let m : Moment = record { seconds = (same i).seconds; nanos = (same i).nanos } in m in
        (g.0 (record_of version h (leading_entries js)) (ap (λ (h : Head). h.path) same) time (p.ended (and_parts (has_end js) _ t).0), tt)
    own p same false t = tt
blocks_give P plan now version (e ∷ dirs) (HeaderItem h ∷ js) g a = absurd (let z = a.0 in cc)
blocks_give P plan now version (e ∷ dirs) (EntryItem kind name ∷ js) g a = absurd (let z = a.0 in cc)
blocks_give P plan now version (e ∷ dirs) (EndItem ∷ js) g a = absurd (let z = a.0 in cc)

scan_gives : (P : Record → Type 0) (plan : Plan) (now : Moment) (root block : List ℕ) (dirs : List (List ℕ × Dir)) (js : List Item) → Each (Gives P plan now) dirs → First js (header_item plan ∷ flat_map (block_items plan now) dirs) → Each P (records_if_same_setup root block js)
scan_gives P plan now root block dirs [] g a = tt
scan_gives P plan now root block dirs (HeaderItem h ∷ js) g a = by (bytes_eq h.root root && bytes_eq h.block block)
  where
    by : (b : Bool) → Each P (cond b (records_in h.version js) [])
    by true = blocks_give P plan now h.version dirs js g a.1
    by false = tt
scan_gives P plan now root block dirs (HeadItem h ∷ js) g a = tt
scan_gives P plan now root block dirs (EntryItem kind name ∷ js) g a = tt
scan_gives P plan now root block dirs (EndItem ∷ js) g a = tt

-- ---- what they tell

-- a record with the time and the names of the directory at its path
record IsScanned (dirs : Dirs) (plan : Plan) (now : Moment) (r : Record) : Type 0 where
  dir : Dir
  found : get dirs r.path ≡ Some dir
  stamp : r.stamp ≡ stamped plan.margin (time_of dir.times) now
  names : r.names ≡ admitted r.path dir

is_scanned : (dirs : Dirs) (plan : Plan) (now : Moment) (e : List ℕ × Dir) → IsFound dirs (is_open plan.pruned) e → Gives (IsScanned dirs plan now) plan now e
is_scanned dirs plan now e f r path stamp names =
    record { dir = e.1; found = ap (get dirs) path ∙ f.found; stamp = stamp; names = names ∙ ap (λ (p : List ℕ). admitted p e.1) (sym path) }

all_of : {A : Type 0} (P : A → Type 0) (xs : List A) → Each P xs → All P xs
all_of P [] h = All-nil P
all_of P (x ∷ xs) h = All-cons P x xs h.0 (all_of P xs h.1)

same_moment : (a b : Moment) → is_moment a b ≡ true → a ≡ b
same_moment a b e =
    let parts = and_parts (eqb a.seconds b.seconds) (eqb a.nanos b.nanos) e in
    let s : a.seconds ≡ b.seconds = eqb-true a.seconds b.seconds parts.0 in
    let n : a.nanos ≡ b.nanos = eqb-true a.nanos b.nanos parts.1 in
    λ i. record { seconds = s i; nanos = n i }

-- a time that a written one bears is the one that was to be written, for it is not zero
borne : (recent : Bool) (was stamp time : Moment) → stamp ≡ cond recent zero_moment was → is_moment stamp time ≡ true → is_zero time ≡ false → was ≡ time
borne false was stamp time e same some = sym e ∙ same_moment stamp time same
borne true was stamp time e same some =
    let zero : zero_moment ≡ time = sym e ∙ same_moment stamp time same in
    let none : is_zero time ≡ true = ap is_zero (sym zero) in
    absurd (let z = some in cc)

pub stays_honest : (before after : Dirs) (plan : Plan) (now : Moment) → IsPlan plan → Each (FitsHead plan) (reached before plan.pruned plan.root) → SameWhereTimesAgree before after → AllShown after
    → Honest (Some (records plan.root plan.block (scan_text before plan now))) after plan
stays_honest before after plan now p fit agree shown = λ r dir recorded there bearing.
    let all = reached before plan.pruned plan.root in
    let file : List ℕ = scan_text before plan now in
    let sure : Each (IsScanned before plan now) (records plan.root plan.block file) =
    scan_gives (IsScanned before plan now) plan now plan.root plan.block all (front mlocate file)
    (each_more (IsFound before (is_open plan.pruned)) (Gives (IsScanned before plan now) plan now) (λ e f. is_scanned before plan now e f) all (led_found before plan.pruned (is_open plan.pruned) plan.root p.root))
    (scan_first before plan now p fit) in
    let found : All (IsFound after (is_tried plan.pruned)) (tried after plan.pruned plan.root) = all_of (IsFound after (is_tried plan.pruned)) _ (led_found after plan.pruned (is_tried plan.pruned) plan.root p.root) in
    let was = All-contains (IsScanned before plan now) (records plan.root plan.block file) r (all_of (IsScanned before plan now) (records plan.root plan.block file) sure) recorded in
    let is = (All-contains (IsFound after (is_tried plan.pruned)) (tried after plan.pruned plan.root) (r.path, dir) found there).found in
    let borne_time = and_parts (is_moment r.stamp (time_of dir.times) && not (is_zero (time_of dir.times))) _ bearing in
    let parts = and_parts (is_moment r.stamp (time_of dir.times)) (not (is_zero (time_of dir.times))) borne_time.0 in
    let some : is_zero (time_of dir.times) ≡ false = not-true (is_zero (time_of dir.times)) parts.1 in
    let time : time_of was.dir.times ≡ time_of dir.times = borne (is_recent (time_of was.dir.times) now plan.margin) (time_of was.dir.times) r.stamp (time_of dir.times) was.stamp parts.0 some in
    let same : was.dir ≡ dir = agree r.path was.dir dir was.found is time in
    (shown r.path dir is, ap (admitted r.path) (sym same) ∙ sym was.names)
