-- What is known of a voucher that reads forward.
use Rattle.std.proofs.Common.{◌≡◌, ℕ, ◌+◌, Bool, true, false, not, List, [], ◌∷◌, ◌++◌, length, map, take, Option, Some, None, Ok, Err, IsTrue, IfOk, IfSome, MatchBool, refl, sym, ap, ◌∙◌, subst, inl, inr, arith}
use Rattle.std.specs.Prelude.{◌&&◌, ◌||◌, nat_le, if◌then◌else◌, Result, IsSomeAnd, ◌↔◌}
use Rattle.std.specs.Option.{option_map_or}
use Rattle.std.specs.Str.{bytes_eq}
use Rattle.std.specs.declared.alloc.AllocError.{AllocError}
use Rattle.std.proofs.lemmas.Bool.{cases_Bool, and_parts, and_from}
use Rattle.std.proofs.lemmas.Slice.Eq.{bytes_eq-Decides}
use Rattle.path_order.specs.NameList.{Listed}
use Rattle.path_order.specs.Stamp.{Moment}
use Rattle.byte_feed.specs.declared.damage.DbFault.{DbFault}
use Rattle.byte_feed.specs.declared.damage.DbFault.TheVariants as faults
use Rattle.byte_feed.specs.Front.{Window, front, limit, items_of}
use Rattle.byte_feed.specs.Feed.{window, empty_at}
use Rattle.byte_feed.specs.Endings.{is_read_fault}
use Rattle.byte_feed.specs.Paths.{Rest, rest_of}
use Rattle.mlocate_db.specs.Items.{Item, Header, HeaderItem, HeadItem, EntryItem, EndItem, AtStart, mlocate}
use Rattle.mlocate_db.specs.Reader.{ReaderState, fresh_on, is_live, items_left, StartKnown}
use Rattle.tree_scan.specs.Records.{Record, Vouches, LeavesOf, Leaves, is_vouched}
use Rattle.dir_reuse.specs.declared.cursor.Cursor.{Cursor}
use Rattle.dir_reuse.specs.Usable.{records, records_if_same_setup, records_in, usable_record, head_paths, paths_rise, is_empty, is_ordered, first_header, header_of, has_setup}
use Rattle.dir_reuse.specs.Coming.{Placed, placed_in, size, size_behind, Coming, coming_in, records_to_come}
use Rattle.dir_reuse.specs.Answering.{is_open, ahead, in_order, AnswersTold}
use Rattle.dir_reuse.specs.Stream.{known_by, known, ordered_by, is_known_ordered, OpensKnown, HeaderRead, HeaderReadKnown}
use Rattle.dir_reuse.proofs.Cursors.{ahead_closed, ahead_apart}
use Rattle.dir_reuse.proofs.Passing.{live_is, place_moves}

-- ---- what a question leaves

abbrev Closed : Cursor → Cursor → Result Bool AllocError → Type 0
Closed c c' result = is_open c ≡ false → (is_open c' ≡ false) × (result ≡ Ok false)

vouches_by : (b : Bool) (dir : List ℕ) (time : Moment) (device : ℕ) (c c' : Cursor) (l l' : Option (List ℕ)) (into : Listed) → is_open c ≡ b → Closed c c' (Ok true) → AnswersTold dir time device c l c' l' (Ok true) into
    → IfSome (known_by b c l) (λ rs. Vouches rs dir time device into)
vouches_by true dir time device c c' None l' into e shut a = tt
vouches_by true dir time device c c' (Some x) None into e shut a = absurd a
vouches_by true dir time device c c' (Some x) (Some y) into e shut a = a.vouches
vouches_by false dir time device c c' l l' into e shut a = absurd (let z = (shut e).1 in cc)

pub stream_vouches : (dir : List ℕ) (time : Moment) (device : ℕ) (c c' : Cursor) (l l' : Option (List ℕ)) (result : Result Bool AllocError) (into : Listed) → Closed c c' result → (result ≡ Ok false → into ≡ []) → AnswersTold dir time device c l c' l' result into
    → IfOk result (λ vouched. MatchBool vouched (IfSome (known c l) (λ rs. Vouches rs dir time device into)) (into ≡ []))
stream_vouches dir time device c c' l l' (Ok true) into shut bare a = vouches_by (is_open c) dir time device c c' l l' into refl shut a
stream_vouches dir time device c c' l l' (Ok false) into shut bare a = bare refl
stream_vouches dir time device c c' l l' (Err e) into shut bare a = tt

none_by : (b : Bool) (dir : List ℕ) (time : Moment) (device : ℕ) (c c' : Cursor) (l l' : Option (List ℕ)) (result : Result Bool AllocError) (into : Listed) → result ≡ Ok false → ordered_by b c l ≡ true → IsTrue c'.unbroken → AnswersTold dir time device c l c' l' result into
    → IfSome (known_by b c l) (λ rs. is_vouched rs dir time device ≡ false)
none_by true dir time device c c' None l' result into e o u a = tt
none_by true dir time device c c' (Some x) None result into e o u a = absurd a
none_by true dir time device c c' (Some x) (Some y) result into e o u a = a.none e o u
none_by false dir time device c c' l l' result into e o u a = refl

pub stream_none : (dir : List ℕ) (time : Moment) (device : ℕ) (c c' : Cursor) (l l' : Option (List ℕ)) (result : Result Bool AllocError) (into : Listed) → AnswersTold dir time device c l c' l' result into
    → result ≡ Ok false → IsTrue (is_known_ordered c l) → IsTrue c'.unbroken → IfSome (known c l) (λ rs. is_vouched rs dir time device ≡ false)
stream_none dir time device c c' l l' result into a e o u = none_by (is_open c) dir time device c c' l l' result into e o u a

left_by : (b : Bool) (dir : List ℕ) (before : List Record) (ordered : Bool) (c' : Cursor) (y : List ℕ) → is_open c' ≡ b → LeavesOf dir before ordered (records_to_come (ahead c' (window c'.reader.feed y))) c'.unbroken
    → IsSomeAnd (known_by b c' (Some y)) (λ after. LeavesOf dir before ordered after c'.unbroken)
left_by true dir before ordered c' y e h = h
left_by false dir before ordered c' y e h = subst (λ (x : Coming). LeavesOf dir before ordered (records_to_come x) c'.unbroken) (ahead_closed c' (window c'.reader.feed y) e) h

none_left : (b : Bool) (dir : List ℕ) (c' : Cursor) (l' : Option (List ℕ)) → b ≡ false → IsSomeAnd (known_by b c' l') (λ after. LeavesOf dir [] true after c'.unbroken)
none_left true dir c' l' e = absurd cc
none_left false dir c' l' e = record { some = λ r h. h; later = λ o u r h less. h }

leaves_by : (b : Bool) (dir : List ℕ) (time : Moment) (device : ℕ) (c c' : Cursor) (l l' : Option (List ℕ)) (result : Result Bool AllocError) (into : Listed) → is_open c ≡ b → Closed c c' result → AnswersTold dir time device c l c' l' result into
    → Leaves dir (known_by b c l) (ordered_by b c l) (known c' l') c'.unbroken
leaves_by true dir time device c c' None l' result into e shut a = tt
leaves_by true dir time device c c' (Some x) None result into e shut a = absurd a
leaves_by true dir time device c c' (Some x) (Some y) result into e shut a = left_by (is_open c') dir _ _ c' y refl a.leaves
leaves_by false dir time device c c' l l' result into e shut a = none_left (is_open c') dir c' l' (shut e).0

pub stream_leaves : (dir : List ℕ) (time : Moment) (device : ℕ) (c c' : Cursor) (l l' : Option (List ℕ)) (result : Result Bool AllocError) (into : Listed) → Closed c c' result → AnswersTold dir time device c l c' l' result into
    → Leaves dir (known c l) (is_known_ordered c l) (known c' l') c'.unbroken
stream_leaves dir time device c c' l l' result into shut a = leaves_by (is_open c) dir time device c c' l l' result into refl shut a

still_by : (b : Bool) (c' : Cursor) (y : List ℕ) → in_order (ahead c' (window c'.reader.feed y)) ≡ true → ordered_by b c' (Some y) ≡ true
still_by true c' y h = h
still_by false c' y h = refl

closed_order : (b : Bool) (c' : Cursor) (l' : Option (List ℕ)) → b ≡ false → ordered_by b c' l' ≡ true
closed_order true c' l' e = absurd cc
closed_order false c' l' e = refl

order_by : (b : Bool) (dir : List ℕ) (time : Moment) (device : ℕ) (c c' : Cursor) (l l' : Option (List ℕ)) (result : Result Bool AllocError) (into : Listed) → is_open c ≡ b → Closed c c' result → AnswersTold dir time device c l c' l' result into
    → ordered_by b c l ≡ true → is_known_ordered c' l' ≡ true
order_by true dir time device c c' None l' result into e shut a o = absurd cc
order_by true dir time device c c' (Some x) None result into e shut a o = absurd a
order_by true dir time device c c' (Some x) (Some y) result into e shut a o = still_by (is_open c') c' y (a.ordered o)
order_by false dir time device c c' l l' result into e shut a o = closed_order (is_open c') c' l' (shut e).0

pub stream_ordered : (dir : List ℕ) (time : Moment) (device : ℕ) (c c' : Cursor) (l l' : Option (List ℕ)) (result : Result Bool AllocError) (into : Listed) → Closed c c' result → AnswersTold dir time device c l c' l' result into
    → IsTrue (is_known_ordered c l) → IsTrue (is_known_ordered c' l')
stream_ordered dir time device c c' l l' result into shut a o = order_by (is_open c) dir time device c c' l l' result into refl shut a o

-- ---- the header

-- the records with their places, and without
recs_own : (rs : List Record) (at : ℕ) (rest : List Placed) → map (λ (b : Placed). b.0) (map (λ (r : Record). let q : Placed = (r, at) in q) rs ++ rest) ≡ rs ++ map (λ (b : Placed). b.0) rest
recs_own [] at rest = refl
recs_own (r ∷ rs) at rest = ap (λ (l : List Record). r ∷ l) (recs_own rs at rest)

placed_records : (version place : ℕ) (items : List Item) → map (λ (b : Placed). b.0) (placed_in version place items) ≡ records_in version items
placed_records version place [] = refl
placed_records version place (HeadItem head ∷ items) =
    recs_own (usable_record version head items) (place + size (HeadItem head) + size_behind items) (placed_in version (place + size (HeadItem head)) items)
    ∙ ap (λ (l : List Record). usable_record version head items ++ l) (placed_records version (place + size (HeadItem head)) items)
placed_records version place (HeaderItem header ∷ items) = placed_records version (place + size (HeaderItem header)) items
placed_records version place (EntryItem kind name ∷ items) = placed_records version (place + size (EntryItem kind name)) items
placed_records version place (EndItem ∷ items) = placed_records version (place + size EndItem) items

-- a reader that has read nothing gives the front
front_is : (file : List ℕ) → (items_left (fresh_on (empty_at 0)) (window (empty_at 0) file)).items ≡ front mlocate file
unfolding rest_of
front_is file =
    let len : 0 + length file ≡ length file = omega arith in
    ap (λ (n : ℕ). items_of mlocate (not (nat_le limit n)) AtStart (take limit file)) len

known_open : (c : Cursor) (y : List ℕ) → is_open c ≡ true → known c (Some y) ≡ Some (records_to_come (ahead c (window c.reader.feed y)))
known_open c y e = ap (λ (b : Bool). known_by b c (Some y)) e

order_open : (c : Cursor) (y : List ℕ) → is_open c ≡ true → is_known_ordered c (Some y) ≡ in_order (ahead c (window c.reader.feed y))
order_open c y e = ap (λ (b : Bool). ordered_by b c (Some y)) e

known_shut : (c : Cursor) (l : Option (List ℕ)) → is_open c ≡ false → known c l ≡ Some []
known_shut c l e = ap (λ (b : Bool). known_by b c l) e

order_shut : (c : Cursor) (l : Option (List ℕ)) → is_open c ≡ false → is_known_ordered c l ≡ true
order_shut c l e = ap (λ (b : Bool). ordered_by b c l) e

abbrev opened_by : ReaderState → Bool → Bool → Cursor
opened_by r matched unbroken = record { reader = r; matched = matched; at_head = false; unbroken = unbroken }

same_texts : (a b c d : List ℕ) (same : Bool) → same ≡ true ↔ (a ≡ b) × (c ≡ d) → same ≡ (bytes_eq a b && bytes_eq c d)
same_texts a b c d true h =
    let p = h.0 refl in
    sym (and_from _ _ ((bytes_eq-Decides a b).1 p.0) ((bytes_eq-Decides c d).1 p.1))
same_texts a b c d false h = elim (cases_Bool (bytes_eq a b && bytes_eq c d)) [
  | inl both ↦ let p = and_parts (bytes_eq a b) (bytes_eq c d) both in absurd (let z : false ≡ true = h.1 ((bytes_eq-Decides a b).0 p.0, (bytes_eq-Decides c d).0 p.1) in cc)
  | inr other ↦ sym other
]

abbrev Opens : List ℕ → List ℕ → List ℕ → List ℕ → Cursor → Type 0
Opens root block file y c = (known c (Some y) ≡ Some (records root block file)) × (is_known_ordered c (Some y) ≡ is_ordered root block file)

opens_by : (root block file y : List ℕ) (r' : ReaderState) (header : Header) (t : Bool) → t ≡ (bytes_eq header.root root && bytes_eq header.block block) → r'.version ≡ header.version → is_live r'.stage ≡ true
    → front mlocate file ≡ HeaderItem header ∷ (items_left r' (window r'.feed y)).items → Opens root block file y (opened_by r' t true)
opens_by root block file y r' header true is version live all =
    let w : Window = window r'.feed y in
    let items : List Item = (items_left r' w).items in
    let c : Cursor = opened_by r' true true in
    let given : ahead c w ≡ coming_in r'.version r'.place items = ahead_apart c w refl refl ∙ live_is r' w live in
    let told : records root block file ≡ records_in header.version items = ap (records_if_same_setup root block) all ∙ ap (λ (b : Bool). if b then records_in header.version items else []) (sym is) in
    let come : records_to_come (ahead c w) ≡ records_in header.version items = ap records_to_come given ∙ placed_records r'.version r'.place items ∙ ap (λ (v : ℕ). records_in v items) version in
    let same : records_to_come (ahead c w) ≡ records root block file = come ∙ sym told in
    let heads : (ahead c w).heads ≡ head_paths (front mlocate file) = ap (λ (x : Coming). x.heads) given ∙ sym (ap head_paths all) in
    (known_open c y live ∙ ap (λ (rs : List Record). Some rs) same, order_open c y live ∙ (λ i. is_empty (same i) || paths_rise (heads i)))
opens_by root block file y r' header false is version live all =
    let w : Window = window r'.feed y in
    let items : List Item = (items_left r' w).items in
    let c : Cursor = opened_by r' false true in
    let told : records root block file ≡ [] = ap (records_if_same_setup root block) all ∙ ap (λ (b : Bool). if b then records_in header.version items else []) (sym is) in
    (known_shut c (Some y) refl ∙ ap (λ (rs : List Record). Some rs) (sym told), order_shut c (Some y) refl ∙ ap (λ (rs : List Record). is_empty rs || paths_rise (head_paths (front mlocate file))) (sym told))

-- the header was read
pub opens_ok : (root block : List ℕ) (r' : ReaderState) (l l' : Option (List ℕ)) (same : Bool) → StartKnown (Ok same) (fresh_on (empty_at 0)) l r' l' root block → OpensKnown root block l (opened_by r' same true) l'
opens_ok root block r' None l' same m = tt
opens_ok root block r' (Some file) None same m = absurd m
opens_ok root block r' (Some file) (Some y) same m =
    let b = m.begins in
    let header = b.header in
    let items : List Item = (items_left r' (window r'.feed y)).items in
    let all : front mlocate file ≡ HeaderItem header ∷ items = sym (front_is file) ∙ ap (λ (x : Rest mlocate). x.items) b.moved.whole in
    let is : same ≡ (bytes_eq header.root root && bytes_eq header.block block) = same_texts header.root root header.block block same m.is_same in
    opens_by root block file y r' header same is b.version (ap is_live b.between) all

opens_none : (root block file y : List ℕ) (r' : ReaderState) → front mlocate file ≡ [] → Opens root block file y (opened_by r' false true)
opens_none root block file y r' none =
    let c : Cursor = opened_by r' false true in
    let told : records root block file ≡ [] = ap (records_if_same_setup root block) none in
    (known_shut c (Some y) refl ∙ ap (λ (rs : List Record). Some rs) (sym told), order_shut c (Some y) refl ∙ ap (λ (rs : List Record). is_empty rs || paths_rise (head_paths (front mlocate file))) (sym told))

-- it was refused
pub opens_err : (root block : List ℕ) (r' : ReaderState) (l l' : Option (List ℕ)) (fault : DbFault) → StartKnown (Err fault) (fresh_on (empty_at 0)) l r' l' root block → OpensKnown root block l (opened_by r' false (not (is_read_fault (Err fault)))) l'
opens_err root block r' None l' fault m = tt
opens_err root block r' (Some file) None fault m = absurd m
opens_err root block r' (Some file) (Some y) faults.ReadFault m = known_shut (opened_by r' false false) (Some y) refl
opens_err root block r' (Some file) (Some y) faults.NotADatabase m = opens_none root block file y r' (sym (front_is file) ∙ ap (λ (x : Rest mlocate). x.items) m)
opens_err root block r' (Some file) (Some y) faults.TooLarge m = opens_none root block file y r' (sym (front_is file) ∙ ap (λ (x : Rest mlocate). x.items) m)
opens_err root block r' (Some file) (Some y) (faults.Damage d) m = opens_none root block file y r' (sym (front_is file) ∙ ap (λ (x : Rest mlocate). x.items) m)

-- ---- where the reader stands behind it

and_live : (a b : Bool) → b ≡ true → (a && b) ≡ a
and_live true b e = e
and_live false b e = refl

both_stages : {P : Type 0} (b : Bool) → b ≡ true → b ≡ false → P
both_stages b e h = absurd cc

pub header_ok : (root block : List ℕ) (r' : ReaderState) (l l' : Option (List ℕ)) (same : Bool) → StartKnown (Ok same) (fresh_on (empty_at 0)) l r' l' root block → HeaderReadKnown root block l (opened_by r' same true)
header_ok root block r' None l' same m = tt
header_ok root block r' (Some file) None same m = absurd m
header_ok root block r' (Some file) (Some y) same m =
    let b = m.begins in
    let header : Header = b.header in
    let items : List Item = (items_left r' (window r'.feed y)).items in
    let all : front mlocate file ≡ HeaderItem header ∷ items = sym (front_is file) ∙ ap (λ (x : Rest mlocate). x.items) b.moved.whole in
    let whole : header_of file ≡ Some header = ap first_header all in
    let at : 0 + size (HeaderItem header) ≡ r'.place = place_moves (fresh_on (empty_at 0)) r' (window (empty_at 0) file) (window r'.feed y) (HeaderItem header) b.moved.whole in
    let end : r'.place ≡ size (HeaderItem header) = omega (arith, at) in
    let is : same ≡ (bytes_eq header.root root && bytes_eq header.block block) = same_texts header.root root header.block block same m.is_same in
    let live : is_live r'.stage ≡ true = ap is_live b.between in
    record {
      stands = λ _. subst (λ (o : Option Header). IsSomeAnd o (λ h. r'.place ≡ size (HeaderItem h))) (sym whole) end;
      lacks = λ dead u. both_stages (is_live r'.stage) live dead;
      opens = and_live same (is_live r'.stage) live ∙ is ∙ sym (ap (λ (o : Option Header). option_map_or (λ h. bytes_eq h.root root && bytes_eq h.block block) o false) whole);
    }

header_none : (root block file : List ℕ) (r' : ReaderState) → is_live r'.stage ≡ false → front mlocate file ≡ [] → HeaderRead root block file (opened_by r' false true)
header_none root block file r' dead none =
    let lacking : header_of file ≡ None = ap first_header none in
    record {
      stands = λ live. both_stages (is_live r'.stage) live dead;
      lacks = λ _ u. lacking;
      opens = sym (ap (λ (o : Option Header). option_map_or (λ h. bytes_eq h.root root && bytes_eq h.block block) o false) lacking);
    }

header_failed : (root block file : List ℕ) (r' : ReaderState) → is_live r'.stage ≡ false → HeaderRead root block file (opened_by r' false false)
header_failed root block file r' dead = record {
  stands = λ live. both_stages (is_live r'.stage) live dead;
  lacks = λ _ u. absurd cc;
  opens = refl;
}

pub header_err : (root block : List ℕ) (r' : ReaderState) (l l' : Option (List ℕ)) (fault : DbFault) → is_live r'.stage ≡ false → StartKnown (Err fault) (fresh_on (empty_at 0)) l r' l' root block
    → HeaderReadKnown root block l (opened_by r' false (not (is_read_fault (Err fault))))
header_err root block r' None l' fault dead m = tt
header_err root block r' (Some file) None fault dead m = absurd m
header_err root block r' (Some file) (Some y) faults.ReadFault dead m = header_failed root block file r' dead
header_err root block r' (Some file) (Some y) faults.NotADatabase dead m = header_none root block file r' dead (sym (front_is file) ∙ ap (λ (x : Rest mlocate). x.items) m)
header_err root block r' (Some file) (Some y) faults.TooLarge dead m = header_none root block file r' dead (sym (front_is file) ∙ ap (λ (x : Rest mlocate). x.items) m)
header_err root block r' (Some file) (Some y) (faults.Damage d) dead m = header_none root block file r' dead (sym (front_is file) ∙ ap (λ (x : Rest mlocate). x.items) m)
