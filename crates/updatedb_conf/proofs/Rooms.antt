-- How much room words take, one more byte for each counted in.
use Rattle.std.proofs.Common.{◌≡◌, ℕ, ◌+◌, ◌<◌, ◌≤◌, Bool, true, false, cond, List, [], ◌∷◌, ◌++◌, map, length, refl, ap, sym, ◌∙◌, arith}
use Rattle.std.specs.declared.cmp.Ordering.{Ordering}
use Rattle.std.specs.declared.cmp.Ordering.TheVariants.{Less, Equal, Greater}
use Rattle.std.specs.List.{filter, slice_split, onto_first, sum_by, count_by}
use Rattle.std.specs.Char.{to_ascii_uppercase}
use Rattle.std.specs.FinMap.{entries, entries-insert, len-entries, len-empty, empty}
use Rattle.std.specs.FinMap.Entries.{put, by_order}
use Rattle.std.proofs.lemmas.Cmp.{nat_list_cmp_total}
use Rattle.std.proofs.lemmas.List.{length-map}
use Rattle.std.proofs.lemmas.List.Splits.{length-slice_split}
use Rattle.updatedb_conf.specs.Words.{WordSet, words, upper, is_nonempty, is_space, marked, members, set_of, joined, room_of, set_room}
use Rattle.updatedb_conf.proofs.Sets.{byte_cmp}

abbrev one_room : List ℕ → ℕ
one_room word = length word + 1

room-nil : room_of [] ≡ 0
room-nil = refl

pub room-cons : (word : List ℕ) (list : List (List ℕ)) → room_of (word ∷ list) ≡ length word + 1 + room_of list
room-cons word list = refl

room-onto_first : (x : ℕ) (parts : List (List ℕ)) → 0 < length parts → room_of (onto_first x parts) ≡ room_of parts + 1
room-onto_first x [] some = absurd (omega arith)
room-onto_first x (part ∷ parts) some =
    let e : length (x ∷ part) + 1 + room_of parts ≡ length part + 1 + room_of parts + 1 = omega arith in e

-- the parts of a text take its room
pub room-slice_split : (cut : ℕ → Bool) (xs : List ℕ) → room_of (slice_split cut xs) ≡ length xs + 1
room-slice_split cut [] = refl
room-slice_split cut (x ∷ xs) =
    let rest = room-slice_split cut xs in
    let some : 0 < length (slice_split cut xs) = omega (arith, length-slice_split cut xs) in
    let at_cut : 0 + 1 + room_of (slice_split cut xs) ≡ length (x ∷ xs) + 1 = omega arith in
    let within : room_of (onto_first x (slice_split cut xs)) ≡ length (x ∷ xs) + 1 = omega (arith, room-onto_first x (slice_split cut xs) some) in
    elim (cut x) as (λ b. room_of (cond b ([] ∷ slice_split cut xs) (onto_first x (slice_split cut xs))) ≡ length (x ∷ xs) + 1) [
      | true ↦ at_cut
      | false ↦ within
    ]

room-filter : (p : List ℕ → Bool) (parts : List (List ℕ)) → room_of (filter p parts) ≤ room_of parts
room-filter p [] = omega arith
room-filter p (part ∷ parts) =
    let rest = room-filter p parts in
    let kept : length part + 1 + room_of (filter p parts) ≤ length part + 1 + room_of parts = omega arith in
    let left : room_of (filter p parts) ≤ length part + 1 + room_of parts = omega arith in
    elim (p part) as (λ b. room_of (cond b (part ∷ filter p parts) (filter p parts)) ≤ room_of (part ∷ parts)) [
      | true ↦ kept
      | false ↦ left
    ]

-- the words of a text take no more than its room
pub room-words : (text : List ℕ) → room_of (words text) ≤ length text + 1
unfolding words
room-words text = omega (arith, room-filter is_nonempty (slice_split is_space text), room-slice_split is_space text)

-- upper case takes the same room
pub room-upper : (list : List (List ℕ)) → room_of (map upper list) ≡ room_of list
room-upper [] = refl
room-upper (word ∷ list) =
    let e : length (upper word) + 1 + room_of (map upper list) ≡ length word + 1 + room_of list = omega (arith, length-map word to_ascii_uppercase, room-upper list) in e

-- ---- sets

abbrev keys_room : List (List ℕ × Unit {0}) → ℕ
keys_room es = room_of (map (λ e. e.0) es)

room-put : (word : List ℕ) (es : List (List ℕ × Unit {0})) → keys_room (put byte_cmp word tt es) ≤ one_room word + keys_room es
room-put word [] = let e : length word + 1 + 0 ≤ length word + 1 + 0 = omega arith in e
room-put word (e ∷ es) =
    let rest = room-put word es in
    let before : length word + 1 + (length e.0 + 1 + keys_room es) ≤ one_room word + (length e.0 + 1 + keys_room es) = omega arith in
    let there : length e.0 + 1 + keys_room es ≤ one_room word + (length e.0 + 1 + keys_room es) = omega arith in
    let behind : length e.0 + 1 + keys_room (put byte_cmp word tt es) ≤ one_room word + (length e.0 + 1 + keys_room es) = omega arith in
    elim (byte_cmp word e.0) as (λ r. keys_room (by_order r ((word, tt) ∷ e ∷ es) ((e.0, tt) ∷ es) (e ∷ put byte_cmp word tt es)) ≤ one_room word + keys_room (e ∷ es)) [
      | Less ↦ before
      | Equal ↦ there
      | Greater ↦ behind
    ]

none_of_len : {A : Type 0} (es : List A) → length es ≡ 0 → es ≡ []
none_of_len [] e = refl
none_of_len (x ∷ es) e = absurd (omega arith)

-- no word takes no room
pub members-empty : members empty ≡ []
members-empty =
    ap (λ (es : List (List ℕ × Unit {0})). map (λ e. e.0) es) (none_of_len (entries {R = byte_cmp} empty) (sym (len-entries {R = byte_cmp} empty) ∙ len-empty byte_cmp (Unit {0})))

-- a set takes no more room than the words that it is made of
pub room-set_of : (list : List (List ℕ)) → set_room (set_of list) ≤ room_of list
room-set_of [] = let e : room_of (members empty) ≤ 0 = omega (arith, ap room_of members-empty ∙ room-nil) in e
room-set_of (word ∷ list) =
    let put_in : set_room (set_of (word ∷ list)) ≡ keys_room (put byte_cmp word tt (entries (set_of list))) = ap keys_room (entries-insert nat_list_cmp_total (set_of list) word tt) in
    let most : keys_room (put byte_cmp word tt (entries (set_of list))) ≤ one_room word + set_room (set_of list) = room-put word (entries (set_of list)) in
    omega (arith, room-set_of list, put_in, most, room-cons word list)

room-append : (list more : List (List ℕ)) → room_of (list ++ more) ≡ room_of list + room_of more
room-append [] more = omega arith
room-append (word ∷ list) more = omega (arith, room-append list more)

-- a set and more words
pub room-joined : (set : WordSet) (more : List (List ℕ)) → set_room (joined set more) ≤ set_room set + room_of more
room-joined set more = omega (arith, room-set_of (members set ++ more), room-append (members set) more)

-- the empty set takes none
pub room-empty : (set : WordSet) → set ≡ empty → set_room set ≡ 0
room-empty set e = ap set_room e ∙ ap room_of members-empty
