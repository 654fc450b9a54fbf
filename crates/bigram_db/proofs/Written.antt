-- What is written for paths spells them.
use Rattle.std.proofs.Common.{◌≡◌, ℕ, ◌+◌, ◌-◌, ◌<◌, ◌≤◌, Bool, true, false, cond, leb, ltb, All, List, [], ◌∷◌, ◌++◌, length, get_or, drop, Option, Some, None, refl, sym, ap, ◌∙◌, append_assoc, append-nil, arith}
use Rattle.std.specs.Prelude.{◌&&◌, ℤ, pos, negsuc, ◌+ℤ◌, ◌-ℤ◌, is_some, unwrap_or}
use Rattle.std.specs.Int.{w32, cast_unsigned, cast_signed, from_le_bytes}
use Rattle.std.proofs.lemmas.Bool.{and_from, leb-true, le-leb, lt-ltb}
use Rattle.std.proofs.lemmas.Int.{ints}
use Rattle.std.proofs.lemmas.Nat.{from_le_bytes-to_le_bytes_4}
use Rattle.std.proofs.lemmas.List.Quantifiers.{position-Some}
use Rattle.std.proofs.lemmas.List.Elements.{All-nil, All-cons, All-head, All-tail, All-drop}
use Rattle.std.proofs.Math.Facts.{Fits-of_z}
use Rattle.byte_feed.specs.Paths.{IsPath}
use Rattle.bigram_db.specs.Pairs.{Pair, is_same, pairs_of, is_plain, is_table, is_bigram, pair_at, is_used, number_of}
use Rattle.bigram_db.specs.Items.{Count, Short, Word, TextUnit, Plain, Escaped, Paired, is_in_range, word_value, amount, text_of, IsCount, IsUnit}
use Rattle.byte_feed.specs.Prefix.{common_prefix}
use Rattle.bigram_db.specs.Spelled.{IsPiece, SpellsAfter, SpellsBigram, word_of, count_between, single, pair_units, units_for, encode_path, encode_after, encode_with}
use Rattle.bigram_db.specs.Writer.{WriterState, nothing_put, piece, after_put, after_all}
use Rattle.byte_feed.proofs.CommonPrefix.{common_fits}
use Rattle.bigram_db.proofs.EntryLaws.{table_len}
use Rattle.bigram_db.proofs.PairPlaces.{same_true, pairs_at}
use Rattle.bigram_db.proofs.PathPieces.{table_first}
use Rattle.bigram_db.proofs.Words.{range_fits, range_same}

-- ---- words

word_size : (v : ℤ) → length (word_of v) ≡ 4
unfolding word_of
word_size v = refl

little_back : (v : ℤ) → is_in_range v ≡ true → cast_signed w32 (from_le_bytes w32 (word_of v)) ≡ v
unfolding word_of
little_back v is = ap (cast_signed w32) (from_le_bytes-to_le_bytes_4 (cast_unsigned w32 v) (Fits-of_z (range_fits v is)).fits) ∙ range_same v is

value_by : (little v : ℤ) (other : Option ℤ) → little ≡ v → is_in_range v ≡ true → cond (is_in_range little) (Some little) other ≡ Some v
value_by little v other e is = ap (λ (z : ℤ). cond (is_in_range z) (Some z) other) e ∙ rw is refl

word_back : (v : ℤ) → is_in_range v ≡ true → word_value (word_of v) ≡ Some v
unfolding word_value
word_back v is = value_by (cast_signed w32 (from_le_bytes w32 (word_of v))) v _ (little_back v is) is

-- ---- the change between two lengths

range_by : (old new : ℕ) (z : ℤ) → z ≡ pos (new + 14) -ℤ pos old → old ≤ 4096 → new ≤ 4096 → is_in_range z ≡ true
range_by old new (pos n) e low high = le-leb n 4110 (omega (arith, ints, e, low, high))
range_by old new (negsuc n) e low high = lt-ltb n 4096 (omega (arith, ints, e, low, high))

in_range : (old new : ℕ) → old ≤ 4096 → new ≤ 4096 → is_in_range (pos (new + 14) -ℤ pos old) ≡ true
in_range old new low high = range_by old new (pos (new + 14) -ℤ pos old) refl low high

word_leads : (old new : ℕ) → pos old +ℤ (pos (new + 14) -ℤ pos old -ℤ pos 14) ≡ pos new
word_leads old new = omega (arith, ints)

short_leads : (old new : ℕ) → old ≤ new + 14 → pos old +ℤ (pos (new + 14 - old) -ℤ pos 14) ≡ pos new
short_leads old new le = omega (arith, ints, le)

record Between (old new : ℕ) (count : Count) : Type 0 where
  is : IsCount count
  leads : pos old +ℤ amount count ≡ pos new

a_word : (old new : ℕ) → old ≤ 4096 → new ≤ 4096 → Between old new (Word (word_of (pos (new + 14) -ℤ pos old)))
a_word old new low high =
    let v : ℤ = pos (new + 14) -ℤ pos old in
    let back = word_back v (in_range old new low high) in
    record {
      is = (word_size v, ap is_some back);
      leads = ap (λ (o : Option ℤ). pos old +ℤ (unwrap_or o (pos 0) -ℤ pos 14)) back ∙ word_leads old new;
    }

between_by : (old new : ℕ) (a b : Bool) → leb new (old + 14) ≡ a → leb old (new + 14) ≡ b → old ≤ 4096 → new ≤ 4096
    → Between old new (cond (a && b) (Short (new + 14 - old)) (Word (word_of (pos (new + 14) -ℤ pos old))))
between_by old new true true up down low high = record {
  is = omega (arith, leb-true new (old + 14) up);
  leads = short_leads old new (leb-true old (new + 14) down);
}
between_by old new true false up down low high = a_word old new low high
between_by old new false b up down low high = a_word old new low high

count_is : (old new : ℕ) → old ≤ 4096 → new ≤ 4096 → Between old new (count_between old new)
count_is old new low high = between_by old new (leb new (old + 14)) (leb old (new + 14)) refl refl low high

-- ---- units

number_is : (table : List ℕ) (p : Pair) (n : ℕ) → number_of table p ≡ Some n → pair_at table n ≡ p
number_is table p n e =
    let h = position-Some (is_same p) (pairs_of table) n (0, 0) e in
    sym (pairs_at table n h.0) ∙ sym (same_true p (get_or (pairs_of table) n (0, 0)) h.1)

record UnitsFor (table : List ℕ) (units : List TextUnit) (text : List ℕ) : Type 0 where
  each : All (IsUnit table) units
  makes : text_of table units ≡ text

none_for : (table : List ℕ) → UnitsFor table [] []
none_for table = record { each = All-nil (IsUnit table); makes = refl }

single_by : (table : List ℕ) (b : ℕ) (units : List TextUnit) (text : List ℕ) (plain : Bool) → is_plain b ≡ plain → 0 < b → UnitsFor table units text → UnitsFor table (cond plain (Plain b) (Escaped b) ∷ units) (b ∷ text)
single_by table b units text true is above u = record { each = All-cons (IsUnit table) (Plain b) units is u.each; makes = ap (λ (l : List ℕ). b ∷ l) u.makes }
single_by table b units text false is above u = record { each = All-cons (IsUnit table) (Escaped b) units above u.each; makes = ap (λ (l : List ℕ). b ∷ l) u.makes }

single_for : (table : List ℕ) (b : ℕ) (units : List TextUnit) (text : List ℕ) → 0 < b → UnitsFor table units text → UnitsFor table (single b ∷ units) (b ∷ text)
single_for table b units text above u = single_by table b units text (is_plain b) refl above u

pair_for : (table : List ℕ) (a b : ℕ) (number : Option ℕ) (units : List TextUnit) (text : List ℕ) → number_of table (a, b) ≡ number → 0 < a → 0 < b → UnitsFor table units text → UnitsFor table (pair_units a b number ++ units) (a ∷ b ∷ text)
pair_for table a b None units text e low high u = single_for table a (single b ∷ units) (b ∷ text) low (single_for table b units text high u)
pair_for table a b (Some n) units text e low high u =
    let is : pair_at table n ≡ (a, b) = number_is table (a, b) n e in
    record {
      each = All-cons (IsUnit table) (Paired n) units (ap is_used is ∙ and_from (ltb 0 a) (ltb 0 b) (lt-ltb 0 a low) (lt-ltb 0 b high)) u.each;
      makes = ap (λ (p : Pair). p.0 ∷ p.1 ∷ text_of table units) is ∙ ap (λ (l : List ℕ). a ∷ b ∷ l) u.makes;
    }

abbrev Above : ℕ → Type 0
Above b = 0 < b

units_are : (table text : List ℕ) → All Above text → UnitsFor table (units_for table text) text
units_are table [] above = none_for table
units_are table (a ∷ []) above = single_for table a [] [] (All-head Above a [] above) (none_for table)
units_are table (a ∷ b ∷ rest) above =
    let behind = All-tail Above a (b ∷ rest) above in
    pair_for table a b (number_of table (a, b)) (units_for table rest) rest refl (All-head Above a (b ∷ rest) above) (All-head Above b rest behind) (units_are table rest (All-tail Above b rest behind))

-- ---- pieces

encoded_piece : (table before : List ℕ) (old : ℕ) (path : List ℕ) → old ≤ 4096 → IsPath path → IsPiece table before old path (common_prefix before path) (encode_path table before old path)
encoded_piece table before old path low h =
    let new : ℕ = common_prefix before path in
    let count = count_is old new low (omega (arith, common_fits before path, h.fits)) in
    let units = units_are table (drop new path) (All-drop Above new path h.plain) in
    record {
      count = count_between old new;
      units = units_for table (drop new path);
      is_count = count.is;
      leads = count.leads;
      common = omega arith;
      each = units.each;
      makes = units.makes;
      bytes = refl;
    }

encoded_after : (paths : List (List ℕ)) (table before : List ℕ) (old : ℕ) → old ≤ 4096 → All IsPath paths → SpellsAfter table before old paths (encode_after table before old paths)
encoded_after [] table before old low all = refl
encoded_after (path ∷ paths) table before old low all =
    let h = All-head IsPath path paths all in
    let new : ℕ = common_prefix before path in
    (new, encode_path table before old path, encode_after table path new paths, refl, encoded_piece table before old path low h, encoded_after paths table path new (omega (arith, common_fits before path, h.fits)) (All-tail IsPath path paths all))

pub encoded_can : (table : List ℕ) (paths : List (List ℕ)) → is_table table ≡ true → is_bigram (encode_with table paths) ≡ true
encoded_can table paths is = table_first table (encode_after table [] 0 paths) (encode_with table paths) is refl

pub encoded_spells : (table : List ℕ) (paths : List (List ℕ)) → is_table table ≡ true → All IsPath paths → SpellsBigram paths (encode_with table paths)
encoded_spells table paths is all = record { table = table; rest = encode_after table [] 0 paths; size = table_len table is; begins = refl; pieces = encoded_after paths table [] 0 (omega arith) all }

-- ---- one path more

encode_after-push : (paths : List (List ℕ)) (w : WriterState) (path : List ℕ) → encode_after w.table w.path w.shared (paths ++ path ∷ []) ≡ encode_after w.table w.path w.shared paths ++ piece (after_all w paths) path
encode_after-push [] w path = append-nil (piece w path)
encode_after-push (next ∷ paths) w path =
    ap (λ (r : List ℕ). piece w next ++ r) (encode_after-push paths (after_put w next) path)
    ∙ sym (append_assoc (piece w next) (encode_after w.table next (common_prefix w.path next) paths) (piece (after_all (after_put w next) paths) path))

pub encode_with-push : (table : List ℕ) (paths : List (List ℕ)) (path : List ℕ) → encode_with table (paths ++ path ∷ []) ≡ encode_with table paths ++ piece (after_all (nothing_put table) paths) path
encode_with-push table paths path =
    ap (λ (r : List ℕ). table ++ r) (encode_after-push paths (nothing_put table) path)
    ∙ sym (append_assoc table (encode_after table [] 0 paths) (piece (after_all (nothing_put table) paths) path))

pub after_all-push : (paths : List (List ℕ)) (w : WriterState) (path : List ℕ) → after_all w (paths ++ path ∷ []) ≡ after_put (after_all w paths) path
after_all-push [] w path = refl
after_all-push (next ∷ paths) w path = after_all-push paths (after_put w next) path
