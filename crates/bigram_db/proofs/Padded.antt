-- A table as its pairs are put into it.
use Rattle.std.proofs.Common.{◌≡◌, ℕ, zero, suc, ◌+◌, ◌-◌, ◌*◌, ◌<◌, ◌≤◌, Bool, true, false, eqb, set, List, [], ◌∷◌, ◌++◌, length, take, refl, sym, ap, ◌∙◌, length-append, length-take, arith}
use Rattle.std.specs.Prelude.{◌&&◌, ◌||◌, replicate}
use Rattle.std.specs.List.{flat_map, list_all}
use Rattle.std.proofs.lemmas.Bool.{and_parts, and_from, eq-eqb}
use Rattle.std.proofs.lemmas.Grind.{flat_map-append}
use Rattle.std.proofs.lemmas.List.{take-append-le, take-replicate}
use Rattle.std.proofs.lemmas.List.Folds.{list_all-append}
use Rattle.std.proofs.Math.ListN.{length-replicate}
use Rattle.std.proofs.Math.Seq.{take-append-add}
use Rattle.bigram_db.specs.Pairs.{Pair, is_plain, is_table_byte, is_table}
use Rattle.bigram_db.specs.Chosen.{is_counted, pair_bytes, padded}
use Rattle.bigram_db.proofs.InOrder.{Each}

abbrev pub bytes_of : List Pair → List ℕ
bytes_of pairs = flat_map pair_bytes pairs

pub length-bytes_of : (pairs : List Pair) → length (bytes_of pairs) ≡ 2 * length pairs
length-bytes_of [] = omega arith
length-bytes_of (p ∷ pairs) = omega (arith, length-bytes_of pairs)

abbrev zeros : ℕ → List ℕ
zeros n = replicate n 0

-- zero bytes fill the table up
padded_by : (n : ℕ) (bytes : List ℕ) → length bytes ≤ n → take n (bytes ++ zeros n) ≡ bytes ++ zeros (n - length bytes)
padded_by n bytes le =
    let split : n ≡ length bytes + (n - length bytes) = omega (arith, le) in
    ap (λ (m : ℕ). take m (bytes ++ zeros n)) split ∙ take-append-add bytes (zeros n) (n - length bytes) ∙ ap (λ (l : List ℕ). bytes ++ l) (take-replicate (n - length bytes) n 0 (omega arith))

pub padded_fill : (bytes : List ℕ) → length bytes ≤ 256 → padded bytes ≡ bytes ++ zeros (256 - length bytes)
unfolding padded
padded_fill bytes le = padded_by 256 bytes le

pub padded_none : padded [] ≡ zeros 256
padded_none = padded_fill [] (omega arith)

-- what stands behind the first 256 bytes is left out
pub padded_full : (bytes more : List ℕ) → length bytes ≡ 256 → padded (bytes ++ more) ≡ padded bytes
unfolding padded
padded_full bytes more e =
    let le : 256 ≤ length bytes = omega (arith, e) in
    let le' : 256 ≤ length (bytes ++ more) = omega (arith, e, length-append bytes more) in
    take-append-le 256 (bytes ++ more) (zeros 256) le' ∙ take-append-le 256 bytes more le ∙ sym (take-append-le 256 bytes (zeros 256) le)

pub length-padded : (bytes : List ℕ) → length (padded bytes) ≡ 256
unfolding padded
length-padded bytes = omega (arith, length-take 256 (bytes ++ zeros 256), length-append bytes (zeros 256), length-replicate {A = ℕ} 256 0)

-- ---- one more pair

two_more : (bytes : List ℕ) (a b n : ℕ) → set (set (bytes ++ zeros (suc (suc n))) (length bytes) a) (suc (length bytes)) b ≡ (bytes ++ a ∷ b ∷ []) ++ zeros n
two_more [] a b n = refl
two_more (x ∷ bytes) a b n = ap (λ (l : List ℕ). x ∷ l) (two_more bytes a b n)

two_at : (bytes : List ℕ) (a b m n i j : ℕ) → m ≡ suc (suc n) → i ≡ length bytes → j ≡ suc (length bytes) → set (set (bytes ++ zeros m) i a) j b ≡ (bytes ++ a ∷ b ∷ []) ++ zeros n
two_at bytes a b m n i j e f g = λ k. (ap (λ (q : ℕ). set (set (bytes ++ zeros q) i a) j b) e ∙ ap (λ (q : ℕ). set (set (bytes ++ zeros (suc (suc n))) q a) j b) f ∙ ap (λ (q : ℕ). set (set (bytes ++ zeros (suc (suc n))) (length bytes) a) q b) g ∙ two_more bytes a b n) k

bytes_push : (pairs : List Pair) (p : Pair) → bytes_of (pairs ++ p ∷ []) ≡ bytes_of pairs ++ p.0 ∷ p.1 ∷ []
bytes_push pairs p = flat_map-append pair_bytes pairs (p ∷ [])

pub padded_more : (pairs : List Pair) (p : Pair) (i j : ℕ) → length pairs < 128 → i ≡ 2 * length pairs → j ≡ 2 * length pairs + 1 → set (set (padded (bytes_of pairs)) i p.0) j p.1 ≡ padded (bytes_of (pairs ++ p ∷ []))
padded_more pairs p i j few at next =
    let len = length-bytes_of pairs in
    let len' : length (bytes_of pairs ++ p.0 ∷ p.1 ∷ []) ≡ 2 * length pairs + 2 = omega (arith, len, length-append (bytes_of pairs) (p.0 ∷ p.1 ∷ [])) in
    let rest : ℕ = 256 - length (bytes_of pairs ++ p.0 ∷ p.1 ∷ []) in
    ap (λ (l : List ℕ). set (set l i p.0) j p.1) (padded_fill (bytes_of pairs) (omega (arith, len, few)))
    ∙ two_at (bytes_of pairs) p.0 p.1 (256 - length (bytes_of pairs)) rest i j (omega (arith, len, len', few)) (omega (arith, at, len)) (omega (arith, next, len))
    ∙ sym (padded_fill (bytes_of pairs ++ p.0 ∷ p.1 ∷ []) (omega (arith, len', few)))
    ∙ ap padded (sym (bytes_push pairs p))

-- ---- it is a table

or_true : (a : Bool) → (a || true) ≡ true
or_true true = refl
or_true false = refl

plain_byte : (b : ℕ) → is_plain b ≡ true → is_table_byte b ≡ true
plain_byte b e = rw e (or_true (eqb b 0))

bytes_all : (pairs : List Pair) → Each (λ p. is_counted p ≡ true) pairs → list_all is_table_byte (bytes_of pairs) ≡ true
bytes_all [] all = refl
bytes_all (p ∷ pairs) all =
    let both = and_parts (is_plain p.0) (is_plain p.1) all.0 in
    and_from (is_table_byte p.0) (is_table_byte p.1 && list_all is_table_byte (bytes_of pairs)) (plain_byte p.0 both.0)
    (and_from (is_table_byte p.1) (list_all is_table_byte (bytes_of pairs)) (plain_byte p.1 both.1) (bytes_all pairs all.1))

zeros_all : (n : ℕ) → list_all is_table_byte (zeros n) ≡ true
zeros_all zero = refl
zeros_all (suc n) = zeros_all n

take_by : (n : ℕ) (p : ℕ → Bool) (xs : List ℕ) → list_all p xs ≡ true → list_all p (take n xs) ≡ true
take_by zero p xs e = refl
take_by (suc n) p [] e = refl
take_by (suc n) p (x ∷ xs) e = let both = and_parts (p x) (list_all p xs) e in and_from (p x) (list_all p (take n xs)) both.0 (take_by n p xs both.1)

padded_all : (bytes : List ℕ) → list_all is_table_byte bytes ≡ true → list_all is_table_byte (padded bytes) ≡ true
unfolding padded
padded_all bytes e = take_by 256 is_table_byte (bytes ++ zeros 256) (list_all-append is_table_byte bytes (zeros 256) ∙ and_from (list_all is_table_byte bytes) (list_all is_table_byte (zeros 256)) e (zeros_all 256))

pub padded_table : (pairs : List Pair) → Each (λ p. is_counted p ≡ true) pairs → is_table (padded (bytes_of pairs)) ≡ true
padded_table pairs all =
    and_from (eqb (length (padded (bytes_of pairs))) 256) (list_all is_table_byte (padded (bytes_of pairs))) (eq-eqb (length (padded (bytes_of pairs))) 256 (length-padded (bytes_of pairs)))
    (padded_all (bytes_of pairs) (bytes_all pairs all))
