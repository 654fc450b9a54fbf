-- Fields at the front of some bytes.
use Rattle.std.proofs.Common.{◌≡◌, ℕ, ◌+◌, ◌<◌, Bool, true, false, cond, not, eqb, ltb, All, List, [], ◌∷◌, ◌++◌, length, Result, Ok, Err, refl, ap, ◌∙◌, append_assoc, length-append, arith}
use Rattle.std.specs.List.{position_or_len}
use Rattle.std.proofs.lemmas.Bool.{le-ltb, eq-eqb, ne_eqb}
use Rattle.std.proofs.lemmas.List.Sums.{position_or_len_is}
use Rattle.std.proofs.lemmas.List.Folds.{prefix_len-append}
use Rattle.std.proofs.lemmas.List.{take_at}
use Rattle.std.proofs.Math.Seq.{drop-append-add}
use Rattle.byte_feed.specs.declared.damage.DamageCause.{DamageCause}
use Rattle.byte_feed.specs.declared.damage.Stop.{Stop}
use Rattle.byte_feed.specs.Field.{◌>>=◌, demand, is_zero, ended_at, IsPlain, ended}

-- what was read of two fields, one after the other
pub seq : {A B : Type 0} (r : Result A Stop) (f : A → Result B Stop) (y : B) (P : Type 0) → (r >>= f) ≡ Ok y → ((x : A) → r ≡ Ok x → f x ≡ Ok y → P) → P
seq (Ok x) f y P e go = go x refl e
seq (Err s) f y P e go = absurd cc

pub demand_ok : (b : Bool) (c : DamageCause) (u : Unit {0}) → demand b c ≡ Ok u → b ≡ true
demand_ok true c u e = refl
demand_ok false c u e = absurd cc

pub guard_ok : {A : Type 0} (b : Bool) (s : Stop) (x : Result A Stop) (y : A) → cond b (Err s) x ≡ Ok y → (b ≡ false) × (x ≡ Ok y)
guard_ok true s x y e = absurd cc
guard_ok false s x y e = (refl, e)

abbrev done : {A : Type 0} → A → Result A Stop
done x = Ok x

abbrev or_else : {A : Type 0} → A → Result A Stop → A
or_else d (Ok x) = x
or_else d (Err s) = d

pub ok_is : {A : Type 0} (x y : A) → done x ≡ done y → x ≡ y
ok_is x y e = ap (or_else x) e

-- ---- texts

pub len_plain : (text : List ℕ) → All (λ b. 0 < b) text → position_or_len is_zero text ≡ length text
len_plain text plain = position_or_len_is is_zero text (length text) 0 (omega arith) (λ k lt. ne_eqb _ _ (λ z. absurd (omega (arith, plain k 0 lt)))) (λ lt. absurd (omega arith))

-- a text that goes on
pub len_on : (text rest : List ℕ) → All (λ b. 0 < b) text → position_or_len is_zero (text ++ rest) ≡ length text + position_or_len is_zero rest
len_on text rest plain = prefix_len-append (λ b. not (is_zero b)) text rest ∙ rw (len_plain text plain, eq-eqb (length text) (length text) refl) refl

pub len_is : (text rest : List ℕ) → All (λ b. 0 < b) text → position_or_len is_zero (text ++ 0 ∷ rest) ≡ length text
len_is text rest plain = len_on text (0 ∷ rest) plain ∙ omega arith

pub ended_again : (room : ℕ) (text rest : List ℕ) → IsPlain room text → ended_at room (ended text ++ rest) ≡ Ok (text, rest)
unfolding ended_at
ended_again room text rest h =
    let whole : ended text ++ rest ≡ text ++ 0 ∷ rest = append_assoc text (0 ∷ []) rest in
    let len = len_is text rest h.plain in
    let fits : ltb room (length text) ≡ false = le-ltb room (length text) h.fits in
    let more : eqb (length text) (length (text ++ 0 ∷ rest)) ≡ false = ne_eqb _ _ (λ e. absurd (omega (arith, e, length-append text (0 ∷ rest)))) in
    rw (whole, len, fits, more) (ap (λ (p : List ℕ × List ℕ). Ok p) (λ i. (take_at text (0 ∷ rest) (length text) refl i, drop-append-add text (0 ∷ rest) 1 i)))
