-- What a field that was read takes off the bytes, and what is read of a field that is spelled.
use Rattle.std.proofs.Common.{◌≡◌, ℕ, ◌+◌, ◌^◌, ◌<◌, ◌≤◌, Bool, true, false, cond, eqb, ltb, List, [], ◌∷◌, ◌++◌, length, get_or, take, drop, Result, Ok, Err, refl, sym, ap, ◌∙◌, subst, append_assoc, length-append, length-drop, arith}
use Rattle.std.specs.Cmp.Lexicographic.{pointwise}
use Rattle.std.specs.List.{position_or_len, before_first, after_first, starts_with}
use Rattle.std.proofs.lemmas.Bool.{le-ltb, ltb-false, lt-ltb, ltb-true, eq-eqb, eqb-true, eqb-false, and_parts}
use Rattle.std.proofs.lemmas.List.{get_or-append-add, length-take-le, get_or-take, take_at, drop_at, take-append-drop}
use Rattle.std.proofs.lemmas.List.Sums.{fails_before_first, passes_at_first, prefix_len-le-length, split_at_first}
use Rattle.byteorder.specs.Endian.{big_bytes, big_number}
use Rattle.byte_feed.specs.declared.damage.DamageCause.{DamageCause}
use Rattle.byte_feed.specs.declared.damage.Stop.{Stop}
use Rattle.byte_feed.specs.Front.{IsBytes}
use Rattle.byte_feed.specs.Field.{magic_at, byte_at, bytes_at, number_at, demand, is_zero, ended_at, text_at, IsPlain, IsText, ended}
use Rattle.byte_feed.proofs.Fields.{seq, demand_ok, guard_ok, ok_is, ended_again}
use Rattle.byte_feed.proofs.Numbers.{big_bytes-whole, big_number-lt, big_number-again, length-big_bytes}

-- Bytes were taken that are spelled so.
pub record Takes (bytes spelled rest : List ℕ) : Type 0 where
  pub whole : bytes ≡ spelled ++ rest
  pub small : IsBytes rest

pub Takes-then : (a x b y c : List ℕ) → Takes a x b → Takes b y c → Takes a (x ++ y) c
Takes-then a x b y c first second = record {
  whole = first.whole ∙ ap (λ (r : List ℕ). x ++ r) second.whole ∙ sym (append_assoc x y c);
  small = second.small;
}

pub Takes-none : (a : List ℕ) → IsBytes a → Takes a [] a
Takes-none a small = record { whole = refl; small = small }

-- what stands behind bytes is bytes
pub IsBytes-behind : (xs ys : List ℕ) → IsBytes (xs ++ ys) → IsBytes ys
IsBytes-behind xs ys small i = subst (λ (b : ℕ). b < 256) (get_or-append-add xs ys i 0) (small (length xs + i))

taken : (bytes spelled rest : List ℕ) → IsBytes bytes → bytes ≡ spelled ++ rest → Takes bytes spelled rest
taken bytes spelled rest small e = record { whole = e; small = IsBytes-behind spelled rest (subst IsBytes e small) }

-- the same lengths, whatever the numbers are
sized : (bytes spelled rest : List ℕ) → bytes ≡ spelled ++ rest → length bytes ≡ length spelled + length rest
sized bytes spelled rest e = ap length e ∙ length-append spelled rest

-- ---- a byte

byte_is : (bytes : List ℕ) (n : ℕ) (rest : List ℕ) → byte_at bytes ≡ Ok (n, rest) → bytes ≡ n ∷ rest
byte_is [] n rest e = absurd cc
byte_is (b ∷ bytes) n rest e =
    let p = ok_is (b, bytes) (n, rest) e in
    let first : b ≡ n = ap (λ (p : ℕ × List ℕ). p.0) p in
    let second : bytes ≡ rest = ap (λ (p : ℕ × List ℕ). p.1) p in
    cc

pub byte_takes : (bytes : List ℕ) (n : ℕ) (rest : List ℕ) → IsBytes bytes → byte_at bytes ≡ Ok (n, rest) → Takes bytes (n ∷ []) rest × (n < 256)
byte_takes bytes n rest small e =
    let whole = byte_is bytes n rest e in
    (taken bytes (n ∷ []) rest small whole, subst IsBytes whole small 0)

pub byte_sized : (bytes : List ℕ) (n : ℕ) (rest : List ℕ) → byte_at bytes ≡ Ok (n, rest) → length bytes ≡ length rest + 1
byte_sized bytes n rest e = omega (arith, ap length (byte_is bytes n rest e))

-- ---- so many bytes

bytes_are : (count : ℕ) (bytes text rest : List ℕ) → bytes_at count bytes ≡ Ok (text, rest) → (bytes ≡ text ++ rest) × (length text ≡ count)
bytes_are count bytes text rest e =
    let g = guard_ok (ltb (length bytes) count) _ _ _ e in
    let fits = ltb-false (length bytes) count g.0 in
    let p = ok_is (take count bytes, drop count bytes) (text, rest) g.1 in
    let first : take count bytes ≡ text = ap (λ (p : List ℕ × List ℕ). p.0) p in
    let second : drop count bytes ≡ rest = ap (λ (p : List ℕ × List ℕ). p.1) p in
    (subst (λ (x : List ℕ). bytes ≡ x ++ rest) first (subst (λ (y : List ℕ). bytes ≡ take count bytes ++ y) second (sym (take-append-drop count bytes))), sym (ap length first) ∙ length-take-le count bytes fits)

pub bytes_take : (count : ℕ) (bytes text rest : List ℕ) → IsBytes bytes → bytes_at count bytes ≡ Ok (text, rest) → Takes bytes text rest × (length text ≡ count)
bytes_take count bytes text rest small e = let p = bytes_are count bytes text rest e in (taken bytes text rest small p.0, p.1)

pub bytes_sized : (count : ℕ) (bytes text rest : List ℕ) → bytes_at count bytes ≡ Ok (text, rest) → (length bytes ≡ length text + length rest) × (length text ≡ count)
bytes_sized count bytes text rest e = let p = bytes_are count bytes text rest e in (sized bytes text rest p.0, p.1)

pub bytes_again : (count : ℕ) (text rest : List ℕ) → length text ≡ count → bytes_at count (text ++ rest) ≡ Ok (text, rest)
bytes_again count text rest len =
    let fits : ltb (length (text ++ rest)) count ≡ false = le-ltb _ _ (omega (arith, length-append text rest)) in
    rw (fits, take_at text rest count len, drop_at text rest count len) refl

-- ---- numbers

number_is : (width : ℕ) (bytes : List ℕ) (n : ℕ) (rest : List ℕ) → number_at width bytes ≡ Ok (n, rest) → (width ≤ length bytes) × (big_number width bytes ≡ n) × (drop width bytes ≡ rest)
number_is width bytes n rest e =
    let g = guard_ok (ltb (length bytes) width) _ _ _ e in
    let p = ok_is (big_number width bytes, drop width bytes) (n, rest) g.1 in
    (ltb-false (length bytes) width g.0, ap (λ (p : ℕ × List ℕ). p.0) p, ap (λ (p : ℕ × List ℕ). p.1) p)

pub number_takes : (width : ℕ) (bytes : List ℕ) (n : ℕ) (rest : List ℕ) → IsBytes bytes → number_at width bytes ≡ Ok (n, rest) → Takes bytes (big_bytes width n) rest × (n < 256 ^ width)
number_takes width bytes n rest small e =
    let p = number_is width bytes n rest e in
    let whole : bytes ≡ big_bytes width n ++ rest = subst (λ (m : ℕ). bytes ≡ big_bytes width m ++ rest) p.1 (subst (λ (y : List ℕ). bytes ≡ big_bytes width (big_number width bytes) ++ y) p.2 (big_bytes-whole width bytes small p.0)) in
    (taken bytes (big_bytes width n) rest small whole, subst (λ (m : ℕ). m < 256 ^ width) p.1 (big_number-lt width bytes small))

pub number_sized : (width : ℕ) (bytes : List ℕ) (n : ℕ) (rest : List ℕ) → number_at width bytes ≡ Ok (n, rest) → length bytes ≡ width + length rest
number_sized width bytes n rest e =
    let p = number_is width bytes n rest e in
    omega (arith, p.0, ap length p.2, length-drop width bytes)

pub number_again : (width n : ℕ) (rest : List ℕ) → n < 256 ^ width → number_at width (big_bytes width n ++ rest) ≡ Ok (n, rest)
number_again width n rest low =
    let len = length-big_bytes width n in
    let fits : ltb (length (big_bytes width n ++ rest)) width ≡ false = le-ltb _ _ (omega (arith, len, length-append (big_bytes width n) rest)) in
    rw (fits, big_number-again width n rest low, drop_at (big_bytes width n) rest width len) refl

-- ---- the bytes that a format begins with

same_are : (xs ys : List ℕ) → pointwise eqb xs ys ≡ true → xs ≡ ys
same_are [] [] e = refl
same_are [] (y ∷ ys) e = absurd cc
same_are (x ∷ xs) [] e = absurd cc
same_are (x ∷ xs) (y ∷ ys) e =
    let p = and_parts (eqb x y) (pointwise eqb xs ys) e in
    let first = eqb-true x y p.0 in
    let others = same_are xs ys p.1 in
    cc

same_again : (xs : List ℕ) → pointwise eqb xs xs ≡ true
same_again [] = refl
same_again (x ∷ xs) = rw (eq-eqb x x refl) (same_again xs)

test_ok : {A : Type 0} (b : Bool) (s : Stop) (x : Result A Stop) (y : A) → cond b x (Err s) ≡ Ok y → (b ≡ true) × (x ≡ Ok y)
test_ok true s x y e = (refl, e)
test_ok false s x y e = absurd cc

pub magic_is : (magic bytes : List ℕ) (u : Unit {0}) (rest : List ℕ) → magic_at magic bytes ≡ Ok (u, rest) → bytes ≡ magic ++ rest
magic_is magic bytes u rest e =
    let g = test_ok (starts_with eqb bytes magic) _ _ _ e in
    let front : magic ≡ take (length magic) bytes = same_are magic (take (length magic) bytes) g.0 in
    let behind : drop (length magic) bytes ≡ rest = ap (λ (p : Unit {0} × List ℕ). p.1) (ok_is (tt, drop (length magic) bytes) (u, rest) g.1) in
    sym (take-append-drop (length magic) bytes) ∙ ap (λ (x : List ℕ). x ++ drop (length magic) bytes) (sym front) ∙ ap (λ (y : List ℕ). magic ++ y) behind

pub magic_takes : (magic bytes : List ℕ) (u : Unit {0}) (rest : List ℕ) → IsBytes bytes → magic_at magic bytes ≡ Ok (u, rest) → Takes bytes magic rest
magic_takes magic bytes u rest small e = taken bytes magic rest small (magic_is magic bytes u rest e)

pub magic_sized : (magic bytes : List ℕ) (u : Unit {0}) (rest : List ℕ) → magic_at magic bytes ≡ Ok (u, rest) → length bytes ≡ length magic + length rest
magic_sized magic bytes u rest e = sized bytes magic rest (magic_is magic bytes u rest e)

pub magic_again : (magic rest : List ℕ) → magic_at magic (magic ++ rest) ≡ Ok (tt, rest)
magic_again magic rest = rw (take_at magic rest (length magic) refl, same_again magic, drop_at magic rest (length magic) refl) refl

-- ---- texts

lt_from : (m n : ℕ) → m ≤ n → (m ≡ n → ⊥) → m < n
lt_from m n le apart = omega arith

above : (n : ℕ) → (n ≡ 0 → ⊥) → 0 < n
above n apart = omega arith

pub ended_is : (room : ℕ) (bytes text rest : List ℕ) → ended_at room bytes ≡ Ok (text, rest) → (bytes ≡ ended text ++ rest) × IsPlain room text
unfolding ended_at
ended_is room bytes text rest e =
    let len : ℕ = position_or_len is_zero bytes in
    let g = guard_ok (ltb room len) _ _ _ e in
    let h = guard_ok (eqb len (length bytes)) _ _ _ g.1 in
    let within : len ≤ length bytes = prefix_len-le-length _ bytes in
    let apart = eqb-false len (length bytes) h.0 in
    let inside : len < length bytes = lt_from len (length bytes) within apart in
    let p = ok_is (before_first is_zero bytes, after_first is_zero bytes) (text, rest) h.1 in
    let front : before_first is_zero bytes ≡ text = ap (λ (p : List ℕ × List ℕ). p.0) p in
    let behind : after_first is_zero bytes ≡ rest = ap (λ (p : List ℕ × List ℕ). p.1) p in
    let zero_there : get_or bytes len 0 ≡ 0 = eqb-true (get_or bytes len 0) 0 (passes_at_first is_zero bytes 0 inside) in
    let split = split_at_first is_zero bytes 0 inside in
    let whole : bytes ≡ before_first is_zero bytes ++ 0 ∷ after_first is_zero bytes = subst (λ (b : ℕ). bytes ≡ before_first is_zero bytes ++ b ∷ after_first is_zero bytes) zero_there split in
    let shown : bytes ≡ text ++ 0 ∷ rest = subst (λ (y : List ℕ). bytes ≡ text ++ 0 ∷ y) behind (subst (λ (x : List ℕ). bytes ≡ x ++ 0 ∷ after_first is_zero bytes) front whole) in
    let size : length (before_first is_zero bytes) ≡ len = length-take-le len bytes within in
    let fits = ltb-false room len g.0 in (
      shown ∙ sym (append_assoc text (0 ∷ []) rest),
      subst (λ (x : List ℕ). IsPlain room x) front (record {
        fits = omega (arith, size, fits);
        plain = λ k d lt. above (get_or (before_first is_zero bytes) k d) (λ z. eqb-false (get_or bytes k d) 0 (fails_before_first is_zero bytes k d (omega (arith, size, lt))) (sym (get_or-take len bytes k d (omega (arith, size, lt))) ∙ z));
      }),
    )

pub ended_takes : (room : ℕ) (bytes text rest : List ℕ) → IsBytes bytes → ended_at room bytes ≡ Ok (text, rest) → Takes bytes (ended text) rest × IsPlain room text
ended_takes room bytes text rest small e = let p = ended_is room bytes text rest e in (taken bytes (ended text) rest small p.0, p.1)

pub ended_sized : (room : ℕ) (bytes text rest : List ℕ) → ended_at room bytes ≡ Ok (text, rest) → length bytes ≡ length (ended text) + length rest
ended_sized room bytes text rest e = sized bytes (ended text) rest (ended_is room bytes text rest e).0

text_is : (empty : DamageCause) (room : ℕ) (bytes text rest : List ℕ) → text_at empty room bytes ≡ Ok (text, rest) → (ended_at room bytes ≡ Ok (text, rest)) × (0 < length text)
text_is empty room bytes text rest e =
    seq (ended_at room bytes) _ _ _ e (λ (x : List ℕ × List ℕ) e1 k1.
    seq (demand (ltb 0 (length x.0)) empty) _ _ _ k1 (λ (u : Unit {0}) e2 k2.
    let same : x ≡ (text, rest) = ok_is x (text, rest) k2 in
    let some = ltb-true 0 (length x.0) (demand_ok (ltb 0 (length x.0)) empty u e2) in
    (e1 ∙ ap (λ (p : List ℕ × List ℕ). Ok p) same, subst (λ (p : List ℕ × List ℕ). 0 < length p.0) same some)))

pub text_takes : (empty : DamageCause) (room : ℕ) (bytes text rest : List ℕ) → IsBytes bytes → text_at empty room bytes ≡ Ok (text, rest) → Takes bytes (ended text) rest × IsText room text
text_takes empty room bytes text rest small e =
    let p = text_is empty room bytes text rest e in
    let t = ended_takes room bytes text rest small p.0 in
    (t.0, record { some = p.1; fits = t.1.fits; plain = t.1.plain })

pub text_sized : (empty : DamageCause) (room : ℕ) (bytes text rest : List ℕ) → text_at empty room bytes ≡ Ok (text, rest) → length bytes ≡ length (ended text) + length rest
text_sized empty room bytes text rest e = ended_sized room bytes text rest (text_is empty room bytes text rest e).0

pub text_again : (empty : DamageCause) (room : ℕ) (text rest : List ℕ) → IsText room text → text_at empty room (ended text ++ rest) ≡ Ok (text, rest)
text_again empty room text rest h =
    let read = ended_again room text rest (record { fits = h.fits; plain = h.plain }) in
    rw (read, lt-ltb 0 (length text) h.some) refl
