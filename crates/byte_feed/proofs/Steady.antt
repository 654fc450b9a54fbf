-- Readers whose answer more bytes don't change, but where a byte past the last one was asked for.
use Rattle.std.proofs.Common.{◌≡◌, ℕ, zero, suc, ◌+◌, ◌-◌, ◌<◌, ◌≤◌, ◌⊎◌, Bool, true, false, cond, eqb, ltb, List, [], ◌∷◌, ◌++◌, length, take, drop, replicate, Result, Ok, Err, refl, sym, ap, ◌∙◌, inl, inr, append_assoc, length-append, arith}
use Rattle.std.specs.List.{position_or_len}
use Rattle.std.proofs.lemmas.Bool.{cases_Bool, cases_lt, both_ways, le-ltb, lt-ltb, ltb-false, ltb-true, eqb-true, eq-eqb, ne_eqb}
use Rattle.std.proofs.lemmas.List.{get_or_append_left, get_or-append_right, length-replicate, take-append-le, drop-append-le}
use Rattle.std.proofs.lemmas.List.Folds.{prefix_len-append}
use Rattle.byteorder.specs.Endian.{big_number}
use Rattle.byteorder.specs.Numbers.{big_from-append}
use Rattle.byte_feed.specs.declared.damage.DamageCause.{DamageCause}
use Rattle.byte_feed.specs.declared.damage.DamageCause.TheVariants.{Cut, LongPath}
use Rattle.byte_feed.specs.declared.damage.Stop.{Stop}
use Rattle.byte_feed.specs.declared.damage.Stop.TheVariants.{NotADatabase, Broken}
use Rattle.byte_feed.specs.Front.{IsBytes}
use Rattle.byte_feed.specs.Stream.{is_cut}
use Rattle.byte_feed.specs.Field.{◌>>=◌, magic_at, byte_at, bytes_at, number_at, demand, is_zero, ended_at, text_at, ended}
use Rattle.byte_feed.proofs.Fields.{seq, ok_is}
use Rattle.byte_feed.proofs.Takes.{ended_is, magic_is, magic_again}
use Rattle.byte_feed.proofs.Fields.{ended_again, guard_ok}

-- Some bytes after these change the answer.
pub record Changes {A : Type 0} (read : List ℕ → Result (A × List ℕ) Stop) (bytes : List ℕ) : Type 0 where
  pub more : List ℕ
  pub small : IsBytes more
  pub apart : read (bytes ++ more) ≡ Err (Broken Cut) → ⊥

pub record Steady {A : Type 0} (read : List ℕ → Result (A × List ℕ) Stop) : Type 0 where
  pub goes_on : (bytes more : List ℕ) (x : A) (rest : List ℕ) → read bytes ≡ Ok (x, rest) → read (bytes ++ more) ≡ Ok (x, rest ++ more)
  pub stays : (bytes more : List ℕ) (cause : DamageCause) → (cause ≡ Cut → ⊥) → read bytes ≡ Err (Broken cause) → read (bytes ++ more) ≡ Err (Broken cause)
  pub changes : (bytes : List ℕ) → read bytes ≡ Err (Broken Cut) → Changes read bytes

-- ---- errors

abbrev failed : {A : Type 0} → Stop → Result A Stop
failed s = Err s

abbrev stop_or : {A : Type 0} → Stop → Result A Stop → Stop
stop_or d (Ok x) = d
stop_or d (Err s) = s

err_is : {A : Type 0} (s t : Stop) → failed {A = A} s ≡ failed t → s ≡ t
err_is s t e = ap (stop_or s) e

err_at : {A B : Type 0} (s t : Stop) → failed {A = A} s ≡ failed t → failed {A = B} s ≡ failed t
err_at s t e = ap (λ (u : Stop). Err u) (err_is s t e)

seq_err : {A B : Type 0} (r : Result A Stop) (f : A → Result B Stop) (s : Stop) (P : Type 0) → (r >>= f) ≡ Err s → (r ≡ Err s → P) → ((x : A) → r ≡ Ok x → f x ≡ Err s → P) → P
seq_err (Ok x) f s P e here later = later x refl e
seq_err (Err t) f s P e here later = here (err_at t s e)

pub then_ok : {A B : Type 0} (r : Result A Stop) (f : A → Result B Stop) (x : A) (y : Result B Stop) → r ≡ Ok x → f x ≡ y → (r >>= f) ≡ y
then_ok {A} r f x y e k = ap (λ (s : Result A Stop). s >>= f) e ∙ k

then_err : {A B : Type 0} (r : Result A Stop) (f : A → Result B Stop) (s : Stop) → r ≡ Err s → (r >>= f) ≡ Err s
then_err {A} r f s e = ap (λ (t : Result A Stop). t >>= f) e

cut_is : (s : Stop) → is_cut s ≡ true → s ≡ Broken Cut
cut_is (Broken Cut) e = refl
cut_is s e = absurd cc

cut_not : (s : Stop) → is_cut s ≡ false → s ≡ Broken Cut → ⊥
cut_not s e h = both_ways (is_cut s) e (ap is_cut h)

-- ---- bytes

IsBytes-append : (xs ys : List ℕ) → IsBytes xs → IsBytes ys → IsBytes (xs ++ ys)
IsBytes-append xs ys a b i = elim (cases_lt i (length xs)) [
  | inl inside ↦ rw (get_or_append_left xs ys 0 i inside) (a i)
  | inr past ↦ rw (get_or-append_right xs ys (length xs) i 0 refl past) (b (i - length xs))
]

zeros : (n : ℕ) → IsBytes (replicate n 0)
zeros zero i = omega arith
zeros (suc n) zero = omega arith
zeros (suc n) (suc i) = zeros n i

-- ---- one reader after the other

last_step : {A B : Type 0} (r : List ℕ → Result (A × List ℕ) Stop) (f : A × List ℕ → Result (B × List ℕ) Stop) → Steady r → ((x : A) → Steady (λ rest. f (x, rest)))
    → (bytes more : List ℕ) → IsBytes more → (x : A) (rest : List ℕ) → r (bytes ++ more) ≡ Ok (x, rest) → (end : Result (B × List ℕ) Stop) → f (x, rest) ≡ end → Changes (λ bs. r bs >>= f) bytes
last_step r f sr sf bytes more small x rest e (Ok y) k = record { more = more; small = small; apart = λ h. absurd (let z = sym (then_ok (r (bytes ++ more)) f (x, rest) (Ok y) e k) ∙ h in cc) }
last_step r f sr sf bytes more small x rest e (Err s) k = elim (cases_Bool (is_cut s)) [
  | inl cut ↦
      let c = (sf x).changes rest (k ∙ ap (λ (u : Stop). Err u) (cut_is s cut)) in
      record {
        more = more ++ c.more;
        small = IsBytes-append more c.more small c.small;
        apart = λ h. c.apart (sym (then_ok (r (bytes ++ (more ++ c.more))) f (x, rest ++ c.more) _ (ap r (sym (append_assoc bytes more c.more)) ∙ sr.goes_on (bytes ++ more) c.more x rest e) refl) ∙ h);
      }
  | inr other ↦ record { more = more; small = small; apart = λ h. cut_not s other (err_is s (Broken Cut) (sym (then_ok (r (bytes ++ more)) f (x, rest) (Err s) e k) ∙ h)) }
]

first_step : {A B : Type 0} (r : List ℕ → Result (A × List ℕ) Stop) (f : A × List ℕ → Result (B × List ℕ) Stop) → Steady r → ((x : A) → Steady (λ rest. f (x, rest)))
    → (bytes more : List ℕ) → IsBytes more → (r (bytes ++ more) ≡ Err (Broken Cut) → ⊥) → (end : Result (A × List ℕ) Stop) → r (bytes ++ more) ≡ end → Changes (λ bs. r bs >>= f) bytes
first_step r f sr sf bytes more small apart (Ok x) e = last_step r f sr sf bytes more small x.0 x.1 e (f x) refl
first_step r f sr sf bytes more small apart (Err s) e = record { more = more; small = small; apart = λ h. apart (e ∙ err_at s (Broken Cut) (sym (then_err (r (bytes ++ more)) f s e) ∙ h)) }

pub bind_steady : {A B : Type 0} (r : List ℕ → Result (A × List ℕ) Stop) (f : A × List ℕ → Result (B × List ℕ) Stop) → Steady r → ((x : A) → Steady (λ rest. f (x, rest))) → Steady (λ bytes. r bytes >>= f)
bind_steady {A} {B} r f sr sf = record {
  goes_on = λ bytes more y rest e. seq (r bytes) f (y, rest) _ e (λ (x : A × List ℕ) e1 k1.
      then_ok (r (bytes ++ more)) f (x.0, x.1 ++ more) _ (sr.goes_on bytes more x.0 x.1 e1) ((sf x.0).goes_on x.1 more y rest k1));
  stays = λ bytes more cause other e. seq_err (r bytes) f (Broken cause) _ e
      (λ e1. then_err (r (bytes ++ more)) f (Broken cause) (sr.stays bytes more cause other e1))
      (λ (x : A × List ℕ) e1 k1. then_ok (r (bytes ++ more)) f (x.0, x.1 ++ more) _ (sr.goes_on bytes more x.0 x.1 e1) ((sf x.0).stays x.1 more cause other k1));
  changes = λ bytes e. seq_err (r bytes) f (Broken Cut) (Changes (λ bs. r bs >>= f) bytes) e
      (λ e1. let c = sr.changes bytes e1 in first_step r f sr sf bytes c.more c.small c.apart (r (bytes ++ c.more)) refl)
      (λ (x : A × List ℕ) e1 k1.
      let c = (sf x.0).changes x.1 k1 in
      record {
        more = c.more;
        small = c.small;
        apart = λ h. c.apart (sym (then_ok (r (bytes ++ c.more)) f (x.0, x.1 ++ c.more) _ (sr.goes_on bytes c.more x.0 x.1 e1) refl) ∙ h);
      });
}

pub pure_steady : {A : Type 0} (x : A) → Steady (λ bytes. Ok (x, bytes))
pure_steady {A} x = record {
  goes_on = λ bytes more y rest e.
      let same = ok_is (x, bytes) (y, rest) e in
      let first : x ≡ y = ap (λ (p : A × List ℕ). p.0) same in
      let behind : bytes ≡ rest = ap (λ (p : A × List ℕ). p.1) same in
      cc;
  stays = λ bytes more cause other e. absurd cc;
  changes = λ bytes e. absurd cc;
}

pub stop_steady : {A : Type 0} (cause : DamageCause) → (cause ≡ Cut → ⊥) → Steady {A = A} (λ bytes. Err (Broken cause))
stop_steady cause apart = record {
  goes_on = λ bytes more y rest e. absurd cc;
  stays = λ bytes more other kind e. e;
  changes = λ bytes e. absurd (apart cc);
}

pub demand_steady : {A : Type 0} (holds : Bool) (cause : DamageCause) (r : List ℕ → Result (A × List ℕ) Stop) → (cause ≡ Cut → ⊥) → Steady r → Steady (λ bytes. demand holds cause >>= λ u. r bytes)
demand_steady true cause r apart s = s
demand_steady false cause r apart s = stop_steady cause apart

-- ---- fields

byte_on : (bytes more : List ℕ) (x : ℕ) (rest : List ℕ) → byte_at bytes ≡ Ok (x, rest) → byte_at (bytes ++ more) ≡ Ok (x, rest ++ more)
byte_on [] more x rest e = absurd cc
byte_on (b ∷ bytes) more x rest e = (pure_steady b).goes_on bytes more x rest e

byte_stays : (bytes more : List ℕ) (cause : DamageCause) → (cause ≡ Cut → ⊥) → byte_at bytes ≡ Err (Broken cause) → byte_at (bytes ++ more) ≡ Err (Broken cause)
byte_stays [] more cause other e = absurd (other cc)
byte_stays (b ∷ bytes) more cause other e = absurd cc

byte_changes : (bytes : List ℕ) → byte_at bytes ≡ Err (Broken Cut) → Changes byte_at bytes
byte_changes [] e = record { more = replicate 1 0; small = zeros 1; apart = λ h. absurd cc }
byte_changes (b ∷ bytes) e = absurd cc

pub byte_steady : Steady byte_at
byte_steady = record { goes_on = byte_on; stays = byte_stays; changes = byte_changes }

-- a reader that wants so many bytes, and gives what the first of them say
abbrev wants : {A : Type 0} → ℕ → (List ℕ → A) → List ℕ → Result (A × List ℕ) Stop
wants n value bytes = cond (ltb (length bytes) n) (Err (Broken Cut)) (Ok (value bytes, drop n bytes))

wants_steady : {A : Type 0} (n : ℕ) (value : List ℕ → A) → ((xs ys : List ℕ) → n ≤ length xs → value (xs ++ ys) ≡ value xs) → Steady (wants n value)
wants_steady {A} n value first = record {
  goes_on = λ bytes more x rest e.
      let g = guard_ok (ltb (length bytes) n) _ _ _ e in
      let fits = ltb-false (length bytes) n g.0 in
      let enough : ltb (length (bytes ++ more)) n ≡ false = le-ltb _ _ (omega (arith, fits, length-append bytes more)) in
      rw (enough, first bytes more fits, drop-append-le n bytes more fits) ((pure_steady (value bytes)).goes_on (drop n bytes) more x rest g.1);
  stays = λ bytes more cause other e. absurd (elim (cases_Bool (ltb (length bytes) n)) [
    | inl short ↦ let h = rw short at e in other cc
    | inr long ↦ let h = rw long at e in absurd cc
  ]);
  changes = λ bytes e. record {
    more = replicate n 0;
    small = zeros n;
    apart = λ h.
        let enough : ltb (length (bytes ++ replicate n 0)) n ≡ false = le-ltb _ _ (omega (arith, length-append bytes (replicate n 0), length-replicate {A = ℕ} n 0)) in
        let z = rw enough at h in
        absurd cc;
  };
}

pub bytes_steady : (count : ℕ) → Steady (bytes_at count)
bytes_steady count = wants_steady count (take count) (λ xs ys fits. take-append-le count xs ys fits)

pub number_steady : (width : ℕ) → Steady (number_at width)
number_steady width = wants_steady width (big_number width) (λ xs ys fits. big_from-append width xs ys fits)

test_err : {A : Type 0} (b : Bool) (x : A) (cause : DamageCause) → cond b (Ok x) (Err NotADatabase) ≡ failed (Broken cause) → ⊥
test_err true x cause e = absurd cc
test_err false x cause e = absurd cc

pub magic_steady : (magic : List ℕ) → Steady (magic_at magic)
magic_steady magic = record {
  goes_on = λ bytes more u rest e.
      let whole = magic_is magic bytes u rest e in
      ap (magic_at magic) (ap (λ (bs : List ℕ). bs ++ more) whole ∙ append_assoc magic rest more) ∙ magic_again magic (rest ++ more);
  stays = λ bytes more cause other e. absurd (test_err _ _ cause e);
  changes = λ bytes e. absurd (test_err _ _ Cut e);
}

-- ---- texts

len_append : (bytes more : List ℕ) → position_or_len is_zero (bytes ++ more) ≡ cond (eqb (position_or_len is_zero bytes) (length bytes)) (length bytes + position_or_len is_zero more) (position_or_len is_zero bytes)
len_append bytes more = prefix_len-append _ bytes more

len_least : (bytes more : List ℕ) → position_or_len is_zero bytes ≤ position_or_len is_zero (bytes ++ more)
len_least bytes more = elim (cases_Bool (eqb (position_or_len is_zero bytes) (length bytes))) [
  | inl all ↦ let len = rw all at (len_append bytes more) in omega (arith, len, eqb-true _ _ all)
  | inr some ↦ let len = rw some at (len_append bytes more) in omega (arith, len)
]

-- why no text stands there
unended : {A : Type 0} (room len all : ℕ) (x : A) (cause : DamageCause) → cond (ltb room len) (Err (Broken LongPath)) (cond (eqb len all) (Err (Broken Cut)) (Ok x)) ≡ failed (Broken cause)
    → ((cause ≡ LongPath) × (room < len)) ⊎ ((cause ≡ Cut) × ((len ≤ room) × (len ≡ all)))
unended room len all x cause e = elim (cases_Bool (ltb room len)) [
  | inl long ↦ let h = rw long at e in inl (let z : cause ≡ LongPath = cc in z, ltb-true room len long)
  | inr fits ↦ elim (cases_Bool (eqb len all)) [
    | inl bare ↦ let h = rw (fits, bare) at e in inr (let z : cause ≡ Cut = cc in z, (ltb-false room len fits, eqb-true len all bare))
    | inr closed ↦ let h = rw (fits, closed) at e in absurd cc
  ]
]

ended_on : (room : ℕ) (bytes more text rest : List ℕ) → ended_at room bytes ≡ Ok (text, rest) → ended_at room (bytes ++ more) ≡ Ok (text, rest ++ more)
ended_on room bytes more text rest e =
    let p = ended_is room bytes text rest e in
    ap (ended_at room) (ap (λ (bs : List ℕ). bs ++ more) p.0 ∙ append_assoc (ended text) rest more) ∙ ended_again room text (rest ++ more) p.1

ended_stays : (room : ℕ) (bytes more : List ℕ) (cause : DamageCause) → (cause ≡ Cut → ⊥) → ended_at room bytes ≡ Err (Broken cause) → ended_at room (bytes ++ more) ≡ Err (Broken cause)
unfolding ended_at
ended_stays room bytes more cause other e = elim (unended room (position_or_len is_zero bytes) (length bytes) _ cause e) [
  | inl long ↦
      let still : ltb room (position_or_len is_zero (bytes ++ more)) ≡ true = lt-ltb _ _ (omega (arith, long.1, len_least bytes more)) in
      rw (still, long.0) refl
  | inr cut ↦ absurd (other cut.0)
]

ended_changes : (room : ℕ) (bytes : List ℕ) → ended_at room bytes ≡ Err (Broken Cut) → Changes (ended_at room) bytes
unfolding ended_at
ended_changes room bytes e = elim (unended room (position_or_len is_zero bytes) (length bytes) _ Cut e) [
  | inl long ↦ let z = long.0 in absurd cc
  | inr cut ↦ record {
    more = replicate 1 0;
    small = zeros 1;
    apart = λ h.
        let len : position_or_len is_zero (bytes ++ replicate 1 0) ≡ length bytes = len_append bytes (replicate 1 0) ∙ rw (eq-eqb _ _ cut.1.1) (omega arith) in
        let fits : ltb room (position_or_len is_zero (bytes ++ replicate 1 0)) ≡ false = le-ltb _ _ (omega (arith, len, cut.1.0, cut.1.1)) in
        let closed : eqb (position_or_len is_zero (bytes ++ replicate 1 0)) (length (bytes ++ replicate 1 0)) ≡ false = ne_eqb _ _ (λ z. absurd (omega (arith, z, len, length-append bytes (replicate 1 0)))) in
        let w = rw (fits, closed) at h in
        absurd cc;
  }
]

pub ended_steady : (room : ℕ) → Steady (ended_at room)
ended_steady room = record { goes_on = ended_on room; stays = ended_stays room; changes = ended_changes room }

pub text_steady : (empty : DamageCause) (room : ℕ) → (empty ≡ Cut → ⊥) → Steady (text_at empty room)
text_steady empty room apart = bind_steady (ended_at room) _ (ended_steady room) (λ text. demand_steady (ltb 0 (length text)) empty (λ rest. Ok (text, rest)) apart (pure_steady text))
