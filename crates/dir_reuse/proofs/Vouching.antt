-- Records that are kept, and what is answered by them.
use Rattle.std.proofs.Common.{◌≡◌, ℕ, zero, suc, ◌+◌, ◌<◌, Bool, true, false, ◌&&◌, ◌||◌, List, [], ◌∷◌, ◌++◌, length, get_or, take, Some, refl, sym, ap, ◌∙◌, subst, arith, add-one}
use Rattle.std.specs.Prelude.{HoldsAt, slice_get}
use Rattle.std.specs.List.{list_any}
use Rattle.std.specs.Str.{bytes_eq}
use Rattle.std.specs.Cmp.Lexicographic.{bytes_decides}
use Rattle.std.proofs.lemmas.Bool.{and_parts}
use Rattle.path_order.specs.declared.kind.Kind.{Kind}
use Rattle.path_order.specs.NameList.{Listed}
use Rattle.path_order.specs.Stamp.{Moment}
use Rattle.tree_scan.specs.Records.{Fitting, Record, Vouches, bears, is_vouched}

some_is : {A : Type 0} (x y : A) → Some x ≡ Some y → x ≡ y
some_is x y e = cc

-- ---- names

take_one : (names : Listed) (i : ℕ) (e : List ℕ × Kind) → slice_get names i ≡ Some e → take (suc i) names ≡ take i names ++ e ∷ []
take_one [] i e h = absurd cc
take_one (n ∷ names) zero e h = ap (λ (x : List ℕ × Kind). x ∷ []) (some_is n e h)
take_one (n ∷ names) (suc i) e h = ap (λ (l : Listed). n ∷ l) (take_one names i e h)

-- one more name
pub copies_more : (names into into' : Listed) (i : ℕ) (e : List ℕ × Kind) → slice_get names i ≡ Some e → into ≡ take i names → into' ≡ into ++ e ∷ [] → into' ≡ take (i + 1) names
copies_more names into into' i e here before now =
    now ∙ ap (λ (l : Listed). l ++ e ∷ []) before ∙ sym (take_one names i e here) ∙ ap (λ (k : ℕ). take k names) (sym (add-one i))

-- ---- the first that vouches

either_no : (a b : Bool) → (a || b) ≡ false → (a ≡ false) × (b ≡ false)
either_no true b e = absurd cc
either_no false b e = (refl, e)

both_no : (a b : Bool) → a ≡ false → b ≡ false → (a || b) ≡ false
both_no a b e f = ap (λ (x : Bool). x || b) e ∙ f

any_more : (p : Record → Bool) (rs : List Record) (i : ℕ) (r : Record) → i < length rs → r ≡ get_or rs i r → list_any p (take i rs) ≡ false → p r ≡ false → list_any p (take (suc i) rs) ≡ false
any_more p [] i r lt is none fails = absurd (omega (arith, lt))
any_more p (x ∷ rs) zero r lt is none fails = both_no (p x) false (ap p (sym is) ∙ fails) refl
any_more p (x ∷ rs) (suc i) r lt is none fails =
    let parts = either_no (p x) (list_any p (take i rs)) none in
    both_no (p x) (list_any p (take (suc i) rs)) parts.0 (any_more p rs i r (omega (arith, lt)) is parts.1 fails)

-- one more does not vouch
pub none_more : (rs : List Record) (dir : List ℕ) (time : Moment) (device : ℕ) (i : ℕ) (r : Record) → i < length rs → r ≡ get_or rs i r → is_vouched (take i rs) dir time device ≡ false → (bytes_eq r.path dir && bears r time device) ≡ false
    → is_vouched (take (i + 1) rs) dir time device ≡ false
none_more rs dir time device i r lt is none fails =
    ap (λ (k : ℕ). is_vouched (take k rs) dir time device) (add-one i) ∙ any_more (λ x. bytes_eq x.path dir && bears x time device) rs i r lt is none fails

-- ---- the answer

pub record Answers (records : List Record) (dir : List ℕ) (time : Moment) (device : ℕ) (names : Listed) : Type 0 where
  pub vouches : Vouches records dir time device names
  pub fitting : Fitting dir names

pub answers : (records : List Record) (dir : List ℕ) (time : Moment) (device at : ℕ) (r : Record) (names : Listed) → at < length records → r ≡ get_or records at r → HoldsAt (λ x. (bytes_eq x.path dir && bears x time device) ≡ true) records at
    → names ≡ r.names → Fitting r.path r.names → Answers records dir time device names
answers records dir time device at r names lt is holds same fit =
    let test : (bytes_eq r.path dir && bears r time device) ≡ true = subst (λ (x : Record). (bytes_eq x.path dir && bears x time device) ≡ true) (sym is) (holds r) in
    let parts = and_parts (bytes_eq r.path dir) (bears r time device) test in
    let path : r.path ≡ dir = (bytes_decides r.path dir).0 parts.0 in
    record {
      vouches = record { known = r; there = (at, lt, sym is); at = path; bearing = parts.1; has = sym same };
      fitting = subst (λ (n : Listed). Fitting dir n) (sym same) (subst (λ (p : List ℕ). Fitting p r.names) path fit);
    }
