-- The first path that is refused.
use Rattle.std.proofs.Common.{◌≡◌, ℕ, ◌<◌, ◌≤◌, Bool, true, false, cond, not, List, [], length, get_or, Some, None, refl, sym, ap, arith}
use Rattle.std.specs.Option.{option_map}
use Rattle.std.specs.List.{position_or_len}
use Rattle.std.proofs.lemmas.Bool.{ltb-true, lt-ltb}
use Rattle.std.proofs.lemmas.List.Sums.{position_or_len_is}
use Rattle.db_convert.specs.declared.format.Format.{Format}
use Rattle.db_convert.specs.declared.format.AdmitCause.{AdmitCause}
use Rattle.db_convert.specs.Admission.{is_admitted, refusal, first_refused}

abbrev refused_at : AdmitCause → ℕ → ℕ × AdmitCause
refused_at cause index = (index, cause)

-- so many paths are admitted
abbrev pub AdmittedTo : Format → List (List ℕ) → ℕ → Type 0
AdmittedTo to paths at = (k : ℕ) → k < at → is_admitted to (get_or paths k []) ≡ true

some_by : (b : Bool) (n at : ℕ) (cause : AdmitCause) → b ≡ true → n ≡ at → Some (at, cause) ≡ option_map (refused_at cause) (cond b (Some n) None)
some_by true n at cause test same = ap (λ (k : ℕ). Some (k, cause)) (sym same)
some_by false n at cause test same = absurd cc

none_by : (b : Bool) (n : ℕ) (cause : AdmitCause) → (b ≡ true → ⊥) → None ≡ option_map (refused_at cause) (cond b (Some n) None)
none_by true n cause h = absurd (h refl)
none_by false n cause h = refl

first_at : (to : Format) (paths : List (List ℕ)) (at : ℕ) → at ≤ length paths → AdmittedTo to paths at → (at < length paths → is_admitted to (get_or paths at []) ≡ false) → position_or_len (λ path. not (is_admitted to path)) paths ≡ at
first_at to paths at within before here = position_or_len_is (λ path. not (is_admitted to path)) paths at [] within (λ k lt. ap not (before k lt)) (λ lt. ap not (here lt))

pub refused_first : (to : Format) (paths : List (List ℕ)) (at : ℕ) → at < length paths → AdmittedTo to paths at → is_admitted to (get_or paths at []) ≡ false → Some (at, refusal to) ≡ first_refused to paths
refused_first to paths at lt before here =
    let first : position_or_len (λ path. not (is_admitted to path)) paths ≡ at = first_at to paths at (omega (arith, lt)) before (λ _. here) in
    some_by _ _ at (refusal to) (lt-ltb _ _ (omega (arith, first, lt))) first

pub refused_none : (to : Format) (paths : List (List ℕ)) (at : ℕ) → at ≡ length paths → AdmittedTo to paths at → None ≡ first_refused to paths
refused_none to paths at end before =
    let first : position_or_len (λ path. not (is_admitted to path)) paths ≡ at = first_at to paths at (omega (arith, end)) before (λ lt. absurd (omega (arith, lt, end))) in
    none_by _ _ (refusal to) (λ e. omega (arith, ltb-true _ _ e, first, end))
