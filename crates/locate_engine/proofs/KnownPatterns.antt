-- What is known of a path for the patterns of a query, while they are asked one after another.
use Rattle.std.proofs.Common.{◌≡◌, ℕ, ◌+◌, ◌<◌, ◌≤◌, List, length, take, get_or, Some, sym, ap, subst, ◌∙◌, arith, ⊎_elim}
use Rattle.std.specs.Prelude.{slice_get}
use Rattle.std.proofs.lemmas.Bool.{cases_lt}
use Rattle.std.proofs.lemmas.List.{get_or-take, get_or_past, length-take}
use Rattle.std.proofs.lemmas.Option.{get_or_from_slice_get, slice_get_within}
use Rattle.glob_match.specs.Pattern.{Wanted}
use Rattle.glob_match.specs.Spot.{Known}
use Rattle.glob_match.specs.declared.spot.Spot.{Spot}
use Rattle.glob_match.specs.declared.spot.Spot.TheVariants.{Unjudged}
use Rattle.locate_engine.specs.Kept.{spot_at, KnowsAll}

-- for the first patterns it is known of this path, for the others still of the one before
abbrev pub Judging : List Wanted → List Spot → ℕ → List ℕ → List ℕ → Type 0
Judging globs spots at before text = (i : ℕ) (glob : Wanted) → slice_get globs i ≡ Some glob → (i < at → Known (spot_at spots i) glob text) × (at ≤ i → Known (spot_at spots i) glob before)

pub judging_none : (globs : List Wanted) (spots : List Spot) (before text : List ℕ) → KnowsAll spots globs before → Judging globs spots 0 before text
judging_none globs spots before text known i glob is = (λ lt. absurd (omega (arith, lt)), λ le. known i glob is)

-- one pattern more
pub judging_more : (globs : List Wanted) (spots spots' : List Spot) (at : ℕ) (before text : List ℕ) (glob : Wanted) → Judging globs spots at before text → slice_get globs at ≡ Some glob
    → Known (spot_at spots' at) glob text → ((i : ℕ) → (i ≡ at → ⊥) → spot_at spots' i ≡ spot_at spots i) → Judging globs spots' (at + 1) before text
judging_more globs spots spots' at before text glob judging here known others i other is = (
  λ lt. ⊎_elim
      (λ below. subst (λ (s : Spot). Known s other text) (sym (others i (λ e. omega (arith, below, e)))) ((judging i other is).0 below))
      (λ above. same i other is (omega (arith, lt, above)))
      (cases_lt i at),
  λ le. subst (λ (s : Spot). Known s other before) (sym (others i (λ e. omega (arith, le, e)))) ((judging i other is).1 (omega (arith, le))),
)
  where
    same : (i : ℕ) (other : Wanted) → slice_get globs i ≡ Some other → i ≡ at → Known (spot_at spots' i) other text
    same i other is e =
        let one : glob ≡ other = sym (get_or_from_slice_get globs at glob other here) ∙ ap (λ (k : ℕ). get_or globs k other) (sym e) ∙ get_or_from_slice_get globs i other other is in
        subst (λ (k : ℕ). Known (spot_at spots' k) other text) (sym e) (subst (λ (w : Wanted). Known (spot_at spots' at) w text) one known)

-- after the last one
pub judging_all : (globs : List Wanted) (spots : List Spot) (at : ℕ) (before text : List ℕ) → Judging globs spots at before text → length globs ≤ at → KnowsAll spots globs text
judging_all globs spots at before text judging past i glob is = (judging i glob is).0 (omega (arith, past, slice_get_within globs i glob is))

-- what is known of the path before is forgotten
pub judging_cut : (globs : List Wanted) (spots : List Spot) (at : ℕ) (before text : List ℕ) → Judging globs spots at before text → KnowsAll (take at spots) globs text
judging_cut globs spots at before text judging i glob is = ⊎_elim
    (λ below. subst (λ (s : Spot). Known s glob text) (sym (get_or-take at spots i Unjudged below)) ((judging i glob is).0 below))
    (λ above. subst (λ (s : Spot). Known s glob text) (sym (get_or_past (take at spots) i Unjudged (omega (arith, above, length-take at spots)))) tt)
    (cases_lt i at)
