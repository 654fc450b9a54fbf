-- A byte that does not stand between words stands in one.
use Rattle.std.proofs.Common.{◌≡◌, ℕ, ◌||◌, Bool, true, false, cond, List, [], ◌∷◌, refl, ap, sym, ◌∙◌, nat_eq}
use Rattle.std.specs.List.{list_any, slice_split, onto_first, filter}
use Rattle.updatedb_conf.specs.Words.{is_nonempty}

-- some element of some part passes
abbrev pub any_in : (ℕ → Bool) → List (List ℕ) → Bool
any_in test parts = list_any (list_any test) parts

or_assoc : (a b c : Bool) → (a || (b || c)) ≡ ((a || b) || c)
or_assoc true b c = refl
or_assoc false b c = refl

any_in-onto_first : (test : ℕ → Bool) (x : ℕ) (parts : List (List ℕ)) → any_in test (onto_first x parts) ≡ (test x || any_in test parts)
any_in-onto_first test x [] = elim (test x) as (λ b. ((b || false) || false) ≡ (b || false)) [ true ↦ refl | false ↦ refl ]
any_in-onto_first test x (part ∷ parts) = sym (or_assoc (test x) (list_any test part) (any_in test parts))

any_in-slice_split : (test cut : ℕ → Bool) → ((x : ℕ) → cut x ≡ true → test x ≡ false) → (xs : List ℕ) → any_in test (slice_split cut xs) ≡ list_any test xs
any_in-slice_split test cut apart [] = refl
any_in-slice_split test cut apart (x ∷ xs) =
    elim (cut x) as (λ b. cut x ≡ b → any_in test (cond b ([] ∷ slice_split cut xs) (onto_first x (slice_split cut xs))) ≡ (test x || list_any test xs)) [
      | true ↦ λ e. any_in-slice_split test cut apart xs ∙ sym (ap (λ b. b || list_any test xs) (apart x e))
      | false ↦ λ e. any_in-onto_first test x (slice_split cut xs) ∙ ap (λ b. test x || b) (any_in-slice_split test cut apart xs)
    ] refl

any_in-filter : (test : ℕ → Bool) (parts : List (List ℕ)) → any_in test (filter is_nonempty parts) ≡ any_in test parts
any_in-filter test [] = refl
any_in-filter test ([] ∷ parts) = any_in-filter test parts
any_in-filter test ((x ∷ part) ∷ parts) = ap (λ b. list_any test (x ∷ part) || b) (any_in-filter test parts)

pub any_in-words : (test cut : ℕ → Bool) → ((x : ℕ) → cut x ≡ true → test x ≡ false) → (xs : List ℕ) → any_in test (filter is_nonempty (slice_split cut xs)) ≡ list_any test xs
any_in-words test cut apart xs = any_in-filter test (slice_split cut xs) ∙ any_in-slice_split test cut apart xs
