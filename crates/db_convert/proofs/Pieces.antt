-- A text that is written piece by piece.
use Rattle.std.proofs.Common.{◌≡◌, ℕ, ◌+◌, ◌<◌, ◌≤◌, List, [], ◌∷◌, ◌++◌, length, get_or, drop, Option, Some, None, refl, sym, subst, ◌∙◌, append-nil, append_assoc, add-one, drop-cons, length-drop, arith}
use Rattle.std.proofs.lemmas.List.{nil_from_length}
use Rattle.std.proofs.KnownBytes.{Appends-trans}
use Rattle.std.specs.Io.KnownBytes.{Appends}
use Rattle.loc_outside.specs.Outside.{AppendsShort}
use Rattle.loc_outside.proofs.LessTaken.{short_first, short_after}

abbrev KnownBytes : Type 0
KnownBytes = Option (List ℕ)

-- Of the whole text all was taken but the rest.
pub record Wrote (old new : KnownBytes) (rest whole : List ℕ) : Type 0 where
  pub done : List ℕ
  pub took : Appends old new done
  pub all : done ++ rest ≡ whole

pub nothing_took : (a : KnownBytes) → Appends a a []
nothing_took None = tt
nothing_took (Some bytes) = sym (append-nil bytes)

pub wrote_none : (a : KnownBytes) (whole : List ℕ) → Wrote a a whole whole
wrote_none a whole = record { done = []; took = nothing_took a; all = refl }

-- the next piece was taken
pub wrote_more : (a b c : KnownBytes) (now piece rest whole : List ℕ) → now ≡ piece ++ rest → Wrote a b now whole → Appends b c piece → Wrote a c rest whole
wrote_more a b c now piece rest whole next w took = record {
  done = w.done ++ piece;
  took = Appends-trans a b c w.done piece w.took took;
  all = append_assoc w.done piece rest ∙ subst (λ (l : List ℕ). w.done ++ l ≡ whole) next w.all;
}

-- less than the next piece was taken
pub wrote_short : (a b c : KnownBytes) (now piece rest whole : List ℕ) → now ≡ piece ++ rest → Wrote a b now whole → AppendsShort b c piece → AppendsShort a c whole
wrote_short a b c now piece rest whole next w short =
    subst (AppendsShort a c) (subst (λ (l : List ℕ). w.done ++ l ≡ whole) next w.all) (short_after a b c w.done (piece ++ rest) w.took (short_first b c piece rest short))

pub wrote_all : (a b : KnownBytes) (rest whole : List ℕ) → rest ≡ [] → Wrote a b rest whole → Appends a b whole
wrote_all a b rest whole none w = subst (Appends a b) (sym (append-nil w.done) ∙ subst (λ (l : List ℕ). w.done ++ l ≡ whole) none w.all) w.took

-- ---- one element after the other

pub drop_next : {X : Type 0} (xs : List X) (at : ℕ) (d : X) → at < length xs → drop at xs ≡ get_or xs at d ∷ drop (at + 1) xs
drop_next xs at d lt = rw (add-one, drop-cons xs at d) refl

pub drop_end : {X : Type 0} (xs : List X) (at : ℕ) → length xs ≤ at → drop at xs ≡ []
drop_end xs at end = nil_from_length (drop at xs) (omega (arith, length-drop at xs))
