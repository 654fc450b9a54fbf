-- What is known of a text, from what is known of one that begins alike.
use Rattle.std.proofs.Common.{◌≡◌, ℕ, ◌+◌, ◌-◌, ◌<◌, ◌≤◌, Bool, true, false, List, [], ◌∷◌, length, take, get_or, IsTrue, min, refl, sym, ap, subst, ◌∙◌, arith, ⊎_elim, length-take}
use Rattle.std.proofs.lemmas.Bool.{cases_lt, false≢true}
use Rattle.std.proofs.lemmas.List.{take-take, get_or-take}
use Rattle.std.proofs.Math.Seq.{take-length}
use Rattle.memchr.specs.Find.{Nowhere as NoPlace}
use Rattle.glob_match.specs.Pattern.{Wanted, InGlob}
use Rattle.glob_match.specs.Needle.{Stands, plain_wanted}
use Rattle.glob_match.specs.Spot.{Known, FirstEnds, Tells}
use Rattle.glob_match.specs.declared.spot.Spot.{Spot}
use Rattle.glob_match.specs.declared.spot.Spot.TheVariants.{Unjudged, Nowhere, Ends}
use Rattle.glob_match.proofs.Needles.{InGlob-stands, stands-InGlob, stands-fits, stands-alike, stands-front}

-- texts that begin with as many of the same bytes begin with fewer
pub fewer : (n shared : ℕ) (before text : List ℕ) → n ≤ shared → take shared before ≡ take shared text → take n before ≡ take n text
fewer n shared before text under alike = sym (take-take n shared before under) ∙ ap (take n) alike ∙ take-take n shared text under

-- a match that ends in what is shared is one of this text too
pub stays : (end shared : ℕ) (glob : Wanted) (before text : List ℕ) → end ≤ shared → FirstEnds glob before end → take shared before ≡ take shared text → FirstEnds glob text end
stays end shared glob before text under known alike =
    let within = known.within in
    let same : take end before ≡ take end text = fewer end shared before text under alike in
    let long : length (take end before) ≡ length (take end text) = ap length same in
    record {
      within = omega (arith, long, length-take end before, length-take end text);
      enough = λ other begins. known.enough other (begins ∙ sym same);
      first = λ n below m. known.first n below (subst (λ l. InGlob glob l) (sym (fewer n shared before text (omega arith) alike)) m);
    }

module _ (fold : Bool) (bytes text : List ℕ) (some : 0 < length bytes) (fits : (k : ℕ) → get_or text k 0 < 256) where
  -- each text that is the same up to the end of the bytes matches
  enough : (place : ℕ) → Stands fold bytes text place → (other : List ℕ) → take (place + length bytes) other ≡ take (place + length bytes) text → InGlob (plain_wanted fold bytes) other
  enough place h other same =
      InGlob-stands fold bytes other place
      (λ k l.
      let reads : get_or other k 0 ≡ get_or text k 0 = sym (get_or-take (place + length bytes) other k 0 l) ∙ ap (λ xs. get_or xs k 0) same ∙ get_or-take (place + length bytes) text k 0 l in
      subst (λ x. x < 256) (sym reads) (fits k))
      (stands-alike fold bytes text other place same h)

  -- where nothing that ends in the shared bytes matched before, the bytes do not stand there now
  pub none_shared : (shared quiet place : ℕ) (before : List ℕ) → quiet ≤ shared → take shared before ≡ take shared text
      → ((n : ℕ) → 0 < n → n ≤ quiet → InGlob (plain_wanted fold bytes) (take n before) → ⊥)
      → place < min quiet (length text) + 1 - length bytes → Stands fold bytes text place → ⊥
  none_shared shared quiet place before under alike none below h =
      let end : place + length bytes ≤ quiet = omega arith in
      let same : take (place + length bytes) before ≡ take (place + length bytes) text = fewer (place + length bytes) shared before text (omega arith) alike in
      none (place + length bytes) (omega arith) end
      (enough place h (take (place + length bytes) before) (take-take (place + length bytes) (place + length bytes) before (omega arith) ∙ same))

  pub known-none : (from : ℕ) → ((place : ℕ) → place < from → Stands fold bytes text place → ⊥) → NoPlace (Stands fold bytes text) from (length text + 1) → Known Nowhere (plain_wanted fold bytes) text
  known-none from before after n m =
      let o = stands-InGlob fold bytes (take n text) m in
      let there = stands-front fold bytes text n o.0 some o.1 in
      let end = stands-fits fold bytes text o.0 some there.1 in
      ⊎_elim (λ l. before o.0 l there.1) (λ l. after o.0 l (omega arith) there.1) (cases_lt o.0 from)

  pub known-some : (from at : ℕ) → ((place : ℕ) → place < from → Stands fold bytes text place → ⊥) → NoPlace (Stands fold bytes text) from at → Stands fold bytes text at → Known (Ends (at + length bytes)) (plain_wanted fold bytes) text
  known-some from at before after h = record {
    within = stands-fits fold bytes text at some h;
    enough = enough at h;
    first = λ n below m.
        let o = stands-InGlob fold bytes (take n text) m in
        let there = stands-front fold bytes text n o.0 some o.1 in
        let end = there.0 in
        ⊎_elim (λ l. before o.0 l there.1) (λ l. after o.0 l (omega arith) there.1) (cases_lt o.0 from);
  }

-- no bytes stand everywhere
empty-stands : (fold : Bool) (text : List ℕ) → Stands fold [] text 0
empty-stands true text = refl
empty-stands false text = record { fits = omega arith; reads = λ j l. absurd (omega arith) }

pub known-empty : (fold : Bool) (bytes text : List ℕ) → length bytes ≡ 0 → Known (Ends 0) (plain_wanted fold bytes) text
known-empty fold [] text none = record {
  within = omega arith;
  enough = λ other begins. InGlob-stands fold [] other 0 (λ k l. absurd (omega arith)) (empty-stands fold other);
  first = λ n below m. absurd (omega arith);
}
known-empty fold (b ∷ bytes) text none = absurd (omega arith)

-- what is known of a text says whether the whole of it matches
pub value : (spot : Spot) (glob : Wanted) (text : List ℕ) (found : Bool) → Known spot glob text → Tells spot found → (IsTrue found → InGlob glob text) × (InGlob glob text → IsTrue found)
value Unjudged glob text found known told = absurd told
value Nowhere glob text found known told = (
  λ e. absurd (false≢true (sym told ∙ e)),
  λ m. absurd (known (length text) (subst (λ l. InGlob glob l) (sym (take-length text)) m)),
)
value (Ends end) glob text found known told = (λ e. known.enough text refl, λ m. told)
