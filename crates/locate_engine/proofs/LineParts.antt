-- Lines of which a part was written.
use Rattle.std.proofs.Common.{◌≡◌, ℕ, ◌+◌, Bool, false, List, [], ◌∷◌, ◌++◌, length, Option, sym, subst, arith, length-append}
use Rattle.std.proofs.Math.Seq.{take-append-add}
use Rattle.std.proofs.KnownBytes.{Appends-trans}
use Rattle.std.specs.Io.KnownBytes.{Appends}
use Rattle.loc_outside.specs.Outside.{AppendsShort}
use Rattle.locate_engine.specs.Passing.{line_by}

-- all of the first piece, and not all of the second
short_second : (u v w : Option (List ℕ)) (xs ys : List ℕ) → Appends u v xs → AppendsShort v w ys → AppendsShort u w (xs ++ ys)
short_second u v w xs ys all part =
    (length xs + part.0, omega (arith, part.1, length-append xs ys), subst (λ (bytes : List ℕ). Appends u w bytes) (sym (take-append-add xs ys part.0)) (Appends-trans u v w _ _ all part.2))

pub line_short : (count_only : Bool) (separator : ℕ) (u v w : Option (List ℕ)) (path : List ℕ) → count_only ≡ false → Appends u v path → AppendsShort v w (separator ∷ []) → AppendsShort u w (line_by count_only separator path)
line_short count_only separator u v w path printed all part =
    subst (λ (b : Bool). AppendsShort u w (line_by b separator path)) (sym printed) (short_second u v w path (separator ∷ []) all part)
