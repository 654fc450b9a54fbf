-- Pieces of which a part was taken.
use Rattle.std.proofs.Common.{ℕ, ◌+◌, List, [], ◌++◌, length, Option, Some, None, sym, subst, arith, length-append}
use Rattle.std.proofs.lemmas.List.{append-nil, take-append-le}
use Rattle.std.proofs.Math.Seq.{take-append-add, take-length}
use Rattle.std.proofs.KnownBytes.{Appends-trans}
use Rattle.std.specs.Io.KnownBytes.{Appends}
use Rattle.loc_outside.specs.Outside.{AppendsPart}

-- a part of the first of two pieces
pub part_first : (u w : Option (List ℕ)) (xs ys : List ℕ) → AppendsPart u w xs → AppendsPart u w (xs ++ ys)
part_first u w xs ys part =
    (part.0, omega (arith, part.1, length-append xs ys), subst (λ (bytes : List ℕ). Appends u w bytes) (sym (take-append-le part.0 xs ys part.1)) part.2)

-- all of the first, and a part of the second
pub part_second : (u v w : Option (List ℕ)) (xs ys : List ℕ) → Appends u v xs → AppendsPart v w ys → AppendsPart u w (xs ++ ys)
part_second u v w xs ys all part =
    (length xs + part.0, omega (arith, part.1, length-append xs ys), subst (λ (bytes : List ℕ). Appends u w bytes) (sym (take-append-add xs ys part.0)) (Appends-trans u v w _ _ all part.2))

appends_none : (u : Option (List ℕ)) → Appends u u []
appends_none None = tt
appends_none (Some bytes) = sym (append-nil bytes)

-- nothing of the piece
pub part_none : (u : Option (List ℕ)) (xs : List ℕ) → AppendsPart u u xs
part_none u xs = (0, omega arith, appends_none u)

-- the whole piece
pub part_all : (u v : Option (List ℕ)) (xs : List ℕ) → Appends u v xs → AppendsPart u v xs
part_all u v xs all = (length xs, omega arith, subst (λ (bytes : List ℕ). Appends u v bytes) (sym (take-length xs)) all)
