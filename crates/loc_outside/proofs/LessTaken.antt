-- Pieces of which less than the whole was taken.
use Rattle.std.proofs.Common.{ℕ, ◌+◌, List, ◌++◌, length, take, Option, Result, Ok, Err, sym, subst, length-append, arith}
use Rattle.std.specs.Prelude.{OnErr}
use Rattle.std.proofs.lemmas.List.{take-append-le}
use Rattle.std.proofs.Math.Seq.{take-append-add}
use Rattle.std.proofs.KnownBytes.{Appends-trans}
use Rattle.std.specs.Io.KnownBytes.{Appends}
use Rattle.loc_outside.specs.Outside.{AppendsPart, AppendsShort}

abbrev KnownBytes : Type 0
KnownBytes = Option (List ℕ)

-- what was taken of the first part is less than the whole
pub short_first : (a b : KnownBytes) (x y : List ℕ) → AppendsShort a b x → AppendsShort a b (x ++ y)
short_first a b x y p = (p.0, omega (arith, p.1, length-append x y), subst (Appends a b) (sym (take-append-le p.0 x y (omega (arith, p.1)))) p.2)

-- the first part was taken, and less than the second
pub short_after : (a b c : KnownBytes) (x y : List ℕ) → Appends a b x → AppendsShort b c y → AppendsShort a c (x ++ y)
short_after a b c x y first p = (length x + p.0, omega (arith, p.1, length-append x y), subst (Appends a c) (sym (take-append-add x y p.0)) (Appends-trans a b c x (take p.0 y) first p.2))

-- the same where the call failed
pub err_from : {A E : Type 0} (r : Result A E) (P : Type 0) → P → OnErr r P
err_from (Ok x) P p = tt
err_from (Err e) P p = p

pub err_short : {A E : Type 0} (r : Result A E) (a b c : KnownBytes) (x y : List ℕ) → Appends a b x → OnErr r (AppendsShort b c y) → OnErr r (AppendsShort a c (x ++ y))
err_short (Ok v) a b c x y first p = tt
err_short (Err e) a b c x y first p = short_after a b c x y first p

-- less than the whole is a first part
pub part_of : (a b : KnownBytes) (x : List ℕ) → AppendsShort a b x → AppendsPart a b x
part_of a b x p = (p.0, omega (arith, p.1), p.2)

pub err_less : {A E : Type 0} (r : Result A E) (a b c : KnownBytes) (x y : List ℕ) → Appends a b x → OnErr r (AppendsShort b c y) → OnErr r (AppendsPart a c (x ++ y))
err_less (Ok v) a b c x y first p = tt
err_less (Err e) a b c x y first p = part_of a c (x ++ y) (short_after a b c x y first p)
