-- A piece that is written in parts.
use Rattle.std.proofs.Common.{List, ◌++◌, Option, Result, Ok, Err}
use Rattle.std.specs.Prelude.{ℕ, OnErr}
use Rattle.std.specs.Io.KnownBytes.{Appends}
use Rattle.loc_outside.specs.Outside.{AppendsPart}
use Rattle.loc_outside.proofs.PartTaken.{part_second}

-- the first part was taken, and where the call failed a part of the second
pub err_after : {A E : Type 0} (r : Result A E) (a b c : Option (List ℕ)) (x y : List ℕ) → Appends a b x → OnErr r (AppendsPart b c y) → OnErr r (AppendsPart a c (x ++ y))
err_after (Ok v) a b c x y first p = tt
err_after (Err e) a b c x y first p = part_second a b c x y first p
