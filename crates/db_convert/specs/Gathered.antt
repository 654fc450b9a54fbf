-- Paths that were taken in.
use Rattle.std.specs.Prelude.{◌≡◌, ℕ, List, length, All, Option, IfSome, Result, Ok, Err}
use Rattle.byte_feed.specs.Paths.{GivesWhole, IsPath, ToCome}
use Rattle.locate02_db.specs.Spelled.{encode02}
use Rattle.locate02_db.specs.Writer.{WriterState, nothing_put, after_all}
use Rattle.db_convert.specs.declared.fault.ListFault.{ListFault}
use Rattle.db_convert.specs.Reading.{EndsWith}

-- These are the bytes of a LOCATE02 database of the paths, what its writer remembers, and their number.
pub record AreEntries (written : List ℕ) (w : WriterState) (number : ℕ) (paths : List (List ℕ)) : Type 0 where
  pub bytes : written ≡ encode02 paths
  pub writer : w ≡ after_all nothing_put paths
  pub count : number ≡ length paths

-- All paths of a file were taken in, where it is known and gives so much; or it ends with a fault.
abbrev pub Gathered : (List (List ℕ) → Type 0) → (List ℕ → ToCome) → Option (List ℕ) → Result (Unit {0}) ListFault → Type 0
Gathered holds given file (Ok whole) = (paths : List (List ℕ)) × holds paths × All IsPath paths × IfSome file (λ f. GivesWhole (given f) paths)
Gathered holds given file (Err fault) = IfSome file (λ f. EndsWith (given f) fault)
