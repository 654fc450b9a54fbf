-- What a file gives as a list of paths.
use Rattle.std.specs.Prelude.{◌≡◌, ℕ, List, Option, Some, None, Result, Ok, Err, ⊤}
use Rattle.byte_feed.specs.declared.damage.DbFault.TheVariants as faults
use Rattle.byte_feed.specs.Paths as feed
use Rattle.any_db.specs.Formats as any
use Rattle.db_convert.specs.declared.format.Format.{Format}
use Rattle.db_convert.specs.declared.fault.ListFault.{ListFault}
use Rattle.db_convert.specs.declared.fault.ListFault.TheVariants.{File, OutOfMemory}
use Rattle.db_convert.specs.Conversion.{grammar_of}

-- all that a file gives, read in this format, or in the one that its first bytes tell
abbrev pub contents_in : Option Format → List ℕ → feed.ToCome
contents_in None file = any.contents file
contents_in (Some format) file = feed.contents (grammar_of format) file

-- The file ends with this fault. A failed read and lack of memory tell nothing of it.
abbrev pub EndsWith : feed.ToCome → ListFault → Type 0
EndsWith given (File faults.ReadFault) = ⊤
EndsWith given (File fault) = given.ending ≡ Err fault
EndsWith given OutOfMemory = ⊤

-- what is answered of a file that gives so much
abbrev pub Answers : feed.ToCome → Result (List (List ℕ)) ListFault → Type 0
Answers given (Ok paths) = feed.GivesWhole given paths
Answers given (Err fault) = EndsWith given fault
