-- What an output holds.
use Rattle.std.specs.Prelude.{ℕ, List, [], ◌++◌, None, Some}
use Rattle.std.specs.declared.option.Option.{Option}
use Rattle.std.specs.Option.{option_map_or}
use Rattle.std.specs.FinMap.{insert}
use Rattle.loc_outside.specs.Files.{Files}

-- the files that are stored, the name that was begun and not yet committed, and the bytes taken since the last name was begun
pub record Held : Type 0 where
  pub stored : Files
  pub name : Option (List ℕ)
  pub pending : List ℕ

-- after a name was begun
abbrev pub begun : List ℕ → Held → Held
begun name held = record { stored = held.stored; name = Some name; pending = [] }

-- after bytes were taken
abbrev pub grown : List ℕ → Held → Held
grown bytes held = record { stored = held.stored; name = held.name; pending = held.pending ++ bytes }

-- with no byte pending
abbrev pub emptied : Held → Held
emptied held = record { stored = held.stored; name = held.name; pending = [] }

-- the files after these bytes are stored under the name, if there is one
abbrev pub stored_under : Option (List ℕ) → Files → List ℕ → Files
stored_under name files bytes = option_map_or (λ n. insert files n bytes) name files

-- after a commit
abbrev pub committed : Held → Held
committed held = record { stored = stored_under held.name held.stored held.pending; name = None; pending = held.pending }
