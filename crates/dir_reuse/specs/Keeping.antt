-- What is kept of an old database that is read to its end.
use Rattle.std.specs.Prelude.{◌≡◌, ℕ, Bool, Contains, IfSome, List, ◌++◌, MatchBool, Some, None, option_to_list, ⊤}
use Rattle.std.specs.declared.option.Option.{Option}
use Rattle.std.specs.Option.{option_map}
use Rattle.tree_scan.specs.Records.{Record}
use Rattle.dir_reuse.specs.declared.cursor.Cursor.{Cursor}
use Rattle.dir_reuse.specs.Stream.{known}
use Rattle.dir_reuse.specs.Usable.{records}

-- records that are kept, and whether no read of their source has failed
pub record KeptRecords : Type 0 where
  pub records : List Record
  pub unbroken : Bool

-- these records are some of those
abbrev pub AreSome : List Record → List Record → Type 0
AreSome some all = (r : Record) → Contains some r → Contains all r

-- they are all records of the file, or some where a read failed
abbrev pub AllKept : List ℕ → List ℕ → Option (List ℕ) → List Record → Bool → Type 0
AllKept root block None kept unbroken = ⊤
AllKept root block (Some file) kept unbroken = MatchBool unbroken (kept ≡ records root block file) (AreSome kept (records root block file))

-- The same so far: those kept and those to come are all.
abbrev pub SomeKept : List ℕ → List ℕ → Option (List ℕ) → List Record → Cursor → Option (List ℕ) → Type 0
SomeKept root block None kept c left = ⊤
SomeKept root block (Some file) kept c left =
    MatchBool c.unbroken (option_map (λ more. kept ++ more) (known c left) ≡ Some (records root block file)) (AreSome kept (records root block file))

-- the records to come stayed, or a read failed
abbrev pub StaysKnown : Cursor → Option (List ℕ) → Cursor → Option (List ℕ) → Type 0
StaysKnown c left c' left' = MatchBool c'.unbroken (IfSome (known c left) (λ rs. known c' left' ≡ Some rs)) ⊤

-- this record was the first of those to come, or none was given; or a read failed, and none was given
abbrev pub GivesKnown : Option Record → Cursor → Option (List ℕ) → Cursor → Option (List ℕ) → Type 0
GivesKnown given c left c' left' = MatchBool c'.unbroken (IfSome (known c left) (λ rs. option_map (λ more. option_to_list given ++ more) (known c' left') ≡ Some rs)) (given ≡ None)
