-- What is known of the outside at one moment.
use Rattle.std.specs.Prelude.{ℕ, Bool, List}
use Rattle.std.specs.declared.option.Option.{Option}
use Rattle.loc_outside.specs.Files.{Files}
use Rattle.loc_outside.specs.Gates.{Tests}
use Rattle.loc_outside.specs.Held.{Held}
use Rattle.loc_outside.specs.Trees.{Dirs}

-- Of a reader the files, how many bytes it has given and how often it has failed; of a tree the directories, how often
-- directories were opened and asked for their times, which of these questions are counted, and how often it has failed; of
-- a gate its tests, how often it was asked and has failed; of an output what it holds, how many names it has begun and how
-- often it has failed; of standard output and of standard error the bytes taken and how often each has failed, and of the
-- first how many bytes it holds back. What is optional is known only where the object tells it.
pub record Snapshot : Type 0 where
  pub files : Option Files
  pub given : ℕ
  pub reads_failed : ℕ
  pub dirs : Option Dirs
  pub openings : ℕ
  pub stats : ℕ
  pub priced : List ℕ → Bool
  pub tree_failed : ℕ
  pub tests : Option Tests
  pub asks : ℕ
  pub gate_failed : ℕ
  pub held : Option Held
  pub begins : ℕ
  pub output_failed : ℕ
  pub taken : Option (List ℕ)
  pub held_back : ℕ
  pub writes_failed : ℕ
  pub err_taken : Option (List ℕ)
  pub err_failed : ℕ
