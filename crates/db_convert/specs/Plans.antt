-- What is made in memory before paths are written.
use Rattle.std.specs.Prelude.{◌≡◌, ℕ, List, ⊤}
use Rattle.updatedb_conf.specs.Block.{block}
use Rattle.updatedb_conf.specs.Settings.{default_settings}
use Rattle.bigram_db.specs.Chosen.{table_for}
use Rattle.path_list.specs.declared.mark.Mark.TheVariants as marks
use Rattle.db_convert.specs.declared.format.Format.{Format}
use Rattle.db_convert.specs.declared.format.Format.TheVariants as formats
use Rattle.db_convert.specs.declared.mlocate.Plan.{Plan}
use Rattle.db_convert.specs.declared.writing.Target.{Target}
use Rattle.db_convert.specs.declared.writing.Target.TheVariants as targets
use Rattle.db_convert.specs.Orders.{IsOrder}

-- the places of these paths in order, and the block of the default configuration
pub record IsPlan (paths : List (List ℕ)) (plan : Plan) : Type 0 where
  pub order : IsOrder paths plan.places.items
  pub block : plan.block ≡ block default_settings

abbrev pub format_of : Target → Format
format_of (targets.Mlocate plan) = formats.Mlocate
format_of targets.Locate02 = formats.Locate02
format_of (targets.Bigram table) = formats.Bigram
format_of (targets.List marks.Newline) = formats.List
format_of (targets.List marks.Zero) = formats.List0

-- what it takes to be written was made for these paths
abbrev pub IsMade : List (List ℕ) → Target → Type 0
IsMade paths (targets.Mlocate plan) = IsPlan paths plan
IsMade paths targets.Locate02 = ⊤
IsMade paths (targets.Bigram table) = table ≡ table_for paths
IsMade paths (targets.List mark) = ⊤
