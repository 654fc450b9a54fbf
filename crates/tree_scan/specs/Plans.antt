-- The plan of the rules.
use Rattle.std.specs.Prelude.{ℕ, Bool, false, not, ◌&&◌, ◌||◌, List}
use Rattle.std.specs.Option.{option_map_or}
use Rattle.path_order.specs.Path.{is_root, base_of}
use Rattle.updatedb_conf.specs.Block.{block}
use Rattle.updatedb_conf.specs.Settings.{Settings}
use Rattle.updatedb_conf.specs.Words.{has, upper}
use Rattle.mount_table.specs.Lookup.{device_of, is_bind, type_of}
use Rattle.mount_table.specs.Row.{MountRow}
use Rattle.tree_scan.specs.declared.rules.Rules.{Rules}
use Rattle.tree_scan.specs.Plan.{Plan}

-- the last component is one of PRUNENAMES; the root has none
abbrev pub has_pruned_name : Settings → List ℕ → Bool
has_pruned_name conf path = not (is_root path) && has conf.names (base_of path)

-- the type of the file system that the directory lies in is one of PRUNEFS
abbrev pub has_pruned_type : Settings → List MountRow → List ℕ → Bool
has_pruned_type conf mounts path = option_map_or (λ kind. has conf.fs (upper kind)) (type_of mounts path) false

-- Whether a directory is pruned: its path is one of PRUNEPATHS, it has a pruned name or type, or it is a bind mount where
-- PRUNE_BIND_MOUNTS says so.
unfoldable pub is_pruned : Settings → List MountRow → List ℕ → Bool
is_pruned conf mounts path = has conf.paths path || (has_pruned_name conf path || (has_pruned_type conf mounts path || (conf.bind && is_bind mounts path)))

abbrev pub plan_of : Rules → Plan
plan_of rules = record {
  root = rules.root;
  version = rules.version;
  flag = rules.flag;
  verbose = rules.verbose;
  block = block rules.conf;
  margin = rules.conf.margin;
  pruned = is_pruned rules.conf rules.mounts;
  device_of = device_of rules.mounts;
}
