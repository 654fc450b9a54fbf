-- What an exercise comes to.
use Rattle.std.specs.Prelude.{ℕ, true, false, [], ◌∷◌, length}
use Rattle.updatedb_conf.specs.Block.{block}
use Rattle.updatedb_conf.specs.Settings.{default_settings}
use Rattle.mount_table.specs.Lookup.{device_of}
use Rattle.sample_trees.specs.Steps.{sample_steps}
use Rattle.tree_scan.specs.Plan.{Plan}
use Rattle.tree_scan.specs.Plans.{is_pruned}
use Rattle.update_runs.specs.declared.exercising.Exercised.{Exercised}
use Rattle.update_runs.specs.Runs.{last_database, last_reached, opened_in_all}

-- from `/` on, in version 0, with the default configuration and no mounts, and paths shown only to those who may list their
-- directories; nothing is echoed
abbrev pub sample_plan : Plan
sample_plan = record {
  root = 47 ∷ [];
  version = 0;
  flag = true;
  verbose = false;
  block = block default_settings;
  margin = default_settings.margin;
  pruned = is_pruned default_settings [];
  device_of = device_of [];
}

-- What the updates of this sample's steps come to, the first over an empty file: the rounds, the directories of the last database,
-- the openings that all steps need, and the bytes of the last database.
abbrev pub exercised : ℕ → ℕ → Exercised
exercised number rounds = record {
  rounds = rounds;
  directories = last_reached sample_plan 0 (sample_steps number rounds);
  opened = opened_in_all sample_plan [] (sample_steps number rounds);
  bytes = length (last_database sample_plan [] (sample_steps number rounds));
}
