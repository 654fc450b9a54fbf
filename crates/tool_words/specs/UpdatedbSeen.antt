-- The settings of `updatedb`, as contracts see them.
use Rattle.std.specs.Prelude.{option_map}
use Rattle.tool_words.specs.Updatedb.{UpdatedbAsked}
use Rattle.tool_words.specs.declared.settings.UpdatedbSettings.{UpdatedbSettings}

abbrev pub seen : UpdatedbSettings → UpdatedbAsked
seen s = record {
  root = s.root.now;
  output = s.output.now;
  visibility = s.visibility;
  verbose = s.verbose;
  version = s.version;
  margin = s.margin;
  prune_bind_mounts = s.prune_bind_mounts;
  prunefs = option_map (λ t. t.now) s.prunefs;
  prunenames = option_map (λ t. t.now) s.prunenames;
  prunepaths = option_map (λ t. t.now) s.prunepaths;
  add_prunefs = s.add_prunefs.now;
  add_prunenames = s.add_prunenames.now;
  add_prunepaths = s.add_prunepaths.now;
}
