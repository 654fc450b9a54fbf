-- The settings of `locate`, as contracts see them.
use Rattle.std.specs.Prelude.{map, option_map}
use Rattle.tool_words.specs.Locate.{LocateAsked}
use Rattle.tool_words.specs.declared.settings.LocateSettings.{LocateSettings}

abbrev pub seen : LocateSettings → LocateAsked
seen s = record {
  all = s.all;
  base = s.base;
  count_only = s.count_only;
  existing = s.existing;
  follow = s.follow;
  fold = s.fold;
  separator = s.separator;
  quiet = s.quiet;
  statistics = s.statistics;
  limit = s.limit;
  databases = map (λ t. t.now) s.databases.items;
  patterns = map (λ t. t.now) s.patterns.items;
  regex = s.regex;
  regexp = option_map (λ t. t.now) s.regexp;
}
