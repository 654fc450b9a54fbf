-- Lists of words in one text, as updatedb.conf(5) has them.
use Rattle.std.specs.Prelude.{Bool, ◌≤◌, length, nat_lt}
use Rattle.clap.specs.Words.{Text}
use Rattle.updatedb_conf.specs.Value.{has_slash}
use Rattle.updatedb_conf.specs.Words.{words}

-- a list has at most 16 MiB
abbrev pub FitsList : Text → Type 0
FitsList list = length list ≤ 16777216

-- a list is longer than that
abbrev pub is_long : Text → Bool
is_long list = nat_lt 16777216 (length list)

-- some word of a list has a slash
abbrev pub some_word_has_slash : Text → Bool
some_word_has_slash list = has_slash (words list)
