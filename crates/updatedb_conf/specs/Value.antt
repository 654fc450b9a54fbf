-- The variables of updatedb.conf(5) and RECENT_MARGIN, which is this project's own, and what their values mean.
use Rattle.std.specs.Prelude.{ℕ, ◌+◌, ◌*◌, ◌-◌, ◌==◌, nat_le, nat_lt, Bool, true, false, ◌||◌, ◌&&◌, List, length, fold, Option, None, Some, Result, Ok, Err, ok_or, codes, is_some, if◌then◌else◌}
use Rattle.std.specs.List.{list_any, list_all}
use Rattle.std.specs.Char.{is_ascii_digit}
use Rattle.std.specs.Str.{bytes_eq}
use Rattle.updatedb_conf.specs.declared.fault.ConfCause.{ConfCause}
use Rattle.updatedb_conf.specs.declared.fault.ConfCause.TheVariants.{Unknown, Repeated, BadFlag, BadName, BadMargin}
use Rattle.updatedb_conf.specs.declared.value.Variable.{Variable}
use Rattle.updatedb_conf.specs.declared.value.Variable.TheVariants.{PruneBindMounts, PruneFs, PruneNames, PrunePaths, RecentMargin}
use Rattle.updatedb_conf.specs.Line.{◌>>=◌, line_gives}
use Rattle.updatedb_conf.specs.Words.{words}

-- the variable of a name
unfoldable pub variable_named : List ℕ → Option Variable
variable_named name =
    if bytes_eq name (codes "PRUNE_BIND_MOUNTS") then Some PruneBindMounts
    else (if bytes_eq name (codes "PRUNEFS") then Some PruneFs
    else (if bytes_eq name (codes "PRUNENAMES") then Some PruneNames
    else (if bytes_eq name (codes "PRUNEPATHS") then Some PrunePaths
    else (if bytes_eq name (codes "RECENT_MARGIN") then Some RecentMargin
    else None))))

-- a flag: `0` and `no`, or `1` and `yes`
unfoldable pub flag_word : List ℕ → Option Bool
flag_word value =
    if bytes_eq value (codes "0") || bytes_eq value (codes "no") then Some false
    else (if bytes_eq value (codes "1") || bytes_eq value (codes "yes") then Some true
    else None)

-- the number that decimal digits write
abbrev pub number_of : List ℕ → ℕ
number_of digits = fold (λ number digit. number * 10 + (digit - 48)) 0 digits

-- a margin in seconds: 1 to 4 decimal digits of at most 3,600
unfoldable pub margin_word : List ℕ → Option ℕ
margin_word text =
    if nat_lt 0 (length text) && nat_le (length text) 4 && list_all is_ascii_digit text && nat_le (number_of text) 3600
    then Some (number_of text) else None

-- some word has a `/` (47)
abbrev pub has_slash : List (List ℕ) → Bool
has_slash words = list_any (λ word. list_any (λ byte. byte == 47) word) words

-- the values that some lines give to the variables
pub record Given : Type 0 where
  pub bind : Option Bool
  pub fs : Option (List ℕ)
  pub names : Option (List ℕ)
  pub paths : Option (List ℕ)
  pub margin : Option ℕ

abbrev pub nothing_given : Given
nothing_given = record { bind = None; fs = None; names = None; paths = None; margin = None }

-- a variable has a value
abbrev pub is_given : Given → Variable → Bool
is_given given PruneBindMounts = is_some given.bind
is_given given PruneFs = is_some given.fs
is_given given PruneNames = is_some given.names
is_given given PrunePaths = is_some given.paths
is_given given RecentMargin = is_some given.margin

-- one more variable gets its value
unfoldable pub with_value : Given → Variable → List ℕ → Result Given ConfCause
with_value given PruneBindMounts value = do
  flag ← ok_or (flag_word value) BadFlag
  Ok (record given { bind = Some flag })
with_value given PruneFs value = Ok (record given { fs = Some value })
with_value given PruneNames value =
    if has_slash (words value) then Err BadName else Ok (record given { names = Some value })
with_value given PrunePaths value = Ok (record given { paths = Some value })
with_value given RecentMargin value = do
  margin ← ok_or (margin_word value) BadMargin
  Ok (record given { margin = Some margin })

-- a name gets its value: it is that of a variable, which has none before
unfoldable pub with_named : Given → List ℕ → List ℕ → Result Given ConfCause
with_named given name value = do
  variable ← ok_or (variable_named name) Unknown
  if is_given given variable then Err Repeated else with_value given variable value

-- what a line gives, if anything, is taken in
abbrev pub with_read : Given → Option (List ℕ × List ℕ) → Result Given ConfCause
with_read given None = Ok given
with_read given (Some (name, value)) = with_named given name value

-- one more line
unfoldable pub with_line : Given → List ℕ → Result Given ConfCause
with_line given line = line_gives line >>= with_read given
