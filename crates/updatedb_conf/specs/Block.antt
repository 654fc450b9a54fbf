-- The configuration block of an mlocate database, as mlocate.db(5) describes it: variables with their values. The
-- variable `recent_margin` is this project's own.
use Rattle.std.specs.Prelude.{ℕ, ◌==◌, Bool, List, [], ◌∷◌, ◌++◌, codes, decimal, if◌then◌else◌}
use Rattle.std.specs.List.{flat_map}
use Rattle.updatedb_conf.specs.Settings.{Settings}
use Rattle.updatedb_conf.specs.Words.{members}

-- a text and its zero byte
abbrev pub zero_ended : List ℕ → List ℕ
zero_ended text = text ++ 0 ∷ []

-- a variable: its name, its values, and a zero byte
abbrev pub variable : List ℕ → List (List ℕ) → List ℕ
variable name values = zero_ended name ++ (flat_map zero_ended values ++ 0 ∷ [])

-- the value of a flag
abbrev pub flag_text : Bool → List ℕ
flag_text flag = if flag then codes "1" else codes "0"

-- the margin stands there exactly where it is not 3
abbrev pub margin_variable : ℕ → List ℕ
margin_variable margin = if margin == 3 then [] else variable (codes "recent_margin") (decimal margin ∷ [])

-- the words of each set stand in byte order, each once
unfoldable pub block : Settings → List ℕ
block settings =
    variable (codes "prune_bind_mounts") (flag_text settings.bind ∷ [])
    ++ variable (codes "prunefs") (members settings.fs)
    ++ variable (codes "prunenames") (members settings.names)
    ++ variable (codes "prunepaths") (members settings.paths)
    ++ margin_variable settings.margin
