-- Which paths a format can hold.
use Rattle.std.specs.Prelude.{ℕ, Bool, true, not, ◌&&◌, ◌==◌, List, Option, position}
use Rattle.std.specs.List.{list_any}
use Rattle.std.specs.Option.{option_map}
use Rattle.path_order.specs.Path.{is_normal, is_root}
use Rattle.db_convert.specs.declared.format.Format.{Format}
use Rattle.db_convert.specs.declared.format.Format.TheVariants as formats
use Rattle.db_convert.specs.declared.format.AdmitCause.{AdmitCause}
use Rattle.db_convert.specs.declared.format.AdmitCause.TheVariants.{Newline, NotNormal}

-- A list of lines holds no newline (10) in a path, and mlocate's database holds normal paths below the root. The others
-- hold each path that a reader gives.
abbrev pub is_admitted : Format → List ℕ → Bool
is_admitted formats.List path = not (list_any (λ b. b == 10) path)
is_admitted formats.Mlocate path = is_normal path && not (is_root path)
is_admitted to path = true

-- Why a format refuses a path. Only two do.
abbrev pub refusal : Format → AdmitCause
refusal formats.List = Newline
refusal to = NotNormal

-- the first path that is refused, by its place from 0, and the cause; none where all are admitted
abbrev pub first_refused : Format → List (List ℕ) → Option (ℕ × AdmitCause)
first_refused to paths = option_map (λ index. (index, refusal to)) (position (λ path. not (is_admitted to path)) paths)
