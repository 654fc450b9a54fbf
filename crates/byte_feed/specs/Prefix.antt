-- What front compression shares between a path and the one before it.
use Rattle.std.specs.Prelude.{ℕ, List, nat_eq}
use Rattle.std.specs.List.{common_prefix_len}

-- how many bytes two texts have in common from the front on
abbrev pub common_prefix : List ℕ → List ℕ → ℕ
common_prefix before text = common_prefix_len nat_eq before text
