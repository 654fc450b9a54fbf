-- The compiled parts of an expression.
use Rattle.std.specs.Prelude.{◌≡◌, ℕ, ◌≤◌, min, List, Option, Some, None}
use Rattle.posix_regex.specs.declared.fragment.Fragment.{Fragment}
use Rattle.posix_regex.specs.Expression.{Expression, size}
use Rattle.posix_regex.specs.Program.{Item, items_of}

-- the size is right up to one above the greatest allowed, and the items are right where the size is allowed
pub record IsSized (kept : ℕ) (items : List Item) (expression : Expression) : Type 0 where
  pub cut_size : kept ≡ min (size expression) 4097
  pub written : size expression ≤ 4096 → items ≡ items_of expression

-- a fragment stands for an expression
abbrev pub Stands : Fragment → Expression → Type 0
Stands fragment expression = IsSized fragment.size fragment.states expression

-- the same where there may be none
abbrev pub StandsIfSome : Option Fragment → Option Expression → Type 0
StandsIfSome None None = Unit {0}
StandsIfSome (Some fragment) (Some expression) = Stands fragment expression
StandsIfSome None (Some expression) = ⊥
StandsIfSome (Some fragment) None = ⊥
