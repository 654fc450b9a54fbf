-- Where the name of a path begins.
use Rattle.std.specs.Prelude.{◌≡◌, ℕ, ◌-◌, ◌≤◌, ◌<◌, false, List, length, slice_index_or}
use Rattle.path_order.specs.Path.{is_slash}

-- A slash (47) stands before this place, unless it is 0, and none from there on.
pub record IsNameStart (path : List ℕ) (start : ℕ) : Type 0 where
  pub within : start ≤ length path
  pub slash : 0 < start → slice_index_or path (start - 1) 0 ≡ 47
  pub after : (k : ℕ) → start ≤ k → k < length path → is_slash (slice_index_or path k 0) ≡ false
