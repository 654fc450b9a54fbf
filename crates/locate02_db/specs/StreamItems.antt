-- What a stream gives of an entry.
use Rattle.std.specs.Prelude.{◌≡◌, ℕ, ◌-◌, ◌<◌, ◌≤◌, List, length, take, drop}
use Rattle.byte_feed.specs.Field.{IsPlain, max_path}
use Rattle.locate02_db.specs.declared.stream.Prefix.{Prefix}
use Rattle.locate02_db.specs.Items.{Item, PathItem, shared_by}

-- the item whose path lies here
abbrev pub item_in : List ℕ → Prefix → Item
item_in path p = PathItem p.change (drop p.shared path)

-- a path was put in place of another, of which it keeps so many bytes
pub record Replaces (old : ℕ) (path : List ℕ) (p : Prefix) (path' : List ℕ) : Type 0 where
  pub shared : p.shared ≡ shared_by old p.change
  pub within : p.shared ≤ length path
  pub fits : p.shared ≤ max_path
  pub keeps : take p.shared path' ≡ take p.shared path
  pub plain : IsPlain (max_path - p.shared) (drop p.shared path')
  pub some : 0 < length path'
