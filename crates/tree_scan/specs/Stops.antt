-- What a scan has written where it stops.
use Rattle.std.specs.Prelude.{IsTrue, ◌≡◌, ◌≤◌, All, Contains, ◌<◌, ◌⊎◌, ℕ, Bool, false, not, filter, IsSomeAnd, slice_get, List, [], ◌++◌, length, take, flat_map, Option, Some}
use Rattle.std.specs.Ordering.{is_lt}
use Rattle.std.specs.FinMap.{get, entries}
use Rattle.std.specs.Io.KnownBytes.{Appends}
use Rattle.path_order.specs.Order.{path_cmp}
use Rattle.path_order.specs.Stamp.{Moment}
use Rattle.loc_outside.specs.Outside.{AppendsPart}
use Rattle.loc_outside.specs.Trees.{Dir, Dirs}
use Rattle.tree_scan.specs.declared.rules.Limits.{Limits}
use Rattle.tree_scan.specs.Blocks.{block, time_of, header, lines}
use Rattle.tree_scan.specs.Plan.{Plan}
use Rattle.tree_scan.specs.Reach.{reached, tried}
use Rattle.tree_scan.specs.Records.{Record, is_vouched, unvouched}
use Rattle.tree_scan.specs.Steps.{child_paths}

-- what the sink and the echo have taken, where they tell it
pub record Taken : Type 0 where
  pub sink : Option (List ℕ)
  pub echo : Option (List ℕ)

abbrev pub taken : Option (List ℕ) → Option (List ℕ) → Taken
taken sink echo = record { sink = sink; echo = echo }

-- nothing was written and echoed
pub record WroteNone (old new : Taken) : Type 0 where
  pub blocks : Appends old.sink new.sink []
  pub lined : Appends old.echo new.echo []

-- the header and the blocks of these directories were written, and their lines echoed
pub record WroteBlocks (plan : Plan) (now : Moment) (es : List (List ℕ × Dir)) (old new : Taken) : Type 0 where
  pub blocks : Appends old.sink new.sink (header plan ++ flat_map (block plan now) es)
  pub lined : Appends old.echo new.echo (flat_map (lines plan) es)

-- So many of the first pieces were written whole, and a first part of their lines was echoed: no line comes before its
-- piece.
pub record LinesFollow (pieces : List (List ℕ × List ℕ)) (old new : Taken) : Type 0 where
  pub count : ℕ
  pub within : count ≤ length pieces
  pub more : List ℕ
  pub written : Appends old.sink new.sink (flat_map (λ p. p.0) (take count pieces) ++ more)
  pub lined : AppendsPart old.echo new.echo (flat_map (λ p. p.1) (take count pieces))

-- nothing, or the header and the blocks of the first reached directories were written, and their lines echoed
abbrev pub Whole : Dirs → Plan → Moment → Taken → Taken → Type 0
Whole dirs plan now old new = WroteNone old new ⊎ ((n : ℕ) × WroteBlocks plan now (take n (reached dirs plan.pruned plan.root)) old new)

-- the directory at a path is not pruned, shows its names, and has more of them than the limit
pub record NamesMore (dirs : Dirs) (pruned : List ℕ → Bool) (limit : ℕ) (path : List ℕ) : Type 0 where
  pub dir : Dir
  pub there : get dirs path ≡ Some dir
  pub unpruned : pruned path ≡ false
  pub shown : dir.hidden ≡ false
  pub longer : limit < length (entries dir.names)

-- some directory shows its names, and has more of them than the limit
pub record ListsMore (dirs : Dirs) (limit : ℕ) : Type 0 where
  pub path : List ℕ
  pub dir : Dir
  pub there : get dirs path ≡ Some dir
  pub shown : dir.hidden ≡ false
  pub longer : limit < length (entries dir.names)

-- each of these directories has at most so many names
abbrev pub Narrow : ℕ → List (List ℕ × Dir) → Type 0
Narrow limit dirs = All (λ e. length (entries e.1.names) ≤ limit) dirs

-- one of these directories has more
pub record HasWide (limit : ℕ) (dirs : List (List ℕ × Dir)) : Type 0 where
  pub path : List ℕ
  pub dir : Dir
  pub there : Contains dirs (path, dir)
  pub longer : limit < length (entries dir.names)

-- those of these directories that show their names
abbrev pub shown_of : List (List ℕ × Dir) → List (List ℕ × Dir)
shown_of es = filter (λ e. not e.1.hidden) es

-- The tried directories before one that is too wide were written.
pub record StopsAtWide (dirs : Dirs) (plan : Plan) (now : Moment) (limit : ℕ) (old new : Taken) : Type 0 where
  pub count : ℕ
  pub wrote : WroteBlocks plan now (shown_of (take count (tried dirs plan.pruned plan.root))) old new
  pub wide : IsSomeAnd (slice_get (tried dirs plan.pruned plan.root) count) (λ e. (e.1.hidden ≡ false) × (limit < length (entries e.1.names)))

-- those of these directories that come before a path, in path order
abbrev pub before : List ℕ → List (List ℕ × Dir) → List (List ℕ × Dir)
before path dirs = filter (λ e. is_lt (path_cmp e.0 path)) dirs

-- A path that is looked up: the root's, or that of a directory that a reached one names and that is not pruned.
abbrev pub IsCandidate : Dirs → (List ℕ → Bool) → List ℕ → List ℕ → Type 0
IsCandidate dirs pruned root path = (path ≡ root) ⊎ (Contains (child_paths (reached dirs pruned root)) path × (pruned path ≡ false))

-- The walk had come to a candidate, and no limit was passed before: the header and the blocks of the reached directories
-- before it were written, and their lines echoed; of these, none that no record vouches for has more names than the
-- limit; and no more directories were tried than the limit.
pub record CameTo (records : List Record) (limits : Limits) (dirs : Dirs) (plan : Plan) (now : Moment) (path : List ℕ) (old new : Taken) : Type 0 where
  pub candidate : IsCandidate dirs plan.pruned plan.root path
  pub wrote : WroteBlocks plan now (before path (reached dirs plan.pruned plan.root)) old new
  pub narrow : Narrow limits.names (unvouched records plan (before path (reached dirs plan.pruned plan.root)))
  pub few : length (before path (tried dirs plan.pruned plan.root)) ≤ limits.directories

-- nothing was written and echoed, or that
abbrev pub StopsAt : List Record → Limits → Dirs → Plan → Moment → Taken → Taken → Type 0
StopsAt records limits dirs plan now old new = WroteNone old new ⊎ ((path : List ℕ) × CameTo records limits dirs plan now path old new)

-- The same where the directory there is reached, has more names than the limit, and, where the voucher answered from all
-- of its records, is not vouched for.
pub record StopsWide (records : List Record) (limits : Limits) (all : Bool) (dirs : Dirs) (plan : Plan) (now : Moment) (old new : Taken) : Type 0 where
  pub path : List ℕ
  pub came : CameTo records limits dirs plan now path old new
  pub wide : NamesMore dirs plan.pruned limits.names path
  pub unvouched : IsTrue all → is_vouched records path (time_of wide.dir.times) (plan.device_of path) ≡ false
