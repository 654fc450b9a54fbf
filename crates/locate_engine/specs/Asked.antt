-- What becomes of one wanted path: an aid to the proofs of a search.
use Rattle.std.specs.Prelude.{◌≡◌, ℕ, ◌+◌, ◌≤◌, ◌<◌, Bool, ◌&&◌, ◌||◌, not, true, false, [], length, take, Option, Some, None, Result, Ok, Err, nat_eq, if◌then◌else◌, MatchBool}
use Rattle.std.specs.Io.KnownBytes.{Appends}
use Rattle.loc_outside.specs.Causes.{raised}
use Rattle.loc_outside.specs.Gates.{Tests}
use Rattle.byte_feed.specs.Paths.{PathAt}
use Rattle.locate_engine.specs.Passing.{Rule, block_of, dir_of, is_guarded, is_visible, is_there, line_of}
use Rattle.locate_engine.specs.Searched.{Stand}
use Rattle.locate_engine.specs.declared.asking.Block.{Block}
use Rattle.locate_engine.specs.declared.asking.Step.{Step}
use Rattle.locate_engine.specs.declared.asking.Step.TheVariants as steps

-- these are the gate's tests, where the gate is asked
abbrev pub Tells : Bool → Option Tests → Tests → Type 0
Tells asks tests told = asks ≡ true → tests ≡ Some told

-- the gate was asked for the directory of the block of this number last
abbrev pub is_last : Option ℕ → ℕ → Bool
is_last None number = false
is_last (Some last) number = nat_eq number last

-- If the gate was asked for the directory of the path's block last, its answer is kept.
abbrev pub Remembers : Bool → Tests → Block → PathAt → Type 0
Remembers gated tests block p = is_guarded gated p ≡ true → is_last block.number (block_of p) ≡ true → block.shown ≡ tests.shows (dir_of p)

-- What is kept after a path: the answer for its directory, or, where that does not matter, what was kept before.
abbrev pub Knows : Bool → Tests → Block → Block → PathAt → Type 0
Knows gated tests block block' p = MatchBool (is_guarded gated p) ((block'.number ≡ Some (block_of p)) × (block'.shown ≡ tests.shows (dir_of p))) (block' ≡ block)

-- the calls of the gate that are due for a wanted path
abbrev pub block_calls : Bool → Block → PathAt → ℕ
block_calls gated block p = if (is_guarded gated p && not (is_last block.number (block_of p))) then 1 else 0

abbrev pub path_calls : Rule → PathAt → ℕ
path_calls rule p = if (rule.existing && is_visible rule p) then 1 else 0

abbrev pub calls_due : Rule → Block → PathAt → ℕ
calls_due rule block p = block_calls rule.gated block p + path_calls rule p

-- the path may be shown and is there
abbrev pub is_shown : Rule → PathAt → Bool
is_shown rule p = is_visible rule p && is_there rule p

-- What the gate answered of the directory, and how often it was asked.
abbrev pub AsksBlock : {E : Type 0} → Bool → Tests → Block → Block → PathAt → ℕ → ℕ → Result Bool E → Type 0
AsksBlock gated tests block block' p asks asks' (Ok shown) = (shown ≡ (not (is_guarded gated p) || tests.shows (dir_of p))) × (asks' ≡ raised asks (block_calls gated block p)) × Knows gated tests block block' p
AsksBlock gated tests block block' p asks asks' (Err e) = (block_calls gated block p ≡ 1) × (asks' ≡ raised asks 1)

-- The same of the path.
abbrev pub Asks : {E : Type 0} → Rule → Block → Block → PathAt → ℕ → ℕ → Result Bool E → Type 0
Asks rule block block' p asks asks' (Ok shown) = (shown ≡ is_shown rule p) × (asks' ≡ raised asks (calls_due rule block p)) × Knows rule.gated rule.tests block block' p
Asks rule block block' p asks asks' (Err e) = (n : ℕ) × (0 < n) × (n ≤ calls_due rule block p) × (asks' ≡ raised asks n)

-- the path was gone through
pub record Through (rule : Rule) (block block' : Block) (p : PathAt) (old new : Stand) : Type 0 where
  pub prints : Appends old.taken new.taken (if is_shown rule p then line_of rule p else [])
  pub counts : new.matched ≡ old.matched + (if is_shown rule p then 1 else 0)
  pub asks : new.asks ≡ raised old.asks (calls_due rule block p)
  pub knows : Knows rule.gated rule.tests block block' p

-- the gate failed for it
pub record Unanswered (rule : Rule) (block : Block) (p : PathAt) (old new : Stand) : Type 0 where
  pub prints : new.taken ≡ old.taken
  pub counts : new.matched ≡ old.matched
  pub calls : ℕ
  pub some : 0 < calls
  pub were_due : calls ≤ calls_due rule block p
  pub asks : new.asks ≡ raised old.asks calls

-- its line was not written whole
pub record Unwritten (rule : Rule) (block : Block) (p : PathAt) (old new : Stand) : Type 0 where
  pub is_shown : is_shown rule p ≡ true
  pub printed : ℕ
  pub short : printed < length (line_of rule p)
  pub prints : Appends old.taken new.taken (take printed (line_of rule p))
  pub counts : new.matched ≡ old.matched
  pub asks : new.asks ≡ raised old.asks (calls_due rule block p)

-- What a step of a search does to its standing, by how it ends.
abbrev pub Takes : Rule → Block → Block → PathAt → Stand → Stand → Step → Type 0
Takes rule block block' p old new steps.On = Through rule block block' p old new
Takes rule block block' p old new steps.LimitReached = Through rule block block' p old new × (is_shown rule p ≡ true)
Takes rule block block' p old new steps.GateFault = Unanswered rule block p old new
Takes rule block block' p old new steps.WriteFault = Unwritten rule block p old new
