-- What a stream gives of a path.
use Rattle.std.specs.Prelude.{◌≡◌, ℕ, ◌<◌, Bool, true, false, not, List, [], length, Option, Some, None, Result, Ok, Err, ⊤, ◌⊎◌}
use Rattle.byte_feed.specs.declared.damage.Break.{Break}
use Rattle.byte_feed.specs.declared.damage.Break.TheVariants.{Stopped}
use Rattle.byte_feed.specs.Front.{limit}
use Rattle.byte_feed.specs.Feed.{FeedState, window, Took}
use Rattle.byte_feed.specs.Stream.{is_cut, Breaks}
use Rattle.path_list.specs.Items.{marked, item_at}

-- the file ends here, below the limit
pub record IsAtLast (f : FeedState) : Type 0 where
  pub held : f.held ≡ []
  pub ended : f.ended ≡ true
  pub below : f.offset < limit

-- A path was taken with its mark, or without it where the file ends.
abbrev pub TookPath : ℕ → List ℕ → FeedState → List ℕ → FeedState → List ℕ → Type 0
TookPath mark path f left f' left' = Took f left f' left' (marked mark path) ⊎ (Took f left f' left' path × IsAtLast f')

-- Why no path was taken. Only a path that the file has not ended yet is asked for more bytes.
abbrev pub StopsPath : ℕ → FeedState → List ℕ → ℕ → Break → Type 0
StopsPath mark f left n (Stopped s) = (item_at mark (not (window f left).more) (window f left).bytes ≡ Err s) × (is_cut s ≡ false)
StopsPath mark f left n e = Breaks (item_at mark false) f left n e

-- a path, or the end of the file, or why neither stands there, where the source tells its bytes
abbrev pub PathKnown : ℕ → List ℕ → FeedState → Option (List ℕ) → FeedState → Option (List ℕ) → Result Bool Break → Type 0
PathKnown mark path f None f' left' r = ⊤
PathKnown mark path f (Some l) f' None r = ⊥
PathKnown mark path f (Some l) f' (Some l') (Ok true) = TookPath mark path f l f' l'
PathKnown mark path f (Some l) f' (Some l') (Ok false) = Took f l f' l' [] × IsAtLast f'
PathKnown mark path f (Some l) f' (Some l') (Err e) = StopsPath mark f l (length l') e
