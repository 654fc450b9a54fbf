-- What a question to an old database comes to.
use Rattle.std.specs.Prelude.{◌≡◌, ◌≤◌, ◌+◌, ◌∷◌, filter, ℕ, Bool, true, false, not, ◌&&◌, ◌||◌, ◌==◌, nat_le, IsTrue, List, [], length, Some, None, Result, Ok, IfOk, MatchBool, ⊤, if◌then◌else◌}
use Rattle.std.specs.declared.option.Option.{Option}
use Rattle.std.specs.declared.alloc.AllocError.{AllocError}
use Rattle.std.specs.declared.cmp.Ordering.TheVariants.{Greater}
use Rattle.path_order.specs.NameList.{Listed}
use Rattle.path_order.specs.Order.{path_cmp}
use Rattle.path_order.specs.Stamp.{Moment}
use Rattle.byte_feed.specs.Front.{Window}
use Rattle.byte_feed.specs.Feed.{window, reach}
use Rattle.mlocate_db.specs.declared.db_reader.Stage.TheVariants as stages
use Rattle.mlocate_db.specs.Reader.{is_inside, is_live}
use Rattle.tree_scan.specs.Records.{Vouches, LeavesOf, is_vouched}
use Rattle.dir_reuse.specs.declared.cursor.Cursor.{Cursor}
use Rattle.dir_reuse.specs.declared.seeking.Sought.{Sought}
use Rattle.dir_reuse.specs.declared.seeking.Sought.TheVariants as sought
use Rattle.dir_reuse.specs.Usable.{is_empty, paths_rise}
use Rattle.dir_reuse.specs.Coming.{Placed, not_before, Coming, nothing, coming, coming_at, records_to_come, Skips, StopsKnown}

-- whether anything can come
abbrev pub is_open : Cursor → Bool
is_open c = c.matched && is_live c.reader.stage

-- what is to come: the head in hand, if there is one, is the first
abbrev pub ahead : Cursor → Window → Coming
ahead c w = if is_open c then (if c.at_head then coming_at c.reader w else coming c.reader w) else nothing

-- whether the reader stands where the mark says, with at most 4,096 bytes read ahead, and nothing can come after a failed
-- read
abbrev pub is_sound : Cursor → Bool
is_sound c =
    nat_le (length c.reader.feed.held) 4096 && (not (is_live c.reader.stage) || c.reader.feed.offset == c.reader.place)
    && (not c.at_head || (c.matched && (is_inside c.reader.stage && c.reader.dir_len == length c.reader.path)))
    && (c.unbroken || not (is_open c))

-- no records, or heads that strictly rise
abbrev pub in_order : Coming → Bool
in_order c = is_empty (records_to_come c) || paths_rise c.heads

-- what the answer says of the records that were to come, and what is left of them
pub record AnswersOf (dir : List ℕ) (time : Moment) (device : ℕ) (before after : Coming) (unbroken : Bool) (result : Result Bool AllocError) (into : Listed) : Type 0 where
  pub vouches : IfOk result (λ vouched. MatchBool vouched (Vouches (records_to_come before) dir time device into) (into ≡ []))
  pub none : result ≡ Ok false → IsTrue (in_order before) → IsTrue unbroken → is_vouched (records_to_come before) dir time device ≡ false
  pub leaves : LeavesOf dir (records_to_come before) (in_order before) (records_to_come after) unbroken
  pub ordered : IsTrue (in_order before) → IsTrue (in_order after)

-- ---- what a cursor comes to

abbrev pub SkipsKnown : List ℕ → Cursor → Option (List ℕ) → Cursor → Option (List ℕ) → Type 0
SkipsKnown dir c None c' left' = ⊤
SkipsKnown dir c (Some l) c' None = ⊥
SkipsKnown dir c (Some l) c' (Some l') = Skips dir (ahead c (window c.reader.feed l)) (ahead c' (window c'.reader.feed l'))

abbrev pub CameKnown : List ℕ → Sought → Cursor → Option (List ℕ) → Cursor → Option (List ℕ) → Type 0
CameKnown dir sought.Here c left c' left' = SkipsKnown dir c left c' left'
CameKnown dir sought.Later c left c' left' = SkipsKnown dir c left c' left'
CameKnown dir sought.End c left c' left' = SkipsKnown dir c left c' left'
CameKnown dir sought.Fault c left c' left' = StopsKnown true dir (ahead c) c.reader.feed left left'

-- a head is in hand
pub record HasHead (c : Cursor) : Type 0 where
  pub head : c.at_head ≡ true
  pub matched : c.matched ≡ true
  pub inside : c.reader.stage ≡ stages.Inside
  pub whole : c.reader.dir_len ≡ length c.reader.path
  pub near : c.reader.feed.offset ≡ c.reader.place
  pub held : length c.reader.feed.held ≤ 4096

abbrev pub CameShows : List ℕ → Sought → Cursor → Type 0
CameShows dir sought.Here c = HasHead c × (c.reader.path ≡ dir)
CameShows dir sought.Later c = HasHead c × (path_cmp c.reader.path dir ≡ Greater)
CameShows dir sought.End c = is_open c ≡ false
CameShows dir sought.Fault c = is_open c ≡ false

-- whether the source failed
abbrev pub has_failed : Sought → Bool
has_failed sought.Fault = true
has_failed s = false

-- what an answer says of the records to come, where the source tells its bytes before and after
abbrev pub AnswersTold : List ℕ → Moment → ℕ → Cursor → Option (List ℕ) → Cursor → Option (List ℕ) → Result Bool AllocError → Listed → Type 0
AnswersTold dir time device c None c' left' result into = ⊤
AnswersTold dir time device c (Some l) c' None result into = ⊥
AnswersTold dir time device c (Some l) c' (Some l') result into = AnswersOf dir time device (ahead c (window c.reader.feed l)) (ahead c' (window c'.reader.feed l')) c'.unbroken result into

-- ---- how far a question reads

-- at most 4,096 bytes past the end of the first of these records; where there is none, as far as you like
abbrev pub NearFirst : ℕ → List Placed → Type 0
NearFirst at [] = ⊤
NearFirst at (block ∷ blocks) = at ≤ block.1 + 4096

-- Unless a read failed, the bytes drawn from the source end near the first record to come whose path does not come before
-- this one.
abbrev pub ReadsNear : List ℕ → Cursor → Option (List ℕ) → Cursor → Type 0
ReadsNear dir c None c' = ⊤
ReadsNear dir c (Some l) c' = IsTrue c'.unbroken → NearFirst (reach c'.reader.feed) (filter (not_before dir) (ahead c (window c.reader.feed l)).blocks)
