-- What was begun behind the bytes that told the format.
use Rattle.std.proofs.Common.{◌≡◌, ℕ, Bool, true, false, cond, List, length, Option, Some, None, Result, Ok, Err, MatchBool, OnOk, IfErr, refl, ◌∙◌}
use Rattle.byte_feed.specs.declared.damage.DbFault.{DbFault}
use Rattle.byte_feed.specs.Front.{Window}
use Rattle.byte_feed.specs.Feed.{FeedState, window, so_far, empty_at}
use Rattle.byte_feed.specs.Endings.{Ending, is_read_fault}
use Rattle.byte_feed.specs.Paths.{ToCome}
use Rattle.byte_feed.specs.Calls.{Moved, MovedKnown, Broke, EndsKnown, PreambleKnown, NoPreambleKnown}
use Rattle.byte_feed.proofs.Rests.{moved_then, ends_after}
use Rattle.any_db.specs.declared.any_reader.Stage.{Stage}
use Rattle.any_db.specs.declared.any_reader.Stage.TheVariants.{Fresh, Failed, Mlocate, Locate02, Bigram}
use Rattle.any_db.specs.Formats.{to_come_in}
use Rattle.any_db.specs.Reader.{is_fresh, feed_of, paths_left}

pub fresh_is : (s : Stage) → is_fresh s ≡ true → s ≡ Fresh
fresh_is Fresh e = refl
fresh_is (Failed feed) e = absurd cc
fresh_is (Mlocate r) e = absurd cc
fresh_is (Locate02 r) e = absurd cc
fresh_is (Bigram r) e = absurd cc

-- ---- one after the other

abbrev First : Type 0
First = Option (ℕ × Bool)

preamble_after : (t u : Window → First) (f f' : FeedState) (l l' : Option (List ℕ)) (place : ℕ) (gated : Bool) → MovedKnown t u (λ x. x) f l f' l' → PreambleKnown u f' l' place gated → PreambleKnown t f l place gated
preamble_after t u f f' None l' place gated m b = tt
preamble_after t u f f' (Some x) None place gated m b = absurd m
preamble_after t u f f' (Some x) (Some y) place gated m b = m.whole ∙ b

no_preamble_by : (t u : Window → First) (v : Window → ToCome) (bare : Ending → ToCome) (f f' : FeedState) (x y : List ℕ) (n : ℕ) (e : Ending) (fault : Bool) → Moved t u (λ b. b) f x f' y
    → MatchBool fault (Broke v bare f' y n) (v (window f' y) ≡ bare e) → u (cond fault (so_far f' y n) (window f' y)) ≡ None → t (cond fault (so_far f x n) (window f x)) ≡ None
no_preamble_by t u v bare f f' x y n e true m q none = m.parts q.goes_on n q.fewer ∙ none
no_preamble_by t u v bare f f' x y n e false m q none = m.whole ∙ none

no_preamble_after : (t u : Window → First) (v : Window → ToCome) (bare : Ending → ToCome) (f f' : FeedState) (l l' l'' : Option (List ℕ)) (e : DbFault)
    → MovedKnown t u (λ b. b) f l f' l' → EndsKnown v bare f' l' l'' (Err e) → NoPreambleKnown u f' l' l'' e → NoPreambleKnown t f l l'' e
no_preamble_after t u v bare f f' None l' l'' e m q none = tt
no_preamble_after t u v bare f f' (Some x) None l'' e m q none = absurd m
no_preamble_after t u v bare f f' (Some x) (Some y) None e m q none = absurd q
no_preamble_after t u v bare f f' (Some x) (Some y) (Some z) e m q none = no_preamble_by t u v bare f f' x y (length z) (Err e) (is_read_fault (Err e)) m q none

-- ---- behind the bytes that told the format, of a reader that had read nothing

pub preamble_behind : (s : Stage) (first : Window → Option (ℕ × Bool)) (u : Window → Option (ℕ × Bool)) (f : FeedState) (l l' : Option (List ℕ)) (place : ℕ) (gated : Bool) (result : Result (Unit {0}) DbFault) → is_fresh s ≡ true
    → MovedKnown first u (λ b. b) (empty_at 0) l f l' → OnOk result (PreambleKnown u f l' place gated) → OnOk result (PreambleKnown first (feed_of s) l place gated)
preamble_behind Fresh first u f l l' place gated (Ok x) fresh m b = preamble_after first u (empty_at 0) f l l' place gated m b
preamble_behind Fresh first u f l l' place gated (Err e) fresh m b = tt
preamble_behind s first u f l l' place gated result fresh m b = absurd cc

pub paths_behind : (s : Stage) (u v : Window → ToCome) (f f' : FeedState) (l l' l'' : Option (List ℕ)) (result : Result (Unit {0}) DbFault) → is_fresh s ≡ true
    → MovedKnown to_come_in u (λ t. t) (empty_at 0) l f l' → OnOk result (MovedKnown u v (λ t. t) f l' f' l'') → OnOk result (MovedKnown (paths_left s) v (λ t. t) (feed_of s) l f' l'')
paths_behind Fresh u v f f' l l' l'' (Ok x) fresh m b = moved_then to_come_in u v (λ t. t) (λ t. t) (empty_at 0) f f' l l' l'' m b
paths_behind Fresh u v f f' l l' l'' (Err e) fresh m b = tt
paths_behind s u v f f' l l' l'' result fresh m b = absurd cc

pub no_preamble_behind : (s : Stage) (first u : Window → Option (ℕ × Bool)) (v : Window → ToCome) (bare : Ending → ToCome) (f : FeedState) (l l' l'' : Option (List ℕ)) (result : Result (Unit {0}) DbFault) → is_fresh s ≡ true
    → MovedKnown first u (λ b. b) (empty_at 0) l f l' → IfErr result (λ e. EndsKnown v bare f l' l'' (Err e)) → IfErr result (λ e. NoPreambleKnown u f l' l'' e) → IfErr result (λ e. NoPreambleKnown first (feed_of s) l l'' e)
no_preamble_behind Fresh first u v bare f l l' l'' (Ok x) fresh m q none = tt
no_preamble_behind Fresh first u v bare f l l' l'' (Err e) fresh m q none = no_preamble_after first u v bare (empty_at 0) f l l' l'' e m q none
no_preamble_behind s first u v bare f l l' l'' result fresh m q none = absurd cc

pub ended_behind : (s : Stage) (u : Window → ToCome) (bare : Ending → ToCome) (f : FeedState) (l l' l'' : Option (List ℕ)) (result : Result (Unit {0}) DbFault) → is_fresh s ≡ true
    → MovedKnown to_come_in u (λ t. t) (empty_at 0) l f l' → IfErr result (λ e. EndsKnown u bare f l' l'' (Err e)) → IfErr result (λ e. EndsKnown (paths_left s) bare (feed_of s) l l'' (Err e))
ended_behind Fresh u bare f l l' l'' (Ok x) fresh m q = tt
ended_behind Fresh u bare f l l' l'' (Err e) fresh m q = ends_after to_come_in u bare (empty_at 0) f l l' l'' (Err e) m q
ended_behind s u bare f l l' l'' result fresh m q = absurd cc
