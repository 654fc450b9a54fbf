-- What is counted of paths that are given one after another.
use Rattle.std.proofs.Common.{append_assoc, ◌≡◌, ℕ, ◌+◌, ◌-◌, ◌^◌, ◌≤◌, Bool, true, false, cond, List, [], ◌∷◌, ◌++◌, length, take, drop, Option, Some, None, Ok, Err, IfSome, refl, sym, ap, subst, ◌∙◌, append-nil, length-append, length-drop, arith}
use Rattle.std.specs.Prelude.{sum_by, slice_index, ◌==◌, IsSome}
use Rattle.std.proofs.lemmas.List.Sums.{sum_by_push}
use Rattle.std.proofs.Math.Seq.{take-nil}
use Rattle.std.specs.FinMap as map
use Rattle.path_order.specs.Path.{joined}
use Rattle.loc_outside.specs.Causes.{raised}
use Rattle.loc_outside.specs.Files.{Files}
use Rattle.loc_outside.specs.Outside.{OpensAs}
use Rattle.loc_outside.specs.declared.traits.bytes.Opened.{Opened}
use Rattle.loc_outside.specs.declared.traits.bytes.Opened.TheVariants.{Found, Missing}
use Rattle.byte_feed.specs.declared.damage.DbFault.TheVariants as faults
use Rattle.byte_feed.specs.Front.{Window, limit, items_of, items_within}
use Rattle.byte_feed.specs.Feed.{FeedState, empty_at, window, so_far, reach, Draws}
use Rattle.byte_feed.specs.Endings.{Ending, StopsAt}
use Rattle.byte_feed.specs.Paths.{PathAt, ToCome, after_paths, no_paths, rest_of}
use Rattle.byte_feed.specs.Calls.{Moved, MovedKnown, EndsKnown}
use Rattle.byte_feed.proofs.Rests.{moved_none}
use Rattle.any_db.specs.Formats.{format_of, to_come_in, contents_of_part}
use Rattle.any_db.specs.Reader.{fresh, paths_left, feed_of}
use Rattle.any_db.specs.declared.any_reader.AnyReader.{AnyReader}
use Rattle.locate_engine.specs.declared.outcome.Outcome.{Outcome}
use Rattle.locate_engine.specs.declared.outcome.Outcome.TheVariants as outcomes
use Rattle.locate_engine.specs.declared.counting.Stats.{Stats}
use Rattle.locate_engine.specs.Files.{ReadsWithin}
use Rattle.locate_engine.specs.Searched.{outcome_of, is_read_fault, seen_in}
use Rattle.locate_engine.specs.Statistics.{name_len, counted, stats_of, no_stats, stats_after, Counts, CountsFile, CountsFound, DamagedAt, Fits}
use Rattle.locate_engine.specs.Streamed.{CountsKnown, seen_of}
use Rattle.locate_engine.proofs.Drawn.{once_opened, seen_by, seen_later}
use Rattle.locate_engine.proofs.Endings.{off_on, on_off}
use Rattle.locate_engine.proofs.Told.{if_found, if_missing}

-- ---- names

-- the length of what stands before a name in the directory of so many bytes
pub before_root : (path : List ℕ) (n : ℕ) → n ≡ 1 → n ≤ length path → slice_index path 0 ≡ 47 → 1 ≡ length (joined (take n path) [])
before_root [] n one fits slash = absurd (omega (arith, one, fits))
before_root (byte ∷ path) n one fits slash = rw (one, slash) refl

pub slash_or_not : (b : Bool) (xs : List ℕ) (n : ℕ) → length xs ≡ n → (b ≡ true → ⊥) → n + 1 ≡ length (cond b (xs ++ []) (xs ++ 47 ∷ []))
slash_or_not true xs n len other = absurd (other refl)
slash_or_not false xs n len other = omega (arith, len, length-append xs (47 ∷ []))

pub name_whole : (p : PathAt) (heads : ℕ) → heads ≡ p.heads → (heads == 0) ≡ true → length p.text ≡ name_len p
name_whole p heads same none = ap (λ (b : Bool). length (cond b p.text (drop (length (joined (take p.dir_len p.text) [])) p.text))) (sym (ap (λ (h : ℕ). h == 0) (sym same) ∙ none))

pub name_entry : (p : PathAt) (heads before : ℕ) → heads ≡ p.heads → (heads == 0) ≡ false → before ≡ length (joined (take p.dir_len p.text) []) → length p.text - before ≡ name_len p
name_entry p heads before same some from =
    ap (λ (n : ℕ). length p.text - n) from ∙ sym (length-drop (length (joined (take p.dir_len p.text) [])) p.text)
    ∙ ap (λ (b : Bool). length (cond b p.text (drop (length (joined (take p.dir_len p.text) [])) p.text))) (sym (ap (λ (h : ℕ). h == 0) (sym same) ∙ some))

-- ---- one path more

-- the paths before, and one more
pub one_more : (given : List PathAt) (p : PathAt) (z : ToCome) → after_paths given (after_paths (p ∷ []) z) ≡ after_paths (given ++ p ∷ []) z
one_more given p z = ap (λ (ps : List PathAt). record { paths = ps; ending = z.ending; place = z.place; heads = z.heads }) (sym (append_assoc given (p ∷ []) z.paths))

pub bytes_more : (given : List PathAt) (p : PathAt) → sum_by name_len (given ++ p ∷ []) ≡ sum_by name_len given + name_len p
bytes_more given p = sum_by_push name_len given p

pub files_more : (given : List PathAt) (p : PathAt) → length (given ++ p ∷ []) ≡ length given + 1
files_more given p = length-append given (p ∷ [])

name_short : (heads dir_len : ℕ) (text : List ℕ) (b : Bool) → length (cond b text (drop (length (joined (take dir_len text) [])) text)) ≤ length text
name_short heads dir_len text true = omega arith
name_short heads dir_len text false = omega (arith, length-drop (length (joined (take dir_len text) [])) text)

-- a name is no longer than its path
pub name_within : (p : PathAt) → name_len p ≤ length p.text
name_within p = name_short p.heads p.dir_len p.text (p.heads == 0)

-- ---- the end of the paths

-- what was counted is what these paths have
told : (given : List PathAt) (files bytes place heads : ℕ) (e : Ending) → files ≡ length given → bytes ≡ sum_by name_len given
    → counted heads files bytes place ≡ stats_of (after_paths given (no_paths place heads e))
told given files bytes place heads e many long =
    let all : given ++ [] ≡ given = append-nil given in
    ap (λ (n : ℕ). counted heads n bytes place) (many ∙ ap (λ (ps : List PathAt). length ps) (sym all))
    ∙ ap (λ (n : ℕ). counted heads (length (given ++ [])) n place) (long ∙ ap (sum_by name_len) (sym all))

module _ (t t' : Window → ToCome) (given : List PathAt) (f f' : FeedState) (files bytes place heads : ℕ) (many : files ≡ length given) (long : bytes ≡ sum_by name_len given) where
  -- the file ended so
  by_ending : (a b : List ℕ) (n : ℕ) (e : Ending) → Moved t t' (after_paths given) f a f' b → t' (window f' b) ≡ no_paths place heads e → is_read_fault (outcome_of e) ≡ false
      → Counts (seen_of t f a n (outcome_of e)) (stats_after (outcome_of e) (counted heads files bytes place)) (outcome_of e)
  by_ending a b n e moved ends read =
      let whole : t (window f a) ≡ after_paths given (no_paths place heads e) = moved.whole ∙ ap (after_paths given) ends in
      let same : seen_of t f a n (outcome_of e) ≡ after_paths given (no_paths place heads e) = ap (λ (r : Bool). t (cond r (so_far f a n) (window f a))) read ∙ whole in
      record {
        counts = ap (stats_after (outcome_of e)) (told given files bytes place heads e many long ∙ ap stats_of (sym same));
        ends = λ _. ap (λ (z : ToCome). outcome_of z.ending) (sym same);
      }

  -- all paths were counted, and then the file ended or the source failed
  pub counts_end : (l l' l'' : Option (List ℕ)) (e : Ending) → MovedKnown t t' (after_paths given) f l f' l' → EndsKnown t' (no_paths place heads) f' l' l'' e
      → CountsKnown t f l l'' (stats_after (outcome_of e) (counted heads files bytes place)) (outcome_of e)
  counts_end None l' l'' e moved ends = tt
  counts_end (Some a) None l'' e moved ends = absurd moved
  counts_end (Some a) (Some b) None e moved ends = absurd ends
  counts_end (Some a) (Some b) (Some c) (Ok x) moved ends = (λ no. absurd (off_on no), by_ending a b (length c) (Ok x) moved ends refl)
  counts_end (Some a) (Some b) (Some c) (Err faults.NotADatabase) moved ends = (λ no. absurd (off_on no), by_ending a b (length c) (Err faults.NotADatabase) moved ends refl)
  counts_end (Some a) (Some b) (Some c) (Err (faults.Damage d)) moved ends = (λ no. absurd (off_on no), by_ending a b (length c) (Err (faults.Damage d)) moved ends refl)
  counts_end (Some a) (Some b) (Some c) (Err faults.TooLarge) moved ends = (λ no. absurd (off_on no), by_ending a b (length c) (Err faults.TooLarge) moved ends refl)
  counts_end (Some a) (Some b) (Some c) (Err faults.ReadFault) moved ends =
      let part : t (so_far f a (length c)) ≡ after_paths given (no_paths place heads ends.ending) = moved.parts ends.goes_on (length c) ends.fewer ∙ ap (after_paths given) ends.nothing in (
        λ _. (moved.goes_on ends.goes_on).0,
        record {
          counts = told given files bytes place heads ends.ending many long ∙ ap stats_of (sym part);
          ends = λ no. absurd (on_off no);
        },
      )

-- ---- a stream that has moved on

-- Nothing was given of the paths before they were counted.
pub counts_before : (t t' : Window → ToCome) (f f' : FeedState) (l l' l'' : Option (List ℕ)) (stats : Stats) (result : Outcome)
    → MovedKnown t t' (λ x. x) f l f' l' → IfSome l' (λ a. IfSome l'' (λ b. length b ≤ length a)) → CountsKnown t' f' l' l'' stats result
    → CountsKnown t f l l'' stats result
counts_before t t' f f' None l' l'' stats result moved fewer done = tt
counts_before t t' f f' (Some a) None l'' stats result moved fewer done = absurd moved
counts_before t t' f f' (Some a) (Some b) None stats result moved fewer done = absurd done
counts_before t t' f f' (Some a) (Some b) (Some c) stats result moved fewer done = (
  λ e. (moved.goes_on (done.0 e)).0,
  subst (λ (seen : ToCome). Counts seen stats result) (seen_later (is_read_fault result) t t' f f' a b (length c) moved done.0 fewer) done.1,
)

-- how much a stream drew is no more than was left
pub drawn_fewer : (f f' : FeedState) (g g' : ℕ) (l l' : Option (List ℕ)) → Draws f f' g g' l l' → IfSome l (λ a. IfSome l' (λ b. length b ≤ length a))
drawn_fewer f f' g g' None l' drawn = tt
drawn_fewer f f' g g' (Some a) None drawn = tt
drawn_fewer f f' g g' (Some a) (Some b) drawn = omega (arith, ap length drawn.rest.1, length-drop (reach f' - reach f) a)

-- ---- what an ending says besides

pub no_database : (e : Ending) (stats : Stats) → outcome_of e ≡ outcomes.NotADatabase → stats_after (outcome_of e) stats ≡ no_stats
no_database e stats is = ap (λ (o : Outcome). stats_after o stats) is

-- Where reading stopped, the damage is.
pub damaged_there : (e : Ending) (f : FeedState) (directories files bytes place : ℕ) → StopsAt f place e → DamagedAt (stats_after (outcome_of e) (counted directories files bytes place)).stored (outcome_of e)
damaged_there (Ok x) f directories files bytes place stops = tt
damaged_there (Err faults.NotADatabase) f directories files bytes place stops = tt
damaged_there (Err (faults.Damage d)) f directories files bytes place stops = stops.0
damaged_there (Err faults.ReadFault) f directories files bytes place stops = tt
damaged_there (Err faults.TooLarge) f directories files bytes place stops = tt

-- what was counted fits, also where it is nothing
pub fits_after : (e : Ending) (stats : Stats) → Fits stats → Fits (stats_after (outcome_of e) stats)
fits_after (Ok x) stats fits = fits
fits_after (Err faults.NotADatabase) stats fits = record { directories = omega arith; files = omega arith; name_bytes = omega arith; stored = omega arith }
fits_after (Err (faults.Damage d)) stats fits = fits
fits_after (Err faults.ReadFault) stats fits = fits
fits_after (Err faults.TooLarge) stats fits = fits

pub nothing_after : (e : Ending) → stats_after (outcome_of e) no_stats ≡ no_stats
nothing_after (Ok x) = refl
nothing_after (Err faults.NotADatabase) = refl
nothing_after (Err (faults.Damage d)) = refl
nothing_after (Err faults.ReadFault) = refl
nothing_after (Err faults.TooLarge) = refl

pub nothing_fits : Fits no_stats
nothing_fits = record { directories = omega arith; files = omega arith; name_bytes = omega arith; stored = omega arith }

-- nothing was counted of a file that has no path
pub counts_none : (t : Window → ToCome) (f : FeedState) (l l' : Option (List ℕ)) (e : Ending) → EndsKnown t (no_paths 0 0) f l l' e → CountsKnown t f l l' no_stats (outcome_of e)
counts_none t f l l' e ends =
    subst (λ (stats : Stats). CountsKnown t f l l' stats (outcome_of e)) (nothing_after e)
    (counts_end t t [] f f 0 0 0 0 refl refl l l l' e (moved_none t f l) ends)

pub damaged_none : (e : Ending) (f : FeedState) → StopsAt f 0 e → DamagedAt 0 (outcome_of e)
damaged_none (Ok x) f stops = tt
damaged_none (Err faults.NotADatabase) f stops = tt
damaged_none (Err (faults.Damage d)) f stops = stops.0
damaged_none (Err faults.ReadFault) f stops = tt
damaged_none (Err faults.TooLarge) f stops = tt

-- ---- of a whole file

-- What was counted from the first byte on was counted of the file.
counts_file : (f : FeedState) (l l' : Option (List ℕ)) (g g' : ℕ) (stats : Stats) (result : Outcome) → CountsKnown to_come_in (empty_at 0) l l' stats result → Draws (empty_at 0) f g g' l l' → reach f ≤ 2 ^ 40
    → IfSome l (λ file. (result ≡ outcomes.ReadFault → g ≤ 2 ^ 63) → Counts (seen_in file (g' - g) result) stats result)
counts_file f None l' g g' stats result done drawn far = tt
counts_file f (Some file) None g g' stats result done drawn far = absurd done
counts_file f (Some file) (Some left) g g' stats result done drawn far = λ small. subst (λ (z : ToCome). Counts z stats result) (seen_by f g g' file left result drawn far small) done.1

-- what a reader that had read nothing counted it counted of the file
counts_opened : (r : AnyReader) → r ≡ fresh → (f : FeedState) (l l' : Option (List ℕ)) (g g' : ℕ) (stats : Stats) (result : Outcome)
    → CountsKnown (paths_left r.stage) (feed_of r.stage) l l' stats result → Draws (feed_of r.stage) f g g' l l' → reach f ≤ 2 ^ 40
    → IfSome l (λ file. (result ≡ outcomes.ReadFault → g ≤ 2 ^ 63) → Counts (seen_in file (g' - g) result) stats result)
counts_opened r e f l l' g g' stats result done drawn far =
    counts_file f l l' g g' stats result (subst (λ (q : AnyReader). CountsKnown (paths_left q.stage) (feed_of q.stage) l l' stats result) e done)
    (subst (λ (q : AnyReader). Draws (feed_of q.stage) f g g' l l') e drawn) far

file_counted : (l : Option (List ℕ)) (g g' : ℕ) (stats : Stats) (result : Outcome) → IfSome l (λ file. (result ≡ outcomes.ReadFault → g ≤ 2 ^ 63) → Counts (seen_in file (g' - g) result) stats result)
    → IfSome l (λ file. ReadsWithin file g g' result) → (result ≡ outcomes.Missing → ⊥) → IfSome l (λ file. CountsFile file g g' stats result)
file_counted None g g' stats result done read there = tt
file_counted (Some file) g g' stats result done read there = record { exact = done; read = read; there = there }

pub opened_counted : (r : AnyReader) → r ≡ fresh → (f : FeedState) (l l' : Option (List ℕ)) (g g' : ℕ) (stats : Stats) (result : Outcome)
    → CountsKnown (paths_left r.stage) (feed_of r.stage) l l' stats result → Draws (feed_of r.stage) f g g' l l' → reach f ≤ 2 ^ 40
    → (result ≡ outcomes.Whole → f.ended ≡ true) → (result ≡ outcomes.TooLarge → reach f ≡ 2 ^ 40) → (result ≡ outcomes.Missing → ⊥)
    → IfSome l (λ file. CountsFile file g g' stats result)
opened_counted r e f l l' g g' stats result done drawn far whole large there =
    file_counted l g g' stats result (counts_opened r e f l l' g g' stats result done drawn far) (once_opened r e f g g' l l' result drawn whole large) there

-- all up to the limit was drawn
drawn_whole : (f : FeedState) (g g' : ℕ) (l l' : Option (List ℕ)) → Draws (empty_at 0) f g g' l l' → reach f ≡ 2 ^ 40 → g' ≡ raised g (2 ^ 40)
drawn_whole f g g' l l' drawn far =
    let all : reach f - reach (empty_at 0) ≡ 2 ^ 40 = omega (arith, far) in
    drawn.count ∙ ap (raised g) all

pub whole_drawn : (r : AnyReader) → r ≡ fresh → (f : FeedState) (l l' : Option (List ℕ)) (g g' : ℕ) → Draws (feed_of r.stage) f g g' l l' → reach f ≡ 2 ^ 40 → g' ≡ raised g (2 ^ 40)
whole_drawn r e f l l' g g' drawn far = drawn_whole f g g' l l' (subst (λ (q : AnyReader). Draws (feed_of q.stage) f g g' l l') e drawn) far

-- ---- a file that could not be opened

no_bytes : (more : Bool) → stats_of (to_come_in (record { bytes = []; more = more })) ≡ no_stats
unfolding to_come_in format_of rest_of items_of items_within
no_bytes more = refl

nothing_given : (n : ℕ) (file : List ℕ) → n ≡ 0 → stats_of (contents_of_part n file) ≡ no_stats
nothing_given n file none =
    let all : record { bytes = take limit (take n file); more = true } ≡ record { bytes = []; more = true } = ap (λ (bytes : List ℕ). record { bytes = bytes; more = true }) (ap (λ (k : ℕ). take limit (take k file)) none ∙ take-nil limit) in
    ap (λ (w : Window). stats_of (to_come_in w)) all ∙ no_bytes true

counts_unopened : (g g' : ℕ) → g' ≡ g → (file : List ℕ) → CountsFile file g g' no_stats outcomes.ReadFault
counts_unopened g g' same file = record {
  exact = λ small. record {
    counts = sym (nothing_given (g' - g) file (omega (arith, same)));
    ends = λ no. absurd (on_off no);
  };
  read = record { most = omega (arith, same); whole = λ e. absurd cc; too_large = λ e. absurd cc };
  there = λ e. absurd cc;
}

unopened_found : (found : Option (List ℕ)) (g g' : ℕ) → g' ≡ g → CountsFound found g g' no_stats outcomes.ReadFault
unopened_found None g g' same = record { ended = refl; unread = same; none = refl }
unopened_found (Some file) g g' same = counts_unopened g g' same file

pub counts_failed : (files : Option Files) (name : List ℕ) (g g' : ℕ) → g' ≡ g → IfSome files (λ files. CountsFound (map.get files name) g g' no_stats outcomes.ReadFault)
counts_failed None name g g' same = tt
counts_failed (Some files) name g g' same = unopened_found (map.get files name) g g' same

-- ---- a file that is not there

pub counts_missing : (files : Option Files) (name : List ℕ) (left : Option (List ℕ)) (g g' : ℕ) → g' ≡ g → (o : Opened) → o ≡ Missing → OpensAs files name (Ok o) left
    → IfSome files (λ files. CountsFound (map.get files name) g g' no_stats outcomes.Missing)
counts_missing files name left g g' same o missing opened =
    if_missing files name left (λ found. CountsFound found g g' no_stats outcomes.Missing) o missing opened (record { ended = refl; unread = same; none = refl })

-- ---- a file that was found

there_counted : (found : Option (List ℕ)) (g g' : ℕ) (stats : Stats) (result : Outcome) → IsSome found → IfSome found (λ file. CountsFile file g g' stats result) → CountsFound found g g' stats result
there_counted None g g' stats result there done = absurd (off_on there)
there_counted (Some file) g g' stats result there done = done

pub counts_found : (files : Option Files) (name : List ℕ) (left : Option (List ℕ)) (g mid g' : ℕ) (stats : Stats) (result : Outcome) → mid ≡ g → (o : Opened) → o ≡ Found → OpensAs files name (Ok o) left
    → IfSome left (λ file. CountsFile file mid g' stats result) → IfSome files (λ files. CountsFound (map.get files name) g g' stats result)
counts_found files name left g mid g' stats result same o found opened done =
    if_found files name left (λ there. CountsFound there g g' stats result) o found opened
    (λ some. there_counted left g g' stats result some (subst (λ (n : ℕ). IfSome left (λ file. CountsFile file n g' stats result)) same done))
