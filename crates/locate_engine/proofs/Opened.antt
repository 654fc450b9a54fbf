-- A search of a file that was just opened.
use Rattle.std.proofs.Common.{◌≡◌, ℕ, ◌-◌, ◌^◌, ◌≤◌, ◌<◌, Bool, true, false, cond, ◌||◌, List, [], length, take, Option, Some, None, Err, IfSome, refl, sym, ap, subst, ◌∙◌, arith}
use Rattle.std.proofs.Math.Seq.{take-nil}
use Rattle.loc_outside.specs.Gates.{Tests}
use Rattle.byte_feed.specs.declared.damage.DbFault.{DbFault}
use Rattle.byte_feed.specs.declared.damage.DbFault.TheVariants as faults
use Rattle.byte_feed.specs.Front.{Window, limit, items_of, items_within}
use Rattle.byte_feed.specs.Feed.{FeedState, empty_at, window, so_far, reach, Draws}
use Rattle.byte_feed.specs.Paths.{ToCome, no_paths, rest_of}
use Rattle.byte_feed.specs.Calls.{Moved, MovedKnown, EndsKnown, PreambleKnown}
use Rattle.byte_feed.proofs.Draws.{draws_then}
use Rattle.byte_feed.proofs.Rests.{moved_none}
use Rattle.any_db.specs.Formats.{format_of, to_come_in, preamble_in, asks_gate, is_gated, contents, contents_of_part}
use Rattle.any_db.specs.Reader.{fresh, feed_of, paths_left}
use Rattle.any_db.specs.declared.any_reader.AnyReader.{AnyReader}
use Rattle.any_db.proofs.Blocks.{one_directory_a_block}
use Rattle.locate_engine.specs.Passing.{Rule, rule_of, tests_asked, OneDirectory}
use Rattle.locate_engine.specs.Searched.{Stand, Progress, gone_through, outcome_of, is_read_fault, seen_in, ComesToEnd, StopsAs, Searches, SearchesTo, SearchesWhole, EndsWithin}
use Rattle.locate_engine.specs.Streamed.{EndsWithinKnown, OneDirectoryLeft, SearchesKnown}
use Rattle.locate_engine.specs.declared.query.Query.{Query}
use Rattle.locate_engine.specs.declared.outcome.Outcome.{Outcome}
use Rattle.locate_engine.specs.declared.outcome.Outcome.TheVariants as outcomes
use Rattle.locate_engine.proofs.Drawn.{fewer_left, seen_by, seen_later, whole_window}
use Rattle.locate_engine.proofs.Endings.{no_limit, no_read_fault, on_off}
use Rattle.locate_engine.proofs.Gone.{went_none}
use Rattle.locate_engine.proofs.Exits.{all_given, ended_end, ended_later}
use Rattle.locate_engine.proofs.Told.{if_each, if_some}
use Rattle.locate_engine.proofs.Whole.{searches_whole}

-- What a search did with a file, by its parts: those of `SearchesPart`.
abbrev pub SearchesTold : (List ℕ → Bool) → (List ℕ → ℕ) → Query → List ℕ → Option Tests → ℕ → ℕ → Stand → Stand → ℕ → ℕ → Outcome → Type 0
SearchesTold wanted bound query file tests given given' old new steps steps' result =
    IfSome (tests_asked (is_gated file || query.existing) tests) (λ told. (result ≡ outcomes.ReadFault → given ≤ 2 ^ 63) →
    SearchesTo (rule_of wanted query (is_gated file) told) bound (seen_in file (given' - given) result) old new steps steps' result (given' - given))

-- whether it asks for visible paths alone
gated_is : (file : List ℕ) (place : ℕ) (gated : Bool) → preamble_in (window (empty_at 0) file) ≡ Some (place, gated) → is_gated file ≡ gated
gated_is file place gated begun = ap (λ (w : Window). asks_gate (preamble_in w)) (sym (whole_window file)) ∙ ap asks_gate begun

-- ---- a file that does not begin

no_bytes : (more : Bool) → (to_come_in (record { bytes = []; more = more })).paths ≡ []
unfolding to_come_in format_of rest_of items_of items_within
no_bytes more = refl

nothing_given : (n : ℕ) (file : List ℕ) → n ≡ 0 → (contents_of_part n file).paths ≡ []
nothing_given n file none =
    let all : record { bytes = take limit (take n file); more = true } ≡ record { bytes = []; more = true } = ap (λ (bytes : List ℕ). record { bytes = bytes; more = true }) (ap (λ (k : ℕ). take limit (take k file)) none ∙ take-nil limit) in
    ap (λ (w : Window). (to_come_in w).paths) all ∙ no_bytes true

no_path_by : (rule : Rule) (bound : List ℕ → ℕ) (old : Stand) (s : ℕ) (seen : ToCome) (result : Outcome) → IfSome rule.limit (λ limit. old.matched < limit) → seen.paths ≡ [] → (is_read_fault result ≡ false → result ≡ outcome_of seen.ending)
    → (ComesToEnd rule seen old.matched (gone_through seen.paths) result → StopsAs rule seen old.matched (gone_through seen.paths) result) → Searches rule bound seen old old s s result
no_path_by rule bound old s seen result below none ends stops = all_given rule bound old old s s below [] seen result (went_none rule bound old s) none ends stops

module _ (wanted : List ℕ → Bool) (bound : List ℕ → ℕ) (query : Query) (tests : Option Tests) (old : Stand) (s : ℕ) (below : IfSome query.limit (λ limit. old.matched < limit)) where
  any_tests : (file : List ℕ) (g g' : ℕ) (result : Outcome) → (result ≡ outcomes.LimitReached → ⊥)
      → ((result ≡ outcomes.ReadFault → g ≤ 2 ^ 63) → (told : Tests) → Searches (rule_of wanted query (is_gated file) told) bound (seen_in file (g' - g) result) old old s s result)
      → SearchesTold wanted bound query file tests g g' old old s s result
  any_tests file g g' result early all =
      if_some (tests_asked (is_gated file || query.existing) tests) (λ told. (result ≡ outcomes.ReadFault → g ≤ 2 ^ 63) → SearchesTo (rule_of wanted query (is_gated file) told) bound (seen_in file (g' - g) result) old old s s result (g' - g))
      (λ told small. record { did = all small told; near = λ is. absurd (early is) })

  -- the file ends so before its first path
  fails_whole : (fault : DbFault) (file : List ℕ) (g g' : ℕ) → to_come_in (window (empty_at 0) file) ≡ no_paths 0 0 (Err fault) → is_read_fault (outcome_of (Err fault)) ≡ false
      → ((rule : Rule) (seen : ToCome) (at : Progress) → ComesToEnd rule seen old.matched at (outcome_of (Err fault)) → StopsAs rule seen old.matched at (outcome_of (Err fault)))
      → SearchesTold wanted bound query file tests g g' old old s s (outcome_of (Err fault))
  fails_whole fault file g g' nothing read stops = any_tests file g g' (outcome_of (Err fault)) (no_limit (Err fault)) (λ small told.
      let seen : seen_in file (g' - g) (outcome_of (Err fault)) ≡ no_paths 0 0 (Err fault) =
      ap (λ (b : Bool). cond b (contents_of_part (g' - g) file) (contents file)) read ∙ ap to_come_in (sym (whole_window file)) ∙ nothing in
      no_path_by (rule_of wanted query (is_gated file) told) bound old s (seen_in file (g' - g) (outcome_of (Err fault))) (outcome_of (Err fault)) below (ap (λ (z : ToCome). z.paths) seen)
      (λ _. ap (λ (z : ToCome). outcome_of z.ending) (sym seen)) (stops (rule_of wanted query (is_gated file) told) _ _))

  fails_by : (fault : DbFault) (f : FeedState) (file left : List ℕ) (g g' : ℕ) → EndsKnown to_come_in (no_paths 0 0) (empty_at 0) (Some file) (Some left) (Err fault) → Draws (empty_at 0) f g g' (Some file) (Some left) → reach f ≤ 2 ^ 40
      → SearchesTold wanted bound query file tests g g' old old s s (outcome_of (Err fault))
  fails_by faults.ReadFault f file left g g' ends drawn far = any_tests file g g' outcomes.ReadFault (λ e. absurd cc) (λ small told.
      let seen : to_come_in (so_far (empty_at 0) file (length left)) ≡ seen_in file (g' - g) outcomes.ReadFault = seen_by f g g' file left outcomes.ReadFault drawn far small in
      no_path_by (rule_of wanted query (is_gated file) told) bound old s (seen_in file (g' - g) outcomes.ReadFault) outcomes.ReadFault below (ap (λ (z : ToCome). z.paths) (sym seen ∙ ends.nothing))
      (λ e. absurd (on_off e)) (λ z. z))
  fails_by faults.NotADatabase f file left g g' ends drawn far = fails_whole faults.NotADatabase file g g' ends refl (λ rule seen at z. z)
  fails_by (faults.Damage d) f file left g g' ends drawn far = fails_whole (faults.Damage d) file g g' ends refl (λ rule seen at z. z)
  fails_by faults.TooLarge f file left g g' ends drawn far = fails_whole faults.TooLarge file g g' ends refl (λ rule seen at z. z)

  fails_known : (fault : DbFault) (f : FeedState) (l l' : Option (List ℕ)) (g g' : ℕ) → EndsKnown to_come_in (no_paths 0 0) (empty_at 0) l l' (Err fault) → Draws (empty_at 0) f g g' l l' → reach f ≤ 2 ^ 40
      → IfSome l (λ file. SearchesTold wanted bound query file tests g g' old old s s (outcome_of (Err fault)))
  fails_known fault f None l' g g' ends drawn far = tt
  fails_known fault f (Some file) None g g' ends drawn far = absurd ends
  fails_known fault f (Some file) (Some left) g g' ends drawn far = fails_by fault f file left g g' ends drawn far

  pub opened_fails : (r : AnyReader) → r ≡ fresh → (fault : DbFault) (f : FeedState) (l l' : Option (List ℕ)) (g g' : ℕ)
      → EndsKnown (paths_left r.stage) (no_paths 0 0) (feed_of r.stage) l l' (Err fault) → Draws (feed_of r.stage) f g g' l l' → reach f ≤ 2 ^ 40
      → IfSome l (λ file. SearchesTold wanted bound query file tests g g' old old s s (outcome_of (Err fault)))
  opened_fails r new fault f l l' g g' ends drawn far =
      fails_known fault f l l' g g' (subst (λ (q : AnyReader). EndsKnown (paths_left q.stage) (no_paths 0 0) (feed_of q.stage) l l' (Err fault)) new ends)
      (subst (λ (q : AnyReader). Draws (feed_of q.stage) f g g' l l') new drawn) far

  -- ---- a file that could not be opened

  pub unopened_file : (file : List ℕ) (g g' : ℕ) → g' ≡ g → SearchesTold wanted bound query file tests g g' old old s s outcomes.ReadFault
  unopened_file file g g' same = any_tests file g g' outcomes.ReadFault (λ e. absurd cc) (λ small told.
      no_path_by (rule_of wanted query (is_gated file) told) bound old s (seen_in file (g' - g) outcomes.ReadFault) outcomes.ReadFault below (nothing_given (g' - g) file (omega (arith, same)))
      (λ e. absurd (on_off e)) (λ z. z))

-- ---- a file that begins

-- Of the paths that come after the first part, those of one block have one directory.
blocks_of : (t : Window → ToCome) (f : FeedState) (file left : List ℕ) (place : ℕ) (gated : Bool) → preamble_in (window (empty_at 0) file) ≡ Some (place, gated) → Moved to_come_in t (λ x. x) (empty_at 0) file f left
    → gated ≡ true → OneDirectory (t (window f left)).paths
blocks_of t f file left place gated begun moved asks p q before between behind all same =
    one_directory_a_block (window (empty_at 0) file) (ap asks_gate begun ∙ asks) p q before between behind (ap (λ (z : ToCome). z.paths) moved.whole ∙ all) same

module _ (wanted : List ℕ → Bool) (bound : List ℕ → ℕ) (query : Query) (tests : Option Tests) (old new : Stand) (s s' : ℕ) (result : Outcome) where
  in_file : (t : Window → ToCome) (f f' : FeedState) (file mid left : List ℕ) (g g' g'' : ℕ) (gated : Bool) → is_gated file ≡ gated
      → Moved to_come_in t (λ x. x) (empty_at 0) file f mid → Draws f f' g' g'' (Some mid) (Some left) → Draws (empty_at 0) f' g g'' (Some file) (Some left) → reach f' ≤ 2 ^ 40
      → IfSome (tests_asked (gated || query.existing) tests) (λ told. SearchesKnown (rule_of wanted query gated told) bound t f (Some mid) (Some left) old new s s' result (reach f'))
      → SearchesTold wanted bound query file tests g g'' old new s s' result
  in_file t f f' file mid left g g' g'' gated same moved more drawn far done =
      subst (λ (b : Bool). IfSome (tests_asked (b || query.existing) tests) (λ told. (result ≡ outcomes.ReadFault → g ≤ 2 ^ 63) → SearchesTo (rule_of wanted query b told) bound (seen_in file (g'' - g) result) old new s s' result (g'' - g))) (sym same)
      (if_each (tests_asked (gated || query.existing) tests)
      (λ told. SearchesKnown (rule_of wanted query gated told) bound t f (Some mid) (Some left) old new s s' result (reach f'))
      (λ told. (result ≡ outcomes.ReadFault → g ≤ 2 ^ 63) → SearchesTo (rule_of wanted query gated told) bound (seen_in file (g'' - g) result) old new s s' result (g'' - g))
      (λ told known small.
      subst (λ (z : ToCome). SearchesTo (rule_of wanted query gated told) bound z old new s s' result (g'' - g))
      (seen_later (is_read_fault result) to_come_in t (empty_at 0) f file mid (length left) moved known.0 (fewer_left f f' g' g'' mid left more) ∙ seen_by f' g g'' file left result drawn far small)
      (record { did = known.1.did; near = λ is. omega (arith, known.1.near is, drawn.count) }))
      done)

  found_known : (t : Window → ToCome) (f f' : FeedState) (l l' l'' : Option (List ℕ)) (g g' g'' place : ℕ) (gated : Bool) → PreambleKnown preamble_in (empty_at 0) l place gated
      → MovedKnown to_come_in t (λ x. x) (empty_at 0) l f l' → Draws (empty_at 0) f g g' l l' → Draws f f' g' g'' l' l'' → reach f' ≤ 2 ^ 40
      → (OneDirectoryLeft gated t f l' → IfSome (tests_asked (gated || query.existing) tests) (λ told. SearchesKnown (rule_of wanted query gated told) bound t f l' l'' old new s s' result (reach f')))
      → IfSome l (λ file. SearchesTold wanted bound query file tests g g'' old new s s' result)
  found_known t f f' None l' l'' g g' g'' place gated begun moved drawn more far done = tt
  found_known t f f' (Some file) None l'' g g' g'' place gated begun moved drawn more far done = absurd moved
  found_known t f f' (Some file) (Some mid) None g g' g'' place gated begun moved drawn more far done = absurd more.rest
  found_known t f f' (Some file) (Some mid) (Some left) g g' g'' place gated begun moved drawn more far done =
      in_file t f f' file mid left g g' g'' gated (gated_is file place gated begun) moved more (draws_then (empty_at 0) f f' g g' g'' (Some file) (Some mid) (Some left) drawn more) far
      (done (blocks_of t f file mid place gated begun moved))

  pub opened_searched : (r : AnyReader) → r ≡ fresh → (t : Window → ToCome) (f f' : FeedState) (l l' l'' : Option (List ℕ)) (g g' g'' place : ℕ) (gated : Bool) → PreambleKnown preamble_in (feed_of r.stage) l place gated
      → MovedKnown (paths_left r.stage) t (λ x. x) (feed_of r.stage) l f l' → Draws (feed_of r.stage) f g g' l l' → Draws f f' g' g'' l' l'' → reach f' ≤ 2 ^ 40
      → (OneDirectoryLeft gated t f l' → IfSome (tests_asked (gated || query.existing) tests) (λ told. SearchesKnown (rule_of wanted query gated told) bound t f l' l'' old new s s' result (reach f')))
      → IfSome l (λ file. SearchesTold wanted bound query file tests g g'' old new s s' result)
  opened_searched r new' t f f' l l' l'' g g' g'' place gated begun moved drawn more far done =
      found_known t f f' l l' l'' g g' g'' place gated (subst (λ (q : AnyReader). PreambleKnown preamble_in (feed_of q.stage) l place gated) new' begun)
      (subst (λ (q : AnyReader). MovedKnown (paths_left q.stage) t (λ x. x) (feed_of q.stage) l f l') new' moved) (subst (λ (q : AnyReader). Draws (feed_of q.stage) f g g' l l') new' drawn) more far done

  -- ---- where no call failed

  pub whole_file : (file : List ℕ) (g g' : ℕ) → SearchesTold wanted bound query file tests g g' old new s s' result → (result ≡ outcomes.ReadFault → ⊥) → (result ≡ outcomes.GateFault → ⊥) → (result ≡ outcomes.WriteFault → ⊥)
      → IfSome (tests_asked (is_gated file || query.existing) tests) (λ told. SearchesWhole (rule_of wanted query (is_gated file) told) (contents file) old new result)
  whole_file file g g' done read gate write =
      let seen : seen_in file (g' - g) result ≡ contents file = ap (λ (b : Bool). cond b (contents_of_part (g' - g) file) (contents file)) (no_read_fault result read) in
      if_each (tests_asked (is_gated file || query.existing) tests)
      (λ told. (result ≡ outcomes.ReadFault → g ≤ 2 ^ 63) → SearchesTo (rule_of wanted query (is_gated file) told) bound (seen_in file (g' - g) result) old new s s' result (g' - g))
      (λ told. SearchesWhole (rule_of wanted query (is_gated file) told) (contents file) old new result)
      (λ told known. searches_whole (rule_of wanted query (is_gated file) told) bound (contents file) old new s s' result
      (subst (λ (z : ToCome). Searches (rule_of wanted query (is_gated file) told) bound z old new s s' result) seen (known (λ e. absurd (read e))).did) read gate write)
      done

-- ---- whatever the gate answers

module _ (bound : List ℕ → ℕ) (s s' : ℕ) (result : Outcome) where
  ended_file : (l : Option (List ℕ)) → EndsWithinKnown bound to_come_in (empty_at 0) l s s' result → IfSome l (λ file. EndsWithin bound (contents file) s s' result)
  ended_file None done = tt
  ended_file (Some file) done = subst (λ (w : Window). EndsWithin bound (to_come_in w) s s' result) (whole_window file) done

  pub ended_searched : (r : AnyReader) → r ≡ fresh → (t : Window → ToCome) (f : FeedState) (l l' : Option (List ℕ)) → MovedKnown (paths_left r.stage) t (λ x. x) (feed_of r.stage) l f l' → EndsWithinKnown bound t f l' s s' result
      → IfSome l (λ file. EndsWithin bound (contents file) s s' result)
  ended_searched r new t f l l' moved done =
      ended_file l (ended_later bound to_come_in t (empty_at 0) f l l' s s' result (subst (λ (q : AnyReader). MovedKnown (paths_left q.stage) t (λ x. x) (feed_of q.stage) l f l') new moved) done)

pub ended_begin : (bound : List ℕ → ℕ) (s : ℕ) (r : AnyReader) → r ≡ fresh → (fault : DbFault) (l l' : Option (List ℕ)) → EndsKnown (paths_left r.stage) (no_paths 0 0) (feed_of r.stage) l l' (Err fault)
    → IfSome l (λ file. EndsWithin bound (contents file) s s (outcome_of (Err fault)))
ended_begin bound s r new fault l l' ends =
    ended_file bound s s (outcome_of (Err fault)) l
    (ended_end bound to_come_in to_come_in (empty_at 0) (empty_at 0) [] l l l' s s (omega arith) 0 0 (Err fault) (moved_none to_come_in (empty_at 0) l)
    (subst (λ (q : AnyReader). EndsKnown (paths_left q.stage) (no_paths 0 0) (feed_of q.stage) l l' (Err fault)) new ends))
