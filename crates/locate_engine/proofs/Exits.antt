-- How a search goes on from path to path, and how it ends.
use Rattle.std.proofs.Common.{◌≡◌, ℕ, ◌+◌, ◌≤◌, ◌<◌, Bool, true, false, cond, ◌&&◌, ◌||◌, List, [], ◌∷◌, ◌++◌, length, take, Option, Some, None, Ok, Err, IfSome, refl, sym, ap, subst, ◌∙◌, append-nil, arith}
use Rattle.std.proofs.lemmas.List.Sums.{sum_by-append}
use Rattle.std.proofs.KnownBytes.{Appends-trans}
use Rattle.std.specs.Io.KnownBytes.{Appends}
use Rattle.loc_outside.specs.Causes.{raised}
use Rattle.loc_outside.specs.Gates.{Tests}
use Rattle.byte_feed.specs.declared.damage.DbFault.TheVariants as faults
use Rattle.byte_feed.specs.Front.{Window}
use Rattle.byte_feed.specs.Feed.{FeedState, window, so_far}
use Rattle.byte_feed.specs.Endings.{Ending}
use Rattle.byte_feed.specs.Paths.{PathAt, ToCome, after_paths, no_paths}
use Rattle.byte_feed.specs.Calls.{Moved, MovedKnown, EndsKnown}
use Rattle.byte_feed.proofs.Draws.{raised_more}
use Rattle.locate_engine.specs.Passing.{Rule, rule_of, tests_asked, line_of, passing, lines, due, OneDirectory}
use Rattle.locate_engine.specs.Searched.{Stand, gone_through, outcome_of, is_read_fault, steps_over, ComesToEnd, StopsAs, Searches, SearchesTo, end_after, EndsWithin, is_by_end}
use Rattle.locate_engine.specs.Streamed.{EndsWithinKnown, SearchesKnown, seen_of}
use Rattle.locate_engine.specs.Asked.{Tells, Remembers, calls_due, is_shown, Through, Unanswered, Unwritten, Takes}
use Rattle.locate_engine.specs.declared.asking.Block.{Block}
use Rattle.locate_engine.specs.declared.asking.Step.{Step}
use Rattle.locate_engine.specs.declared.query.Query.{Query}
use Rattle.locate_engine.specs.declared.outcome.Outcome.{Outcome}
use Rattle.locate_engine.specs.declared.outcome.Outcome.TheVariants as outcomes
use Rattle.locate_engine.proofs.Endings.{off_on, on_off}
use Rattle.locate_engine.proofs.Gone.{Went, Holds, went_none, went_yes, went_no, holds_none, holds_yes, holds_no, remembers_next, due_yes, steps_one}

end_more : (k : ℕ) (given : List PathAt) (p : PathAt) → end_after k (given ++ p ∷ []) ≡ p.place
end_more k [] p = refl
end_more k (q ∷ given) p = end_more q.place given p

most : (due calls due' call : ℕ) → due' ≡ due + calls → call ≤ calls → due + call ≤ due'
most due calls due' call e le = omega (arith, e, le)

-- ---- the gate's tests

pub told_if : (asks : Bool) (tests : Option Tests) (P : Tests → Type 0) → ((told : Tests) → Tells asks tests told → P told) → IfSome (tests_asked asks tests) P
told_if true None P all = tt
told_if true (Some told) P all = all told (λ _. refl)
told_if false tests P all = all (record { shows = λ dir. true; exists = λ follow path. true }) (λ lack. absurd cc)

-- what became of a path, by a gate and a stream that are the same as before
pub takes_by : (gated gated' : Bool) (tests tests' : Option Tests) (query : Query) (block block' : Block) (p : PathAt) (old new : Stand) (step : Step) → gated' ≡ gated → tests' ≡ tests
    → ((wanted : List ℕ → Bool) (told : Tests) → Tells (gated' || query.existing) tests' told → Remembers gated' told block p → Takes (rule_of wanted query gated' told) block block' p old new step)
    → (wanted : List ℕ → Bool) (told : Tests) → Tells (gated || query.existing) tests told → Remembers gated told block p → Takes (rule_of wanted query gated told) block block' p old new step
takes_by gated gated' tests tests' query block block' p old new step g t takes =
    subst (λ (b : Bool). (wanted : List ℕ → Bool) (told : Tests) → Tells (b || query.existing) tests told → Remembers b told block p → Takes (rule_of wanted query b told) block block' p old new step) g
    (subst (λ (o : Option Tests). (wanted : List ℕ → Bool) (told : Tests) → Tells (gated' || query.existing) o told → Remembers gated' told block p → Takes (rule_of wanted query gated' told) block block' p old new step) t takes)

-- ---- from path to path

-- what was done of the paths so far, and what is known of the block in hand, where the source tells its bytes
abbrev pub SoFar : Rule → (List ℕ → ℕ) → (Window → ToCome) → FeedState → Option (List ℕ) → List PathAt → Block → Stand → Stand → ℕ → ℕ → Type 0
SoFar rule bound t f left given block old new s s' = IfSome left (λ bytes. Went rule bound old new s s' given × Holds rule (t (window f bytes)).paths given block)

pub so_far_none : (rule : Rule) (bound : List ℕ → ℕ) (t : Window → ToCome) (f : FeedState) (l : Option (List ℕ)) (block : Block) (old : Stand) (s : ℕ) → block.number ≡ None → SoFar rule bound t f l [] block old old s s
so_far_none rule bound t f None block old s none = tt
so_far_none rule bound t f (Some a) block old s none = (went_none rule bound old s, holds_none rule (t (window f a)).paths block none)

module _ (rule : Rule) (bound : List ℕ → ℕ) (t t' : Window → ToCome) (f f' : FeedState) (given : List PathAt) (p : PathAt) (block : Block) (old new : Stand) (s s' s'' : ℕ) (cost : s'' ≤ s' + bound p.text) where
  paths_are : (a b : List ℕ) → Moved t t' (after_paths (given ++ p ∷ [])) f a f' b → (t (window f a)).paths ≡ (given ++ p ∷ []) ++ (t' (window f' b)).paths
  paths_are a b moved = ap (λ (z : ToCome). z.paths) moved.whole

  pub step_no : (l : Option (List ℕ)) → rule.wanted p.text ≡ false → SoFar rule bound t f l given block old new s s' → SoFar rule bound t f l (given ++ p ∷ []) block old new s s''
  step_no None lack before = tt
  step_no (Some a) lack before = (went_no rule bound old new s s' s'' given p before.0 cost lack, holds_no rule (t (window f a)).paths given block p before.1 lack)

  module _ (want : rule.wanted p.text ≡ true) where
    pub step_yes : (l l' : Option (List ℕ)) (block' : Block) (new' : Stand) → MovedKnown t t' (after_paths (given ++ p ∷ [])) f l f' l' → (rule.gated ≡ true → IfSome l (λ a. OneDirectory (t (window f a)).paths))
        → SoFar rule bound t f l given block old new s s' → (Remembers rule.gated rule.tests block p → Through rule block block' p new new') → SoFar rule bound t f l (given ++ p ∷ []) block' old new' s s''
    step_yes None l' block' new' moved one before through = tt
    step_yes (Some a) None block' new' moved one before through = absurd moved
    step_yes (Some a) (Some b) block' new' moved one before through =
        let done : Through rule block block' p new new' = through (remembers_next rule (t (window f a)).paths given block p before.1 (t' (window f' b)).paths (paths_are a b moved)) in
        (went_yes rule bound old new s s' s'' given p before.0 cost block block' new' want before.1.last done, holds_yes rule (t (window f a)).paths given block p before.1 block' want one done.knows)

    -- the count came to the limit
    limit_at : (a b : List ℕ) (block' : Block) (new' : Stand) → Moved t t' (after_paths (given ++ p ∷ [])) f a f' b → (rule.gated ≡ true → OneDirectory (t (window f a)).paths)
        → Went rule bound old new s s' given × Holds rule (t (window f a)).paths given block → (Remembers rule.gated rule.tests block p → Through rule block block' p new new' × (is_shown rule p ≡ true))
        → rule.limit ≡ Some new'.matched → (far : ℕ) → far ≤ p.place + 20480 → SearchesTo rule bound (t (window f a)) old new' s s'' outcomes.LimitReached far
    limit_at a b block' new' moved one before through limit far near =
        let later : List PathAt = (t' (window f' b)).paths in
        let done = through (remembers_next rule (t (window f a)).paths given block p before.1 later (paths_are a b moved)) in
        let went : Went rule bound old new' s s'' (given ++ p ∷ []) = went_yes rule bound old new s s' s'' given p before.0 cost block block' new' want before.1.last done.0 in
        let zero : due rule (given ++ p ∷ []) ≡ due rule (given ++ p ∷ []) + 0 = omega arith in
        let reached : far ≤ end_after 0 (given ++ p ∷ []) + 20480 = omega (arith, near, end_more 0 given p) in
        record {
          did = record {
            at = gone_through (given ++ p ∷ []);
            behind = later;
            paths = paths_are a b moved ∙ ap (λ (ps : List PathAt). ps ++ later) (sym (append-nil (given ++ p ∷ [])));
            prints = subst (Appends old.taken new'.taken) (sym (append-nil (lines rule (passing rule (given ++ p ∷ []))))) went.prints;
            counts = went.counts;
            asks = went.asks ∙ ap (raised old.asks) zero;
            within = subst (λ (ps : List PathAt). s'' ≤ s + steps_over bound ps) (sym (append-nil (given ++ p ∷ []))) went.within;
            stops = record { before = given; last = p; gone = refl; passed = ap (λ (b : Bool). b && is_shown rule p) want ∙ done.1; limit = limit };
          };
          near = λ _. reached;
        }

    pub searches_limit : (l l' : Option (List ℕ)) (block' : Block) (new' : Stand) → MovedKnown t t' (after_paths (given ++ p ∷ [])) f l f' l' → (rule.gated ≡ true → IfSome l (λ a. OneDirectory (t (window f a)).paths))
        → SoFar rule bound t f l given block old new s s' → (Remembers rule.gated rule.tests block p → Through rule block block' p new new' × (is_shown rule p ≡ true))
        → rule.limit ≡ Some new'.matched → (far : ℕ) → far ≤ p.place + 20480 → SearchesKnown rule bound t f l l' old new' s s'' outcomes.LimitReached far
    searches_limit None l' block' new' moved one before through limit far near = tt
    searches_limit (Some a) None block' new' moved one before through limit far near = absurd moved
    searches_limit (Some a) (Some b) block' new' moved one before through limit far near = (
      λ lack. absurd (off_on lack),
      limit_at a b block' new' moved one before through limit far near,
    )

    -- the gate failed
    gate_at : (a b : List ℕ) (new' : Stand) → Moved t t' (after_paths (given ++ p ∷ [])) f a f' b
        → Went rule bound old new s s' given × Holds rule (t (window f a)).paths given block → (Remembers rule.gated rule.tests block p → Unanswered rule block p new new')
        → Searches rule bound (t (window f a)) old new' s s'' outcomes.GateFault
    gate_at a b new' moved before failed =
        let later : List PathAt = (t' (window f' b)).paths in
        let done : Unanswered rule block p new new' = failed (remembers_next rule (t (window f a)).paths given block p before.1 later (paths_are a b moved)) in
        let went : Went rule bound old new s s' given = before.0 in
        let more : due rule (given ++ p ∷ []) ≡ due rule given + calls_due rule block p = due_yes rule given p block want before.1.last in
        let told : Option (List ℕ) → Type 0 = λ o. Appends old.taken o (lines rule (passing rule given) ++ []) in
        record {
          at = record { gone = given; hand = p ∷ []; part = []; calls = done.calls };
          behind = later;
          paths = paths_are a b moved;
          prints = subst told (sym done.prints) (subst (Appends old.taken new.taken) (sym (append-nil (lines rule (passing rule given)))) went.prints);
          counts = done.counts ∙ went.counts;
          asks = done.asks ∙ ap (λ (n : ℕ). raised n done.calls) went.asks ∙ raised_more old.asks (due rule given) done.calls;
          within = omega (arith, went.within, cost, steps_one bound given p);
          stops = record {
            here = p;
            in_hand = refl;
            wanted = want;
            unprinted = refl;
            called = done.some;
            was_due = most _ _ _ _ more done.were_due;
          };
        }

    pub searches_gate : (l l' : Option (List ℕ)) (new' : Stand) → MovedKnown t t' (after_paths (given ++ p ∷ [])) f l f' l'
        → SoFar rule bound t f l given block old new s s' → (Remembers rule.gated rule.tests block p → Unanswered rule block p new new') → (far : ℕ) → SearchesKnown rule bound t f l l' old new' s s'' outcomes.GateFault far
    searches_gate None l' new' moved before failed far = tt
    searches_gate (Some a) None new' moved before failed far = absurd moved
    searches_gate (Some a) (Some b) new' moved before failed far = (λ lack. absurd (off_on lack), record { did = gate_at a b new' moved before failed; near = λ e. absurd cc })

    -- a write failed
    write_at : (a b : List ℕ) (new' : Stand) → Moved t t' (after_paths (given ++ p ∷ [])) f a f' b
        → Went rule bound old new s s' given × Holds rule (t (window f a)).paths given block → (Remembers rule.gated rule.tests block p → Unwritten rule block p new new')
        → Searches rule bound (t (window f a)) old new' s s'' outcomes.WriteFault
    write_at a b new' moved before failed =
        let later : List PathAt = (t' (window f' b)).paths in
        let done : Unwritten rule block p new new' = failed (remembers_next rule (t (window f a)).paths given block p before.1 later (paths_are a b moved)) in
        let went : Went rule bound old new s s' given = before.0 in
        let more : due rule (given ++ p ∷ []) ≡ due rule given + calls_due rule block p = due_yes rule given p block want before.1.last in
        record {
          at = record { gone = given; hand = p ∷ []; part = take done.printed (line_of rule p); calls = calls_due rule block p };
          behind = later;
          paths = paths_are a b moved;
          prints = Appends-trans old.taken new.taken new'.taken _ _ went.prints done.prints;
          counts = done.counts ∙ went.counts;
          asks = done.asks ∙ ap (λ (n : ℕ). raised n (calls_due rule block p)) went.asks ∙ raised_more old.asks (due rule given) (calls_due rule block p);
          within = omega (arith, went.within, cost, steps_one bound given p);
          stops = record {
            here = p;
            in_hand = refl;
            passed = ap (λ (b : Bool). b && is_shown rule p) want ∙ done.is_shown;
            called = sym more;
            printed = done.printed;
            short = done.short;
            first = refl;
          };
        }

    pub searches_write : (l l' : Option (List ℕ)) (new' : Stand) → MovedKnown t t' (after_paths (given ++ p ∷ [])) f l f' l'
        → SoFar rule bound t f l given block old new s s' → (Remembers rule.gated rule.tests block p → Unwritten rule block p new new') → (far : ℕ) → SearchesKnown rule bound t f l l' old new' s s'' outcomes.WriteFault far
    searches_write None l' new' moved before failed far = tt
    searches_write (Some a) None new' moved before failed far = absurd moved
    searches_write (Some a) (Some b) new' moved before failed far = (λ lack. absurd (off_on lack), record { did = write_at a b new' moved before failed; near = λ e. absurd cc })

-- ---- the end of the paths

module _ (rule : Rule) (bound : List ℕ → ℕ) (old new : Stand) (s s' : ℕ) (below : IfSome rule.limit (λ limit. new.matched < limit)) where
  -- all that is seen was given
  pub all_given : (given : List PathAt) (seen : ToCome) (result : Outcome) → Went rule bound old new s s' given → seen.paths ≡ given ++ [] → (is_read_fault result ≡ false → result ≡ outcome_of seen.ending)
      → (ComesToEnd rule seen new.matched (gone_through seen.paths) result → StopsAs rule seen new.matched (gone_through seen.paths) result) → Searches rule bound seen old new s s' result
  all_given given seen result went paths ends stops =
      let all : given ≡ seen.paths = sym (paths ∙ append-nil given) in
      let done : Went rule bound old new s s' seen.paths = subst (Went rule bound old new s s') all went in
      let zero : due rule seen.paths ≡ due rule seen.paths + 0 = omega arith in
      record {
        at = gone_through seen.paths;
        behind = [];
        paths = sym (append-nil (seen.paths ++ []) ∙ append-nil seen.paths);
        prints = subst (Appends old.taken new.taken) (sym (append-nil (lines rule (passing rule seen.paths)))) done.prints;
        counts = done.counts;
        asks = done.asks ∙ ap (raised old.asks) zero;
        within = subst (λ (ps : List PathAt). s' ≤ s + steps_over bound ps) (sym (append-nil seen.paths)) done.within;
        stops = stops (record { all = refl; below = below; ends = ends });
      }

  module _ (t t' : Window → ToCome) (f f' : FeedState) (given : List PathAt) (a b : List ℕ) (n place heads : ℕ) (moved : Moved t t' (after_paths given) f a f' b) (went : Went rule bound old new s s' given) where
    by_ending : (e : Ending) → t' (window f' b) ≡ no_paths place heads e → is_read_fault (outcome_of e) ≡ false
        → (ComesToEnd rule (seen_of t f a n (outcome_of e)) new.matched (gone_through (seen_of t f a n (outcome_of e)).paths) (outcome_of e) → StopsAs rule (seen_of t f a n (outcome_of e)) new.matched (gone_through (seen_of t f a n (outcome_of e)).paths) (outcome_of e))
        → Searches rule bound (seen_of t f a n (outcome_of e)) old new s s' (outcome_of e)
    by_ending e ends read stops =
        let whole : t (window f a) ≡ after_paths given (no_paths place heads e) = moved.whole ∙ ap (after_paths given) ends in
        let same : seen_of t f a n (outcome_of e) ≡ t (window f a) = ap (λ (r : Bool). t (cond r (so_far f a n) (window f a))) read in
        all_given given (seen_of t f a n (outcome_of e)) (outcome_of e) went (ap (λ (z : ToCome). z.paths) (same ∙ whole)) (λ _. ap (λ (z : ToCome). outcome_of z.ending) (sym (same ∙ whole))) stops

  -- the paths ended
  pub searches_end : (t t' : Window → ToCome) (f f' : FeedState) (given : List PathAt) (block : Block) (l l' l'' : Option (List ℕ)) (place heads : ℕ) (e : Ending)
      → MovedKnown t t' (after_paths given) f l f' l' → EndsKnown t' (no_paths place heads) f' l' l'' e → SoFar rule bound t f l given block old new s s'
      → (far : ℕ) → SearchesKnown rule bound t f l l'' old new s s' (outcome_of e) far
  searches_end t t' f f' given block None l' l'' place heads e moved ends went far = tt
  searches_end t t' f f' given block (Some a) None l'' place heads e moved ends went far = absurd moved
  searches_end t t' f f' given block (Some a) (Some b) None place heads e moved ends went far = absurd ends
  searches_end t t' f f' given block (Some a) (Some b) (Some c) place heads (Ok x) moved ends went far = (λ lack. absurd (off_on lack), record { did = by_ending t t' f f' given a b (length c) place heads moved went.0 (Ok x) ends refl (λ z. z); near = λ e. absurd cc })
  searches_end t t' f f' given block (Some a) (Some b) (Some c) place heads (Err faults.NotADatabase) moved ends went far = (λ lack. absurd (off_on lack), record { did = by_ending t t' f f' given a b (length c) place heads moved went.0 (Err faults.NotADatabase) ends refl (λ z. z); near = λ e. absurd cc })
  searches_end t t' f f' given block (Some a) (Some b) (Some c) place heads (Err (faults.Damage d)) moved ends went far = (λ lack. absurd (off_on lack), record { did = by_ending t t' f f' given a b (length c) place heads moved went.0 (Err (faults.Damage d)) ends refl (λ z. z); near = λ e. absurd cc })
  searches_end t t' f f' given block (Some a) (Some b) (Some c) place heads (Err faults.TooLarge) moved ends went far = (λ lack. absurd (off_on lack), record { did = by_ending t t' f f' given a b (length c) place heads moved went.0 (Err faults.TooLarge) ends refl (λ z. z); near = λ e. absurd cc })
  searches_end t t' f f' given block (Some a) (Some b) (Some c) place heads (Err faults.ReadFault) moved ends went far =
      let part : t (so_far f a (length c)) ≡ after_paths given (no_paths place heads ends.ending) = moved.parts ends.goes_on (length c) ends.fewer ∙ ap (after_paths given) ends.nothing in
      (λ _. (moved.goes_on ends.goes_on).0, record { did = all_given given (t (so_far f a (length c))) outcomes.ReadFault went.0 (ap (λ (z : ToCome). z.paths) part) (λ lack. absurd (on_off lack)) (λ z. z); near = λ e. absurd cc })

-- ---- whatever the gate answers

steps_more : (bound : List ℕ → ℕ) (xs ys : List PathAt) → steps_over bound (xs ++ ys) ≡ steps_over bound xs + steps_over bound ys
steps_more bound xs ys = sum_by-append (λ (p : PathAt). bound p.text) xs ys

module _ (bound : List ℕ → ℕ) (t t' : Window → ToCome) (f f' : FeedState) (given : List PathAt) where
  steps_fit : (a b : List ℕ) (s s' : ℕ) → Moved t t' (after_paths given) f a f' b → s' ≤ s + steps_over bound given → s' ≤ s + steps_over bound (t (window f a)).paths
  steps_fit a b s s' moved within =
      let later : List PathAt = (t' (window f' b)).paths in
      let all : (t (window f a)).paths ≡ given ++ later = ap (λ (z : ToCome). z.paths) moved.whole in
      let sum : steps_over bound (t (window f a)).paths ≡ steps_over bound given + steps_over bound later = ap (steps_over bound) all ∙ steps_more bound given later in
      omega (arith, within, sum)

  -- a search that ended before the end of the paths
  pub ended_mid : (l l' : Option (List ℕ)) (s s' : ℕ) → s' ≤ s + steps_over bound given → (result : Outcome) → MovedKnown t t' (after_paths given) f l f' l' → is_by_end result ≡ false → EndsWithinKnown bound t f l s s' result
  ended_mid None l' s s' within result moved early = tt
  ended_mid (Some a) None s s' within result moved early = absurd moved
  ended_mid (Some a) (Some b) s s' within result moved early = record { ends = λ by. absurd (off_on (sym early ∙ by)); within = steps_fit a b s s' moved within }

  ended_by : (a b : List ℕ) (place heads s s' : ℕ) (e : Ending) → s' ≤ s + steps_over bound given → Moved t t' (after_paths given) f a f' b → t' (window f' b) ≡ no_paths place heads e → EndsWithin bound (t (window f a)) s s' (outcome_of e)
  ended_by a b place heads s s' e within moved ends = record {
    ends = λ _. ap (λ (z : ToCome). outcome_of z.ending) (sym (moved.whole ∙ ap (after_paths given) ends));
    within = steps_fit a b s s' moved within;
  }

  -- one that came to their end
  pub ended_end : (l l' l'' : Option (List ℕ)) (s s' : ℕ) → s' ≤ s + steps_over bound given → (place heads : ℕ) (e : Ending) → MovedKnown t t' (after_paths given) f l f' l' → EndsKnown t' (no_paths place heads) f' l' l'' e → EndsWithinKnown bound t f l s s' (outcome_of e)
  ended_end None l' l'' s s' within place heads e moved ends = tt
  ended_end (Some a) None l'' s s' within place heads e moved ends = absurd moved
  ended_end (Some a) (Some b) None s s' within place heads e moved ends = absurd ends
  ended_end (Some a) (Some b) (Some c) s s' within place heads (Ok x) moved ends = ended_by a b place heads s s' (Ok x) within moved ends
  ended_end (Some a) (Some b) (Some c) s s' within place heads (Err faults.NotADatabase) moved ends = ended_by a b place heads s s' (Err faults.NotADatabase) within moved ends
  ended_end (Some a) (Some b) (Some c) s s' within place heads (Err (faults.Damage d)) moved ends = ended_by a b place heads s s' (Err (faults.Damage d)) within moved ends
  ended_end (Some a) (Some b) (Some c) s s' within place heads (Err faults.TooLarge) moved ends = ended_by a b place heads s s' (Err faults.TooLarge) within moved ends
  ended_end (Some a) (Some b) (Some c) s s' within place heads (Err faults.ReadFault) moved ends = record { ends = λ by. absurd (off_on by); within = steps_fit a b s s' moved within }

-- nothing was given of the paths before the search began
ended_same : (bound : List ℕ → ℕ) (t t' : Window → ToCome) (f f' : FeedState) (a b : List ℕ) (s s' : ℕ) (result : Outcome) → Moved t t' (λ x. x) f a f' b → EndsWithin bound (t' (window f' b)) s s' result → EndsWithin bound (t (window f a)) s s' result
ended_same bound t t' f f' a b s s' result moved done = subst (λ (z : ToCome). EndsWithin bound z s s' result) (sym moved.whole) done

pub ended_later : (bound : List ℕ → ℕ) (t t' : Window → ToCome) (f f' : FeedState) (l l' : Option (List ℕ)) (s s' : ℕ) (result : Outcome) → MovedKnown t t' (λ x. x) f l f' l' → EndsWithinKnown bound t' f' l' s s' result → EndsWithinKnown bound t f l s s' result
ended_later bound t t' f f' None l' s s' result moved done = tt
ended_later bound t t' f f' (Some a) None s s' result moved done = absurd moved
ended_later bound t t' f f' (Some a) (Some b) s s' result moved done = ended_same bound t t' f f' a b s s' result moved done
