use Rattle.std.proofs.Common.{◌≡◌, ◌++◌, ◌∷◌, [], None, Ok, Err, List, ℕ, length, take, Bool, true, false, ◌≤◌, ◌+◌, refl, sym, ap, subst, ◌∙◌, append_assoc, arith}
use Rattle.byte_feed.specs.Feed.{reach}
use Rattle.byte_feed.specs.Calls.{Shares}
use Rattle.byte_feed.specs.Paths.{PathAt, after_paths, ToCome}
use Rattle.byte_feed.proofs.Draws.{draws_none, draws_then}
use Rattle.byte_feed.proofs.Rests.{moved_none, moved_then, moved_same}
use Rattle.locate_engine.specs.Passing.{rule_of}
use Rattle.locate_engine.specs.Searched.{Stand, stand, steps_over}
use Rattle.locate_engine.specs.Sought.{Sought}
use Rattle.locate_engine.specs.declared.asking.Step.TheVariants as steps
use Rattle.locate_engine.proofs.Gone.{steps_one}
use Rattle.locate_engine.proofs.Exits.{ended_mid, ended_end, told_if, takes_by, so_far_none, step_yes, step_no, searches_limit, searches_gate, searches_write, searches_end}
use Rattle.locate_engine.proofs.Drawn.{reads_drawn}
use Rattle.locate_engine.proofs.Endings.{all_read, failed_there, limit_read, no_limit, not_gate, not_missing, not_write}
use Rattle.locate_engine.proofs.paths.search_paths.Goals as goal

-- one path more, after those before
joined : (given : List PathAt) (p : PathAt) (z : ToCome) → after_paths given (after_paths (p ∷ []) z) ≡ after_paths (given ++ p ∷ []) z
joined given p z = ap (λ (ps : List PathAt). record { paths = ps; ending = z.ending; place = z.place; heads = z.heads }) (sym (append_assoc given (p ∷ []) z.paths))

-- so many bytes are shared by what the two calls give
shares_as : (n : ℕ) (n' : ℕ) (before path path' : List ℕ) → n' ≡ n → path' ≡ path → Shares n before path → Shares n' before path'
shares_as n n' before path path' count same shares = record {
  within = omega (arith, count, ap length same, shares.within);
  same = ap (λ (k : ℕ). take k path') count ∙ ap (take n) same ∙ shares.same ∙ ap (λ (k : ℕ). take k before) (sym count);
}

pub wants_next-requires : goal.wants_next-requires
wants_next-requires g c = record { follows = (_, c.paths.invariant.knows, shares_as _ _ _ _ _ c.shared.ensures c.path.ensures (c.in-Ok.ensures.shares c.if-not-more.false)) }

pub paths-init : goal.paths-init
paths-init g c = record {
  live = c.requires.live;
  gone = (
    [],
    moved_none _ _ _,
    omega arith,
    λ told tells one. so_far_none (rule_of (g.M.Matcher.sought c.args.matcher.now).wanted c.args.query.now (g.P.PathStream.is_gated c.args.stream.now) told) (g.M.Matcher.sought c.args.matcher.now).bound (g.P.PathStream.to_come c.args.stream.now) (g.P.PathStream.feed c.args.stream.now) (g.S.Source.left c.args.src.now) (record { number = None; shown = false }) _ _ refl,
  );
  rises = omega arith;
  within = omega arith;
  below = c.requires.below;
  only_counted = λ _. refl;
  steps = omega arith;
  drawn = draws_none _ _ _;
  src = g.met.S.Source.keeps_itself _;
  gate = g.met.G.Gate.keeps_itself _;
  sink = g.met.K.Sink.keeps_itself _;
  read = omega arith;
  answered = omega arith;
  written = omega arith;
  asked = omega arith;
  gated = refl;
  tests = refl;
  sought = c.begin.ensures.same;
  knows = c.begin.ensures.knows _;
}

pub returns-in-Err-clause-drawn : goal.returns-in-Err-clause-drawn
returns-in-Err-clause-drawn g c = draws_then _ _ _ _ _ _ _ _ _ c.paths.invariant.drawn c.in-Err.ensures.ahead.drawn

pub returns-then-not-more-clause-drawn : goal.returns-then-not-more-clause-drawn
returns-then-not-more-clause-drawn g c = draws_then _ _ _ _ _ _ _ _ _ c.paths.invariant.drawn c.in-Ok.ensures.ahead.drawn

pub returns-in-LimitReached-clause-drawn : goal.returns-in-LimitReached-clause-drawn
returns-in-LimitReached-clause-drawn g c = draws_then _ _ _ _ _ _ _ _ _ c.paths.invariant.drawn c.in-Ok.ensures.ahead.drawn

pub returns-in-GateFault-clause-drawn : goal.returns-in-GateFault-clause-drawn
returns-in-GateFault-clause-drawn g c = draws_then _ _ _ _ _ _ _ _ _ c.paths.invariant.drawn c.in-Ok.ensures.ahead.drawn

pub returns-in-WriteFault-clause-drawn : goal.returns-in-WriteFault-clause-drawn
returns-in-WriteFault-clause-drawn g c = draws_then _ _ _ _ _ _ _ _ _ c.paths.invariant.drawn c.in-Ok.ensures.ahead.drawn

pub returns-in-Err-clause-searched : goal.returns-in-Err-clause-searched
returns-in-Err-clause-searched g c =
    let before = c.paths.invariant.gone in
    rw c.outcome_at.ensures
    (λ one. told_if _ _ _ (λ told tells.
    searches_end (rule_of (g.M.Matcher.sought c.args.matcher.now).wanted c.args.query.now (g.P.PathStream.is_gated c.args.stream.now) told) (g.M.Matcher.sought c.args.matcher.now).bound _ _ _ _ c.paths.invariant.below
    _ _ _ _ before.0 c.paths.block _ _ _ _ _ _ before.1 c.in-Err.ensures.err (before.3 told tells one) _))

pub returns-then-not-more-clause-searched : goal.returns-then-not-more-clause-searched
returns-then-not-more-clause-searched g c =
    let before = c.paths.invariant.gone in
    λ one. told_if _ _ _ (λ told tells.
    searches_end (rule_of (g.M.Matcher.sought c.args.matcher.now).wanted c.args.query.now (g.P.PathStream.is_gated c.args.stream.now) told) (g.M.Matcher.sought c.args.matcher.now).bound _ _ _ _ c.paths.invariant.below
    _ _ _ _ before.0 c.paths.block _ _ _ _ _ _ before.1 (c.in-Ok.ensures.end (ap (λ (b : Bool). Ok b) c.if-not-more.true)) (before.3 told tells one) _)

pub returns-in-LimitReached-clause-searched : goal.returns-in-LimitReached-clause-searched
returns-in-LimitReached-clause-searched g c =
    let wanted : List ℕ → Bool = (g.M.Matcher.sought c.args.matcher.now).wanted in
    let bound : List ℕ → ℕ = (g.M.Matcher.sought c.args.matcher.now).bound in
    let gated : Bool = g.P.PathStream.is_gated c.args.stream.now in
    let before = c.paths.invariant.gone in
    let p : PathAt = g.P.PathStream.found c.next_path.new.self in
    let found = c.in-Ok.ensures.path c.if-not-more.false in
    let answer : wanted p.text ≡ true = ap wanted (sym c.path.ensures) ∙ ap (λ (k : Sought). k.wanted c.path.result.now) (sym c.paths.invariant.sought) ∙ sym c.wants_next.ensures.answer ∙ c.if-wants_next.true in
    let dear : (g.M.Matcher.sought c.paths.matcher).bound c.path.result.now ≡ bound p.text = ap (λ (k : Sought). k.bound c.path.result.now) c.paths.invariant.sought ∙ ap bound c.path.ensures in
    let cost : c.wants_next.new.steps ≤ c.paths.steps + bound p.text = omega (arith, c.wants_next.ensures.within, dear) in
    let dearer : c.wants_next.new.steps ≤ c.args.steps.now + steps_over bound (before.0 ++ p ∷ []) = omega (arith, before.2, cost, steps_one bound before.0 p) in
    let moved = moved_same _ _ _ _ _ _ _ _ (joined before.0 p) (moved_then _ _ _ _ _ _ _ _ _ _ _ before.1 found) in
    let old : Stand = stand (g.K.Sink.taken c.paths.out) c.paths.tally.matched (g.G.Gate.asks c.paths.gate) in
    let new : Stand = stand (g.K.Sink.taken c.take_path.new.out) c.take_path.new.tally.matched (g.G.Gate.asks c.take_path.new.gate) in
    let took = takes_by gated (g.P.PathStream.is_gated c.next_path.new.self) (g.G.Gate.tests c.args.gate.now) (g.G.Gate.tests c.paths.gate) c.args.query.now c.paths.block c.take_path.new.block p old new steps.LimitReached
    (c.in-Ok.ensures.gate ∙ c.paths.invariant.gated) c.paths.invariant.tests c.in-LimitReached.ensures.takes in
    let near : reach (g.P.PathStream.feed c.next_path.new.self) ≤ p.place + 20480 = omega (arith, c.in-Ok.ensures.place.near, c.in-Ok.ensures.ahead.held, ((c.in-Ok.ensures.found c.if-not-more.false).at).0) in
    λ one. told_if _ _ _ (λ told tells. searches_limit (rule_of wanted c.args.query.now gated told) bound _ _ _ _ before.0 p c.paths.block _ old _ _ _ cost answer _ _ c.take_path.new.block new moved one (before.3 told tells one) (took wanted told tells) (c.in-LimitReached.ensures.limit refl) _ near)

pub returns-in-GateFault-clause-searched : goal.returns-in-GateFault-clause-searched
returns-in-GateFault-clause-searched g c =
    let wanted : List ℕ → Bool = (g.M.Matcher.sought c.args.matcher.now).wanted in
    let bound : List ℕ → ℕ = (g.M.Matcher.sought c.args.matcher.now).bound in
    let gated : Bool = g.P.PathStream.is_gated c.args.stream.now in
    let before = c.paths.invariant.gone in
    let p : PathAt = g.P.PathStream.found c.next_path.new.self in
    let found = c.in-Ok.ensures.path c.if-not-more.false in
    let answer : wanted p.text ≡ true = ap wanted (sym c.path.ensures) ∙ ap (λ (k : Sought). k.wanted c.path.result.now) (sym c.paths.invariant.sought) ∙ sym c.wants_next.ensures.answer ∙ c.if-wants_next.true in
    let dear : (g.M.Matcher.sought c.paths.matcher).bound c.path.result.now ≡ bound p.text = ap (λ (k : Sought). k.bound c.path.result.now) c.paths.invariant.sought ∙ ap bound c.path.ensures in
    let cost : c.wants_next.new.steps ≤ c.paths.steps + bound p.text = omega (arith, c.wants_next.ensures.within, dear) in
    let dearer : c.wants_next.new.steps ≤ c.args.steps.now + steps_over bound (before.0 ++ p ∷ []) = omega (arith, before.2, cost, steps_one bound before.0 p) in
    let moved = moved_same _ _ _ _ _ _ _ _ (joined before.0 p) (moved_then _ _ _ _ _ _ _ _ _ _ _ before.1 found) in
    let old : Stand = stand (g.K.Sink.taken c.paths.out) c.paths.tally.matched (g.G.Gate.asks c.paths.gate) in
    let new : Stand = stand (g.K.Sink.taken c.take_path.new.out) c.take_path.new.tally.matched (g.G.Gate.asks c.take_path.new.gate) in
    let took = takes_by gated (g.P.PathStream.is_gated c.next_path.new.self) (g.G.Gate.tests c.args.gate.now) (g.G.Gate.tests c.paths.gate) c.args.query.now c.paths.block c.take_path.new.block p old new steps.GateFault
    (c.in-Ok.ensures.gate ∙ c.paths.invariant.gated) c.paths.invariant.tests c.in-GateFault.ensures.takes in
    λ one. told_if _ _ _ (λ told tells. searches_gate (rule_of wanted c.args.query.now gated told) bound _ _ _ _ before.0 p c.paths.block _ old _ _ _ cost answer _ _ new moved (before.3 told tells one) (took wanted told tells) _)

pub returns-in-WriteFault-clause-searched : goal.returns-in-WriteFault-clause-searched
returns-in-WriteFault-clause-searched g c =
    let wanted : List ℕ → Bool = (g.M.Matcher.sought c.args.matcher.now).wanted in
    let bound : List ℕ → ℕ = (g.M.Matcher.sought c.args.matcher.now).bound in
    let gated : Bool = g.P.PathStream.is_gated c.args.stream.now in
    let before = c.paths.invariant.gone in
    let p : PathAt = g.P.PathStream.found c.next_path.new.self in
    let found = c.in-Ok.ensures.path c.if-not-more.false in
    let answer : wanted p.text ≡ true = ap wanted (sym c.path.ensures) ∙ ap (λ (k : Sought). k.wanted c.path.result.now) (sym c.paths.invariant.sought) ∙ sym c.wants_next.ensures.answer ∙ c.if-wants_next.true in
    let dear : (g.M.Matcher.sought c.paths.matcher).bound c.path.result.now ≡ bound p.text = ap (λ (k : Sought). k.bound c.path.result.now) c.paths.invariant.sought ∙ ap bound c.path.ensures in
    let cost : c.wants_next.new.steps ≤ c.paths.steps + bound p.text = omega (arith, c.wants_next.ensures.within, dear) in
    let dearer : c.wants_next.new.steps ≤ c.args.steps.now + steps_over bound (before.0 ++ p ∷ []) = omega (arith, before.2, cost, steps_one bound before.0 p) in
    let moved = moved_same _ _ _ _ _ _ _ _ (joined before.0 p) (moved_then _ _ _ _ _ _ _ _ _ _ _ before.1 found) in
    let old : Stand = stand (g.K.Sink.taken c.paths.out) c.paths.tally.matched (g.G.Gate.asks c.paths.gate) in
    let new : Stand = stand (g.K.Sink.taken c.take_path.new.out) c.take_path.new.tally.matched (g.G.Gate.asks c.take_path.new.gate) in
    let took = takes_by gated (g.P.PathStream.is_gated c.next_path.new.self) (g.G.Gate.tests c.args.gate.now) (g.G.Gate.tests c.paths.gate) c.args.query.now c.paths.block c.take_path.new.block p old new steps.WriteFault
    (c.in-Ok.ensures.gate ∙ c.paths.invariant.gated) c.paths.invariant.tests c.in-WriteFault.ensures.takes in
    λ one. told_if _ _ _ (λ told tells. searches_write (rule_of wanted c.args.query.now gated told) bound _ _ _ _ before.0 p c.paths.block _ old _ _ _ cost answer _ _ new moved (before.3 told tells one) (took wanted told tells) _)

pub paths-preserved-in-On : goal.paths-preserved-in-On
paths-preserved-in-On g c =
    let wanted : List ℕ → Bool = (g.M.Matcher.sought c.args.matcher.now).wanted in
    let bound : List ℕ → ℕ = (g.M.Matcher.sought c.args.matcher.now).bound in
    let gated : Bool = g.P.PathStream.is_gated c.args.stream.now in
    let before = c.paths.invariant.gone in
    let p : PathAt = g.P.PathStream.found c.next_path.new.self in
    let found = c.in-Ok.ensures.path c.if-not-more.false in
    let answer : wanted p.text ≡ true = ap wanted (sym c.path.ensures) ∙ ap (λ (k : Sought). k.wanted c.path.result.now) (sym c.paths.invariant.sought) ∙ sym c.wants_next.ensures.answer ∙ c.if-wants_next.true in
    let dear : (g.M.Matcher.sought c.paths.matcher).bound c.path.result.now ≡ bound p.text = ap (λ (k : Sought). k.bound c.path.result.now) c.paths.invariant.sought ∙ ap bound c.path.ensures in
    let cost : c.wants_next.new.steps ≤ c.paths.steps + bound p.text = omega (arith, c.wants_next.ensures.within, dear) in
    let dearer : c.wants_next.new.steps ≤ c.args.steps.now + steps_over bound (before.0 ++ p ∷ []) = omega (arith, before.2, cost, steps_one bound before.0 p) in
    let moved = moved_same _ _ _ _ _ _ _ _ (joined before.0 p) (moved_then _ _ _ _ _ _ _ _ _ _ _ before.1 found) in
    let old : Stand = stand (g.K.Sink.taken c.paths.out) c.paths.tally.matched (g.G.Gate.asks c.paths.gate) in
    let new : Stand = stand (g.K.Sink.taken c.take_path.new.out) c.take_path.new.tally.matched (g.G.Gate.asks c.take_path.new.gate) in
    let took = takes_by gated (g.P.PathStream.is_gated c.next_path.new.self) (g.G.Gate.tests c.args.gate.now) (g.G.Gate.tests c.paths.gate) c.args.query.now c.paths.block c.take_path.new.block p old new steps.On
    (c.in-Ok.ensures.gate ∙ c.paths.invariant.gated) c.paths.invariant.tests c.in-On.ensures.takes in
    let grows = c.in-Ok.ensures.grows c.if-not-more.false in
    record {
      live = c.in-Ok.ensures.live ∙ c.if-not-more.false;
      gone = (
        before.0 ++ p ∷ [],
        moved,
        dearer,
        λ told tells one. step_yes (rule_of wanted c.args.query.now gated told) bound _ _ _ _ before.0 p c.paths.block _ old _ _ _ cost answer _ _ c.take_path.new.block new moved one (before.3 told tells one) (took wanted told tells),
      );
      rises = omega (arith, c.paths.invariant.rises, c.in-On.ensures.rises);
      within = omega (arith, c.paths.invariant.within, c.in-On.ensures.within, grows);
      below = c.in-On.ensures.below (λ e. absurd cc);
      only_counted = λ only. c.in-On.ensures.only_counted only ∙ c.paths.invariant.only_counted only;
      steps = omega (arith, c.paths.invariant.steps, c.wants_next.ensures.later);
      drawn = draws_then _ _ _ _ _ _ _ _ _ c.paths.invariant.drawn c.in-Ok.ensures.ahead.drawn;
      src = g.met.S.Source.keeps_on _ _ _ c.paths.invariant.src c.in-Ok.ensures.kept;
      gate = g.met.G.Gate.keeps_on _ _ _ c.paths.invariant.gate c.in-On.ensures.gate_kept;
      sink = g.met.K.Sink.keeps_on _ _ _ c.paths.invariant.sink c.in-On.ensures.out_kept;
      read = omega (arith, c.paths.invariant.read, c.in-Ok.ensures.later);
      answered = omega (arith, c.paths.invariant.answered, c.in-On.ensures.gate_later);
      written = omega (arith, c.paths.invariant.written, c.in-On.ensures.out_later);
      asked = omega (arith, c.paths.invariant.asked, c.in-On.ensures.asks_rise);
      gated = c.in-Ok.ensures.gate ∙ c.paths.invariant.gated;
      tests = g.met.G.Gate.keeps_tests _ _ c.in-On.ensures.gate_kept ∙ c.paths.invariant.tests;
      sought = c.wants_next.ensures.same ∙ c.paths.invariant.sought;
      knows = subst (g.M.Matcher.knows c.wants_next.new.self) c.path.ensures c.wants_next.ensures.knows;
    }

pub paths-preserved : goal.paths-preserved
paths-preserved g c =
    let wanted : List ℕ → Bool = (g.M.Matcher.sought c.args.matcher.now).wanted in
    let bound : List ℕ → ℕ = (g.M.Matcher.sought c.args.matcher.now).bound in
    let gated : Bool = g.P.PathStream.is_gated c.args.stream.now in
    let before = c.paths.invariant.gone in
    let p : PathAt = g.P.PathStream.found c.next_path.new.self in
    let found = c.in-Ok.ensures.path c.if-not-more.false in
    let answer : wanted p.text ≡ false = ap wanted (sym c.path.ensures) ∙ ap (λ (k : Sought). k.wanted c.path.result.now) (sym c.paths.invariant.sought) ∙ sym c.wants_next.ensures.answer ∙ c.if-wants_next.false in
    let dear : (g.M.Matcher.sought c.paths.matcher).bound c.path.result.now ≡ bound p.text = ap (λ (k : Sought). k.bound c.path.result.now) c.paths.invariant.sought ∙ ap bound c.path.ensures in
    let cost : c.wants_next.new.steps ≤ c.paths.steps + bound p.text = omega (arith, c.wants_next.ensures.within, dear) in
    let dearer : c.wants_next.new.steps ≤ c.args.steps.now + steps_over bound (before.0 ++ p ∷ []) = omega (arith, before.2, cost, steps_one bound before.0 p) in
    let moved = moved_same _ _ _ _ _ _ _ _ (joined before.0 p) (moved_then _ _ _ _ _ _ _ _ _ _ _ before.1 found) in
    let grows = c.in-Ok.ensures.grows c.if-not-more.false in
    record {
      live = c.in-Ok.ensures.live ∙ c.if-not-more.false;
      gone = (
        before.0 ++ p ∷ [],
        moved,
        dearer,
        λ told tells one. step_no (rule_of wanted c.args.query.now gated told) bound (g.P.PathStream.to_come c.args.stream.now) (g.P.PathStream.to_come c.next_path.new.self) (g.P.PathStream.feed c.args.stream.now) (g.P.PathStream.feed c.next_path.new.self) before.0 p c.paths.block
            (stand (g.K.Sink.taken c.args.out.now) c.args.tally.now.matched (g.G.Gate.asks c.args.gate.now)) (stand (g.K.Sink.taken c.paths.out) c.paths.tally.matched (g.G.Gate.asks c.paths.gate)) c.args.steps.now c.paths.steps c.wants_next.new.steps cost (g.S.Source.left c.args.src.now) answer (before.3 told tells one),
      );
      rises = c.paths.invariant.rises;
      within = omega (arith, c.paths.invariant.within, grows);
      below = c.paths.invariant.below;
      only_counted = c.paths.invariant.only_counted;
      steps = omega (arith, c.paths.invariant.steps, c.wants_next.ensures.later);
      drawn = draws_then _ _ _ _ _ _ _ _ _ c.paths.invariant.drawn c.in-Ok.ensures.ahead.drawn;
      src = g.met.S.Source.keeps_on _ _ _ c.paths.invariant.src c.in-Ok.ensures.kept;
      gate = c.paths.invariant.gate;
      sink = c.paths.invariant.sink;
      read = omega (arith, c.paths.invariant.read, c.in-Ok.ensures.later);
      answered = c.paths.invariant.answered;
      written = c.paths.invariant.written;
      asked = c.paths.invariant.asked;
      gated = c.in-Ok.ensures.gate ∙ c.paths.invariant.gated;
      tests = c.paths.invariant.tests;
      sought = c.wants_next.ensures.same ∙ c.paths.invariant.sought;
      knows = subst (g.M.Matcher.knows c.wants_next.new.self) c.path.ensures c.wants_next.ensures.knows;
    }

pub returns-in-Err-clause-ended : goal.returns-in-Err-clause-ended
returns-in-Err-clause-ended g c =
    let before = c.paths.invariant.gone in
    rw c.outcome_at.ensures (ended_end (g.M.Matcher.sought c.args.matcher.now).bound (g.P.PathStream.to_come c.args.stream.now) _ (g.P.PathStream.feed c.args.stream.now) _ before.0 (g.S.Source.left c.args.src.now) _ _ c.args.steps.now c.paths.steps before.2 _ _ _ before.1 c.in-Err.ensures.err)

pub returns-then-not-more-clause-ended : goal.returns-then-not-more-clause-ended
returns-then-not-more-clause-ended g c =
    let before = c.paths.invariant.gone in
    ended_end (g.M.Matcher.sought c.args.matcher.now).bound (g.P.PathStream.to_come c.args.stream.now) _ (g.P.PathStream.feed c.args.stream.now) _ before.0 (g.S.Source.left c.args.src.now) _ _ c.args.steps.now c.paths.steps before.2 _ _ _ before.1
    (c.in-Ok.ensures.end (ap (λ (b : Bool). Ok b) c.if-not-more.true))

pub returns-in-LimitReached-clause-ended : goal.returns-in-LimitReached-clause-ended
returns-in-LimitReached-clause-ended g c =
    let wanted : List ℕ → Bool = (g.M.Matcher.sought c.args.matcher.now).wanted in
    let bound : List ℕ → ℕ = (g.M.Matcher.sought c.args.matcher.now).bound in
    let gated : Bool = g.P.PathStream.is_gated c.args.stream.now in
    let before = c.paths.invariant.gone in
    let p : PathAt = g.P.PathStream.found c.next_path.new.self in
    let found = c.in-Ok.ensures.path c.if-not-more.false in
    let answer : wanted p.text ≡ true = ap wanted (sym c.path.ensures) ∙ ap (λ (k : Sought). k.wanted c.path.result.now) (sym c.paths.invariant.sought) ∙ sym c.wants_next.ensures.answer ∙ c.if-wants_next.true in
    let dear : (g.M.Matcher.sought c.paths.matcher).bound c.path.result.now ≡ bound p.text = ap (λ (k : Sought). k.bound c.path.result.now) c.paths.invariant.sought ∙ ap bound c.path.ensures in
    let cost : c.wants_next.new.steps ≤ c.paths.steps + bound p.text = omega (arith, c.wants_next.ensures.within, dear) in
    let dearer : c.wants_next.new.steps ≤ c.args.steps.now + steps_over bound (before.0 ++ p ∷ []) = omega (arith, before.2, cost, steps_one bound before.0 p) in
    let moved = moved_same _ _ _ _ _ _ _ _ (joined before.0 p) (moved_then _ _ _ _ _ _ _ _ _ _ _ before.1 found) in
    ended_mid bound (g.P.PathStream.to_come c.args.stream.now) _ (g.P.PathStream.feed c.args.stream.now) _ (before.0 ++ p ∷ []) (g.S.Source.left c.args.src.now) _ c.args.steps.now c.wants_next.new.steps dearer _ moved refl

pub returns-in-GateFault-clause-ended : goal.returns-in-GateFault-clause-ended
returns-in-GateFault-clause-ended g c =
    let wanted : List ℕ → Bool = (g.M.Matcher.sought c.args.matcher.now).wanted in
    let bound : List ℕ → ℕ = (g.M.Matcher.sought c.args.matcher.now).bound in
    let gated : Bool = g.P.PathStream.is_gated c.args.stream.now in
    let before = c.paths.invariant.gone in
    let p : PathAt = g.P.PathStream.found c.next_path.new.self in
    let found = c.in-Ok.ensures.path c.if-not-more.false in
    let answer : wanted p.text ≡ true = ap wanted (sym c.path.ensures) ∙ ap (λ (k : Sought). k.wanted c.path.result.now) (sym c.paths.invariant.sought) ∙ sym c.wants_next.ensures.answer ∙ c.if-wants_next.true in
    let dear : (g.M.Matcher.sought c.paths.matcher).bound c.path.result.now ≡ bound p.text = ap (λ (k : Sought). k.bound c.path.result.now) c.paths.invariant.sought ∙ ap bound c.path.ensures in
    let cost : c.wants_next.new.steps ≤ c.paths.steps + bound p.text = omega (arith, c.wants_next.ensures.within, dear) in
    let dearer : c.wants_next.new.steps ≤ c.args.steps.now + steps_over bound (before.0 ++ p ∷ []) = omega (arith, before.2, cost, steps_one bound before.0 p) in
    let moved = moved_same _ _ _ _ _ _ _ _ (joined before.0 p) (moved_then _ _ _ _ _ _ _ _ _ _ _ before.1 found) in
    ended_mid bound (g.P.PathStream.to_come c.args.stream.now) _ (g.P.PathStream.feed c.args.stream.now) _ (before.0 ++ p ∷ []) (g.S.Source.left c.args.src.now) _ c.args.steps.now c.wants_next.new.steps dearer _ moved refl

pub returns-in-WriteFault-clause-ended : goal.returns-in-WriteFault-clause-ended
returns-in-WriteFault-clause-ended g c =
    let wanted : List ℕ → Bool = (g.M.Matcher.sought c.args.matcher.now).wanted in
    let bound : List ℕ → ℕ = (g.M.Matcher.sought c.args.matcher.now).bound in
    let gated : Bool = g.P.PathStream.is_gated c.args.stream.now in
    let before = c.paths.invariant.gone in
    let p : PathAt = g.P.PathStream.found c.next_path.new.self in
    let found = c.in-Ok.ensures.path c.if-not-more.false in
    let answer : wanted p.text ≡ true = ap wanted (sym c.path.ensures) ∙ ap (λ (k : Sought). k.wanted c.path.result.now) (sym c.paths.invariant.sought) ∙ sym c.wants_next.ensures.answer ∙ c.if-wants_next.true in
    let dear : (g.M.Matcher.sought c.paths.matcher).bound c.path.result.now ≡ bound p.text = ap (λ (k : Sought). k.bound c.path.result.now) c.paths.invariant.sought ∙ ap bound c.path.ensures in
    let cost : c.wants_next.new.steps ≤ c.paths.steps + bound p.text = omega (arith, c.wants_next.ensures.within, dear) in
    let dearer : c.wants_next.new.steps ≤ c.args.steps.now + steps_over bound (before.0 ++ p ∷ []) = omega (arith, before.2, cost, steps_one bound before.0 p) in
    let moved = moved_same _ _ _ _ _ _ _ _ (joined before.0 p) (moved_then _ _ _ _ _ _ _ _ _ _ _ before.1 found) in
    ended_mid bound (g.P.PathStream.to_come c.args.stream.now) _ (g.P.PathStream.feed c.args.stream.now) _ (before.0 ++ p ∷ []) (g.S.Source.left c.args.src.now) _ c.args.steps.now c.wants_next.new.steps dearer _ moved refl

pub returns-in-Err-clause-moves : goal.returns-in-Err-clause-moves
returns-in-Err-clause-moves g c = rw c.outcome_at.ensures (record {
  files = refl;
  tests = c.paths.invariant.tests;
  reads = reads_drawn _ _ _ _ _ _ _ _ _ (returns-in-Err-clause-drawn g c) c.in-Err.ensures.ahead.bound (omega (arith, c.paths.invariant.read, c.in-Err.ensures.later)) (λ e. omega (arith, c.paths.invariant.read, c.in-Err.ensures.fault (ap Err (failed_there c.in-Err.fault e))));
  matched = c.paths.invariant.rises;
  matched_within = omega (arith, c.paths.invariant.within, c.in-Err.ensures.place.forth, c.in-Err.ensures.place.bound);
  steps = c.paths.invariant.steps;
  asks = c.paths.invariant.asked;
  gate = c.paths.invariant.answered;
  writes = c.paths.invariant.written;
  gate_fault = λ e. absurd (not_gate (Err c.in-Err.fault) e);
  write_fault = λ e. absurd (not_write (Err c.in-Err.fault) e);
})

pub returns-then-not-more-clause-moves : goal.returns-then-not-more-clause-moves
returns-then-not-more-clause-moves g c = record {
  files = refl;
  tests = c.paths.invariant.tests;
  reads = reads_drawn _ _ _ _ _ _ _ _ _ (returns-then-not-more-clause-drawn g c) c.in-Ok.ensures.ahead.bound (omega (arith, c.paths.invariant.read, c.in-Ok.ensures.later)) (λ e. absurd cc);
  matched = c.paths.invariant.rises;
  matched_within = omega (arith, c.paths.invariant.within, c.in-Ok.ensures.place.forth, c.in-Ok.ensures.place.bound);
  steps = c.paths.invariant.steps;
  asks = c.paths.invariant.asked;
  gate = c.paths.invariant.answered;
  writes = c.paths.invariant.written;
  gate_fault = λ e. absurd cc;
  write_fault = λ e. absurd cc;
}

pub returns-in-LimitReached-clause-moves : goal.returns-in-LimitReached-clause-moves
returns-in-LimitReached-clause-moves g c = record {
  files = refl;
  tests = g.met.G.Gate.keeps_tests _ _ c.in-LimitReached.ensures.gate_kept ∙ c.paths.invariant.tests;
  reads = reads_drawn _ _ _ _ _ _ _ _ _ (returns-in-LimitReached-clause-drawn g c) c.in-Ok.ensures.ahead.bound (omega (arith, c.paths.invariant.read, c.in-Ok.ensures.later)) (λ e. absurd cc);
  matched = omega (arith, c.paths.invariant.rises, c.in-LimitReached.ensures.rises);
  matched_within = omega (arith, c.paths.invariant.within, c.in-LimitReached.ensures.within, c.in-Ok.ensures.grows c.if-not-more.false, c.in-Ok.ensures.place.bound);
  steps = omega (arith, c.paths.invariant.steps, c.wants_next.ensures.later);
  asks = omega (arith, c.paths.invariant.asked, c.in-LimitReached.ensures.asks_rise);
  gate = omega (arith, c.paths.invariant.answered, c.in-LimitReached.ensures.gate_later);
  writes = omega (arith, c.paths.invariant.written, c.in-LimitReached.ensures.out_later);
  gate_fault = λ e. absurd cc;
  write_fault = λ e. absurd cc;
}

pub returns-in-GateFault-clause-moves : goal.returns-in-GateFault-clause-moves
returns-in-GateFault-clause-moves g c = record {
  files = refl;
  tests = g.met.G.Gate.keeps_tests _ _ c.in-GateFault.ensures.gate_kept ∙ c.paths.invariant.tests;
  reads = reads_drawn _ _ _ _ _ _ _ _ _ (returns-in-GateFault-clause-drawn g c) c.in-Ok.ensures.ahead.bound (omega (arith, c.paths.invariant.read, c.in-Ok.ensures.later)) (λ e. absurd cc);
  matched = omega (arith, c.paths.invariant.rises, c.in-GateFault.ensures.rises);
  matched_within = omega (arith, c.paths.invariant.within, c.in-GateFault.ensures.within, c.in-Ok.ensures.grows c.if-not-more.false, c.in-Ok.ensures.place.bound);
  steps = omega (arith, c.paths.invariant.steps, c.wants_next.ensures.later);
  asks = omega (arith, c.paths.invariant.asked, c.in-GateFault.ensures.asks_rise);
  gate = omega (arith, c.paths.invariant.answered, c.in-GateFault.ensures.gate_later);
  writes = omega (arith, c.paths.invariant.written, c.in-GateFault.ensures.out_later);
  gate_fault = λ e. omega (arith, c.paths.invariant.answered, c.in-GateFault.ensures.gate_fault refl);
  write_fault = λ e. absurd cc;
}

pub returns-in-WriteFault-clause-moves : goal.returns-in-WriteFault-clause-moves
returns-in-WriteFault-clause-moves g c = record {
  files = refl;
  tests = g.met.G.Gate.keeps_tests _ _ c.in-WriteFault.ensures.gate_kept ∙ c.paths.invariant.tests;
  reads = reads_drawn _ _ _ _ _ _ _ _ _ (returns-in-WriteFault-clause-drawn g c) c.in-Ok.ensures.ahead.bound (omega (arith, c.paths.invariant.read, c.in-Ok.ensures.later)) (λ e. absurd cc);
  matched = omega (arith, c.paths.invariant.rises, c.in-WriteFault.ensures.rises);
  matched_within = omega (arith, c.paths.invariant.within, c.in-WriteFault.ensures.within, c.in-Ok.ensures.grows c.if-not-more.false, c.in-Ok.ensures.place.bound);
  steps = omega (arith, c.paths.invariant.steps, c.wants_next.ensures.later);
  asks = omega (arith, c.paths.invariant.asked, c.in-WriteFault.ensures.asks_rise);
  gate = omega (arith, c.paths.invariant.answered, c.in-WriteFault.ensures.gate_later);
  writes = omega (arith, c.paths.invariant.written, c.in-WriteFault.ensures.out_later);
  gate_fault = λ e. absurd cc;
  write_fault = λ e. omega (arith, c.paths.invariant.written, c.in-WriteFault.ensures.write_fault refl);
}

pub returns-in-Err-clause-limit : goal.returns-in-Err-clause-limit
returns-in-Err-clause-limit g c = rw c.outcome_at.ensures (record { reached = λ e. absurd (no_limit (Err c.in-Err.fault) e); under = λ _. c.paths.invariant.below })

pub returns-then-not-more-clause-limit : goal.returns-then-not-more-clause-limit
returns-then-not-more-clause-limit g c = record { reached = λ e. absurd cc; under = λ _. c.paths.invariant.below }

pub returns-in-LimitReached-clause-limit : goal.returns-in-LimitReached-clause-limit
returns-in-LimitReached-clause-limit g c = record { reached = λ _. c.in-LimitReached.ensures.limit refl; under = λ other. absurd (other refl) }

pub returns-in-GateFault-clause-limit : goal.returns-in-GateFault-clause-limit
returns-in-GateFault-clause-limit g c = record { reached = λ e. absurd cc; under = λ _. c.in-GateFault.ensures.below (λ e. absurd cc) }

pub returns-in-WriteFault-clause-limit : goal.returns-in-WriteFault-clause-limit
returns-in-WriteFault-clause-limit g c = record { reached = λ e. absurd cc; under = λ _. c.in-WriteFault.ensures.below (λ e. absurd cc) }

pub returns-in-Err-clause-stops : goal.returns-in-Err-clause-stops
returns-in-Err-clause-stops g c = rw c.outcome_at.ensures (record {
  there = not_missing (Err c.in-Err.fault);
  below = c.in-Err.ensures.ahead.bound;
  whole = all_read (Err c.in-Err.fault) _ _ c.in-Err.ensures.stops;
  too_large = limit_read (Err c.in-Err.fault) _ _ c.in-Err.ensures.stops;
  spent = λ _. c.in-Err.ensures.live;
})

pub returns-then-not-more-clause-stops : goal.returns-then-not-more-clause-stops
returns-then-not-more-clause-stops g c = record {
  there = λ e. absurd cc;
  below = c.in-Ok.ensures.ahead.bound;
  whole = λ _. (c.in-Ok.ensures.whole (ap (λ (b : Bool). Ok b) c.if-not-more.true)).1;
  too_large = λ e. absurd cc;
  spent = λ _. c.in-Ok.ensures.live ∙ c.if-not-more.true;
}

pub returns-in-LimitReached-clause-stops : goal.returns-in-LimitReached-clause-stops
returns-in-LimitReached-clause-stops g c = record { there = λ e. absurd cc; below = c.in-Ok.ensures.ahead.bound; whole = λ e. absurd cc; too_large = λ e. absurd cc; spent = λ e. absurd cc }

pub returns-in-GateFault-clause-stops : goal.returns-in-GateFault-clause-stops
returns-in-GateFault-clause-stops g c = record { there = λ e. absurd cc; below = c.in-Ok.ensures.ahead.bound; whole = λ e. absurd cc; too_large = λ e. absurd cc; spent = λ e. absurd cc }

pub returns-in-WriteFault-clause-stops : goal.returns-in-WriteFault-clause-stops
returns-in-WriteFault-clause-stops g c = record { there = λ e. absurd cc; below = c.in-Ok.ensures.ahead.bound; whole = λ e. absurd cc; too_large = λ e. absurd cc; spent = λ e. absurd cc }
