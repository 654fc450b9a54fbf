use Rattle.std.proofs.Common.{rules, if◌then◌else◌, ◌≡◌, false, true, refl, sym, ◌∙◌, arith, ap, subst, List, ℕ, Some, Ok}
use Rattle.std.specs.FinMap.{get}
use Rattle.path_order.specs.Stamp.{Moment}
use Rattle.loc_outside.specs.Causes.{raised}
use Rattle.loc_outside.specs.Trees.{Dir, Dirs, StatsAs}
use Rattle.tree_scan.specs.Blocks.{time_of}
use Rattle.tree_scan.specs.Plans.{plan_of}
use Rattle.tree_scan.specs.Records.{Relied, is_vouched, known}
use Rattle.tree_scan.specs.Stops.{taken}
use Rattle.tree_scan.specs.Walks.{Breaks}
use Rattle.tree_scan.proofs.WrittenNames.{if_err, when_err}
use Rattle.tree_scan.proofs.TreeAnswers.{stat_found, nothing_pruned}
use Rattle.tree_scan.proofs.Asking.{leaves_same}
use Rattle.tree_scan.proofs.Visits.{narrow_none, narrow_one, same_time, passes_nothing, breaks_none, no_children, raised_nothing, here_once, opens_one, opens_none, stat_weight}
use Rattle.tree_scan.proofs.walk.step.Goals as goal

pub returns-then-prunes-clause-done : goal.returns-then-prunes-clause-done
returns-then-prunes-clause-done g c = λ dirs told relied.
    let pruned : (plan_of c.args.rules.now).pruned c.args.path.now ≡ true = ap (plan_of c.args.rules.now).pruned (sym c.bytes.ensures.value) ∙ sym c.prunes.ensures ∙ c.if-prunes.true in
    passes_nothing dirs (plan_of c.args.rules.now) c.args.now c.args.path.now _ _ c.args.progress.now (nothing_pruned dirs (plan_of c.args.rules.now).pruned c.args.path.now pruned)

pub returns-then-prunes-clause-leaves : goal.returns-then-prunes-clause-leaves
returns-then-prunes-clause-leaves g c = record { left = leaves_same _ _ _ _; keeps_order = λ o. o; was_unbroken = λ u. u }

pub returns-clause-done : goal.returns-clause-done
returns-clause-done g c = λ dirs told relied.
    let f = stat_found _ dirs c.args.path.now c.in-Ok.found c.in-Some.times told c.in-Some.is (subst (λ (p : List ℕ). StatsAs (g.T.Tree.dirs c.args.tree.now) p (Ok c.in-Ok.found)) c.bytes-2.ensures.value c.in-Ok.ensures.found) in
    let unpruned : (plan_of c.args.rules.now).pruned c.args.path.now ≡ false = ap (plan_of c.args.rules.now).pruned (sym c.bytes.ensures.value) ∙ sym c.prunes.ensures ∙ c.if-prunes.false in
    c.in_ok-visit.ensures.shown dirs f.dir (g.met.T.Tree.keeps_dirs _ _ c.in-Ok.ensures.kept ∙ told) f.is (c.later-time.ensures ∙ ap time_of f.times_are) (relied f.dir f.is unpruned)

pub returns-clause-stats : goal.returns-clause-stats
returns-clause-stats g c =
    let unpruned : (plan_of c.args.rules.now).pruned c.args.path.now ≡ false = ap (plan_of c.args.rules.now).pruned (sym c.bytes.ensures.value) ∙ sym c.prunes.ensures ∙ c.if-prunes.false in
    let most = stat_weight (plan_of c.args.rules.now).pruned (g.T.Tree.priced c.args.tree.now) c.args.path.now (g.T.Tree.stats c.args.tree.now) (g.T.Tree.stats c.stat.new.self) unpruned (subst (λ (p : List ℕ). g.T.Tree.stats c.stat.new.self ≡ (if g.T.Tree.priced c.args.tree.now p then raised (g.T.Tree.stats c.args.tree.now) 1 else g.T.Tree.stats c.args.tree.now)) c.bytes-2.ensures.value c.stat.ensures.stats) in
    omega (arith, most, c.in_ok-visit.ensures.stats)

pub returns-in_err-visit-clause-stats : goal.returns-in_err-visit-clause-stats
returns-in_err-visit-clause-stats g c =
    let unpruned : (plan_of c.args.rules.now).pruned c.args.path.now ≡ false = ap (plan_of c.args.rules.now).pruned (sym c.bytes.ensures.value) ∙ sym c.prunes.ensures ∙ c.if-prunes.false in
    let most = stat_weight (plan_of c.args.rules.now).pruned (g.T.Tree.priced c.args.tree.now) c.args.path.now (g.T.Tree.stats c.args.tree.now) (g.T.Tree.stats c.stat.new.self) unpruned (subst (λ (p : List ℕ). g.T.Tree.stats c.stat.new.self ≡ (if g.T.Tree.priced c.args.tree.now p then raised (g.T.Tree.stats c.args.tree.now) 1 else g.T.Tree.stats c.args.tree.now)) c.bytes-2.ensures.value c.stat.ensures.stats) in
    omega (arith, most, c.in_err-visit.ensures.stats)

pub returns-in_err-visit-clause-breaks : goal.returns-in_err-visit-clause-breaks
returns-in_err-visit-clause-breaks g c =
    let p : (dirs : Dirs) → g.T.Tree.dirs c.args.tree.now ≡ Some dirs → ((dir : Dir) → get dirs c.args.path.now ≡ Some dir → (plan_of c.args.rules.now).pruned c.args.path.now ≡ false → Relied (g.V.Voucher.records c.args.voucher.now) ((plan_of c.args.rules.now).device_of c.args.path.now) c.args.path.now dir)
    → Breaks dirs (plan_of c.args.rules.now) c.args.now c.args.path.now (taken (g.D.Sink.taken c.args.sink.now) (g.P.Sink.taken c.args.echo.now)) (taken (g.D.Sink.taken c.visit.new.sink) (g.P.Sink.taken c.visit.new.echo)) =
    λ dirs told relied.
    let f = stat_found _ dirs c.args.path.now c.in-Ok.found c.in-Some.times told c.in-Some.is (subst (λ (p : List ℕ). StatsAs (g.T.Tree.dirs c.args.tree.now) p (Ok c.in-Ok.found)) c.bytes-2.ensures.value c.in-Ok.ensures.found) in
    let unpruned : (plan_of c.args.rules.now).pruned c.args.path.now ≡ false = ap (plan_of c.args.rules.now).pruned (sym c.bytes.ensures.value) ∙ sym c.prunes.ensures ∙ c.if-prunes.false in
    c.in_err-visit.ensures.breaks dirs f.dir (g.met.T.Tree.keeps_dirs _ _ c.in-Ok.ensures.kept ∙ told) f.is (c.later-time.ensures ∙ ap time_of f.times_are) (relied f.dir f.is unpruned) in
    when_err _ _ p

pub returns-in_default-clause-breaks : goal.returns-in_default-clause-breaks
returns-in_default-clause-breaks g c = λ dirs told relied. breaks_none dirs (plan_of c.args.rules.now) c.args.now c.args.path.now _ _ _ _ refl refl

pub returns-then-prunes-clause-progress : goal.returns-then-prunes-clause-progress
returns-then-prunes-clause-progress g c = record { more = omega arith; rises = omega arith; counted = c.requires.counted; adds = no_children _ _ }

pub returns-then-prunes-clause-found : goal.returns-then-prunes-clause-found
returns-then-prunes-clause-found g c = λ dirs told.
    let pruned : (plan_of c.args.rules.now).pruned c.args.path.now ≡ true = ap (plan_of c.args.rules.now).pruned (sym c.bytes.ensures.value) ∙ sym c.prunes.ensures ∙ c.if-prunes.true in
    let none = nothing_pruned dirs (plan_of c.args.rules.now).pruned c.args.path.now pruned in
    record { exact = λ w. raised_nothing _ _ (g.met.T.Tree.openings_below c.args.tree.now) (opens_none _ dirs (plan_of c.args.rules.now) c.args.path.now none); kept_limit = λ some. narrow_none (known (g.V.Voucher.records c.args.voucher.now)) dirs (plan_of c.args.rules.now) c.args.path.now c.args.limits.now.names none }

pub returns-clause-costs : goal.returns-clause-costs
returns-clause-costs g c = λ dirs told.
    let f = stat_found _ dirs c.args.path.now c.in-Ok.found c.in-Some.times told c.in-Some.is (subst (λ (p : List ℕ). StatsAs (g.T.Tree.dirs c.args.tree.now) p (Ok c.in-Ok.found)) c.bytes-2.ensures.value c.in-Ok.ensures.found) in
    let told2 = g.met.T.Tree.keeps_dirs _ _ c.in-Ok.ensures.kept ∙ told in
    let time = c.later-time.ensures ∙ ap time_of f.times_are in
    let unpruned : (plan_of c.args.rules.now).pruned c.args.path.now ≡ false = ap (plan_of c.args.rules.now).pruned (sym c.bytes.ensures.value) ∙ sym c.prunes.ensures ∙ c.if-prunes.false in
    record {
      seen = omega (arith, here_once dirs (plan_of c.args.rules.now).pruned c.args.path.now f.dir f.is unpruned, c.in_ok-visit.ensures.costs.seen);
      opened = λ w. omega (arith, opens_one (known (g.V.Voucher.records c.args.voucher.now)) dirs (plan_of c.args.rules.now) c.args.path.now f.dir c.later-time.result f.is unpruned time, c.in_ok-visit.ensures.costs.opened w, c.in-Ok.ensures.openings);
    }

pub returns-in_err-visit-clause-costs : goal.returns-in_err-visit-clause-costs
returns-in_err-visit-clause-costs g c = λ dirs told.
    let f = stat_found _ dirs c.args.path.now c.in-Ok.found c.in-Some.times told c.in-Some.is (subst (λ (p : List ℕ). StatsAs (g.T.Tree.dirs c.args.tree.now) p (Ok c.in-Ok.found)) c.bytes-2.ensures.value c.in-Ok.ensures.found) in
    let told2 = g.met.T.Tree.keeps_dirs _ _ c.in-Ok.ensures.kept ∙ told in
    let time = c.later-time.ensures ∙ ap time_of f.times_are in
    let unpruned : (plan_of c.args.rules.now).pruned c.args.path.now ≡ false = ap (plan_of c.args.rules.now).pruned (sym c.bytes.ensures.value) ∙ sym c.prunes.ensures ∙ c.if-prunes.false in
    record {
      seen = omega (arith, here_once dirs (plan_of c.args.rules.now).pruned c.args.path.now f.dir f.is unpruned, c.in_err-visit.ensures.costs.seen);
      opened = λ w. omega (arith, opens_one (known (g.V.Voucher.records c.args.voucher.now)) dirs (plan_of c.args.rules.now) c.args.path.now f.dir c.later-time.result f.is unpruned time, c.in_err-visit.ensures.costs.opened w, c.in-Ok.ensures.openings);
    }

pub returns-clause-found : goal.returns-clause-found
returns-clause-found g c = λ dirs told.
    let f = stat_found _ dirs c.args.path.now c.in-Ok.found c.in-Some.times told c.in-Some.is (subst (λ (p : List ℕ). StatsAs (g.T.Tree.dirs c.args.tree.now) p (Ok c.in-Ok.found)) c.bytes-2.ensures.value c.in-Ok.ensures.found) in
    let told2 = g.met.T.Tree.keeps_dirs _ _ c.in-Ok.ensures.kept ∙ told in
    let time = c.later-time.ensures ∙ ap time_of f.times_are in
    let unpruned : (plan_of c.args.rules.now).pruned c.args.path.now ≡ false = ap (plan_of c.args.rules.now).pruned (sym c.bytes.ensures.value) ∙ sym c.prunes.ensures ∙ c.if-prunes.false in
    record {
      exact = λ w. c.in_ok-visit.ensures.found.exact w ∙ (λ i. raised (c.in-Ok.ensures.openings i) (sym (opens_one (known (g.V.Voucher.records c.args.voucher.now)) dirs (plan_of c.args.rules.now) c.args.path.now f.dir c.later-time.result f.is unpruned time) i));
      kept_limit = λ some. narrow_one (known (g.V.Voucher.records c.args.voucher.now)) dirs (plan_of c.args.rules.now) c.args.path.now f.dir c.later-time.result c.args.limits.now.names f.is unpruned time (c.in_ok-visit.ensures.found.kept_limit some dirs f.dir told2 f.is);
    }

pub returns-in_err-visit-clause-ended : goal.returns-in_err-visit-clause-ended
returns-in_err-visit-clause-ended g c =
    let unpruned : (plan_of c.args.rules.now).pruned c.args.path.now ≡ false = ap (plan_of c.args.rules.now).pruned (sym c.bytes.ensures.value) ∙ sym c.prunes.ensures ∙ c.if-prunes.false in
    if_err c.from_residual.result c.in_err-visit.field-0.0 _ (search rules) (record {
      no_missing = c.in_err-visit.ensures.ended.no_missing;
      unpruned = unpruned;
      whole = c.in_err-visit.ensures.ended.whole;
      many = λ e. λ dirs told.
          let f = stat_found _ dirs c.args.path.now c.in-Ok.found c.in-Some.times told c.in-Some.is (subst (λ (p : List ℕ). StatsAs (g.T.Tree.dirs c.args.tree.now) p (Ok c.in-Ok.found)) c.bytes-2.ensures.value c.in-Ok.ensures.found) in
          let told2 = g.met.T.Tree.keeps_dirs _ _ c.in-Ok.ensures.kept ∙ told in
          let time = c.later-time.ensures ∙ ap time_of f.times_are in
          omega (arith, here_once dirs (plan_of c.args.rules.now).pruned c.args.path.now f.dir f.is unpruned, c.in_err-visit.ensures.ended.many e);
      wide = λ e. λ dirs told.
          let f = stat_found _ dirs c.args.path.now c.in-Ok.found c.in-Some.times told c.in-Some.is (subst (λ (p : List ℕ). StatsAs (g.T.Tree.dirs c.args.tree.now) p (Ok c.in-Ok.found)) c.bytes-2.ensures.value c.in-Ok.ensures.found) in
          let told2 = g.met.T.Tree.keeps_dirs _ _ c.in-Ok.ensures.kept ∙ told in
          let time = c.later-time.ensures ∙ ap time_of f.times_are in
          let wide = c.in_err-visit.ensures.ended.wide e in
          let names = wide.many_names dirs f.dir told2 f.is in
          record {
            listed = λ dir is w. ap (λ (t : Moment). is_vouched (known (g.V.Voucher.records c.args.voucher.now)) c.args.path.now t ((plan_of c.args.rules.now).device_of c.args.path.now)) (same_time dirs c.args.path.now dir f.dir c.later-time.result is f.is time) ∙ wide.listed w;
            many_names = record { dir = f.dir; there = f.is; unpruned = unpruned; shown = names.0; longer = names.1 };
          };
    })
