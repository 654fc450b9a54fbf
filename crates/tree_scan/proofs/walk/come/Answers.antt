use Rattle.std.proofs.Common.{rules, ◌≡◌, false, true, sym, ◌∙◌, arith, ap, Some}
use Rattle.std.specs.FinMap.{get}
use Rattle.path_order.specs.Stamp.{Moment}
use Rattle.loc_outside.specs.Causes.{raised}
use Rattle.loc_outside.specs.Trees.{Dir, Dirs}
use Rattle.tree_scan.specs.Blocks.{time_of}
use Rattle.tree_scan.specs.Plans.{plan_of}
use Rattle.tree_scan.specs.Records.{Relied, is_vouched, known}
use Rattle.tree_scan.specs.Stops.{taken}
use Rattle.tree_scan.specs.Walks.{Breaks}
use Rattle.tree_scan.proofs.WrittenNames.{if_err, when_err}
use Rattle.tree_scan.proofs.TreeAnswers.{nothing_pruned}
use Rattle.tree_scan.proofs.Asking.{leaves_same}
use Rattle.tree_scan.proofs.Visits.{narrow_none, narrow_one, same_time, passes_nothing, no_children, raised_nothing, here_once, opens_one, opens_none}
use Rattle.tree_scan.proofs.walk.come.Goals as goal

pub returns-then-prunes-clause-done : goal.returns-then-prunes-clause-done
returns-then-prunes-clause-done g c = λ dirs told there found time relied.
    let pruned : (plan_of c.args.rules.now).pruned c.args.path.now ≡ true = ap (plan_of c.args.rules.now).pruned (sym c.bytes.ensures.value) ∙ sym c.prunes.ensures ∙ c.if-prunes.true in
    passes_nothing dirs (plan_of c.args.rules.now) c.args.now c.args.path.now _ _ c.args.progress.now (nothing_pruned dirs (plan_of c.args.rules.now).pruned c.args.path.now pruned)

pub returns-then-prunes-clause-leaves : goal.returns-then-prunes-clause-leaves
returns-then-prunes-clause-leaves g c = record { left = leaves_same _ _ _ _; keeps_order = λ o. o; was_unbroken = λ u. u }

pub returns-clause-done : goal.returns-clause-done
returns-clause-done g c = λ dirs told there found time relied.
    let unpruned : (plan_of c.args.rules.now).pruned c.args.path.now ≡ false = ap (plan_of c.args.rules.now).pruned (sym c.bytes.ensures.value) ∙ sym c.prunes.ensures ∙ c.if-prunes.false in
    c.in_ok-visit.ensures.shown dirs there told found time (relied there found unpruned)

pub returns-in_err-visit-clause-breaks : goal.returns-in_err-visit-clause-breaks
returns-in_err-visit-clause-breaks g c =
    let p : (dirs : Dirs) → g.T.Tree.dirs c.args.tree.now ≡ Some dirs → (there : Dir) → get dirs c.args.path.now ≡ Some there → c.args.time ≡ time_of there.times → ((dir : Dir) → get dirs c.args.path.now ≡ Some dir → (plan_of c.args.rules.now).pruned c.args.path.now ≡ false → Relied (g.V.Voucher.records c.args.voucher.now) ((plan_of c.args.rules.now).device_of c.args.path.now) c.args.path.now dir)
    → Breaks dirs (plan_of c.args.rules.now) c.args.now c.args.path.now (taken (g.D.Sink.taken c.args.sink.now) (g.P.Sink.taken c.args.echo.now)) (taken (g.D.Sink.taken c.visit.new.sink) (g.P.Sink.taken c.visit.new.echo)) =
    λ dirs told there found time relied.
    let unpruned : (plan_of c.args.rules.now).pruned c.args.path.now ≡ false = ap (plan_of c.args.rules.now).pruned (sym c.bytes.ensures.value) ∙ sym c.prunes.ensures ∙ c.if-prunes.false in
    c.in_err-visit.ensures.breaks dirs there told found time (relied there found unpruned) in
    when_err _ _ p

pub returns-then-prunes-clause-progress : goal.returns-then-prunes-clause-progress
returns-then-prunes-clause-progress g c = record { more = omega arith; rises = omega arith; counted = c.requires.counted; adds = no_children _ _ }

pub returns-then-prunes-clause-found : goal.returns-then-prunes-clause-found
returns-then-prunes-clause-found g c = λ dirs told there found time.
    let pruned : (plan_of c.args.rules.now).pruned c.args.path.now ≡ true = ap (plan_of c.args.rules.now).pruned (sym c.bytes.ensures.value) ∙ sym c.prunes.ensures ∙ c.if-prunes.true in
    let none = nothing_pruned dirs (plan_of c.args.rules.now).pruned c.args.path.now pruned in
    record { exact = λ w. raised_nothing _ _ (g.met.T.Tree.openings_below c.args.tree.now) (opens_none _ dirs (plan_of c.args.rules.now) c.args.path.now none); kept_limit = λ some. narrow_none (known (g.V.Voucher.records c.args.voucher.now)) dirs (plan_of c.args.rules.now) c.args.path.now c.args.limits.now.names none }

pub returns-clause-costs : goal.returns-clause-costs
returns-clause-costs g c = λ dirs told there found time.
    let unpruned : (plan_of c.args.rules.now).pruned c.args.path.now ≡ false = ap (plan_of c.args.rules.now).pruned (sym c.bytes.ensures.value) ∙ sym c.prunes.ensures ∙ c.if-prunes.false in
    record {
      seen = omega (arith, here_once dirs (plan_of c.args.rules.now).pruned c.args.path.now there found unpruned, c.in_ok-visit.ensures.costs.seen);
      opened = λ w. omega (arith, opens_one (known (g.V.Voucher.records c.args.voucher.now)) dirs (plan_of c.args.rules.now) c.args.path.now there c.args.time found unpruned time, c.in_ok-visit.ensures.costs.opened w);
    }

pub returns-in_err-visit-clause-costs : goal.returns-in_err-visit-clause-costs
returns-in_err-visit-clause-costs g c = λ dirs told there found time.
    let unpruned : (plan_of c.args.rules.now).pruned c.args.path.now ≡ false = ap (plan_of c.args.rules.now).pruned (sym c.bytes.ensures.value) ∙ sym c.prunes.ensures ∙ c.if-prunes.false in
    record {
      seen = omega (arith, here_once dirs (plan_of c.args.rules.now).pruned c.args.path.now there found unpruned, c.in_err-visit.ensures.costs.seen);
      opened = λ w. omega (arith, opens_one (known (g.V.Voucher.records c.args.voucher.now)) dirs (plan_of c.args.rules.now) c.args.path.now there c.args.time found unpruned time, c.in_err-visit.ensures.costs.opened w);
    }

pub returns-clause-found : goal.returns-clause-found
returns-clause-found g c = λ dirs told there found time.
    let unpruned : (plan_of c.args.rules.now).pruned c.args.path.now ≡ false = ap (plan_of c.args.rules.now).pruned (sym c.bytes.ensures.value) ∙ sym c.prunes.ensures ∙ c.if-prunes.false in
    record {
      exact = λ w. c.in_ok-visit.ensures.found.exact w ∙ ap (raised (g.T.Tree.openings c.args.tree.now)) (sym (opens_one (known (g.V.Voucher.records c.args.voucher.now)) dirs (plan_of c.args.rules.now) c.args.path.now there c.args.time found unpruned time));
      kept_limit = λ some. narrow_one (known (g.V.Voucher.records c.args.voucher.now)) dirs (plan_of c.args.rules.now) c.args.path.now there c.args.time c.args.limits.now.names found unpruned time (c.in_ok-visit.ensures.found.kept_limit some dirs there told found);
    }

pub returns-in_err-visit-clause-ended : goal.returns-in_err-visit-clause-ended
returns-in_err-visit-clause-ended g c =
    let unpruned : (plan_of c.args.rules.now).pruned c.args.path.now ≡ false = ap (plan_of c.args.rules.now).pruned (sym c.bytes.ensures.value) ∙ sym c.prunes.ensures ∙ c.if-prunes.false in
    if_err c.from_residual.result c.in_err-visit.field-0.0 _ (search rules) (record {
      no_missing = c.in_err-visit.ensures.ended.no_missing;
      unpruned = unpruned;
      whole = c.in_err-visit.ensures.ended.whole;
      many = λ e. λ dirs told there found time.
          omega (arith, here_once dirs (plan_of c.args.rules.now).pruned c.args.path.now there found unpruned, c.in_err-visit.ensures.ended.many e);
      wide = λ e. λ dirs told there found time.
          let wide = c.in_err-visit.ensures.ended.wide e in
          let names = wide.many_names dirs there told found in
          record {
            listed = λ dir is w. ap (λ (t : Moment). is_vouched (known (g.V.Voucher.records c.args.voucher.now)) c.args.path.now t ((plan_of c.args.rules.now).device_of c.args.path.now)) (same_time dirs c.args.path.now dir there c.args.time is found time) ∙ wide.listed w;
            many_names = record { dir = there; there = found; unpruned = unpruned; shown = names.0; longer = names.1 };
          };
    })
