use Rattle.std.proofs.Common.{rules, if◌then◌else◌, ◌≡◌, ◌∷◌, [], ◌+◌, ◌≤◌, refl, sym, ◌∙◌, arith, ap, subst, List, ℕ, Ok, length, inr}
use Rattle.std.specs.FinMap.{get}
use Rattle.loc_outside.specs.Causes.{raised}
use Rattle.loc_outside.specs.Trees.{Dir, StatsAs}
use Rattle.tree_scan.specs.Blocks.{time_of}
use Rattle.tree_scan.specs.Plans.{plan_of}
use Rattle.tree_scan.specs.Records.{answers_all, is_vouched, known}
use Rattle.tree_scan.specs.Reach.{is_tried}
use Rattle.tree_scan.specs.Steps.{weight}
use Rattle.tree_scan.specs.Stops.{WroteBlocks, taken}
use Rattle.tree_scan.specs.Walks.{AddsChildren, standing}
use Rattle.tree_scan.specs.declared.rules.ScanFault.TheVariants.{RootMissing, TreeFault, WriteFault, TooManyNames, TooManyDirectories, OutOfMemory}
use Rattle.tree_scan.proofs.Texts.{normal_fits}
use Rattle.tree_scan.proofs.TreeAnswers.{stat_found, stat_none, when_true, when_false, fault_is, whole_by, not_none, some_is}
use Rattle.tree_scan.proofs.Visits.{stat_share}
use Rattle.tree_scan.proofs.Asking.{Keeps, Low, fewer_known, fewer_left, fewer_same, honest_known, keeps_begin, keeps_step, low_step, mark_before, mark_now, order_step, some_now}
use Rattle.tree_scan.proofs.Lists.{Rises}
use Rattle.tree_scan.proofs.Sorted.{Apart}
use Rattle.tree_scan.proofs.Past.{Visited, visited_begin, visited_step, visited_full}
use Rattle.tree_scan.proofs.Stops.{came_to, came_to_root, narrow_entry, unvouched_entry, wide_hand}
use Rattle.tree_scan.proofs.Ends.{asked_by, exceeded_by, exceeded_none, found_by, found_missing, found_none, stopped_by, stopped_none, stopped_write}
use Rattle.tree_scan.proofs.Loop.{Split, Stands, Counts, split_step, split_end, split_map, wrote_of, tried_room, unvouched_room, breaks_off, whole_blocks, parts_header, wrote_header, step_relied, root_split, stands_root, stands_step, opens_same, asked_room, stops_wide, stops_full, root_wide, root_full}
use Rattle.tree_scan.proofs.scanning.scan.Goals as goal

pub walk-init : goal.walk-init
walk-init g c = record {
  told = λ dirs told honest.
      let root_is : c.root_of-path.result ≡ c.args.rules.now.root = c.root_of-path.ensures in
      let fits = normal_fits c.args.rules.now.root c.requires.root in
      let path_fits = subst (λ (p : List ℕ). length p ≤ 4096) (sym root_is) fits in
      let f = stat_found _ dirs c.root_of-path.result c.in-Ok.found c.in-Some.times told c.in-Some.is (subst (λ (p : List ℕ). StatsAs (g.T.Tree.dirs c.args.tree.now) p (Ok c.in-Ok.found)) c.bytes.ensures.value c.in-Ok.ensures.found) in
      let told2 = g.met.T.Tree.keeps_dirs _ _ c.in-Ok.ensures.kept ∙ told in
      let time = c.later-time.ensures ∙ ap time_of f.times_are in
      let s0 : Split dirs (plan_of c.args.rules.now).pruned (plan_of c.args.rules.now).root (c.root_of-path.result ∷ []) (λ done went. WroteBlocks (plan_of c.args.rules.now) c.args.now done (taken (g.D.Sink.taken c.args.sink.now) (g.P.Sink.taken c.args.echo.now)) (taken (g.D.Sink.taken c.put_front.new.sink) (g.P.Sink.taken c.args.echo.now))) = root_split dirs (plan_of c.args.rules.now) c.root_of-path.result (λ done went. WroteBlocks (plan_of c.args.rules.now) c.args.now done (taken (g.D.Sink.taken c.args.sink.now) (g.P.Sink.taken c.args.echo.now)) (taken (g.D.Sink.taken c.put_front.new.sink) (g.P.Sink.taken c.args.echo.now))) root_is fits (wrote_header (plan_of c.args.rules.now) c.args.now _ _ _ c.in-Ok-put_front.ensures.ok) in
      let relied = step_relied dirs (plan_of c.args.rules.now) c.root_of-path.result [] (c.root_of-path.result ∷ []) (g.V.Voucher.records c.args.voucher.now) (g.V.Voucher.records c.args.voucher.now) (λ done went. WroteBlocks (plan_of c.args.rules.now) c.args.now done (taken (g.D.Sink.taken c.args.sink.now) (g.P.Sink.taken c.args.echo.now)) (taken (g.D.Sink.taken c.put_front.new.sink) (g.P.Sink.taken c.args.echo.now))) (fewer_same (g.V.Voucher.records c.args.voucher.now)) honest path_fits refl s0 in
      let share = stat_share (g.T.Tree.priced c.args.tree.now) c.bytes.result.now c.args.rules.now.root _ _ (c.bytes.ensures.value ∙ c.root_of-path.ensures) c.in-Ok.ensures.stats in
      let passes = c.in_ok-come.ensures.done dirs told2 f.dir f.is time relied in
      let counts : Counts dirs (plan_of c.args.rules.now) (record { taken = g.D.Sink.taken c.args.sink.now; echoed = g.P.Sink.taken c.args.echo.now; stats = g.T.Tree.stats c.args.tree.now + (if g.T.Tree.priced c.args.tree.now c.args.rules.now.root then 1 else 0); openings = g.T.Tree.openings c.args.tree.now; records = known (g.V.Voucher.records c.args.voucher.now); priced = g.T.Tree.priced c.args.tree.now; limits = c.args.limits.now }) c.root_of-path.result (record { standing = standing (g.D.Sink.taken c.put_front.new.sink) (g.P.Sink.taken c.args.echo.now) c.new-progress.result; stats = g.T.Tree.stats c.stat.new.self; openings = g.T.Tree.openings c.stat.new.self; whole = answers_all (g.V.Voucher.records c.args.voucher.now) (g.V.Voucher.ordered c.args.voucher.now) (g.V.Voucher.unbroken c.args.voucher.now) }) (record { standing = standing (g.D.Sink.taken c.come.new.sink) (g.P.Sink.taken c.come.new.echo) c.come.new.progress; stats = g.T.Tree.stats c.come.new.tree; openings = g.T.Tree.openings c.come.new.tree; whole = answers_all (g.V.Voucher.records c.args.voucher.now) (g.V.Voucher.ordered c.args.voucher.now) (g.V.Voucher.unbroken c.come.new.voucher) }) = record { mark = mark_before (g.V.Voucher.records c.args.voucher.now) (g.V.Voucher.ordered c.args.voucher.now) _ _ c.in_ok-come.ensures.leaves.was_unbroken; opened = (c.in_ok-come.ensures.found dirs told2 f.dir f.is time).exact; few = omega (arith, c.in_ok-come.ensures.bounded.within, c.requires.limits.1); adds = c.in_ok-come.ensures.progress.adds; narrow = (c.in_ok-come.ensures.found dirs told2 f.dir f.is time).kept_limit (honest_known _ dirs (plan_of c.args.rules.now) honest) } in
      stands_root dirs (plan_of c.args.rules.now) c.args.now (record { taken = g.D.Sink.taken c.args.sink.now; echoed = g.P.Sink.taken c.args.echo.now; stats = g.T.Tree.stats c.args.tree.now + (if g.T.Tree.priced c.args.tree.now c.args.rules.now.root then 1 else 0); openings = g.T.Tree.openings c.args.tree.now; records = known (g.V.Voucher.records c.args.voucher.now); priced = g.T.Tree.priced c.args.tree.now; limits = c.args.limits.now }) c.root_of-path.result (record { standing = standing (g.D.Sink.taken c.put_front.new.sink) (g.P.Sink.taken c.args.echo.now) c.new-progress.result; stats = g.T.Tree.stats c.stat.new.self; openings = g.T.Tree.openings c.stat.new.self; whole = answers_all (g.V.Voucher.records c.args.voucher.now) (g.V.Voucher.ordered c.args.voucher.now) (g.V.Voucher.unbroken c.args.voucher.now) }) (record { standing = standing (g.D.Sink.taken c.come.new.sink) (g.P.Sink.taken c.come.new.echo) c.come.new.progress; stats = g.T.Tree.stats c.come.new.tree; openings = g.T.Tree.openings c.come.new.tree; whole = answers_all (g.V.Voucher.records c.args.voucher.now) (g.V.Voucher.ordered c.args.voucher.now) (g.V.Voucher.unbroken c.come.new.voucher) }) root_is fits c.in-Ok-put_front.ensures.ok refl c.new-progress.ensures.pending c.new-progress.ensures.tried c.new-progress.ensures.no_blocks c.new-progress.ensures.no_entries c.in-Ok.ensures.openings passes counts (omega (arith, share, c.in_ok-come.ensures.stats));
  there = λ dirs told none.
      let f = stat_found _ dirs c.root_of-path.result c.in-Ok.found c.in-Some.times told c.in-Some.is (subst (λ (p : List ℕ). StatsAs (g.T.Tree.dirs c.args.tree.now) p (Ok c.in-Ok.found)) c.bytes.ensures.value c.in-Ok.ensures.found) in
      let told2 = g.met.T.Tree.keeps_dirs _ _ c.in-Ok.ensures.kept ∙ told in
      let time = c.later-time.ensures ∙ ap time_of f.times_are in
      not_none f.dir (sym f.is ∙ ap (get dirs) c.root_of-path.ensures ∙ none);
  visited = λ dirs told.
      let root_is : c.root_of-path.result ≡ c.args.rules.now.root = c.root_of-path.ensures in
      let f = stat_found _ dirs c.root_of-path.result c.in-Ok.found c.in-Some.times told c.in-Some.is (subst (λ (p : List ℕ). StatsAs (g.T.Tree.dirs c.args.tree.now) p (Ok c.in-Ok.found)) c.bytes.ensures.value c.in-Ok.ensures.found) in
      let told2 = g.met.T.Tree.keeps_dirs _ _ c.in-Ok.ensures.kept ∙ told in
      let time = c.later-time.ensures ∙ ap time_of f.times_are in
      let adds = subst (λ (l : List (List ℕ)). AddsChildren c.root_of-path.result l c.come.new.progress.pending) c.new-progress.ensures.pending c.in_ok-come.ensures.progress.adds in
      visited_step dirs (is_tried (plan_of c.args.rules.now).pruned) c.root_of-path.result [] c.come.new.progress.pending c.new-progress.result.tried c.come.new.progress.tried adds (tt, tt) ((c.in_ok-come.ensures.costs dirs told2 f.dir f.is time).seen) (visited_begin dirs c.root_of-path.result c.new-progress.result.tried c.new-progress.ensures.tried);
  order =
      let adds = subst (λ (l : List (List ℕ)). AddsChildren c.root_of-path.result l c.come.new.progress.pending) c.new-progress.ensures.pending c.in_ok-come.ensures.progress.adds in
      order_step c.root_of-path.result [] c.come.new.progress.pending adds (tt, tt);
  low =
      let adds = subst (λ (l : List (List ℕ)). AddsChildren c.root_of-path.result l c.come.new.progress.pending) c.new-progress.ensures.pending c.in_ok-come.ensures.progress.adds in
      low_step c.root_of-path.result [] c.come.new.progress.pending adds tt;
  keeps =
      let adds = subst (λ (l : List (List ℕ)). AddsChildren c.root_of-path.result l c.come.new.progress.pending) c.new-progress.ensures.pending c.in_ok-come.ensures.progress.adds in
      keeps_begin c.root_of-path.result c.come.new.progress.pending (g.V.Voucher.records c.args.voucher.now) (g.V.Voucher.records c.come.new.voucher) (g.V.Voucher.ordered c.args.voucher.now) (g.V.Voucher.unbroken c.come.new.voucher) adds c.in_ok-come.ensures.leaves.left;
  fewer = fewer_left c.root_of-path.result (g.V.Voucher.records c.args.voucher.now) (g.V.Voucher.records c.args.voucher.now) _ _ _ (fewer_same (g.V.Voucher.records c.args.voucher.now)) c.in_ok-come.ensures.leaves.left;
  ordered = c.in_ok-come.ensures.leaves.keeps_order;
  sound = c.in_ok-come.ensures.sound;
  tried = c.in_ok-come.ensures.bounded.within;
  counted = c.in_ok-come.ensures.progress.counted;
  openings = omega (arith, c.in_ok-come.ensures.bounded.openings_tried, c.in-Ok.ensures.openings, c.new-progress.ensures.tried);
  quiet = c.in_ok-come.ensures.quiet;
  faults = omega (arith, c.in_ok-come.ensures.failures.tree_later, c.in-Ok.ensures.cause.later);
  kept = g.met.T.Tree.keeps_on _ _ _ c.in-Ok.ensures.kept c.in_ok-come.ensures.kept.tree_kept;
  voucher_kept = c.in_ok-come.ensures.kept.voucher_kept;
  sink_faults = omega (arith, c.in_ok-come.ensures.failures.sink_later, c.in-Ok-put_front.ensures.cause.later);
  sink_kept = g.met.D.Sink.keeps_on _ _ _ c.in-Ok-put_front.ensures.kept c.in_ok-come.ensures.kept.sink_kept;
  echo_faults = c.in_ok-come.ensures.failures.echo_later;
  echo_kept = c.in_ok-come.ensures.kept.echo_kept;
}

pub walk-preserved : goal.walk-preserved
walk-preserved g c = record {
  told = λ dirs told honest.
      let fits = normal_fits c.pop.new.into (c.pop.ensures.normal c.walk-test.true) in
      let pend : c.walk.progress.pending ≡ c.pop.new.into ∷ c.pop.new.self = when_true c.pop.result (c.walk.progress.pending ≡ c.pop.new.into ∷ c.pop.new.self) (c.walk.progress.pending ≡ []) c.walk-test.true c.pop.ensures.popped in
      let told2 = g.met.T.Tree.keeps_dirs _ _ c.walk.invariant.kept ∙ told in
      let s = c.walk.invariant.told dirs told honest in
      let relied = step_relied dirs (plan_of c.args.rules.now) c.pop.new.into c.pop.new.self c.walk.progress.pending (g.V.Voucher.records c.walk.voucher) (g.V.Voucher.records c.args.voucher.now) (Stands (plan_of c.args.rules.now) c.args.now (record { taken = g.D.Sink.taken c.args.sink.now; echoed = g.P.Sink.taken c.args.echo.now; stats = g.T.Tree.stats c.args.tree.now + (if g.T.Tree.priced c.args.tree.now c.args.rules.now.root then 1 else 0); openings = g.T.Tree.openings c.args.tree.now; records = known (g.V.Voucher.records c.args.voucher.now); priced = g.T.Tree.priced c.args.tree.now; limits = c.args.limits.now }) (record { standing = standing (g.D.Sink.taken c.walk.sink) (g.P.Sink.taken c.walk.echo) c.walk.progress; stats = g.T.Tree.stats c.walk.tree; openings = g.T.Tree.openings c.walk.tree; whole = answers_all (g.V.Voucher.records c.args.voucher.now) (g.V.Voucher.ordered c.args.voucher.now) (g.V.Voucher.unbroken c.walk.voucher) })) c.walk.invariant.fewer honest fits pend s in
      let order = subst (Rises Apart) pend c.walk.invariant.order in
      let keeps = subst (Keeps (known (g.V.Voucher.records c.args.voucher.now)) (known (g.V.Voucher.records c.walk.voucher)) (answers_all (g.V.Voucher.records c.args.voucher.now) (g.V.Voucher.ordered c.args.voucher.now) (g.V.Voucher.unbroken c.walk.voucher))) pend c.walk.invariant.keeps in
      let priced : weight (plan_of c.args.rules.now).pruned (g.T.Tree.priced c.walk.tree) (c.pop.new.into ∷ []) ≡ weight (plan_of c.args.rules.now).pruned (g.T.Tree.priced c.args.tree.now) (c.pop.new.into ∷ []) = λ i. weight (plan_of c.args.rules.now).pruned (λ p. g.met.T.Tree.keeps_priced _ _ p c.walk.invariant.kept i) (c.pop.new.into ∷ []) in
      let looks : g.T.Tree.stats c.step.new.tree ≤ g.T.Tree.stats c.walk.tree + weight (plan_of c.args.rules.now).pruned (g.T.Tree.priced c.args.tree.now) (c.pop.new.into ∷ []) = omega (arith, priced, c.in_ok-step.ensures.stats) in
      let passes = c.in_ok-step.ensures.done dirs told2 relied in
      let counts : Counts dirs (plan_of c.args.rules.now) (record { taken = g.D.Sink.taken c.args.sink.now; echoed = g.P.Sink.taken c.args.echo.now; stats = g.T.Tree.stats c.args.tree.now + (if g.T.Tree.priced c.args.tree.now c.args.rules.now.root then 1 else 0); openings = g.T.Tree.openings c.args.tree.now; records = known (g.V.Voucher.records c.args.voucher.now); priced = g.T.Tree.priced c.args.tree.now; limits = c.args.limits.now }) c.pop.new.into (record { standing = standing (g.D.Sink.taken c.walk.sink) (g.P.Sink.taken c.walk.echo) (record { pending = c.pop.new.self; tried = c.walk.progress.tried; counts = c.walk.progress.counts }); stats = g.T.Tree.stats c.walk.tree; openings = g.T.Tree.openings c.walk.tree; whole = answers_all (g.V.Voucher.records c.args.voucher.now) (g.V.Voucher.ordered c.args.voucher.now) (g.V.Voucher.unbroken c.walk.voucher) }) (record { standing = standing (g.D.Sink.taken c.step.new.sink) (g.P.Sink.taken c.step.new.echo) c.step.new.progress; stats = g.T.Tree.stats c.step.new.tree; openings = g.T.Tree.openings c.step.new.tree; whole = answers_all (g.V.Voucher.records c.args.voucher.now) (g.V.Voucher.ordered c.args.voucher.now) (g.V.Voucher.unbroken c.step.new.voucher) }) = record {
        mark = mark_before (g.V.Voucher.records c.args.voucher.now) (g.V.Voucher.ordered c.args.voucher.now) _ _ c.in_ok-step.ensures.leaves.was_unbroken;
        opened = λ w. (c.in_ok-step.ensures.found dirs told2).exact (mark_now (g.V.Voucher.records c.args.voucher.now) (g.V.Voucher.records c.walk.voucher) (g.V.Voucher.ordered c.args.voucher.now) _ _ c.walk.invariant.fewer c.walk.invariant.ordered w) ∙ ap (raised (g.T.Tree.openings c.walk.tree)) (opens_same dirs (plan_of c.args.rules.now) c.pop.new.into c.pop.new.self (known (g.V.Voucher.records c.walk.voucher)) (known (g.V.Voucher.records c.args.voucher.now)) (answers_all (g.V.Voucher.records c.args.voucher.now) (g.V.Voucher.ordered c.args.voucher.now) (g.V.Voucher.unbroken c.walk.voucher)) (fewer_known (g.V.Voucher.records c.args.voucher.now) (g.V.Voucher.records c.walk.voucher) (honest_known _ dirs (plan_of c.args.rules.now) honest) c.walk.invariant.fewer) (mark_before (g.V.Voucher.records c.args.voucher.now) (g.V.Voucher.ordered c.args.voucher.now) _ _ c.in_ok-step.ensures.leaves.was_unbroken w) keeps);
        few = omega (arith, c.in_ok-step.ensures.bounded.within, c.requires.limits.1);
        adds = c.in_ok-step.ensures.progress.adds;
        narrow = narrow_entry c.args.limits.now.names (known (g.V.Voucher.records c.walk.voucher)) (known (g.V.Voucher.records c.args.voucher.now)) dirs (plan_of c.args.rules.now) c.pop.new.into (fewer_known (g.V.Voucher.records c.args.voucher.now) (g.V.Voucher.records c.walk.voucher) (honest_known _ dirs (plan_of c.args.rules.now) honest) c.walk.invariant.fewer) ((c.in_ok-step.ensures.found dirs told2).kept_limit (some_now (g.V.Voucher.records c.args.voucher.now) (g.V.Voucher.records c.walk.voucher) (honest_known _ dirs (plan_of c.args.rules.now) honest) c.walk.invariant.fewer));
      } in
      split_step dirs (plan_of c.args.rules.now).pruned (plan_of c.args.rules.now).root c.pop.new.into c.pop.new.self c.walk.progress.pending c.step.new.progress.pending (Stands (plan_of c.args.rules.now) c.args.now (record { taken = g.D.Sink.taken c.args.sink.now; echoed = g.P.Sink.taken c.args.echo.now; stats = g.T.Tree.stats c.args.tree.now + (if g.T.Tree.priced c.args.tree.now c.args.rules.now.root then 1 else 0); openings = g.T.Tree.openings c.args.tree.now; records = known (g.V.Voucher.records c.args.voucher.now); priced = g.T.Tree.priced c.args.tree.now; limits = c.args.limits.now }) (record { standing = standing (g.D.Sink.taken c.walk.sink) (g.P.Sink.taken c.walk.echo) c.walk.progress; stats = g.T.Tree.stats c.walk.tree; openings = g.T.Tree.openings c.walk.tree; whole = answers_all (g.V.Voucher.records c.args.voucher.now) (g.V.Voucher.ordered c.args.voucher.now) (g.V.Voucher.unbroken c.walk.voucher) })) (Stands (plan_of c.args.rules.now) c.args.now (record { taken = g.D.Sink.taken c.args.sink.now; echoed = g.P.Sink.taken c.args.echo.now; stats = g.T.Tree.stats c.args.tree.now + (if g.T.Tree.priced c.args.tree.now c.args.rules.now.root then 1 else 0); openings = g.T.Tree.openings c.args.tree.now; records = known (g.V.Voucher.records c.args.voucher.now); priced = g.T.Tree.priced c.args.tree.now; limits = c.args.limits.now }) (record { standing = standing (g.D.Sink.taken c.step.new.sink) (g.P.Sink.taken c.step.new.echo) c.step.new.progress; stats = g.T.Tree.stats c.step.new.tree; openings = g.T.Tree.openings c.step.new.tree; whole = answers_all (g.V.Voucher.records c.args.voucher.now) (g.V.Voucher.ordered c.args.voucher.now) (g.V.Voucher.unbroken c.step.new.voucher) })) fits pend passes.pending
      (λ done went st. stands_step dirs (plan_of c.args.rules.now) c.args.now (record { taken = g.D.Sink.taken c.args.sink.now; echoed = g.P.Sink.taken c.args.echo.now; stats = g.T.Tree.stats c.args.tree.now + (if g.T.Tree.priced c.args.tree.now c.args.rules.now.root then 1 else 0); openings = g.T.Tree.openings c.args.tree.now; records = known (g.V.Voucher.records c.args.voucher.now); priced = g.T.Tree.priced c.args.tree.now; limits = c.args.limits.now }) c.pop.new.into c.pop.new.self (record { standing = standing (g.D.Sink.taken c.walk.sink) (g.P.Sink.taken c.walk.echo) (record { pending = c.pop.new.self; tried = c.walk.progress.tried; counts = c.walk.progress.counts }); stats = g.T.Tree.stats c.walk.tree; openings = g.T.Tree.openings c.walk.tree; whole = answers_all (g.V.Voucher.records c.args.voucher.now) (g.V.Voucher.ordered c.args.voucher.now) (g.V.Voucher.unbroken c.walk.voucher) }) (record { standing = standing (g.D.Sink.taken c.step.new.sink) (g.P.Sink.taken c.step.new.echo) c.step.new.progress; stats = g.T.Tree.stats c.step.new.tree; openings = g.T.Tree.openings c.step.new.tree; whole = answers_all (g.V.Voucher.records c.args.voucher.now) (g.V.Voucher.ordered c.args.voucher.now) (g.V.Voucher.unbroken c.step.new.voucher) }) done went refl order passes counts
      (subst (λ (l : List (List ℕ)). Stands (plan_of c.args.rules.now) c.args.now (record { taken = g.D.Sink.taken c.args.sink.now; echoed = g.P.Sink.taken c.args.echo.now; stats = g.T.Tree.stats c.args.tree.now + (if g.T.Tree.priced c.args.tree.now c.args.rules.now.root then 1 else 0); openings = g.T.Tree.openings c.args.tree.now; records = known (g.V.Voucher.records c.args.voucher.now); priced = g.T.Tree.priced c.args.tree.now; limits = c.args.limits.now }) (record { standing = standing (g.D.Sink.taken c.walk.sink) (g.P.Sink.taken c.walk.echo) (record { pending = l; tried = c.walk.progress.tried; counts = c.walk.progress.counts }); stats = g.T.Tree.stats c.walk.tree; openings = g.T.Tree.openings c.walk.tree; whole = answers_all (g.V.Voucher.records c.args.voucher.now) (g.V.Voucher.ordered c.args.voucher.now) (g.V.Voucher.unbroken c.walk.voucher) }) done went) pend st) looks) s;
  there = c.walk.invariant.there;
  visited = λ dirs told.
      let pend : c.walk.progress.pending ≡ c.pop.new.into ∷ c.pop.new.self = when_true c.pop.result (c.walk.progress.pending ≡ c.pop.new.into ∷ c.pop.new.self) (c.walk.progress.pending ≡ []) c.walk-test.true c.pop.ensures.popped in
      let told2 = g.met.T.Tree.keeps_dirs _ _ c.walk.invariant.kept ∙ told in
      let order = subst (Rises Apart) pend c.walk.invariant.order in
      visited_step dirs (is_tried (plan_of c.args.rules.now).pruned) c.pop.new.into c.pop.new.self c.step.new.progress.pending c.walk.progress.tried c.step.new.progress.tried c.in_ok-step.ensures.progress.adds order ((c.in_ok-step.ensures.costs dirs told2).seen)
      (subst (λ (l : List (List ℕ)). Visited dirs l c.walk.progress.tried) pend (c.walk.invariant.visited dirs told));
  order =
      let fits = normal_fits c.pop.new.into (c.pop.ensures.normal c.walk-test.true) in
      let pend : c.walk.progress.pending ≡ c.pop.new.into ∷ c.pop.new.self = when_true c.pop.result (c.walk.progress.pending ≡ c.pop.new.into ∷ c.pop.new.self) (c.walk.progress.pending ≡ []) c.walk-test.true c.pop.ensures.popped in
      let order = subst (Rises Apart) pend c.walk.invariant.order in
      order_step c.pop.new.into c.pop.new.self c.step.new.progress.pending c.in_ok-step.ensures.progress.adds order;
  low =
      let fits = normal_fits c.pop.new.into (c.pop.ensures.normal c.walk-test.true) in
      let pend : c.walk.progress.pending ≡ c.pop.new.into ∷ c.pop.new.self = when_true c.pop.result (c.walk.progress.pending ≡ c.pop.new.into ∷ c.pop.new.self) (c.walk.progress.pending ≡ []) c.walk-test.true c.pop.ensures.popped in
      let low = subst Low pend c.walk.invariant.low in
      low_step c.pop.new.into c.pop.new.self c.step.new.progress.pending c.in_ok-step.ensures.progress.adds low.1;
  keeps =
      let fits = normal_fits c.pop.new.into (c.pop.ensures.normal c.walk-test.true) in
      let pend : c.walk.progress.pending ≡ c.pop.new.into ∷ c.pop.new.self = when_true c.pop.result (c.walk.progress.pending ≡ c.pop.new.into ∷ c.pop.new.self) (c.walk.progress.pending ≡ []) c.walk-test.true c.pop.ensures.popped in
      let order = subst (Rises Apart) pend c.walk.invariant.order in
      let low = subst Low pend c.walk.invariant.low in
      let keeps = subst (Keeps (known (g.V.Voucher.records c.args.voucher.now)) (known (g.V.Voucher.records c.walk.voucher)) (answers_all (g.V.Voucher.records c.args.voucher.now) (g.V.Voucher.ordered c.args.voucher.now) (g.V.Voucher.unbroken c.walk.voucher))) pend c.walk.invariant.keeps in
      keeps_step c.pop.new.into c.pop.new.self c.step.new.progress.pending (g.V.Voucher.records c.args.voucher.now) (g.V.Voucher.records c.walk.voucher) (g.V.Voucher.records c.step.new.voucher) (g.V.Voucher.ordered c.args.voucher.now) (g.V.Voucher.ordered c.walk.voucher) (g.V.Voucher.unbroken c.walk.voucher) (g.V.Voucher.unbroken c.step.new.voucher) low.0 order c.in_ok-step.ensures.progress.adds c.walk.invariant.fewer c.walk.invariant.ordered c.in_ok-step.ensures.leaves.was_unbroken c.in_ok-step.ensures.leaves.left keeps;
  fewer = fewer_left c.pop.new.into (g.V.Voucher.records c.args.voucher.now) (g.V.Voucher.records c.walk.voucher) _ _ _ c.walk.invariant.fewer c.in_ok-step.ensures.leaves.left;
  ordered = λ o. c.in_ok-step.ensures.leaves.keeps_order (c.walk.invariant.ordered o);
  sound = c.in_ok-step.ensures.sound;
  tried = c.in_ok-step.ensures.bounded.within;
  counted = c.in_ok-step.ensures.progress.counted;
  openings = omega (arith, c.in_ok-step.ensures.bounded.openings_tried, c.walk.invariant.openings);
  quiet = λ e. c.in_ok-step.ensures.quiet e ∙ c.walk.invariant.quiet e;
  faults = omega (arith, c.in_ok-step.ensures.failures.tree_later, c.walk.invariant.faults);
  kept = g.met.T.Tree.keeps_on _ _ _ c.walk.invariant.kept c.in_ok-step.ensures.kept.tree_kept;
  voucher_kept = g.met.V.Voucher.keeps_on _ _ _ c.walk.invariant.voucher_kept c.in_ok-step.ensures.kept.voucher_kept;
  sink_faults = omega (arith, c.in_ok-step.ensures.failures.sink_later, c.walk.invariant.sink_faults);
  sink_kept = g.met.D.Sink.keeps_on _ _ _ c.walk.invariant.sink_kept c.in_ok-step.ensures.kept.sink_kept;
  echo_faults = omega (arith, c.in_ok-step.ensures.failures.echo_later, c.walk.invariant.echo_faults);
  echo_kept = g.met.P.Sink.keeps_on _ _ _ c.walk.invariant.echo_kept c.in_ok-step.ensures.kept.echo_kept;
}

pub returns-clause-done : goal.returns-clause-done
returns-clause-done g c = λ dirs told honest.
    let all = split_end dirs (plan_of c.args.rules.now).pruned (plan_of c.args.rules.now).root c.walk.progress.pending (Stands (plan_of c.args.rules.now) c.args.now (record { taken = g.D.Sink.taken c.args.sink.now; echoed = g.P.Sink.taken c.args.echo.now; stats = g.T.Tree.stats c.args.tree.now + (if g.T.Tree.priced c.args.tree.now c.args.rules.now.root then 1 else 0); openings = g.T.Tree.openings c.args.tree.now; records = known (g.V.Voucher.records c.args.voucher.now); priced = g.T.Tree.priced c.args.tree.now; limits = c.args.limits.now }) (record { standing = standing (g.D.Sink.taken c.walk.sink) (g.P.Sink.taken c.walk.echo) c.walk.progress; stats = g.T.Tree.stats c.walk.tree; openings = g.T.Tree.openings c.walk.tree; whole = answers_all (g.V.Voucher.records c.args.voucher.now) (g.V.Voucher.ordered c.args.voucher.now) (g.V.Voucher.unbroken c.walk.voucher) })) (when_false c.pop.result (c.walk.progress.pending ≡ c.pop.new.into ∷ c.pop.new.self) (c.walk.progress.pending ≡ []) c.walk-test.false c.pop.ensures.popped) (c.walk.invariant.told dirs told honest) in
    all.taken

pub returns-clause-completed : goal.returns-clause-completed
returns-clause-completed g c = λ dirs told honest.
    let all = split_end dirs (plan_of c.args.rules.now).pruned (plan_of c.args.rules.now).root c.walk.progress.pending (Stands (plan_of c.args.rules.now) c.args.now (record { taken = g.D.Sink.taken c.args.sink.now; echoed = g.P.Sink.taken c.args.echo.now; stats = g.T.Tree.stats c.args.tree.now + (if g.T.Tree.priced c.args.tree.now c.args.rules.now.root then 1 else 0); openings = g.T.Tree.openings c.args.tree.now; records = known (g.V.Voucher.records c.args.voucher.now); priced = g.T.Tree.priced c.args.tree.now; limits = c.args.limits.now }) (record { standing = standing (g.D.Sink.taken c.walk.sink) (g.P.Sink.taken c.walk.echo) c.walk.progress; stats = g.T.Tree.stats c.walk.tree; openings = g.T.Tree.openings c.walk.tree; whole = answers_all (g.V.Voucher.records c.args.voucher.now) (g.V.Voucher.ordered c.args.voucher.now) (g.V.Voucher.unbroken c.walk.voucher) })) (when_false c.pop.result (c.walk.progress.pending ≡ c.pop.new.into ∷ c.pop.new.self) (c.walk.progress.pending ≡ []) c.walk-test.false c.pop.ensures.popped) (c.walk.invariant.told dirs told honest) in
    record {
      echoed = all.echoed;
      blocks = all.blocks;
      entries = all.entries;
      opened_once = λ w half. all.exact w half;
      few = omega (arith, all.tried, c.walk.invariant.tried);
      narrow = all.narrow;
    }

pub returns-clause-asked_of : goal.returns-clause-asked_of
returns-clause-asked_of g c = λ dirs told honest.
    let all = split_end dirs (plan_of c.args.rules.now).pruned (plan_of c.args.rules.now).root c.walk.progress.pending (Stands (plan_of c.args.rules.now) c.args.now (record { taken = g.D.Sink.taken c.args.sink.now; echoed = g.P.Sink.taken c.args.echo.now; stats = g.T.Tree.stats c.args.tree.now + (if g.T.Tree.priced c.args.tree.now c.args.rules.now.root then 1 else 0); openings = g.T.Tree.openings c.args.tree.now; records = known (g.V.Voucher.records c.args.voucher.now); priced = g.T.Tree.priced c.args.tree.now; limits = c.args.limits.now }) (record { standing = standing (g.D.Sink.taken c.walk.sink) (g.P.Sink.taken c.walk.echo) c.walk.progress; stats = g.T.Tree.stats c.walk.tree; openings = g.T.Tree.openings c.walk.tree; whole = answers_all (g.V.Voucher.records c.args.voucher.now) (g.V.Voucher.ordered c.args.voucher.now) (g.V.Voucher.unbroken c.walk.voucher) })) (when_false c.pop.result (c.walk.progress.pending ≡ c.pop.new.into ∷ c.pop.new.self) (c.walk.progress.pending ≡ []) c.walk-test.false c.pop.ensures.popped) (c.walk.invariant.told dirs told honest) in
    record {
      opened = omega (arith, all.tried, c.walk.invariant.openings);
      unvouched_alone = λ w. all.opened w;
      stats = omega (arith, all.asked);
    }

pub returns-clause-lacking : goal.returns-clause-lacking
returns-clause-lacking g c = λ dirs told none. absurd (c.walk.invariant.there dirs told none)

pub returns-in_err-step-clause-stopped : goal.returns-in_err-step-clause-stopped
returns-in_err-step-clause-stopped g c =
    stopped_by c.from_residual-in_err-step.result (g.T.Tree.dirs c.args.tree.now) (g.V.Voucher.records c.args.voucher.now) c.args.limits.now (answers_all (g.V.Voucher.records c.args.voucher.now) (g.V.Voucher.ordered c.args.voucher.now) (g.V.Voucher.unbroken c.step.new.voucher)) c.args.now (plan_of c.args.rules.now) (taken (g.D.Sink.taken c.args.sink.now) (g.P.Sink.taken c.args.echo.now)) (taken (g.D.Sink.taken c.step.new.sink) (g.P.Sink.taken c.step.new.echo))
    (λ dirs told honest.
    let fits = normal_fits c.pop.new.into (c.pop.ensures.normal c.walk-test.true) in
    let pend : c.walk.progress.pending ≡ c.pop.new.into ∷ c.pop.new.self = when_true c.pop.result (c.walk.progress.pending ≡ c.pop.new.into ∷ c.pop.new.self) (c.walk.progress.pending ≡ []) c.walk-test.true c.pop.ensures.popped in
    let told2 = g.met.T.Tree.keeps_dirs _ _ c.walk.invariant.kept ∙ told in
    let s = c.walk.invariant.told dirs told honest in
    let relied = step_relied dirs (plan_of c.args.rules.now) c.pop.new.into c.pop.new.self c.walk.progress.pending (g.V.Voucher.records c.walk.voucher) (g.V.Voucher.records c.args.voucher.now) (Stands (plan_of c.args.rules.now) c.args.now (record { taken = g.D.Sink.taken c.args.sink.now; echoed = g.P.Sink.taken c.args.echo.now; stats = g.T.Tree.stats c.args.tree.now + (if g.T.Tree.priced c.args.tree.now c.args.rules.now.root then 1 else 0); openings = g.T.Tree.openings c.args.tree.now; records = known (g.V.Voucher.records c.args.voucher.now); priced = g.T.Tree.priced c.args.tree.now; limits = c.args.limits.now }) (record { standing = standing (g.D.Sink.taken c.walk.sink) (g.P.Sink.taken c.walk.echo) c.walk.progress; stats = g.T.Tree.stats c.walk.tree; openings = g.T.Tree.openings c.walk.tree; whole = answers_all (g.V.Voucher.records c.args.voucher.now) (g.V.Voucher.ordered c.args.voucher.now) (g.V.Voucher.unbroken c.walk.voucher) })) c.walk.invariant.fewer honest fits pend s in
    let sw : Split dirs (plan_of c.args.rules.now).pruned (plan_of c.args.rules.now).root c.walk.progress.pending (λ done went. WroteBlocks (plan_of c.args.rules.now) c.args.now done (taken (g.D.Sink.taken c.args.sink.now) (g.P.Sink.taken c.args.echo.now)) (taken (g.D.Sink.taken c.walk.sink) (g.P.Sink.taken c.walk.echo))) = split_map dirs (plan_of c.args.rules.now).pruned (plan_of c.args.rules.now).root c.walk.progress.pending (Stands (plan_of c.args.rules.now) c.args.now (record { taken = g.D.Sink.taken c.args.sink.now; echoed = g.P.Sink.taken c.args.echo.now; stats = g.T.Tree.stats c.args.tree.now + (if g.T.Tree.priced c.args.tree.now c.args.rules.now.root then 1 else 0); openings = g.T.Tree.openings c.args.tree.now; records = known (g.V.Voucher.records c.args.voucher.now); priced = g.T.Tree.priced c.args.tree.now; limits = c.args.limits.now }) (record { standing = standing (g.D.Sink.taken c.walk.sink) (g.P.Sink.taken c.walk.echo) c.walk.progress; stats = g.T.Tree.stats c.walk.tree; openings = g.T.Tree.openings c.walk.tree; whole = answers_all (g.V.Voucher.records c.args.voucher.now) (g.V.Voucher.ordered c.args.voucher.now) (g.V.Voucher.unbroken c.walk.voucher) })) (λ done went. WroteBlocks (plan_of c.args.rules.now) c.args.now done (taken (g.D.Sink.taken c.args.sink.now) (g.P.Sink.taken c.args.echo.now)) (taken (g.D.Sink.taken c.walk.sink) (g.P.Sink.taken c.walk.echo))) (λ done went st. wrote_of (plan_of c.args.rules.now) c.args.now (record { taken = g.D.Sink.taken c.args.sink.now; echoed = g.P.Sink.taken c.args.echo.now; stats = g.T.Tree.stats c.args.tree.now + (if g.T.Tree.priced c.args.tree.now c.args.rules.now.root then 1 else 0); openings = g.T.Tree.openings c.args.tree.now; records = known (g.V.Voucher.records c.args.voucher.now); priced = g.T.Tree.priced c.args.tree.now; limits = c.args.limits.now }) (record { standing = standing (g.D.Sink.taken c.walk.sink) (g.P.Sink.taken c.walk.echo) c.walk.progress; stats = g.T.Tree.stats c.walk.tree; openings = g.T.Tree.openings c.walk.tree; whole = answers_all (g.V.Voucher.records c.args.voucher.now) (g.V.Voucher.ordered c.args.voucher.now) (g.V.Voucher.unbroken c.walk.voucher) }) done went st) s in
    breaks_off dirs (plan_of c.args.rules.now) c.args.now _ _ (g.D.Sink.taken c.step.new.sink) _ _ (g.P.Sink.taken c.step.new.echo) c.pop.new.into c.pop.new.self c.walk.progress.pending fits pend sw (c.in_err-step.ensures.breaks dirs told2 relied))
    (λ e dirs told honest.
    let s = c.walk.invariant.told dirs told honest in
    let sw : Split dirs (plan_of c.args.rules.now).pruned (plan_of c.args.rules.now).root c.walk.progress.pending (λ done went. WroteBlocks (plan_of c.args.rules.now) c.args.now done (taken (g.D.Sink.taken c.args.sink.now) (g.P.Sink.taken c.args.echo.now)) (taken (g.D.Sink.taken c.walk.sink) (g.P.Sink.taken c.walk.echo))) = split_map dirs (plan_of c.args.rules.now).pruned (plan_of c.args.rules.now).root c.walk.progress.pending (Stands (plan_of c.args.rules.now) c.args.now (record { taken = g.D.Sink.taken c.args.sink.now; echoed = g.P.Sink.taken c.args.echo.now; stats = g.T.Tree.stats c.args.tree.now + (if g.T.Tree.priced c.args.tree.now c.args.rules.now.root then 1 else 0); openings = g.T.Tree.openings c.args.tree.now; records = known (g.V.Voucher.records c.args.voucher.now); priced = g.T.Tree.priced c.args.tree.now; limits = c.args.limits.now }) (record { standing = standing (g.D.Sink.taken c.walk.sink) (g.P.Sink.taken c.walk.echo) c.walk.progress; stats = g.T.Tree.stats c.walk.tree; openings = g.T.Tree.openings c.walk.tree; whole = answers_all (g.V.Voucher.records c.args.voucher.now) (g.V.Voucher.ordered c.args.voucher.now) (g.V.Voucher.unbroken c.walk.voucher) })) (λ done went. WroteBlocks (plan_of c.args.rules.now) c.args.now done (taken (g.D.Sink.taken c.args.sink.now) (g.P.Sink.taken c.args.echo.now)) (taken (g.D.Sink.taken c.walk.sink) (g.P.Sink.taken c.walk.echo))) (λ done went st. wrote_of (plan_of c.args.rules.now) c.args.now (record { taken = g.D.Sink.taken c.args.sink.now; echoed = g.P.Sink.taken c.args.echo.now; stats = g.T.Tree.stats c.args.tree.now + (if g.T.Tree.priced c.args.tree.now c.args.rules.now.root then 1 else 0); openings = g.T.Tree.openings c.args.tree.now; records = known (g.V.Voucher.records c.args.voucher.now); priced = g.T.Tree.priced c.args.tree.now; limits = c.args.limits.now }) (record { standing = standing (g.D.Sink.taken c.walk.sink) (g.P.Sink.taken c.walk.echo) c.walk.progress; stats = g.T.Tree.stats c.walk.tree; openings = g.T.Tree.openings c.walk.tree; whole = answers_all (g.V.Voucher.records c.args.voucher.now) (g.V.Voucher.ordered c.args.voucher.now) (g.V.Voucher.unbroken c.walk.voucher) }) done went st) s in
    whole_blocks dirs (plan_of c.args.rules.now) c.args.now _ (g.D.Sink.taken c.walk.sink) (g.D.Sink.taken c.step.new.sink) _ (g.P.Sink.taken c.walk.echo) (g.P.Sink.taken c.step.new.echo) c.walk.progress.pending (c.in_err-step.ensures.ended.whole (whole_by c.in_err-step.field-0.0 TreeFault (search rules) refl)) sw)
    (λ e dirs told honest.
    let fits = normal_fits c.pop.new.into (c.pop.ensures.normal c.walk-test.true) in
    let pend : c.walk.progress.pending ≡ c.pop.new.into ∷ c.pop.new.self = when_true c.pop.result (c.walk.progress.pending ≡ c.pop.new.into ∷ c.pop.new.self) (c.walk.progress.pending ≡ []) c.walk-test.true c.pop.ensures.popped in
    let order = subst (Rises Apart) pend c.walk.invariant.order in
    let s = c.walk.invariant.told dirs told honest in
    inr (c.pop.new.into, came_to dirs (plan_of c.args.rules.now) c.args.now (record { taken = g.D.Sink.taken c.args.sink.now; echoed = g.P.Sink.taken c.args.echo.now; stats = g.T.Tree.stats c.args.tree.now + (if g.T.Tree.priced c.args.tree.now c.args.rules.now.root then 1 else 0); openings = g.T.Tree.openings c.args.tree.now; records = known (g.V.Voucher.records c.args.voucher.now); priced = g.T.Tree.priced c.args.tree.now; limits = c.args.limits.now }) (record { standing = standing (g.D.Sink.taken c.walk.sink) (g.P.Sink.taken c.walk.echo) c.walk.progress; stats = g.T.Tree.stats c.walk.tree; openings = g.T.Tree.openings c.walk.tree; whole = answers_all (g.V.Voucher.records c.args.voucher.now) (g.V.Voucher.ordered c.args.voucher.now) (g.V.Voucher.unbroken c.walk.voucher) }) c.pop.new.into c.pop.new.self (g.D.Sink.taken c.step.new.sink) (g.P.Sink.taken c.step.new.echo) fits pend order c.in_err-step.ensures.ended.unpruned c.walk.invariant.tried (c.in_err-step.ensures.ended.whole (whole_by c.in_err-step.field-0.0 TreeFault (search rules) refl)) s))
    (λ e dirs told honest.
    let fits = normal_fits c.pop.new.into (c.pop.ensures.normal c.walk-test.true) in
    let pend : c.walk.progress.pending ≡ c.pop.new.into ∷ c.pop.new.self = when_true c.pop.result (c.walk.progress.pending ≡ c.pop.new.into ∷ c.pop.new.self) (c.walk.progress.pending ≡ []) c.walk-test.true c.pop.ensures.popped in
    let told2 = g.met.T.Tree.keeps_dirs _ _ c.walk.invariant.kept ∙ told in
    let s = c.walk.invariant.told dirs told honest in
    stops_wide dirs (plan_of c.args.rules.now) c.args.now (record { taken = g.D.Sink.taken c.args.sink.now; echoed = g.P.Sink.taken c.args.echo.now; stats = g.T.Tree.stats c.args.tree.now + (if g.T.Tree.priced c.args.tree.now c.args.rules.now.root then 1 else 0); openings = g.T.Tree.openings c.args.tree.now; records = known (g.V.Voucher.records c.args.voucher.now); priced = g.T.Tree.priced c.args.tree.now; limits = c.args.limits.now }) (record { standing = standing (g.D.Sink.taken c.walk.sink) (g.P.Sink.taken c.walk.echo) c.walk.progress; stats = g.T.Tree.stats c.walk.tree; openings = g.T.Tree.openings c.walk.tree; whole = answers_all (g.V.Voucher.records c.args.voucher.now) (g.V.Voucher.ordered c.args.voucher.now) (g.V.Voucher.unbroken c.walk.voucher) }) c.pop.new.into c.pop.new.self c.walk.progress.pending c.args.limits.now.names (g.D.Sink.taken c.step.new.sink) (g.P.Sink.taken c.step.new.echo) fits pend ((c.in_err-step.ensures.ended.wide (fault_is c.in_err-step.field-0.0 TooManyNames (search rules)) dirs told2).many_names) (c.in_err-step.ensures.ended.whole (whole_by c.in_err-step.field-0.0 TooManyNames (search rules) refl)) s)
    (λ e dirs told honest.
    let fits = normal_fits c.pop.new.into (c.pop.ensures.normal c.walk-test.true) in
    let pend : c.walk.progress.pending ≡ c.pop.new.into ∷ c.pop.new.self = when_true c.pop.result (c.walk.progress.pending ≡ c.pop.new.into ∷ c.pop.new.self) (c.walk.progress.pending ≡ []) c.walk-test.true c.pop.ensures.popped in
    let told2 = g.met.T.Tree.keeps_dirs _ _ c.walk.invariant.kept ∙ told in
    let order = subst (Rises Apart) pend c.walk.invariant.order in
    let s = c.walk.invariant.told dirs told honest in
    let keeps = subst (Keeps (known (g.V.Voucher.records c.args.voucher.now)) (known (g.V.Voucher.records c.walk.voucher)) (answers_all (g.V.Voucher.records c.args.voucher.now) (g.V.Voucher.ordered c.args.voucher.now) (g.V.Voucher.unbroken c.walk.voucher))) pend c.walk.invariant.keeps in
    let n = (c.in_err-step.ensures.ended.wide (fault_is c.in_err-step.field-0.0 TooManyNames (search rules)) dirs told2).many_names in
    record {
      path = c.pop.new.into;
      came = came_to dirs (plan_of c.args.rules.now) c.args.now (record { taken = g.D.Sink.taken c.args.sink.now; echoed = g.P.Sink.taken c.args.echo.now; stats = g.T.Tree.stats c.args.tree.now + (if g.T.Tree.priced c.args.tree.now c.args.rules.now.root then 1 else 0); openings = g.T.Tree.openings c.args.tree.now; records = known (g.V.Voucher.records c.args.voucher.now); priced = g.T.Tree.priced c.args.tree.now; limits = c.args.limits.now }) (record { standing = standing (g.D.Sink.taken c.walk.sink) (g.P.Sink.taken c.walk.echo) c.walk.progress; stats = g.T.Tree.stats c.walk.tree; openings = g.T.Tree.openings c.walk.tree; whole = answers_all (g.V.Voucher.records c.args.voucher.now) (g.V.Voucher.ordered c.args.voucher.now) (g.V.Voucher.unbroken c.walk.voucher) }) c.pop.new.into c.pop.new.self (g.D.Sink.taken c.step.new.sink) (g.P.Sink.taken c.step.new.echo) fits pend order c.in_err-step.ensures.ended.unpruned c.walk.invariant.tried (c.in_err-step.ensures.ended.whole (whole_by c.in_err-step.field-0.0 TooManyNames (search rules) refl)) s;
      wide = n;
      unvouched = λ w. (unvouched_entry (known (g.V.Voucher.records c.walk.voucher)) (known (g.V.Voucher.records c.args.voucher.now)) (answers_all (g.V.Voucher.records c.args.voucher.now) (g.V.Voucher.ordered c.args.voucher.now) (g.V.Voucher.unbroken c.walk.voucher)) c.pop.new.into c.pop.new.self (time_of n.dir.times) ((plan_of c.args.rules.now).device_of c.pop.new.into) (fewer_known (g.V.Voucher.records c.args.voucher.now) (g.V.Voucher.records c.walk.voucher) (honest_known _ dirs (plan_of c.args.rules.now) honest) c.walk.invariant.fewer) (mark_before (g.V.Voucher.records c.args.voucher.now) (g.V.Voucher.ordered c.args.voucher.now) _ _ c.in_err-step.ensures.leaves.was_unbroken w) keeps ((c.in_err-step.ensures.ended.wide (fault_is c.in_err-step.field-0.0 TooManyNames (search rules)) dirs told2).listed n.dir n.there (mark_now (g.V.Voucher.records c.args.voucher.now) (g.V.Voucher.records c.walk.voucher) (g.V.Voucher.ordered c.args.voucher.now) _ _ c.walk.invariant.fewer c.walk.invariant.ordered w)));
    })
    (λ e dirs told honest.
    let told2 = g.met.T.Tree.keeps_dirs _ _ c.walk.invariant.kept ∙ told in
    let s = c.walk.invariant.told dirs told honest in
    stops_full dirs (plan_of c.args.rules.now) c.args.now (record { taken = g.D.Sink.taken c.args.sink.now; echoed = g.P.Sink.taken c.args.echo.now; stats = g.T.Tree.stats c.args.tree.now + (if g.T.Tree.priced c.args.tree.now c.args.rules.now.root then 1 else 0); openings = g.T.Tree.openings c.args.tree.now; records = known (g.V.Voucher.records c.args.voucher.now); priced = g.T.Tree.priced c.args.tree.now; limits = c.args.limits.now }) (record { standing = standing (g.D.Sink.taken c.walk.sink) (g.P.Sink.taken c.walk.echo) c.walk.progress; stats = g.T.Tree.stats c.walk.tree; openings = g.T.Tree.openings c.walk.tree; whole = answers_all (g.V.Voucher.records c.args.voucher.now) (g.V.Voucher.ordered c.args.voucher.now) (g.V.Voucher.unbroken c.walk.voucher) }) c.pop.new.into c.walk.progress.pending c.args.limits.now.directories (g.D.Sink.taken c.step.new.sink) (g.P.Sink.taken c.step.new.echo) c.walk.invariant.tried (c.in_err-step.ensures.ended.many (fault_is c.in_err-step.field-0.0 TooManyDirectories (search rules)) dirs told2) (c.in_err-step.ensures.ended.whole (whole_by c.in_err-step.field-0.0 TooManyDirectories (search rules) refl)) s)
    (λ e dirs told honest.
    let fits = normal_fits c.pop.new.into (c.pop.ensures.normal c.walk-test.true) in
    let pend : c.walk.progress.pending ≡ c.pop.new.into ∷ c.pop.new.self = when_true c.pop.result (c.walk.progress.pending ≡ c.pop.new.into ∷ c.pop.new.self) (c.walk.progress.pending ≡ []) c.walk-test.true c.pop.ensures.popped in
    let order = subst (Rises Apart) pend c.walk.invariant.order in
    let s = c.walk.invariant.told dirs told honest in
    inr (c.pop.new.into, came_to dirs (plan_of c.args.rules.now) c.args.now (record { taken = g.D.Sink.taken c.args.sink.now; echoed = g.P.Sink.taken c.args.echo.now; stats = g.T.Tree.stats c.args.tree.now + (if g.T.Tree.priced c.args.tree.now c.args.rules.now.root then 1 else 0); openings = g.T.Tree.openings c.args.tree.now; records = known (g.V.Voucher.records c.args.voucher.now); priced = g.T.Tree.priced c.args.tree.now; limits = c.args.limits.now }) (record { standing = standing (g.D.Sink.taken c.walk.sink) (g.P.Sink.taken c.walk.echo) c.walk.progress; stats = g.T.Tree.stats c.walk.tree; openings = g.T.Tree.openings c.walk.tree; whole = answers_all (g.V.Voucher.records c.args.voucher.now) (g.V.Voucher.ordered c.args.voucher.now) (g.V.Voucher.unbroken c.walk.voucher) }) c.pop.new.into c.pop.new.self (g.D.Sink.taken c.step.new.sink) (g.P.Sink.taken c.step.new.echo) fits pend order c.in_err-step.ensures.ended.unpruned c.walk.invariant.tried (c.in_err-step.ensures.ended.whole (whole_by c.in_err-step.field-0.0 TooManyDirectories (search rules) refl)) s))

pub returns-in_err-step-clause-exceeded : goal.returns-in_err-step-clause-exceeded
returns-in_err-step-clause-exceeded g c =
    exceeded_by c.from_residual-in_err-step.result (g.T.Tree.dirs c.args.tree.now) (g.V.Voucher.records c.args.voucher.now) c.args.limits.now (answers_all (g.V.Voucher.records c.args.voucher.now) (g.V.Voucher.ordered c.args.voucher.now) (g.V.Voucher.unbroken c.step.new.voucher)) (plan_of c.args.rules.now)
    (λ e dirs told honest w.
    let fits = normal_fits c.pop.new.into (c.pop.ensures.normal c.walk-test.true) in
    let pend : c.walk.progress.pending ≡ c.pop.new.into ∷ c.pop.new.self = when_true c.pop.result (c.walk.progress.pending ≡ c.pop.new.into ∷ c.pop.new.self) (c.walk.progress.pending ≡ []) c.walk-test.true c.pop.ensures.popped in
    let told2 = g.met.T.Tree.keeps_dirs _ _ c.walk.invariant.kept ∙ told in
    let s = c.walk.invariant.told dirs told honest in
    let keeps = subst (Keeps (known (g.V.Voucher.records c.args.voucher.now)) (known (g.V.Voucher.records c.walk.voucher)) (answers_all (g.V.Voucher.records c.args.voucher.now) (g.V.Voucher.ordered c.args.voucher.now) (g.V.Voucher.unbroken c.walk.voucher))) pend c.walk.invariant.keeps in
    let n = (c.in_err-step.ensures.ended.wide (fault_is c.in_err-step.field-0.0 TooManyNames (search rules)) dirs told2).many_names in
    wide_hand dirs (plan_of c.args.rules.now) c.pop.new.into c.pop.new.self c.walk.progress.pending (known (g.V.Voucher.records c.args.voucher.now)) c.args.limits.now.names (Stands (plan_of c.args.rules.now) c.args.now (record { taken = g.D.Sink.taken c.args.sink.now; echoed = g.P.Sink.taken c.args.echo.now; stats = g.T.Tree.stats c.args.tree.now + (if g.T.Tree.priced c.args.tree.now c.args.rules.now.root then 1 else 0); openings = g.T.Tree.openings c.args.tree.now; records = known (g.V.Voucher.records c.args.voucher.now); priced = g.T.Tree.priced c.args.tree.now; limits = c.args.limits.now }) (record { standing = standing (g.D.Sink.taken c.walk.sink) (g.P.Sink.taken c.walk.echo) c.walk.progress; stats = g.T.Tree.stats c.walk.tree; openings = g.T.Tree.openings c.walk.tree; whole = answers_all (g.V.Voucher.records c.args.voucher.now) (g.V.Voucher.ordered c.args.voucher.now) (g.V.Voucher.unbroken c.walk.voucher) })) fits pend n
    (unvouched_entry (known (g.V.Voucher.records c.walk.voucher)) (known (g.V.Voucher.records c.args.voucher.now)) (answers_all (g.V.Voucher.records c.args.voucher.now) (g.V.Voucher.ordered c.args.voucher.now) (g.V.Voucher.unbroken c.walk.voucher)) c.pop.new.into c.pop.new.self (time_of n.dir.times) ((plan_of c.args.rules.now).device_of c.pop.new.into) (fewer_known (g.V.Voucher.records c.args.voucher.now) (g.V.Voucher.records c.walk.voucher) (honest_known _ dirs (plan_of c.args.rules.now) honest) c.walk.invariant.fewer) (mark_before (g.V.Voucher.records c.args.voucher.now) (g.V.Voucher.ordered c.args.voucher.now) _ _ c.in_err-step.ensures.leaves.was_unbroken w) keeps ((c.in_err-step.ensures.ended.wide (fault_is c.in_err-step.field-0.0 TooManyNames (search rules)) dirs told2).listed n.dir n.there (mark_now (g.V.Voucher.records c.args.voucher.now) (g.V.Voucher.records c.walk.voucher) (g.V.Voucher.ordered c.args.voucher.now) _ _ c.walk.invariant.fewer c.walk.invariant.ordered w))) s)
    (λ e dirs told honest.
    let fits = normal_fits c.pop.new.into (c.pop.ensures.normal c.walk-test.true) in
    let pend : c.walk.progress.pending ≡ c.pop.new.into ∷ c.pop.new.self = when_true c.pop.result (c.walk.progress.pending ≡ c.pop.new.into ∷ c.pop.new.self) (c.walk.progress.pending ≡ []) c.walk-test.true c.pop.ensures.popped in
    let told2 = g.met.T.Tree.keeps_dirs _ _ c.walk.invariant.kept ∙ told in
    let s = c.walk.invariant.told dirs told honest in
    let room = tried_room dirs (plan_of c.args.rules.now).pruned (plan_of c.args.rules.now).root c.pop.new.into c.pop.new.self c.walk.progress.pending (Stands (plan_of c.args.rules.now) c.args.now (record { taken = g.D.Sink.taken c.args.sink.now; echoed = g.P.Sink.taken c.args.echo.now; stats = g.T.Tree.stats c.args.tree.now + (if g.T.Tree.priced c.args.tree.now c.args.rules.now.root then 1 else 0); openings = g.T.Tree.openings c.args.tree.now; records = known (g.V.Voucher.records c.args.voucher.now); priced = g.T.Tree.priced c.args.tree.now; limits = c.args.limits.now }) (record { standing = standing (g.D.Sink.taken c.walk.sink) (g.P.Sink.taken c.walk.echo) c.walk.progress; stats = g.T.Tree.stats c.walk.tree; openings = g.T.Tree.openings c.walk.tree; whole = answers_all (g.V.Voucher.records c.args.voucher.now) (g.V.Voucher.ordered c.args.voucher.now) (g.V.Voucher.unbroken c.walk.voucher) })) fits pend s in
    omega (arith, room, s.written.tried, c.in_err-step.ensures.ended.many (fault_is c.in_err-step.field-0.0 TooManyDirectories (search rules)) dirs told2))

pub returns-in_err-step-clause-found : goal.returns-in_err-step-clause-found
returns-in_err-step-clause-found g c =
    found_by c.from_residual-in_err-step.result (g.T.Tree.dirs c.args.tree.now) c.args.limits.now c.args.rules.now.root
    (λ e dirs told. absurd (c.in_err-step.ensures.ended.no_missing (fault_is c.in_err-step.field-0.0 RootMissing (search rules))))
    (λ e dirs told.
    let told2 = g.met.T.Tree.keeps_dirs _ _ c.walk.invariant.kept ∙ told in
    let n = (c.in_err-step.ensures.ended.wide (fault_is c.in_err-step.field-0.0 TooManyNames (search rules)) dirs told2).many_names in
    record { path = c.pop.new.into; dir = n.dir; there = n.there; shown = n.shown; longer = n.longer })
    (λ e dirs told.
    let pend : c.walk.progress.pending ≡ c.pop.new.into ∷ c.pop.new.self = when_true c.pop.result (c.walk.progress.pending ≡ c.pop.new.into ∷ c.pop.new.self) (c.walk.progress.pending ≡ []) c.walk-test.true c.pop.ensures.popped in
    let told2 = g.met.T.Tree.keeps_dirs _ _ c.walk.invariant.kept ∙ told in
    visited_full dirs (is_tried (plan_of c.args.rules.now).pruned) c.pop.new.into c.pop.new.self c.walk.progress.tried c.args.limits.now.directories (c.in_err-step.ensures.ended.many (fault_is c.in_err-step.field-0.0 TooManyDirectories (search rules)) dirs told2)
    (subst (λ (l : List (List ℕ)). Visited dirs l c.walk.progress.tried) pend (c.walk.invariant.visited dirs told)))

pub returns-in_err-step-clause-asked_of : goal.returns-in_err-step-clause-asked_of
returns-in_err-step-clause-asked_of g c =
    asked_by (g.T.Tree.dirs c.args.tree.now) (g.V.Voucher.records c.args.voucher.now) (answers_all (g.V.Voucher.records c.args.voucher.now) (g.V.Voucher.ordered c.args.voucher.now) (g.V.Voucher.unbroken c.step.new.voucher)) (plan_of c.args.rules.now) (g.T.Tree.priced c.args.tree.now) (g.T.Tree.openings c.args.tree.now) (g.T.Tree.openings c.step.new.tree) (g.T.Tree.stats c.args.tree.now) (g.T.Tree.stats c.step.new.tree)
    (λ dirs told honest.
    let fits = normal_fits c.pop.new.into (c.pop.ensures.normal c.walk-test.true) in
    let pend : c.walk.progress.pending ≡ c.pop.new.into ∷ c.pop.new.self = when_true c.pop.result (c.walk.progress.pending ≡ c.pop.new.into ∷ c.pop.new.self) (c.walk.progress.pending ≡ []) c.walk-test.true c.pop.ensures.popped in
    let told2 = g.met.T.Tree.keeps_dirs _ _ c.walk.invariant.kept ∙ told in
    let s = c.walk.invariant.told dirs told honest in
    let room = tried_room dirs (plan_of c.args.rules.now).pruned (plan_of c.args.rules.now).root c.pop.new.into c.pop.new.self c.walk.progress.pending (Stands (plan_of c.args.rules.now) c.args.now (record { taken = g.D.Sink.taken c.args.sink.now; echoed = g.P.Sink.taken c.args.echo.now; stats = g.T.Tree.stats c.args.tree.now + (if g.T.Tree.priced c.args.tree.now c.args.rules.now.root then 1 else 0); openings = g.T.Tree.openings c.args.tree.now; records = known (g.V.Voucher.records c.args.voucher.now); priced = g.T.Tree.priced c.args.tree.now; limits = c.args.limits.now }) (record { standing = standing (g.D.Sink.taken c.walk.sink) (g.P.Sink.taken c.walk.echo) c.walk.progress; stats = g.T.Tree.stats c.walk.tree; openings = g.T.Tree.openings c.walk.tree; whole = answers_all (g.V.Voucher.records c.args.voucher.now) (g.V.Voucher.ordered c.args.voucher.now) (g.V.Voucher.unbroken c.walk.voucher) })) fits pend s in
    omega (arith, room, s.written.tried, c.walk.invariant.openings, c.in_err-step.ensures.bounded.openings_tried, (c.in_err-step.ensures.costs dirs told2).seen))
    (λ dirs told honest w.
    let fits = normal_fits c.pop.new.into (c.pop.ensures.normal c.walk-test.true) in
    let pend : c.walk.progress.pending ≡ c.pop.new.into ∷ c.pop.new.self = when_true c.pop.result (c.walk.progress.pending ≡ c.pop.new.into ∷ c.pop.new.self) (c.walk.progress.pending ≡ []) c.walk-test.true c.pop.ensures.popped in
    let told2 = g.met.T.Tree.keeps_dirs _ _ c.walk.invariant.kept ∙ told in
    let s = c.walk.invariant.told dirs told honest in
    let keeps = subst (Keeps (known (g.V.Voucher.records c.args.voucher.now)) (known (g.V.Voucher.records c.walk.voucher)) (answers_all (g.V.Voucher.records c.args.voucher.now) (g.V.Voucher.ordered c.args.voucher.now) (g.V.Voucher.unbroken c.walk.voucher))) pend c.walk.invariant.keeps in
    let room = unvouched_room dirs (plan_of c.args.rules.now) c.pop.new.into c.pop.new.self c.walk.progress.pending (known (g.V.Voucher.records c.args.voucher.now)) (Stands (plan_of c.args.rules.now) c.args.now (record { taken = g.D.Sink.taken c.args.sink.now; echoed = g.P.Sink.taken c.args.echo.now; stats = g.T.Tree.stats c.args.tree.now + (if g.T.Tree.priced c.args.tree.now c.args.rules.now.root then 1 else 0); openings = g.T.Tree.openings c.args.tree.now; records = known (g.V.Voucher.records c.args.voucher.now); priced = g.T.Tree.priced c.args.tree.now; limits = c.args.limits.now }) (record { standing = standing (g.D.Sink.taken c.walk.sink) (g.P.Sink.taken c.walk.echo) c.walk.progress; stats = g.T.Tree.stats c.walk.tree; openings = g.T.Tree.openings c.walk.tree; whole = answers_all (g.V.Voucher.records c.args.voucher.now) (g.V.Voucher.ordered c.args.voucher.now) (g.V.Voucher.unbroken c.walk.voucher) })) fits pend s in
    let same = opens_same dirs (plan_of c.args.rules.now) c.pop.new.into c.pop.new.self (known (g.V.Voucher.records c.walk.voucher)) (known (g.V.Voucher.records c.args.voucher.now)) (answers_all (g.V.Voucher.records c.args.voucher.now) (g.V.Voucher.ordered c.args.voucher.now) (g.V.Voucher.unbroken c.walk.voucher)) (fewer_known (g.V.Voucher.records c.args.voucher.now) (g.V.Voucher.records c.walk.voucher) (honest_known _ dirs (plan_of c.args.rules.now) honest) c.walk.invariant.fewer) (mark_before (g.V.Voucher.records c.args.voucher.now) (g.V.Voucher.ordered c.args.voucher.now) _ _ c.in_err-step.ensures.leaves.was_unbroken w) keeps in
    omega (arith, room, same, s.written.opened (mark_before (g.V.Voucher.records c.args.voucher.now) (g.V.Voucher.ordered c.args.voucher.now) _ _ c.in_err-step.ensures.leaves.was_unbroken w), (c.in_err-step.ensures.costs dirs told2).opened (mark_now (g.V.Voucher.records c.args.voucher.now) (g.V.Voucher.records c.walk.voucher) (g.V.Voucher.ordered c.args.voucher.now) _ _ c.walk.invariant.fewer c.walk.invariant.ordered w)))
    (λ dirs told honest.
    let fits = normal_fits c.pop.new.into (c.pop.ensures.normal c.walk-test.true) in
    let pend : c.walk.progress.pending ≡ c.pop.new.into ∷ c.pop.new.self = when_true c.pop.result (c.walk.progress.pending ≡ c.pop.new.into ∷ c.pop.new.self) (c.walk.progress.pending ≡ []) c.walk-test.true c.pop.ensures.popped in
    let s = c.walk.invariant.told dirs told honest in
    let priced : weight (plan_of c.args.rules.now).pruned (g.T.Tree.priced c.walk.tree) (c.pop.new.into ∷ []) ≡ weight (plan_of c.args.rules.now).pruned (g.T.Tree.priced c.args.tree.now) (c.pop.new.into ∷ []) = λ i. weight (plan_of c.args.rules.now).pruned (λ p. g.met.T.Tree.keeps_priced _ _ p c.walk.invariant.kept i) (c.pop.new.into ∷ []) in
    let looks : g.T.Tree.stats c.step.new.tree ≤ g.T.Tree.stats c.walk.tree + weight (plan_of c.args.rules.now).pruned (g.T.Tree.priced c.args.tree.now) (c.pop.new.into ∷ []) = omega (arith, priced, c.in_err-step.ensures.stats) in
    let room = asked_room dirs (plan_of c.args.rules.now) c.args.now (record { taken = g.D.Sink.taken c.args.sink.now; echoed = g.P.Sink.taken c.args.echo.now; stats = g.T.Tree.stats c.args.tree.now + (if g.T.Tree.priced c.args.tree.now c.args.rules.now.root then 1 else 0); openings = g.T.Tree.openings c.args.tree.now; records = known (g.V.Voucher.records c.args.voucher.now); priced = g.T.Tree.priced c.args.tree.now; limits = c.args.limits.now }) (record { standing = standing (g.D.Sink.taken c.walk.sink) (g.P.Sink.taken c.walk.echo) c.walk.progress; stats = g.T.Tree.stats c.walk.tree; openings = g.T.Tree.openings c.walk.tree; whole = answers_all (g.V.Voucher.records c.args.voucher.now) (g.V.Voucher.ordered c.args.voucher.now) (g.V.Voucher.unbroken c.walk.voucher) }) c.pop.new.into c.pop.new.self c.walk.progress.pending (g.T.Tree.stats c.step.new.tree) pend looks s in
    omega (arith, room))

pub returns-in_err-step-clause-lacking : goal.returns-in_err-step-clause-lacking
returns-in_err-step-clause-lacking g c = λ dirs told none. absurd (c.walk.invariant.there dirs told none)

pub returns-in_err-step-clause-tree_kept : goal.returns-in_err-step-clause-tree_kept
returns-in_err-step-clause-tree_kept g c = g.met.T.Tree.keeps_on _ _ _ c.walk.invariant.kept c.in_err-step.ensures.kept.tree_kept

pub returns-in_err-step-clause-voucher_kept : goal.returns-in_err-step-clause-voucher_kept
returns-in_err-step-clause-voucher_kept g c = g.met.V.Voucher.keeps_on _ _ _ c.walk.invariant.voucher_kept c.in_err-step.ensures.kept.voucher_kept

pub returns-in_err-step-clause-sink_kept : goal.returns-in_err-step-clause-sink_kept
returns-in_err-step-clause-sink_kept g c = g.met.D.Sink.keeps_on _ _ _ c.walk.invariant.sink_kept c.in_err-step.ensures.kept.sink_kept

pub returns-in_err-step-clause-echo_kept : goal.returns-in_err-step-clause-echo_kept
returns-in_err-step-clause-echo_kept g c = g.met.P.Sink.keeps_on _ _ _ c.walk.invariant.echo_kept c.in_err-step.ensures.kept.echo_kept

pub returns-in_err-come-clause-stopped : goal.returns-in_err-come-clause-stopped
returns-in_err-come-clause-stopped g c =
    stopped_by c.from_residual.result (g.T.Tree.dirs c.args.tree.now) (g.V.Voucher.records c.args.voucher.now) c.args.limits.now (answers_all (g.V.Voucher.records c.args.voucher.now) (g.V.Voucher.ordered c.args.voucher.now) (g.V.Voucher.unbroken c.come.new.voucher)) c.args.now (plan_of c.args.rules.now) (taken (g.D.Sink.taken c.args.sink.now) (g.P.Sink.taken c.args.echo.now)) (taken (g.D.Sink.taken c.come.new.sink) (g.P.Sink.taken c.come.new.echo))
    (λ dirs told honest.
    let root_is : c.root_of-path.result ≡ c.args.rules.now.root = c.root_of-path.ensures in
    let fits = normal_fits c.args.rules.now.root c.requires.root in
    let path_fits = subst (λ (p : List ℕ). length p ≤ 4096) (sym root_is) fits in
    let f = stat_found _ dirs c.root_of-path.result c.in-Ok.found c.in-Some.times told c.in-Some.is (subst (λ (p : List ℕ). StatsAs (g.T.Tree.dirs c.args.tree.now) p (Ok c.in-Ok.found)) c.bytes.ensures.value c.in-Ok.ensures.found) in
    let told2 = g.met.T.Tree.keeps_dirs _ _ c.in-Ok.ensures.kept ∙ told in
    let time = c.later-time.ensures ∙ ap time_of f.times_are in
    let s0 : Split dirs (plan_of c.args.rules.now).pruned (plan_of c.args.rules.now).root (c.root_of-path.result ∷ []) (λ done went. WroteBlocks (plan_of c.args.rules.now) c.args.now done (taken (g.D.Sink.taken c.args.sink.now) (g.P.Sink.taken c.args.echo.now)) (taken (g.D.Sink.taken c.put_front.new.sink) (g.P.Sink.taken c.args.echo.now))) = root_split dirs (plan_of c.args.rules.now) c.root_of-path.result (λ done went. WroteBlocks (plan_of c.args.rules.now) c.args.now done (taken (g.D.Sink.taken c.args.sink.now) (g.P.Sink.taken c.args.echo.now)) (taken (g.D.Sink.taken c.put_front.new.sink) (g.P.Sink.taken c.args.echo.now))) root_is fits (wrote_header (plan_of c.args.rules.now) c.args.now _ _ _ c.in-Ok-put_front.ensures.ok) in
    let relied = step_relied dirs (plan_of c.args.rules.now) c.root_of-path.result [] (c.root_of-path.result ∷ []) (g.V.Voucher.records c.args.voucher.now) (g.V.Voucher.records c.args.voucher.now) (λ done went. WroteBlocks (plan_of c.args.rules.now) c.args.now done (taken (g.D.Sink.taken c.args.sink.now) (g.P.Sink.taken c.args.echo.now)) (taken (g.D.Sink.taken c.put_front.new.sink) (g.P.Sink.taken c.args.echo.now))) (fewer_same (g.V.Voucher.records c.args.voucher.now)) honest path_fits refl s0 in
    breaks_off dirs (plan_of c.args.rules.now) c.args.now _ _ (g.D.Sink.taken c.come.new.sink) _ _ (g.P.Sink.taken c.come.new.echo) c.root_of-path.result [] (c.root_of-path.result ∷ []) path_fits refl s0 (c.in_err-come.ensures.breaks dirs told2 f.dir f.is time relied))
    (λ e dirs told honest.
    let root_is : c.root_of-path.result ≡ c.args.rules.now.root = c.root_of-path.ensures in
    let fits = normal_fits c.args.rules.now.root c.requires.root in
    let path_fits = subst (λ (p : List ℕ). length p ≤ 4096) (sym root_is) fits in
    let s0 : Split dirs (plan_of c.args.rules.now).pruned (plan_of c.args.rules.now).root (c.root_of-path.result ∷ []) (λ done went. WroteBlocks (plan_of c.args.rules.now) c.args.now done (taken (g.D.Sink.taken c.args.sink.now) (g.P.Sink.taken c.args.echo.now)) (taken (g.D.Sink.taken c.put_front.new.sink) (g.P.Sink.taken c.args.echo.now))) = root_split dirs (plan_of c.args.rules.now) c.root_of-path.result (λ done went. WroteBlocks (plan_of c.args.rules.now) c.args.now done (taken (g.D.Sink.taken c.args.sink.now) (g.P.Sink.taken c.args.echo.now)) (taken (g.D.Sink.taken c.put_front.new.sink) (g.P.Sink.taken c.args.echo.now))) root_is fits (wrote_header (plan_of c.args.rules.now) c.args.now _ _ _ c.in-Ok-put_front.ensures.ok) in
    whole_blocks dirs (plan_of c.args.rules.now) c.args.now _ (g.D.Sink.taken c.put_front.new.sink) (g.D.Sink.taken c.come.new.sink) _ (g.P.Sink.taken c.args.echo.now) (g.P.Sink.taken c.come.new.echo) (c.root_of-path.result ∷ []) (c.in_err-come.ensures.ended.whole (whole_by c.in_err-come.field-0.0 TreeFault (search rules) refl)) s0)
    (λ e dirs told honest.
    let root_is : c.root_of-path.result ≡ c.args.rules.now.root = c.root_of-path.ensures in
    let fits = normal_fits c.args.rules.now.root c.requires.root in
    inr (c.root_of-path.result, came_to_root (known (g.V.Voucher.records c.args.voucher.now)) c.args.limits.now dirs (plan_of c.args.rules.now) c.args.now _ (g.D.Sink.taken c.put_front.new.sink) (g.D.Sink.taken c.come.new.sink) (g.P.Sink.taken c.args.echo.now) (g.P.Sink.taken c.come.new.echo) c.root_of-path.result root_is fits (c.in_err-come.ensures.ended.whole (whole_by c.in_err-come.field-0.0 TreeFault (search rules) refl)) (wrote_header (plan_of c.args.rules.now) c.args.now _ _ _ c.in-Ok-put_front.ensures.ok)))
    (λ e dirs told honest.
    let root_is : c.root_of-path.result ≡ c.args.rules.now.root = c.root_of-path.ensures in
    let fits = normal_fits c.args.rules.now.root c.requires.root in
    let path_fits = subst (λ (p : List ℕ). length p ≤ 4096) (sym root_is) fits in
    let f = stat_found _ dirs c.root_of-path.result c.in-Ok.found c.in-Some.times told c.in-Some.is (subst (λ (p : List ℕ). StatsAs (g.T.Tree.dirs c.args.tree.now) p (Ok c.in-Ok.found)) c.bytes.ensures.value c.in-Ok.ensures.found) in
    let told2 = g.met.T.Tree.keeps_dirs _ _ c.in-Ok.ensures.kept ∙ told in
    let time = c.later-time.ensures ∙ ap time_of f.times_are in
    root_wide dirs (plan_of c.args.rules.now) c.args.now _ (g.D.Sink.taken c.put_front.new.sink) (g.D.Sink.taken c.come.new.sink) (g.P.Sink.taken c.args.echo.now) (g.P.Sink.taken c.come.new.echo) c.root_of-path.result c.args.limits.now.names root_is fits ((c.in_err-come.ensures.ended.wide (fault_is c.in_err-come.field-0.0 TooManyNames (search rules)) dirs told2 f.dir f.is time).many_names) (c.in_err-come.ensures.ended.whole (whole_by c.in_err-come.field-0.0 TooManyNames (search rules) refl)) c.in-Ok-put_front.ensures.ok)
    (λ e dirs told honest.
    let root_is : c.root_of-path.result ≡ c.args.rules.now.root = c.root_of-path.ensures in
    let f = stat_found _ dirs c.root_of-path.result c.in-Ok.found c.in-Some.times told c.in-Some.is (subst (λ (p : List ℕ). StatsAs (g.T.Tree.dirs c.args.tree.now) p (Ok c.in-Ok.found)) c.bytes.ensures.value c.in-Ok.ensures.found) in
    let told2 = g.met.T.Tree.keeps_dirs _ _ c.in-Ok.ensures.kept ∙ told in
    let time = c.later-time.ensures ∙ ap time_of f.times_are in
    let fits = normal_fits c.args.rules.now.root c.requires.root in
    let path_fits = subst (λ (p : List ℕ). length p ≤ 4096) (sym root_is) fits in
    let s0 : Split dirs (plan_of c.args.rules.now).pruned (plan_of c.args.rules.now).root (c.root_of-path.result ∷ []) (λ done went. WroteBlocks (plan_of c.args.rules.now) c.args.now done (taken (g.D.Sink.taken c.args.sink.now) (g.P.Sink.taken c.args.echo.now)) (taken (g.D.Sink.taken c.put_front.new.sink) (g.P.Sink.taken c.args.echo.now))) = root_split dirs (plan_of c.args.rules.now) c.root_of-path.result (λ done went. WroteBlocks (plan_of c.args.rules.now) c.args.now done (taken (g.D.Sink.taken c.args.sink.now) (g.P.Sink.taken c.args.echo.now)) (taken (g.D.Sink.taken c.put_front.new.sink) (g.P.Sink.taken c.args.echo.now))) root_is fits (wrote_header (plan_of c.args.rules.now) c.args.now _ _ _ c.in-Ok-put_front.ensures.ok) in
    let n = (c.in_err-come.ensures.ended.wide (fault_is c.in_err-come.field-0.0 TooManyNames (search rules)) dirs told2 f.dir f.is time).many_names in
    let same : n.dir ≡ f.dir = some_is n.dir f.dir (sym n.there ∙ f.is) in
    record {
      path = c.root_of-path.result;
      came = came_to_root (known (g.V.Voucher.records c.args.voucher.now)) c.args.limits.now dirs (plan_of c.args.rules.now) c.args.now _ (g.D.Sink.taken c.put_front.new.sink) (g.D.Sink.taken c.come.new.sink) (g.P.Sink.taken c.args.echo.now) (g.P.Sink.taken c.come.new.echo) c.root_of-path.result root_is fits (c.in_err-come.ensures.ended.whole (whole_by c.in_err-come.field-0.0 TooManyNames (search rules) refl)) (wrote_header (plan_of c.args.rules.now) c.args.now _ _ _ c.in-Ok-put_front.ensures.ok);
      wide = n;
      unvouched = λ w. (ap (λ (d : Dir). is_vouched (known (g.V.Voucher.records c.args.voucher.now)) c.root_of-path.result (time_of d.times) ((plan_of c.args.rules.now).device_of c.root_of-path.result)) same ∙ (c.in_err-come.ensures.ended.wide (fault_is c.in_err-come.field-0.0 TooManyNames (search rules)) dirs told2 f.dir f.is time).listed f.dir f.is w);
    })
    (λ e dirs told honest.
    let root_is : c.root_of-path.result ≡ c.args.rules.now.root = c.root_of-path.ensures in
    let fits = normal_fits c.args.rules.now.root c.requires.root in
    let path_fits = subst (λ (p : List ℕ). length p ≤ 4096) (sym root_is) fits in
    let f = stat_found _ dirs c.root_of-path.result c.in-Ok.found c.in-Some.times told c.in-Some.is (subst (λ (p : List ℕ). StatsAs (g.T.Tree.dirs c.args.tree.now) p (Ok c.in-Ok.found)) c.bytes.ensures.value c.in-Ok.ensures.found) in
    let told2 = g.met.T.Tree.keeps_dirs _ _ c.in-Ok.ensures.kept ∙ told in
    let time = c.later-time.ensures ∙ ap time_of f.times_are in
    let over = c.in_err-come.ensures.ended.many (fault_is c.in_err-come.field-0.0 TooManyDirectories (search rules)) dirs told2 f.dir f.is time in
    root_full dirs (plan_of c.args.rules.now) c.args.now _ (g.D.Sink.taken c.put_front.new.sink) (g.D.Sink.taken c.come.new.sink) (g.P.Sink.taken c.args.echo.now) (g.P.Sink.taken c.come.new.echo) c.root_of-path.result c.args.limits.now.directories root_is fits (omega (arith, over, c.new-progress.ensures.tried)) (c.in_err-come.ensures.ended.whole (whole_by c.in_err-come.field-0.0 TooManyDirectories (search rules) refl)) c.in-Ok-put_front.ensures.ok)
    (λ e dirs told honest.
    let root_is : c.root_of-path.result ≡ c.args.rules.now.root = c.root_of-path.ensures in
    let fits = normal_fits c.args.rules.now.root c.requires.root in
    inr (c.root_of-path.result, came_to_root (known (g.V.Voucher.records c.args.voucher.now)) c.args.limits.now dirs (plan_of c.args.rules.now) c.args.now _ (g.D.Sink.taken c.put_front.new.sink) (g.D.Sink.taken c.come.new.sink) (g.P.Sink.taken c.args.echo.now) (g.P.Sink.taken c.come.new.echo) c.root_of-path.result root_is fits (c.in_err-come.ensures.ended.whole (whole_by c.in_err-come.field-0.0 TooManyDirectories (search rules) refl)) (wrote_header (plan_of c.args.rules.now) c.args.now _ _ _ c.in-Ok-put_front.ensures.ok)))

pub returns-in_err-come-clause-exceeded : goal.returns-in_err-come-clause-exceeded
returns-in_err-come-clause-exceeded g c =
    exceeded_by c.from_residual.result (g.T.Tree.dirs c.args.tree.now) (g.V.Voucher.records c.args.voucher.now) c.args.limits.now (answers_all (g.V.Voucher.records c.args.voucher.now) (g.V.Voucher.ordered c.args.voucher.now) (g.V.Voucher.unbroken c.come.new.voucher)) (plan_of c.args.rules.now)
    (λ e dirs told honest w.
    let root_is : c.root_of-path.result ≡ c.args.rules.now.root = c.root_of-path.ensures in
    let f = stat_found _ dirs c.root_of-path.result c.in-Ok.found c.in-Some.times told c.in-Some.is (subst (λ (p : List ℕ). StatsAs (g.T.Tree.dirs c.args.tree.now) p (Ok c.in-Ok.found)) c.bytes.ensures.value c.in-Ok.ensures.found) in
    let told2 = g.met.T.Tree.keeps_dirs _ _ c.in-Ok.ensures.kept ∙ told in
    let time = c.later-time.ensures ∙ ap time_of f.times_are in
    let fits = normal_fits c.args.rules.now.root c.requires.root in
    let path_fits = subst (λ (p : List ℕ). length p ≤ 4096) (sym root_is) fits in
    let s0 : Split dirs (plan_of c.args.rules.now).pruned (plan_of c.args.rules.now).root (c.root_of-path.result ∷ []) (λ done went. WroteBlocks (plan_of c.args.rules.now) c.args.now done (taken (g.D.Sink.taken c.args.sink.now) (g.P.Sink.taken c.args.echo.now)) (taken (g.D.Sink.taken c.put_front.new.sink) (g.P.Sink.taken c.args.echo.now))) = root_split dirs (plan_of c.args.rules.now) c.root_of-path.result (λ done went. WroteBlocks (plan_of c.args.rules.now) c.args.now done (taken (g.D.Sink.taken c.args.sink.now) (g.P.Sink.taken c.args.echo.now)) (taken (g.D.Sink.taken c.put_front.new.sink) (g.P.Sink.taken c.args.echo.now))) root_is fits (wrote_header (plan_of c.args.rules.now) c.args.now _ _ _ c.in-Ok-put_front.ensures.ok) in
    let n = (c.in_err-come.ensures.ended.wide (fault_is c.in_err-come.field-0.0 TooManyNames (search rules)) dirs told2 f.dir f.is time).many_names in
    let same : n.dir ≡ f.dir = some_is n.dir f.dir (sym n.there ∙ f.is) in
    wide_hand dirs (plan_of c.args.rules.now) c.root_of-path.result [] (c.root_of-path.result ∷ []) (known (g.V.Voucher.records c.args.voucher.now)) c.args.limits.now.names (λ done went. WroteBlocks (plan_of c.args.rules.now) c.args.now done (taken (g.D.Sink.taken c.args.sink.now) (g.P.Sink.taken c.args.echo.now)) (taken (g.D.Sink.taken c.put_front.new.sink) (g.P.Sink.taken c.args.echo.now))) path_fits refl n
    (ap (λ (d : Dir). is_vouched (known (g.V.Voucher.records c.args.voucher.now)) c.root_of-path.result (time_of d.times) ((plan_of c.args.rules.now).device_of c.root_of-path.result)) same ∙ (c.in_err-come.ensures.ended.wide (fault_is c.in_err-come.field-0.0 TooManyNames (search rules)) dirs told2 f.dir f.is time).listed f.dir f.is w) s0)
    (λ e dirs told honest.
    let root_is : c.root_of-path.result ≡ c.args.rules.now.root = c.root_of-path.ensures in
    let fits = normal_fits c.args.rules.now.root c.requires.root in
    let path_fits = subst (λ (p : List ℕ). length p ≤ 4096) (sym root_is) fits in
    let f = stat_found _ dirs c.root_of-path.result c.in-Ok.found c.in-Some.times told c.in-Some.is (subst (λ (p : List ℕ). StatsAs (g.T.Tree.dirs c.args.tree.now) p (Ok c.in-Ok.found)) c.bytes.ensures.value c.in-Ok.ensures.found) in
    let told2 = g.met.T.Tree.keeps_dirs _ _ c.in-Ok.ensures.kept ∙ told in
    let time = c.later-time.ensures ∙ ap time_of f.times_are in
    let s0 : Split dirs (plan_of c.args.rules.now).pruned (plan_of c.args.rules.now).root (c.root_of-path.result ∷ []) (λ done went. WroteBlocks (plan_of c.args.rules.now) c.args.now done (taken (g.D.Sink.taken c.args.sink.now) (g.P.Sink.taken c.args.echo.now)) (taken (g.D.Sink.taken c.put_front.new.sink) (g.P.Sink.taken c.args.echo.now))) = root_split dirs (plan_of c.args.rules.now) c.root_of-path.result (λ done went. WroteBlocks (plan_of c.args.rules.now) c.args.now done (taken (g.D.Sink.taken c.args.sink.now) (g.P.Sink.taken c.args.echo.now)) (taken (g.D.Sink.taken c.put_front.new.sink) (g.P.Sink.taken c.args.echo.now))) root_is fits (wrote_header (plan_of c.args.rules.now) c.args.now _ _ _ c.in-Ok-put_front.ensures.ok) in
    let room = tried_room dirs (plan_of c.args.rules.now).pruned (plan_of c.args.rules.now).root c.root_of-path.result [] (c.root_of-path.result ∷ []) (λ done went. WroteBlocks (plan_of c.args.rules.now) c.args.now done (taken (g.D.Sink.taken c.args.sink.now) (g.P.Sink.taken c.args.echo.now)) (taken (g.D.Sink.taken c.put_front.new.sink) (g.P.Sink.taken c.args.echo.now))) path_fits refl s0 in
    omega (arith, room, c.new-progress.ensures.tried, c.in_err-come.ensures.ended.many (fault_is c.in_err-come.field-0.0 TooManyDirectories (search rules)) dirs told2 f.dir f.is time))

pub returns-in_err-come-clause-found : goal.returns-in_err-come-clause-found
returns-in_err-come-clause-found g c =
    found_by c.from_residual.result (g.T.Tree.dirs c.args.tree.now) c.args.limits.now c.args.rules.now.root
    (λ e dirs told. absurd (c.in_err-come.ensures.ended.no_missing (fault_is c.in_err-come.field-0.0 RootMissing (search rules))))
    (λ e dirs told.
    let f = stat_found _ dirs c.root_of-path.result c.in-Ok.found c.in-Some.times told c.in-Some.is (subst (λ (p : List ℕ). StatsAs (g.T.Tree.dirs c.args.tree.now) p (Ok c.in-Ok.found)) c.bytes.ensures.value c.in-Ok.ensures.found) in
    let told2 = g.met.T.Tree.keeps_dirs _ _ c.in-Ok.ensures.kept ∙ told in
    let time = c.later-time.ensures ∙ ap time_of f.times_are in
    let n = (c.in_err-come.ensures.ended.wide (fault_is c.in_err-come.field-0.0 TooManyNames (search rules)) dirs told2 f.dir f.is time).many_names in
    record { path = c.root_of-path.result; dir = n.dir; there = n.there; shown = n.shown; longer = n.longer })
    (λ e dirs told.
    let root_is : c.root_of-path.result ≡ c.args.rules.now.root = c.root_of-path.ensures in
    let f = stat_found _ dirs c.root_of-path.result c.in-Ok.found c.in-Some.times told c.in-Some.is (subst (λ (p : List ℕ). StatsAs (g.T.Tree.dirs c.args.tree.now) p (Ok c.in-Ok.found)) c.bytes.ensures.value c.in-Ok.ensures.found) in
    let told2 = g.met.T.Tree.keeps_dirs _ _ c.in-Ok.ensures.kept ∙ told in
    let time = c.later-time.ensures ∙ ap time_of f.times_are in
    visited_full dirs (is_tried (plan_of c.args.rules.now).pruned) c.root_of-path.result [] c.new-progress.result.tried c.args.limits.now.directories (c.in_err-come.ensures.ended.many (fault_is c.in_err-come.field-0.0 TooManyDirectories (search rules)) dirs told2 f.dir f.is time) (visited_begin dirs c.root_of-path.result c.new-progress.result.tried c.new-progress.ensures.tried))

pub returns-in_err-come-clause-asked_of : goal.returns-in_err-come-clause-asked_of
returns-in_err-come-clause-asked_of g c =
    asked_by (g.T.Tree.dirs c.args.tree.now) (g.V.Voucher.records c.args.voucher.now) (answers_all (g.V.Voucher.records c.args.voucher.now) (g.V.Voucher.ordered c.args.voucher.now) (g.V.Voucher.unbroken c.come.new.voucher)) (plan_of c.args.rules.now) (g.T.Tree.priced c.args.tree.now) (g.T.Tree.openings c.args.tree.now) (g.T.Tree.openings c.come.new.tree) (g.T.Tree.stats c.args.tree.now) (g.T.Tree.stats c.come.new.tree)
    (λ dirs told honest.
    let root_is : c.root_of-path.result ≡ c.args.rules.now.root = c.root_of-path.ensures in
    let fits = normal_fits c.args.rules.now.root c.requires.root in
    let path_fits = subst (λ (p : List ℕ). length p ≤ 4096) (sym root_is) fits in
    let f = stat_found _ dirs c.root_of-path.result c.in-Ok.found c.in-Some.times told c.in-Some.is (subst (λ (p : List ℕ). StatsAs (g.T.Tree.dirs c.args.tree.now) p (Ok c.in-Ok.found)) c.bytes.ensures.value c.in-Ok.ensures.found) in
    let told2 = g.met.T.Tree.keeps_dirs _ _ c.in-Ok.ensures.kept ∙ told in
    let time = c.later-time.ensures ∙ ap time_of f.times_are in
    let s0 : Split dirs (plan_of c.args.rules.now).pruned (plan_of c.args.rules.now).root (c.root_of-path.result ∷ []) (λ done went. WroteBlocks (plan_of c.args.rules.now) c.args.now done (taken (g.D.Sink.taken c.args.sink.now) (g.P.Sink.taken c.args.echo.now)) (taken (g.D.Sink.taken c.put_front.new.sink) (g.P.Sink.taken c.args.echo.now))) = root_split dirs (plan_of c.args.rules.now) c.root_of-path.result (λ done went. WroteBlocks (plan_of c.args.rules.now) c.args.now done (taken (g.D.Sink.taken c.args.sink.now) (g.P.Sink.taken c.args.echo.now)) (taken (g.D.Sink.taken c.put_front.new.sink) (g.P.Sink.taken c.args.echo.now))) root_is fits (wrote_header (plan_of c.args.rules.now) c.args.now _ _ _ c.in-Ok-put_front.ensures.ok) in
    let room = tried_room dirs (plan_of c.args.rules.now).pruned (plan_of c.args.rules.now).root c.root_of-path.result [] (c.root_of-path.result ∷ []) (λ done went. WroteBlocks (plan_of c.args.rules.now) c.args.now done (taken (g.D.Sink.taken c.args.sink.now) (g.P.Sink.taken c.args.echo.now)) (taken (g.D.Sink.taken c.put_front.new.sink) (g.P.Sink.taken c.args.echo.now))) path_fits refl s0 in
    omega (arith, room, c.new-progress.ensures.tried, c.in-Ok.ensures.openings, c.in_err-come.ensures.bounded.openings_tried, (c.in_err-come.ensures.costs dirs told2 f.dir f.is time).seen))
    (λ dirs told honest w.
    let root_is : c.root_of-path.result ≡ c.args.rules.now.root = c.root_of-path.ensures in
    let fits = normal_fits c.args.rules.now.root c.requires.root in
    let path_fits = subst (λ (p : List ℕ). length p ≤ 4096) (sym root_is) fits in
    let f = stat_found _ dirs c.root_of-path.result c.in-Ok.found c.in-Some.times told c.in-Some.is (subst (λ (p : List ℕ). StatsAs (g.T.Tree.dirs c.args.tree.now) p (Ok c.in-Ok.found)) c.bytes.ensures.value c.in-Ok.ensures.found) in
    let told2 = g.met.T.Tree.keeps_dirs _ _ c.in-Ok.ensures.kept ∙ told in
    let time = c.later-time.ensures ∙ ap time_of f.times_are in
    let s0 : Split dirs (plan_of c.args.rules.now).pruned (plan_of c.args.rules.now).root (c.root_of-path.result ∷ []) (λ done went. WroteBlocks (plan_of c.args.rules.now) c.args.now done (taken (g.D.Sink.taken c.args.sink.now) (g.P.Sink.taken c.args.echo.now)) (taken (g.D.Sink.taken c.put_front.new.sink) (g.P.Sink.taken c.args.echo.now))) = root_split dirs (plan_of c.args.rules.now) c.root_of-path.result (λ done went. WroteBlocks (plan_of c.args.rules.now) c.args.now done (taken (g.D.Sink.taken c.args.sink.now) (g.P.Sink.taken c.args.echo.now)) (taken (g.D.Sink.taken c.put_front.new.sink) (g.P.Sink.taken c.args.echo.now))) root_is fits (wrote_header (plan_of c.args.rules.now) c.args.now _ _ _ c.in-Ok-put_front.ensures.ok) in
    let room = unvouched_room dirs (plan_of c.args.rules.now) c.root_of-path.result [] (c.root_of-path.result ∷ []) (known (g.V.Voucher.records c.args.voucher.now)) (λ done went. WroteBlocks (plan_of c.args.rules.now) c.args.now done (taken (g.D.Sink.taken c.args.sink.now) (g.P.Sink.taken c.args.echo.now)) (taken (g.D.Sink.taken c.put_front.new.sink) (g.P.Sink.taken c.args.echo.now))) path_fits refl s0 in
    omega (arith, room, c.in-Ok.ensures.openings, (c.in_err-come.ensures.costs dirs told2 f.dir f.is time).opened w))
    (λ dirs told honest.
    let share = stat_share (g.T.Tree.priced c.args.tree.now) c.bytes.result.now c.args.rules.now.root _ _ (c.bytes.ensures.value ∙ c.root_of-path.ensures) c.in-Ok.ensures.stats in
    omega (arith, share, c.in_err-come.ensures.stats))

pub returns-in_err-come-clause-lacking : goal.returns-in_err-come-clause-lacking
returns-in_err-come-clause-lacking g c = λ dirs told none.
    let f = stat_found _ dirs c.root_of-path.result c.in-Ok.found c.in-Some.times told c.in-Some.is (subst (λ (p : List ℕ). StatsAs (g.T.Tree.dirs c.args.tree.now) p (Ok c.in-Ok.found)) c.bytes.ensures.value c.in-Ok.ensures.found) in
    let told2 = g.met.T.Tree.keeps_dirs _ _ c.in-Ok.ensures.kept ∙ told in
    let time = c.later-time.ensures ∙ ap time_of f.times_are in
    absurd (not_none f.dir (sym f.is ∙ ap (get dirs) c.root_of-path.ensures ∙ none))

pub returns-in_default-clause-stopped : goal.returns-in_default-clause-stopped
returns-in_default-clause-stopped g c = λ dirs told honest. stopped_none TreeFault c.args.limits.now _ _ c.args.now dirs (plan_of c.args.rules.now) _ _ refl

pub returns-in_default-clause-exceeded : goal.returns-in_default-clause-exceeded
returns-in_default-clause-exceeded g c = λ dirs told honest. exceeded_none TreeFault c.args.limits.now _ _ dirs (plan_of c.args.rules.now) refl

pub returns-in_default-clause-found : goal.returns-in_default-clause-found
returns-in_default-clause-found g c = λ dirs told. found_none TreeFault c.args.limits.now _ dirs refl

pub returns-in_default-found-clause-stopped : goal.returns-in_default-found-clause-stopped
returns-in_default-found-clause-stopped g c = λ dirs told honest. stopped_none RootMissing c.args.limits.now _ _ c.args.now dirs (plan_of c.args.rules.now) _ _ refl

pub returns-in_default-found-clause-exceeded : goal.returns-in_default-found-clause-exceeded
returns-in_default-found-clause-exceeded g c = λ dirs told honest. exceeded_none RootMissing c.args.limits.now _ _ dirs (plan_of c.args.rules.now) refl

pub returns-in_default-conf_block-clause-stopped : goal.returns-in_default-conf_block-clause-stopped
returns-in_default-conf_block-clause-stopped g c = λ dirs told honest. stopped_none OutOfMemory c.args.limits.now _ _ c.args.now dirs (plan_of c.args.rules.now) _ _ refl

pub returns-in_default-conf_block-clause-exceeded : goal.returns-in_default-conf_block-clause-exceeded
returns-in_default-conf_block-clause-exceeded g c = λ dirs told honest. exceeded_none OutOfMemory c.args.limits.now _ _ dirs (plan_of c.args.rules.now) refl

pub returns-in_default-conf_block-clause-found : goal.returns-in_default-conf_block-clause-found
returns-in_default-conf_block-clause-found g c = λ dirs told. found_none OutOfMemory c.args.limits.now _ dirs refl

pub returns-in_default-found-clause-found : goal.returns-in_default-found-clause-found
returns-in_default-found-clause-found g c = λ dirs told.
    let none = stat_none _ dirs c.root_of-path.result c.in-Ok.found told c.in_default-found.is (subst (λ (p : List ℕ). StatsAs (g.T.Tree.dirs c.args.tree.now) p (Ok c.in-Ok.found)) c.bytes.ensures.value c.in-Ok.ensures.found) in
    found_missing c.args.limits.now c.args.rules.now.root dirs (ap (get dirs) (sym c.root_of-path.ensures) ∙ none)

pub returns-in_default-put_front-clause-stopped : goal.returns-in_default-put_front-clause-stopped
returns-in_default-put_front-clause-stopped g c = λ dirs told honest.
    stopped_write c.args.limits.now _ _ c.args.now dirs (plan_of c.args.rules.now) _ _ (parts_header dirs (plan_of c.args.rules.now) c.args.now (g.D.Sink.taken c.args.sink.now) (g.D.Sink.taken c.put_front.new.sink) (g.P.Sink.taken c.args.echo.now) c.in_default-put_front.ensures.err)

pub returns-in_default-put_front-clause-exceeded : goal.returns-in_default-put_front-clause-exceeded
returns-in_default-put_front-clause-exceeded g c = λ dirs told honest. exceeded_none WriteFault c.args.limits.now _ _ dirs (plan_of c.args.rules.now) refl

pub returns-in_default-put_front-clause-found : goal.returns-in_default-put_front-clause-found
returns-in_default-put_front-clause-found g c = λ dirs told. found_none WriteFault c.args.limits.now _ dirs refl
