use Rattle.std.proofs.Common.{◌<◌, ◌^◌, length, arith}
use Rattle.posix_regex.proofs.Stretches.{Found, longest_first, longest_more, longest_same, longest_last}
use Rattle.posix_regex.proofs.literal.longest.Goals as goal
use Rattle.posix_regex.proofs.literal.longest.Goals.{then-most-run, else-most-run}

pub loop-at-init : goal.loop-at-init
loop-at-init c = longest_first c.args.states.now

pub loop-at-preserved : goal.loop-at-preserved
loop-at-preserved c =
    let items = c.args.states.now in
    let run = c.stretch_len-run.result in
    let e = c.stretch_len-run.ensures in
    let f : Found items c.loop-at.edge c.loop-at.at run = record { alone = e.alone; ends = e.ends; none = e.none; within = e.within } in
    let few : length items < 2 ^ 63 = omega (arith, c.len.ensures.bound, c.len.ensures.value) in
    let inside : c.loop-at.at < length items = omega (arith, c.loop-at-test.true, c.len.ensures.value) in
    elim c.if-most-run.branch [
      | then-most-run w ↦ rw (w.best-is, w.most-is) (longest_more items c.loop-at.best c.loop-at.most c.loop-at.edge c.loop-at.at run c.furthest-edge.result c.loop-at.invariant f few inside c.furthest-edge.ensures w.if-most-run.true)
      | else-most-run w ↦ rw (w.best-is, w.most-is) (longest_same items c.loop-at.best c.loop-at.most c.loop-at.edge c.loop-at.at run c.furthest-edge.result c.loop-at.invariant f few inside c.furthest-edge.ensures w.if-most-run.false)
    ]

pub returns-clause-longest : goal.returns-clause-longest
returns-clause-longest c = longest_last c.args.states.now c.loop-at.best c.loop-at.most c.loop-at.edge c.loop-at.at c.loop-at.invariant (omega (arith, c.loop-at-test.false, c.len.ensures.value))
