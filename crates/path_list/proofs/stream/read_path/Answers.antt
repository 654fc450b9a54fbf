use Rattle.std.proofs.Common.{arith}
use Rattle.path_list.proofs.PathSteps.{path_held}
use Rattle.path_list.proofs.stream.read_path.Goals as goal

pub returns-then-take_held-clause-path : goal.returns-then-take_held-clause-path
returns-then-take_held-clause-path g c =
    let e = c.take_held.ensures in
    let held = c.if-take_held.true in
    path_held c.args.mark c.take_held.new.path c.args.feed.now c.take_held.new.feed _ e.ended (e.took held).1 (e.offset held) (omega (arith, e.bound))
