use Rattle.std.proofs.Common.{sym}
use Rattle.std.specs.Bool.{one_answer}
use Rattle.locate_engine.proofs.Patterns.{in_glob_is}
use Rattle.locate_engine.proofs.spots.Spots.judge.Goals as goal

pub returns-clause-value : goal.returns-clause-value
returns-clause-value g c =
    let follows = c.requires.follows in
    one_answer _ _ (c.matches_next-matched.ensures.value follows.0 (rw c.spot-spot.ensures follows.1) (sym follows.2.same)) (in_glob_is c.args.glob.now c.args.text.now)
