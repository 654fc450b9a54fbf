use Rattle.std.proofs.Common.{◌≡◌, sym, subst, ◌∙◌}
use Rattle.glob_match.specs.Needle.{plain_wanted}
use Rattle.glob_match.specs.Spot.{Known}
use Rattle.glob_match.proofs.Spots.{value}
use Rattle.glob_match.proofs.glob.Glob.matches_next.Goals as goal

pub returns-in-Some-clause-value : goal.returns-in-Some-clause-value
returns-in-Some-clause-value g c before known alike =
    let needle = c.in-Some.needle in
    let is : plain_wanted needle.0 needle.1 ≡ c.args.self.now = (rw c.in-Some.is at c.self.invariant.1) ∙ c.self.view_is in
    let now = c.judge.ensures.known before (subst (λ w. Known c.args.spot.now w before) (sym is) known) alike in
    value c.judge.new.spot c.args.self.now c.args.text.now c.judge.result (subst (λ w. Known c.judge.new.spot w c.args.text.now) is now) c.judge.ensures.told
