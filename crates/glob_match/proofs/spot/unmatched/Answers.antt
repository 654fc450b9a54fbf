use Rattle.std.proofs.Common.{sym, subst}
use Rattle.glob_match.specs.Spot.{Known}
use Rattle.glob_match.proofs.Spots.{stays}
use Rattle.glob_match.proofs.spot.unmatched.Goals as goal

pub returns-then-end-shared-clause-stays : goal.returns-then-end-shared-clause-stays
returns-then-end-shared-clause-stays c none glob before text known alike =
    subst (λ s. Known s glob before → Known s glob text) (sym c.in-Ends.is) (λ k. stays c.in-Ends.end c.args.shared glob before text c.if-end-shared.true k alike) known
