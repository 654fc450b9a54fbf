use Rattle.std.proofs.Common.{IsTrue, sym, subst}
use Rattle.glob_match.specs.Needle.{Stands}
use Rattle.glob_match.proofs.Needles.{compared-exact}
use Rattle.glob_match.proofs.needle.stands_at.Goals as goal

pub returns : goal.returns
returns c =
    subst (λ f. (IsTrue c.eq.result → Stands f c.args.bytes.now c.args.text.now c.args.at) × (Stands f c.args.bytes.now c.args.text.now c.args.at → IsTrue c.eq.result)) (sym c.if-fold.false)
    (compared-exact c.args.bytes.now c.args.text.now c.args.at c.eq.result c.requires c.eq.ensures)
