use Rattle.std.proofs.Common.{arith}
use Rattle.bigram_db.proofs.TableLaws.{counted_few}
use Rattle.bigram_db.proofs.tests.Counted.add.Goals as goal

pub invariant_of-self : goal.invariant_of-self
invariant_of-self c = λ p. omega (arith, c.add.ensures p, c.self.invariant p, counted_few c.args.before.now c.args.path.now p, c.if-path-gt4096.false)
