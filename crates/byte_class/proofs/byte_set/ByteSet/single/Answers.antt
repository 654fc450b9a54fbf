use Rattle.std.proofs.Common.{refl, sym, ◌∙◌, arith}
use Rattle.std.proofs.lemmas.Bool.{eq-eqb, false≢true}
use Rattle.byte_class.proofs.byte_set.ByteSet.single.Goals as goal

pub returns : goal.returns
returns c = λ byte alone.
    absurd (false≢true (sym (c.loop-n.invariant byte (omega (arith, c.loop-n-test.false, alone.0))) ∙ (alone.1 byte alone.0 ∙ eq-eqb byte byte refl)))
