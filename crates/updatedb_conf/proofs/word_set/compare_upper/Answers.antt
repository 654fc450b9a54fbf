use Rattle.std.proofs.Common.{◌≡◌, arith, sym, ◌∙◌}
use Rattle.updatedb_conf.proofs.Uppers.{at_end}
use Rattle.updatedb_conf.proofs.word_set.compare_upper.Goals as goal

pub returns : goal.returns
returns c = c.cmp-2.ensures ∙ sym (c.loop-i.invariant ∙ at_end c.args.word.now c.args.other.now _ (omega arith))
