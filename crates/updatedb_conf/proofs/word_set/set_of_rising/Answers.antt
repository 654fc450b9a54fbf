use Rattle.std.proofs.Common.{◌≡◌, length, sym, subst, ap, arith}
use Rattle.updatedb_conf.specs.Stored.{IsRising}
use Rattle.updatedb_conf.specs.Words.{set_of}
use Rattle.updatedb_conf.proofs.LaidWords.{laid_next, laid_all}
use Rattle.updatedb_conf.proofs.word_set.set_of_rising.Goals as goal

pub loop-word-preserved : goal.loop-word-preserved
loop-word-preserved c =
    let starts : c.len.result ≡ length c.loop-word.text.items = omega (arith, c.loop-word.text.ok.0) in
    let both = laid_next c.args.list.now c.loop-word.word-index _ c.loop-word.text.items _ c.loop-word.spans.items _ c.len.result c.loop-word-test.true starts c.in_ok-push.ensures.items c.in_ok-extend_from_slice.ensures.items c.loop-word.invariant.within c.loop-word.invariant.laid in
    record { laid = both.0; within = both.1 }

pub invariant_of-result : goal.invariant_of-result
invariant_of-result c =
    subst IsRising (sym (laid_all c.args.list.now c.loop-word.word-index c.loop-word.text.items c.loop-word.spans.items c.loop-word-test.false c.loop-word.invariant.laid)) c.requires

pub returns : goal.returns
returns c = ap set_of (laid_all c.args.list.now c.loop-word.word-index c.loop-word.text.items c.loop-word.spans.items c.loop-word-test.false c.loop-word.invariant.laid)
