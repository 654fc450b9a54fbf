use Rattle.std.proofs.Common.{sym}
use Rattle.bigram_db.proofs.Words.{word_some, range_same}
use Rattle.bigram_db.proofs.word.read_value.Goals as goal

pub returns-in-Some-clause-value : goal.returns-in-Some-clause-value
returns-in-Some-clause-value c =
    word_some c.args.bytes.now c.in-Some.value _ c.in-len4-up.len_at_least c.in-Some.ensures.value (sym (range_same c.in-Some.value c.in-Some.ensures.bound))
