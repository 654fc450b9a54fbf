use Rattle.std.proofs.Common.{◌≡◌, true, ap, sym, ◌∙◌, arith}
use Rattle.std.proofs.lemmas.Bool.{le-leb}
use Rattle.bigram_db.specs.Items.{is_in_range}
use Rattle.bigram_db.proofs.EntryReads.{count_first, count_none, count_short, count_word}
use Rattle.bigram_db.proofs.Words.{range_same}
use Rattle.bigram_db.proofs.stream.read_count.Goals as goal

pub returns-in-Err-clause-count : goal.returns-in-Err-clause-count
returns-in-Err-clause-count g c = count_first _ _ _ _ c.in-Err.cause c.in-Err.ensures.byte

pub returns-then-first-gt30-clause-count : goal.returns-then-first-gt30-clause-count
returns-then-first-gt30-clause-count g c = count_none _ _ _ _ c.in-Ok.first c.if-first-gt30.true c.in-Ok.ensures.byte

pub returns-then-first-lt30-clause-count : goal.returns-then-first-lt30-clause-count
returns-then-first-lt30-clause-count g c =
    let small : is_in_range c.from.result ≡ true = ap is_in_range c.from.ensures ∙ le-leb c.in-Ok.first 4110 (omega (arith, c.if-first-lt30.true)) in
    count_short _ _ _ _ c.in-Ok.first _ c.if-first-lt30.true (sym c.from.ensures ∙ sym (range_same c.from.result small)) c.in-Ok.ensures.byte

pub returns-clause-count : goal.returns-clause-count
returns-clause-count g c = count_word _ _ _ _ _ _ c.in-Ok.first c.read_word.result (omega arith) c.in-Ok.ensures.byte c.read_word.ensures.word
