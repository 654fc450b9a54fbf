use Rattle.bigram_db.proofs.writer.WriterBigram.start.Goals as goal

pub returns-clause-err : goal.returns-clause-err
returns-clause-err g c = let part = rw c.bytes.ensures.value at c.put_all.ensures.short in rw (← c.self.view_is) part
