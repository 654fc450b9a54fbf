use Rattle.locate_engine.proofs.Counted.{opened_counted, whole_drawn}
use Rattle.locate_engine.proofs.Drawn.{reads_drawn}
use Rattle.locate_engine.proofs.counting.statistics_opened.Goals as goal

pub returns-clause-counts : goal.returns-clause-counts
returns-clause-counts g c = opened_counted _ c.new-stream.ensures _ _ _ _ _ _ _ c.count_all.ensures.counted c.count_all.ensures.drawn c.count_all.ensures.reach c.count_all.ensures.whole c.count_all.ensures.too_large c.count_all.ensures.there

pub returns-clause-too_large : goal.returns-clause-too_large
returns-clause-too_large g c = λ is. whole_drawn _ c.new-stream.ensures _ _ _ _ _ c.count_all.ensures.drawn (c.count_all.ensures.too_large is)

pub returns-clause-reads : goal.returns-clause-reads
returns-clause-reads g c = reads_drawn _ _ _ _ _ _ _ _ _ c.count_all.ensures.drawn c.count_all.ensures.reach c.count_all.ensures.later c.count_all.ensures.read_fault
