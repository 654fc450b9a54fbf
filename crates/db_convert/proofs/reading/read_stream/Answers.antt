use Rattle.byte_feed.proofs.Draws.{draws_then}
use Rattle.db_convert.proofs.ReadPaths.{answers_before, gathered_by}
use Rattle.db_convert.proofs.reading.read_stream.Goals as goal

pub returns-in-Ok-clause-gathered : goal.returns-in-Ok-clause-gathered
returns-in-Ok-clause-gathered g c = gathered_by _ _ _ _ _ _ (λ q h. answers_before _ _ _ _ _ _ q c.in-Ok.ensures.ok h) c.read_on.ensures.gathered

pub returns-in-Ok-clause-drawn : goal.returns-in-Ok-clause-drawn
returns-in-Ok-clause-drawn g c = draws_then _ _ _ _ _ _ _ _ _ c.in-Ok.ensures.ahead.drawn c.read_on.ensures.drawn
