use Rattle.std.proofs.Common.{◌≤◌, None}
use Rattle.byte_feed.specs.Front.{spelling}
use Rattle.mlocate_db.specs.Items.{mlocate}
use Rattle.db_convert.specs.Blocks.{entries_of}
use Rattle.db_convert.specs.Turns.{items_from}
use Rattle.db_convert.proofs.Pieces.{Wrote}
use Rattle.db_convert.proofs.TurnTexts.{text_from}
use Rattle.db_convert.proofs.mlocate.put_blocks.Given as goal

abbrev pub invariant-turns : goal.invariant-turns
invariant-turns g l = record {
  wrote : Wrote (g.K.Sink.taken l.fn.sink) (g.K.Sink.taken l.sink) (text_from l.paths l.places l.at) (spelling mlocate (items_from l.paths None (entries_of l.paths)));
  later : g.K.Sink.faults l.fn.sink ≤ g.K.Sink.faults l.sink;
  kept : g.K.Sink.kept l.fn.sink l.sink;
}
