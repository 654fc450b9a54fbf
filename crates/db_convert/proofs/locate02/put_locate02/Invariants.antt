use Rattle.std.proofs.Common.{◌≤◌, drop}
use Rattle.locate02_db.specs.Spelled.{encode02, encode_after}
use Rattle.db_convert.proofs.Pieces.{Wrote}
use Rattle.db_convert.proofs.locate02.put_locate02.Given as goal

abbrev pub invariant-paths : goal.invariant-paths
invariant-paths g l = record {
  wrote : Wrote (g.K.Sink.taken l.fn.sink) (g.K.Sink.taken l.sink) (encode_after l.writer.path l.writer.shared (drop l.at l.paths)) (encode02 l.paths);
  later : g.K.Sink.faults l.fn.sink ≤ g.K.Sink.faults l.sink;
  kept : g.K.Sink.kept l.fn.sink l.sink;
}
