use Rattle.std.proofs.Common.{◌≡◌, ◌≤◌, drop}
use Rattle.bigram_db.specs.Spelled.{encode_with, encode_after}
use Rattle.db_convert.proofs.Pieces.{Wrote}
use Rattle.db_convert.proofs.bigram.put_bigram.Given as goal

abbrev pub invariant-paths : goal.invariant-paths
invariant-paths g l = record {
  wrote : Wrote (g.K.Sink.taken l.fn.sink) (g.K.Sink.taken l.sink) (encode_after l.fn.table l.writer.path l.writer.shared (drop l.at l.paths)) (encode_with l.fn.table l.paths);
  table : l.writer.table ≡ l.fn.table;
  later : g.K.Sink.faults l.fn.sink ≤ g.K.Sink.faults l.sink;
  kept : g.K.Sink.kept l.fn.sink l.sink;
}
