use Rattle.std.proofs.Common.{◌≤◌, drop}
use Rattle.path_list.specs.Marks.{byte_of}
use Rattle.path_list.specs.Spelled.{encode_list}
use Rattle.db_convert.proofs.Pieces.{Wrote}
use Rattle.db_convert.proofs.list.put_list.Given as goal

abbrev pub invariant-paths : goal.invariant-paths
invariant-paths g l = record {
  wrote : Wrote (g.K.Sink.taken l.fn.sink) (g.K.Sink.taken l.sink) (encode_list (byte_of l.mark) (drop l.at l.paths)) (encode_list (byte_of l.mark) l.paths);
  later : g.K.Sink.faults l.fn.sink ≤ g.K.Sink.faults l.sink;
  kept : g.K.Sink.kept l.fn.sink l.sink;
}
