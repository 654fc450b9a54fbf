use Rattle.std.proofs.Common.{take, ◌≤◌}
use Rattle.std.specs.List.{flat_map}
use Rattle.std.specs.Io.KnownBytes.{Appends}
use Rattle.locate_tools.proofs.lines.put_pieces.Given as goal

abbrev pub invariant-loop-piece : goal.invariant-loop-piece
invariant-loop-piece g l = record {
  taken : Appends (g.K.Sink.taken l.initial.sink) (g.K.Sink.taken l.sink) (flat_map (λ p. p.now) (take l.piece-index l.pieces));
  faults : g.K.Sink.faults l.initial.sink ≤ g.K.Sink.faults l.sink;
  kept : g.K.Sink.kept l.initial.sink l.sink;
}
