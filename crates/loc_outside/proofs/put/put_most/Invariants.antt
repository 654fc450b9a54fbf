use Rattle.std.proofs.Common.{◌≡◌, [], length, take, ◌-◌, ◌≤◌}
use Rattle.std.specs.Io.KnownBytes.{Appends}
use Rattle.loc_outside.proofs.put.put_most.Given as goal

abbrev pub invariant-loop-done : goal.invariant-loop-done
invariant-loop-done g l = record {
  same : l.piece ≡ [] → l.sink ≡ l.initial.sink;
  within : l.done ≤ length l.piece;
  taken : Appends (g.K.Sink.taken l.initial.sink) (g.K.Sink.taken l.sink) (take l.done l.piece);
  faults : g.K.Sink.faults l.initial.sink ≤ g.K.Sink.faults l.sink;
  kept : g.K.Sink.kept l.initial.sink l.sink;
}

abbrev pub decreases-loop-done : goal.decreases-loop-done
decreases-loop-done g l = length l.piece - l.done
