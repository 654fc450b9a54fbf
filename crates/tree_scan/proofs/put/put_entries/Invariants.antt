use Rattle.std.proofs.Common.{◌≡◌, ◌≤◌, take, flat_map, false}
use Rattle.std.specs.Io.KnownBytes.{Appends}
use Rattle.tree_scan.specs.Blocks.{entry_text, lines_of}
use Rattle.tree_scan.proofs.put.put_entries.Given as goal

abbrev pub invariant-loop-at : goal.invariant-loop-at
invariant-loop-at g l = record {
  taken : Appends (g.D.Sink.taken l.fn.sink) (g.D.Sink.taken l.sink) (flat_map entry_text (take l.at l.names));
  echoed : Appends (g.P.Sink.taken l.fn.echo) (g.P.Sink.taken l.echo) (lines_of l.verbose l.fn.path (take l.at l.names));
  path : l.path ≡ l.fn.path;
  quiet : l.verbose ≡ false → l.echo ≡ l.fn.echo;
  faults : g.D.Sink.faults l.fn.sink ≤ g.D.Sink.faults l.sink;
  echo_faults : g.P.Sink.faults l.fn.echo ≤ g.P.Sink.faults l.echo;
  kept : g.D.Sink.kept l.fn.sink l.sink;
  echo_kept : g.P.Sink.kept l.fn.echo l.echo;
}
