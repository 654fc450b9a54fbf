use Rattle.std.proofs.Common.{OnErr, List, ℕ, subst}
use Rattle.loc_outside.specs.Outside.{AppendsPart}
use Rattle.locate_tools.specs.Messages.{regex_line}
use Rattle.locate_tools.proofs.lines.tell_at_byte.Goals as goal

pub returns-clause-part : goal.returns-clause-part
unfolding regex_line
returns-clause-part g c =
    subst (λ (t : List ℕ). OnErr c.put_pieces.result (AppendsPart (g.E.Sink.taken c.args.err.now) (g.E.Sink.taken c.put_pieces.new.sink) (regex_line t c.args.text.now c.args.place.now))) c.as_bytes.ensures.value c.put_pieces.ensures.err
