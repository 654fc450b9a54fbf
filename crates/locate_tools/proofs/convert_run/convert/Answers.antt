use Rattle.std.proofs.Common.{ap, refl, Err, ◌∙◌}
use Rattle.locate_tools.proofs.Converting.{does_as, unwritten_after}
use Rattle.locate_tools.proofs.convert_run.convert.Goals as goal

pub returns-in-Ok-clause-run : goal.returns-in-Ok-clause-run
returns-in-Ok-clause-run g c = record {
  result = _;
  ended = refl;
  does = does_as _ _ _ _ _ _ _ _ c.named_format-from.ensures c.format_of-to.ensures
      (λ same. (ap g.O.Output.held same, ap g.O.Output.begins same, ap g.O.Sink.faults same))
      c.in-Ok.ensures.does;
}

pub returns-in-Err-clause-run : goal.returns-in-Err-clause-run
returns-in-Err-clause-run g c = record {
  result = Err c.in-Err.fault;
  ended = c.cause_of.ensures;
  does = does_as _ _ _ _ _ _ _ _ c.named_format-from.ensures c.format_of-to.ensures
      (λ same. (ap g.O.Output.held same, ap g.O.Output.begins same, ap g.O.Sink.faults same))
      c.in-Err.ensures.does;
}

pub returns-in-Err-clause-unwritten : goal.returns-in-Err-clause-unwritten
returns-in-Err-clause-unwritten g c = λ done write. unwritten_after _ _ _ _ c.in-Err.fault c.in-Err.ensures.does.after_fault (λ is. write (c.cause_of.ensures ∙ is))
