use Rattle.std.proofs.Common.{ap, map, sym, ◌∙◌}
use Rattle.tool_words.specs.LocateSeen.{seen}
use Rattle.locate_tools.proofs.Queries.{globs_are}
use Rattle.locate_tools.proofs.locate_run.globs_of.Goals as goal

pub returns : goal.returns
returns c = globs_are (λ t. t.now) (seen c.args.asked.now) c.as_slice.result.now c.read_patterns.result (sym c.seeks_expressions.ensures ∙ c.if-seeks_expressions.false) (ap (map (λ t. t.now)) c.as_slice.ensures.value) c.read_patterns.ensures
