use Rattle.std.proofs.Common.{ap, subst, ℕ, List, [], ◌++◌}
use Rattle.loc_outside.specs.Outside.{AppendsPart}
use Rattle.tool_words.specs.LocateSeen.{seen}
use Rattle.locate_tools.specs.LocateExact.{databases_of}
use Rattle.locate_tools.specs.Messages.{cause_message}
use Rattle.locate_tools.specs.Told.{messages}
use Rattle.locate_tools.proofs.Going.{tells_end}
use Rattle.locate_tools.proofs.run.run_locate.Goals as goal

pub returns-clause-told_part : goal.returns-clause-told_part
returns-clause-told_part g c =
    let found = c.locate-found.result in
    subst (λ (x : List ℕ). AppendsPart (g.E.Sink.taken c.args.err.now) (g.E.Sink.taken c.tell_end.new.err) (messages c.args.asked.now.quiet (databases_of (seen c.args.asked.now)) found.outcomes ++ cause_message x [] found.cause)) c.speaker.ensures
    (tells_end found.silent _ _ _ _ _ _ _ c.locate-found.ensures.told c.tell_end.ensures.part (λ e. ap g.E.Sink.taken (c.tell_end.ensures.silent e)))
