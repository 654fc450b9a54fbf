use Rattle.locate_tools.proofs.Exercising.{exercise_done, exercise_unflushed}
use Rattle.tool_words.specs.ExerciseSeen.{seen}
use Rattle.locate_tools.proofs.exercise_run.exercise.Goals as goal

pub returns-in-Ok-flush-clause-run : goal.returns-in-Ok-flush-clause-run
returns-in-Ok-flush-clause-run g c =
    exercise_done (seen c.args.asked.now) _
    (record { taken = g.P.Sink.taken c.put_exercised.new.out; held_back = g.P.BufferedSink.held_back c.put_exercised.new.out; failed = g.P.Sink.faults c.put_exercised.new.out })
    _ c.in-Ok.shown c.in-Ok.ensures c.in-Ok-put_exercised.ensures.ok c.flush.ensures.taken c.in-Ok-flush.ensures.flushed

pub returns-in-Err-clause-run : goal.returns-in-Err-clause-run
returns-in-Err-clause-run g c =
    exercise_unflushed (seen c.args.asked.now) _
    (record { taken = g.P.Sink.taken c.put_exercised.new.out; held_back = g.P.BufferedSink.held_back c.put_exercised.new.out; failed = g.P.Sink.faults c.put_exercised.new.out })
    _ c.in-Ok.shown c.in-Ok.ensures c.in-Ok-put_exercised.ensures.ok c.flush.ensures.taken c.put_exercised.ensures.cause.later c.in-Err.ensures.cause.failed
