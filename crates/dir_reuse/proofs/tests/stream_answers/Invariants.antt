use Rattle.std.proofs.Common.{IsTrue}
use Rattle.dir_reuse.specs.Answering.{is_sound}
use Rattle.dir_reuse.proofs.tests.stream_answers.Given as goal

abbrev pub invariant-loop-question : goal.invariant-loop-question
invariant-loop-question l = IsTrue (is_sound l.voucher.cursor)
