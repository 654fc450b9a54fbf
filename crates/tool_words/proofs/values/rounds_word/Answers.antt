use Rattle.std.proofs.Common.{◌≤◌, arith}
use Rattle.tool_words.proofs.values.rounds_word.Goals as goal

pub overflow_cast-result : goal.overflow_cast-result
overflow_cast-result c = let small : c.in-Some.rounds ≤ 100 = c.in-Some.ensures.within in omega arith
