use Rattle.std.proofs.Common.{arith}
use Rattle.database_update.proofs.conf_file.changes_of.Goals as goal

pub returns-clause-room : goal.returns-clause-room
returns-clause-room c =
    omega (arith, c.in_ok-words_given.ensures.room, c.in_ok-words_given-2.ensures.room, c.in_ok-words_given-3.ensures.room, c.in_ok-words_of.ensures.room, c.in_ok-words_of-2.ensures.room, c.in_ok-words_of-3.ensures.room)
