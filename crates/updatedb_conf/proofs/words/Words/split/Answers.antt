use Rattle.std.proofs.Common.{◌+◌, ◌≤◌, length, sym, subst}
use Rattle.updatedb_conf.specs.Words.{words, room_of}
use Rattle.updatedb_conf.proofs.Rooms.{room-words}
use Rattle.updatedb_conf.proofs.words.Words.split.Goals as goal

pub returns-clause-room : goal.returns-clause-room
returns-clause-room c =
    subst (λ t. room_of (words t) ≤ length c.args.text.now + 1) (sym c.in_ok-from_slice.ensures.items) (room-words c.args.text.now)
