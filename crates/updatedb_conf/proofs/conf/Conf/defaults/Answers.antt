use Rattle.std.proofs.Common.{◌≡◌, ◌+◌, arith}
use Rattle.updatedb_conf.specs.Words.{WordSet, set_room}
use Rattle.updatedb_conf.proofs.Rooms.{room-empty}
use Rattle.updatedb_conf.proofs.conf.Conf.defaults.Goals as goal

pub returns-clause-room : goal.returns-clause-room
returns-clause-room c =
    let sum : set_room c.new.result + set_room c.new-2.result + set_room c.new-3.result ≡ 0 = omega (arith, room-empty c.new.result c.new.ensures, room-empty c.new-2.result c.new-2.ensures, room-empty c.new-3.result c.new-3.ensures) in sum
