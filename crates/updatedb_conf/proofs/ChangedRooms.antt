-- How much room changed settings take.
use Rattle.std.proofs.Common.{◌≡◌, ℕ, ◌+◌, ◌≤◌, List, [], map, Option, Some, None, unwrap_or, refl, ap, sym, ◌∙◌, arith}
use Rattle.std.specs.Option.{option_map}
use Rattle.updatedb_conf.specs.declared.changes.Changes.{Changes}
use Rattle.updatedb_conf.specs.Settings.{Settings, changed, changed_set, settings_room, changes_room}
use Rattle.updatedb_conf.specs.Words.{WordSet, upper, set_of, set_room, room_of}
use Rattle.updatedb_conf.proofs.Rooms.{room-upper, room-set_of, room-joined}

room-changed_set : (set : WordSet) (replacing : Option (List (List ℕ))) (adding : List (List ℕ)) → set_room (changed_set set replacing adding) ≤ set_room set + room_of (unwrap_or replacing []) + room_of adding
room-changed_set set None adding = omega (arith, room-joined set adding)
room-changed_set set (Some words) adding = omega (arith, room-joined (set_of words) adding, room-set_of words)

room-replacing : (replacing : Option (List (List ℕ))) → room_of (unwrap_or (option_map (map upper) replacing) []) ≡ room_of (unwrap_or replacing [])
room-replacing None = refl
room-replacing (Some words) = room-upper words

-- changed settings take no more room than the settings and the changes
pub room_changed : (before : Settings) (changes : Changes) → settings_room (changed before changes) ≤ settings_room before + changes_room changes
room_changed before changes =
    omega (arith, room-changed_set before.fs (option_map (map upper) changes.fs) (map upper changes.add_fs), room-replacing changes.fs, room-upper changes.add_fs, room-changed_set before.names changes.names changes.add_names, room-changed_set before.paths changes.paths changes.add_paths)
