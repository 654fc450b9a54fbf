use Rattle.std.proofs.Common.{ap}
use Rattle.byte_feed.proofs.AheadReads.{ahead_then}
use Rattle.any_db.specs.Formats.{preamble_in}
use Rattle.any_db.specs.Reader.{feed_of}
use Rattle.any_db.proofs.Preambles.{fresh_is, preamble_behind, paths_behind, no_preamble_behind, ended_behind}
use Rattle.any_db.proofs.Named.{known_behind, right_behind}
use Rattle.any_db.proofs.any_reader.AnyReaderPathStream.begin_paths.Goals as goal

pub returns-clause-told : goal.returns-clause-told
returns-clause-told g c =
    let begun = preamble_behind _ preamble_in _ _ _ _ _ _ _ c.requires (rw c.new-feed.ensures at c.in-Ok.ensures.first) c.begin_as.ensures.preamble in
    let not = no_preamble_behind _ preamble_in _ _ _ _ _ _ _ _ c.requires (rw c.new-feed.ensures at c.in-Ok.ensures.first) c.begin_as.ensures.err c.begin_as.ensures.refused in
    known_behind _ _ _ c.in-Ok.format _ _ _ _ c.requires c.begin_as.ensures.told (rw c.new-feed.ensures at c.in-Ok.ensures.told) begun not

pub returns-clause-right : goal.returns-clause-right
returns-clause-right g c =
    let begun = preamble_behind _ preamble_in _ _ _ _ _ _ _ c.requires (rw c.new-feed.ensures at c.in-Ok.ensures.first) c.begin_as.ensures.preamble in
    right_behind _ _ c.in-Ok.format _ _ _ _ c.requires c.begin_as.ensures.told (rw c.new-feed.ensures at c.in-Ok.ensures.told) begun

pub returns-clause-preamble : goal.returns-clause-preamble
returns-clause-preamble g c = preamble_behind _ preamble_in _ _ _ _ _ _ _ c.requires (rw c.new-feed.ensures at c.in-Ok.ensures.first) c.begin_as.ensures.preamble

pub returns-clause-ok : goal.returns-clause-ok
returns-clause-ok g c = paths_behind _ _ _ _ _ _ _ _ _ c.requires (rw c.new-feed.ensures at c.in-Ok.ensures.rest) c.begin_as.ensures.ok

pub returns-clause-refused : goal.returns-clause-refused
returns-clause-refused g c = no_preamble_behind _ preamble_in _ _ _ _ _ _ _ _ c.requires (rw c.new-feed.ensures at c.in-Ok.ensures.first) c.begin_as.ensures.err c.begin_as.ensures.refused

pub returns-clause-err : goal.returns-clause-err
returns-clause-err g c = ended_behind _ _ _ _ _ _ _ _ c.requires (rw c.new-feed.ensures at c.in-Ok.ensures.rest) c.begin_as.ensures.err

pub returns-clause-ahead : goal.returns-clause-ahead
returns-clause-ahead g c =
    let fresh = ap feed_of (fresh_is _ c.requires) in
    let e = c.begin_as.ensures.ahead in
    rw fresh (ahead_then _ _ _ _ _ _ _ _ _ (rw c.new-feed.ensures at c.in-Ok.ensures.drawn) e.drawn e.held e.bound)
