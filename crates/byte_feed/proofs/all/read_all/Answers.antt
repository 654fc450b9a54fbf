use Rattle.std.proofs.Common.{◌≡◌, take, length, ap, ◌∙◌, sym, arith, length-take}
use Rattle.loc_outside.specs.Causes.{raised}
use Rattle.byte_feed.proofs.Draws.{takes_more}
use Rattle.byte_feed.proofs.all.read_all.Goals as goal

pub returns-in_default-extend_from_slice-clause-taken : goal.returns-in_default-extend_from_slice-clause-taken
returns-in_default-extend_from_slice-clause-taken g c =
    let read = c.in-Ok in
    let got = take read.count c.read_into.new.buffer in
    let len : length got ≡ read.count = omega (arith, length-take read.count c.read_into.new.buffer, read.ensures.bound, c.read_into.ensures.len) in
    takes_more _ _ _ _ _ _ _ c.reading.bytes.items got (omega (arith, len, read.ensures.bound, c.min-most.ensures, c.len.ensures, c.reading.bytes.ok, c.reading.invariant.within)) c.reading.invariant.given c.reading.invariant.taken
    (read.ensures.given ∙ ap (raised _) (sym len)) read.ensures.bytes.0
