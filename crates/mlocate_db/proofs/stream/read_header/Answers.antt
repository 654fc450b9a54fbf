use Rattle.std.proofs.Common.{length, ap, arith}
use Rattle.byte_feed.proofs.Draws.{draws_then}
use Rattle.byte_feed.proofs.AheadReads.{ahead_then}
use Rattle.mlocate_db.proofs.Starts.{fixed_broken, root_broken, block_broken, header_read}
use Rattle.mlocate_db.proofs.stream.read_header.Goals as goal

pub returns-in-Err-clause-header : goal.returns-in-Err-clause-header
returns-in-Err-clause-header g c = fixed_broken _ _ _ _ _ _ c.in-Err.cause c.in-Err.ensures.fixed

pub returns-in-Err-read_text-clause-header : goal.returns-in-Err-read_text-clause-header
returns-in-Err-read_text-clause-header g c = root_broken c.in-Ok.fixed _ _ c.read_text.new.into _ _ _ _ _ _ c.in-Err-read_text.cause c.in-Ok.ensures.fixed (rw c.cut.ensures at c.in-Err-read_text.ensures.text)

pub returns-in-Err-read_text-clause-ahead : goal.returns-in-Err-read_text-clause-ahead
returns-in-Err-read_text-clause-ahead g c =
    let e = c.in-Err-read_text.ensures in
    ahead_then _ _ _ _ _ _ _ _ _ c.in-Ok.ensures.ahead.drawn e.drawn e.held e.reach

pub returns-in-Ok-match_bytes-clause-header : goal.returns-in-Ok-match_bytes-clause-header
returns-in-Ok-match_bytes-clause-header g c =
    header_read c.in-Ok.fixed _ c.read_text.new.into _ _ _ _ _ _ _ _ c.in-Ok-match_bytes.same c.in-Ok.ensures.fixed (rw c.cut.ensures at c.in-Ok-read_text.ensures.text) c.in-Ok-match_bytes.ensures.matches

pub returns-in-Ok-match_bytes-clause-grows : goal.returns-in-Ok-match_bytes-clause-grows
returns-in-Ok-match_bytes-clause-grows g c = omega (arith, c.in-Ok.ensures.grows, c.in-Ok-read_text.ensures.grows, c.in-Ok-match_bytes.ensures.grows, ap length c.cut.ensures)

pub returns-in-Ok-match_bytes-clause-ahead : goal.returns-in-Ok-match_bytes-clause-ahead
returns-in-Ok-match_bytes-clause-ahead g c =
    let e = c.in-Ok-match_bytes.ensures in
    ahead_then _ _ _ _ _ _ _ _ _ c.in-Ok.ensures.ahead.drawn (draws_then _ _ _ _ _ _ _ _ _ c.in-Ok-read_text.ensures.drawn e.drawn) e.held e.reach

pub returns-in-Ok-match_bytes-clause-kept : goal.returns-in-Ok-match_bytes-clause-kept
returns-in-Ok-match_bytes-clause-kept g c = g.met.S.Source.keeps_on _ _ _ c.in-Ok.ensures.kept (g.met.S.Source.keeps_on _ _ _ c.in-Ok-read_text.ensures.kept c.in-Ok-match_bytes.ensures.kept)

pub returns-in-Err-match_bytes-clause-header : goal.returns-in-Err-match_bytes-clause-header
returns-in-Err-match_bytes-clause-header g c =
    block_broken c.in-Ok.fixed _ c.read_text.new.into _ _ _ _ _ _ _ _ c.in-Err-match_bytes.cause c.in-Ok.ensures.fixed (rw c.cut.ensures at c.in-Ok-read_text.ensures.text) c.in-Err-match_bytes.ensures.matches

pub returns-in-Err-match_bytes-clause-ahead : goal.returns-in-Err-match_bytes-clause-ahead
returns-in-Err-match_bytes-clause-ahead g c =
    let e = c.in-Err-match_bytes.ensures in
    ahead_then _ _ _ _ _ _ _ _ _ c.in-Ok.ensures.ahead.drawn (draws_then _ _ _ _ _ _ _ _ _ c.in-Ok-read_text.ensures.drawn e.drawn) e.held e.reach

pub returns-in-Err-match_bytes-clause-kept : goal.returns-in-Err-match_bytes-clause-kept
returns-in-Err-match_bytes-clause-kept g c = g.met.S.Source.keeps_on _ _ _ c.in-Ok.ensures.kept (g.met.S.Source.keeps_on _ _ _ c.in-Ok-read_text.ensures.kept c.in-Err-match_bytes.ensures.kept)
