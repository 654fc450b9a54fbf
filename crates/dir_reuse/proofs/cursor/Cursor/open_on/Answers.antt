use Rattle.dir_reuse.proofs.Stream.{header_err, header_ok, opens_ok, opens_err}
use Rattle.dir_reuse.proofs.cursor.Cursor.open_on.Goals as goal

pub returns-in-Ok-clause-opened : goal.returns-in-Ok-clause-opened
returns-in-Ok-clause-opened g c =
    opens_ok c.args.root.now c.args.block.now c.start_matching.new.self _ _ c.in-Ok.matched (rw c.new-reader.ensures at c.in-Ok.ensures.header)

pub returns-in-Err-clause-opened : goal.returns-in-Err-clause-opened
returns-in-Err-clause-opened g c =
    rw c.is_read_fault.ensures (opens_err c.args.root.now c.args.block.now c.start_matching.new.self _ _ c.in-Err.fault (rw c.new-reader.ensures at c.in-Err.ensures.header))

pub returns-in-Ok-clause-header : goal.returns-in-Ok-clause-header
returns-in-Ok-clause-header g c =
    header_ok c.args.root.now c.args.block.now c.start_matching.new.self _ _ c.in-Ok.matched (rw c.new-reader.ensures at c.in-Ok.ensures.header)

pub returns-in-Err-clause-header : goal.returns-in-Err-clause-header
returns-in-Err-clause-header g c =
    rw c.is_read_fault.ensures (header_err c.args.root.now c.args.block.now c.start_matching.new.self _ _ c.in-Err.fault c.in-Err.ensures.live (rw c.new-reader.ensures at c.in-Err.ensures.header))
