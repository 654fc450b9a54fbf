use Rattle.std.proofs.Common.{sym}
use Rattle.dir_reuse.proofs.Cursors.{came_on, has_head}
use Rattle.dir_reuse.proofs.cursor.Cursor.come_to.Goals as goal

pub returns-in-Less-clause-came : goal.returns-in-Less-clause-came
returns-in-Less-clause-came g c =
    came_on c.args.dir.now c.go_on-in-Less.result c.args.self.now c.go_on-in-Less.new.self _ _ (has_head c.args.self.now c.requires c.if-not-self.false) (sym (rw c.path.ensures.value at c.in-Less.ensures.order)) c.go_on-in-Less.ensures.came
