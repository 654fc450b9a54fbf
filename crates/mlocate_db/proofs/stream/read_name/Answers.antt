use Rattle.std.proofs.Common.{take}
use Rattle.mlocate_db.proofs.ItemSteps.{name_ok, name_err, name_put}
use Rattle.mlocate_db.proofs.stream.read_name.Goals as goal

pub returns-in-Ok-clause-item : goal.returns-in-Ok-clause-item
returns-in-Ok-clause-item g c =
    let room = rw c.cut.ensures at c.open_directory.ensures.room in
    let opened = rw c.cut.ensures at c.open_directory.ensures.opened in
    name_ok (take c.args.dir_len c.args.path.now) c.open_directory.new.path c.read_text.new.into _ _ _ _ room c.args.kind opened c.in-Ok.ensures.plain c.in-Ok.ensures.text

pub returns-in-Ok-clause-path : goal.returns-in-Ok-clause-path
returns-in-Ok-clause-path g c =
    let room = rw c.cut.ensures at c.open_directory.ensures.room in
    let opened = rw c.cut.ensures at c.open_directory.ensures.opened in
    name_put c.args.dir_len c.args.path.now c.open_directory.new.path c.read_text.new.into c.args.kind c.requires.within room opened c.in-Ok.ensures.plain c.in-Ok.ensures.begins

pub returns-in-Err-clause-item : goal.returns-in-Err-clause-item
returns-in-Err-clause-item g c =
    let room = rw c.cut.ensures at c.open_directory.ensures.room in
    name_err (take c.args.dir_len c.args.path.now) c.open_directory.new.path c.read_text.new.into _ _ _ _ room _ c.args.kind c.in-Err.cause c.in-Err.ensures.text
