use Rattle.std.proofs.Common.{refl}
use Rattle.dir_reuse.proofs.Keeping.{gives_none, still_unbroken}
use Rattle.dir_reuse.proofs.cursor.Cursor.take_record.Goals as goal

pub returns-in-Ok-Unusable-clause-gives : goal.returns-in-Ok-Unusable-clause-gives
returns-in-Ok-Unusable-clause-gives g c =
    gives_none c.args.self.now _ _ _ c.read_names.new.into c.requires.head c.requires.head.matched refl (still_unbroken c.args.self.now c.requires.sound c.requires.head) (rw c.in-Ok-Unusable.field-0-is at c.in-Ok-Unusable.ensures.names)
