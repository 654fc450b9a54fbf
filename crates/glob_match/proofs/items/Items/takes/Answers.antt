use Rattle.std.proofs.Common.{arith}
use Rattle.glob_match.proofs.Members.{byte_takes, set_takes}
use Rattle.glob_match.proofs.items.Items.takes.Goals as goal

pub returns-in-Byte-clause-value : goal.returns-in-Byte-clause-value
returns-in-Byte-clause-value g c =
    byte_takes c.self.inside.stored.items c.args.self.now c.args.at c.args.byte c.in-Byte.kept c.index.result.now c.self.view_is c.requires.within c.index.ensures c.in-Byte.is (omega arith)

pub returns-in-Set-clause-value : goal.returns-in-Set-clause-value
returns-in-Set-clause-value g c =
    set_takes c.self.inside.stored.items c.args.self.now c.args.at c.args.byte c.in-Set.set c.index.result.now c.contains.result c.self.view_is c.requires.within c.index.ensures c.in-Set.is (omega arith) c.contains.ensures
