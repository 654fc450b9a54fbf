use Rattle.std.proofs.Common.{◌-◌, ◌∷◌, [], length, drop}
use Rattle.byte_feed.proofs.TakenOff.{took_none}
use Rattle.byte_feed.proofs.Streams.{byte_took}
use Rattle.bigram_db.proofs.EntryReads.{unit_cut, unit_pushed}
use Rattle.bigram_db.proofs.UnitPushes.{pushes_broke, pushes_fault}
use Rattle.bigram_db.proofs.stream.read_unit.Goals as goal

pub returns-in-Err-clause-unit : goal.returns-in-Err-clause-unit
returns-in-Err-clause-unit g c = rw c.if-first-ne31.false (unit_cut c.args.table.now (4096 - length c.args.path.now) (drop (length c.args.path.now) c.args.path.now) _ _ _ _ c.in-Err.cause c.in-Err.ensures.byte)

pub returns-then-first-ne31-clause-unit : goal.returns-then-first-ne31-clause-unit
returns-then-first-ne31-clause-unit g c = unit_pushed c.args.table.now (4096 - length c.args.path.now) c.args.first [] _ _ _ _ _ c.push_unit.result (took_none _ _) c.push_unit.ensures.unit

pub returns-clause-unit : goal.returns-clause-unit
returns-clause-unit g c =
    rw c.if-first-ne31.false (unit_pushed c.args.table.now (4096 - length c.args.path.now) 31 (c.in-Ok.byte ∷ []) _ _ _ _ _ c.push_escaped.result (byte_took _ _ _ _ c.in-Ok.byte c.in-Ok.ensures.byte) (c.push_escaped.ensures.unit c.args.table.now))

pub returns-clause-broke : goal.returns-clause-broke
returns-clause-broke g c = pushes_broke c.args.table.now (4096 - length c.args.path.now) 31 (c.in-Ok.byte ∷ []) (drop (length c.args.path.now) c.push_escaped.new.path) c.push_escaped.result _ (c.push_escaped.ensures.unit c.args.table.now)

pub returns-clause-fault : goal.returns-clause-fault
returns-clause-fault g c = λ h. pushes_fault c.args.table.now (4096 - length c.args.path.now) 31 (c.in-Ok.byte ∷ []) (drop (length c.args.path.now) c.push_escaped.new.path) c.push_escaped.result _ (c.push_escaped.ensures.unit c.args.table.now) h
