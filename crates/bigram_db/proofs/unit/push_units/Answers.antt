use Rattle.std.proofs.Common.{◌-◌, ◌≤◌, length, ◌∙◌, arith}
use Rattle.bigram_db.proofs.UnitPushes.{spells_more, same_front}
use Rattle.bigram_db.proofs.unit.push_units.Goals as goal

pub units-preserved : goal.units-preserved
units-preserved c =
    let n = length c.args.path.now in
    let i = c.units.invariant in
    let u = c.push_quickly.ensures in
    let put = rw c.if-not-push_quickly.false at u.unit in
    let grows = rw c.if-not-push_quickly.false at u.grows in
    let le : n ≤ length c.units.path = omega (arith, i.grown) in
    record {
      within = omega (arith, c.units-test.true);
      units = spells_more c.args.table.now (4096 - length c.units.path) c.units.taken c.args.bytes.now n c.units.path c.push_quickly.new.path c.units-test.true c.if-first-le31.false le u.begins i.units put;
      begins = same_front n c.units.path c.push_quickly.new.path le u.begins ∙ i.begins;
      grown = omega (arith, i.grown, grows);
      plain = u.plain;
      fits = u.fits;
    }
