use Rattle.std.proofs.Common.{◌-◌, ◌∷◌, [], length, refl, ap, arith}
use Rattle.bigram_db.specs.Items.{Escaped}
use Rattle.bigram_db.proofs.UnitPushes.{pushed, escaped_behind, escaped_zero}
use Rattle.bigram_db.proofs.unit.push_escaped.Goals as goal

pub returns-then-byte-eq0-clause-unit : goal.returns-then-byte-eq0-clause-unit
returns-then-byte-eq0-clause-unit c = λ table. escaped_zero table c.args.byte (4096 - length c.args.path.now) [] c.if-byte-eq0.true

pub returns-clause-unit : goal.returns-clause-unit
returns-clause-unit c = λ table.
    let byte = c.args.byte in
    let e = c.push_all.ensures in
    pushed table 31 (byte ∷ []) (Escaped byte) _ _ (byte ∷ []) c.push_all.result (omega (arith, c.bytes.ensures.fits, ap length c.bytes.ensures.value)) (escaped_behind table byte (omega (arith, c.if-byte-eq0.false))) refl e.variant e.ok e.err
