use Rattle.std.proofs.Common.{◌-◌, ◌*◌, ◌+◌, ◌∷◌, [], get_or, length, refl, ap, arith}
use Rattle.bigram_db.specs.Items.{Plain, Paired}
use Rattle.bigram_db.proofs.UnitPushes.{pushed, plain_behind, used_behind, unused_first, unused_second}
use Rattle.bigram_db.proofs.unit.push_unit.Goals as goal

pub returns-then-first-lt128-clause-unit : goal.returns-then-first-lt128-clause-unit
returns-then-first-lt128-clause-unit c =
    let first = c.args.first in
    let e = c.push_all.ensures in
    pushed c.args.table.now first [] (Plain first) _ _ (first ∷ []) c.push_all.result (omega (arith, c.bytes.ensures.fits, ap length c.bytes.ensures.value)) (plain_behind c.args.table.now first c.requires.first c.if-first-lt128.true) refl e.variant e.ok e.err

pub returns-then-pair-eq0-clause-unit : goal.returns-then-pair-eq0-clause-unit
returns-then-pair-eq0-clause-unit c = unused_first c.args.table.now c.args.first c.if-first-lt128.false c.if-pair-eq0.true (4096 - length c.args.path.now) []

pub returns-then-pair-eq0-2-clause-unit : goal.returns-then-pair-eq0-2-clause-unit
returns-then-pair-eq0-2-clause-unit c = unused_second c.args.table.now c.args.first c.if-first-lt128.false c.if-pair-eq0-2.true (4096 - length c.args.path.now) []

pub returns-clause-unit : goal.returns-clause-unit
returns-clause-unit c =
    let first = c.args.first in
    let table = c.args.table.now in
    let place = 2 * (first - 128) in
    let e = c.push_all-2.ensures in
    pushed table first [] (Paired (first - 128)) _ _ (get_or table place 0 ∷ get_or table (place + 1) 0 ∷ []) c.push_all-2.result (omega (arith, c.bytes.ensures.fits, ap length c.bytes.ensures.value)) (used_behind table first c.if-first-lt128.false (omega (arith, c.if-pair-eq0.false)) (omega (arith, c.if-pair-eq0-2.false))) refl e.variant e.ok e.err
