use Rattle.std.proofs.Common.{◌≡◌, ◌+◌, ◌-◌, ◌*◌, ◌<◌, ◌≤◌, ◌++◌, ◌∷◌, [], Bool, true, false, get_or, length, take, refl, arith}
use Rattle.std.specs.Bool.{OnTrue}
use Rattle.bigram_db.proofs.UnitPushes.{put_either}
use Rattle.bigram_db.proofs.unit.push_quickly.Goals as goal

on_both : {P Q R : Type 0} (b : Bool) → (P → Q → R) → OnTrue b P → OnTrue b Q → OnTrue b R
on_both true f p q = f p q
on_both false f p q = tt

pub returns-clause-unit : goal.returns-clause-unit
returns-clause-unit c =
    let table = c.args.table.now in
    let first = c.args.first in
    let old = c.args.path.now in
    let new = c.push_front.new.path in
    let pairs = c.pairs_of-pairs.result in
    let one = get_or table (2 * (first - 128 * pairs)) 0 in
    let two = get_or table (2 * (first - 128 * pairs) + 1) 0 in
    let front = c.choose-front.result in
    let p = c.pairs_of-pairs.ensures in
    let f = c.choose-front.ensures in
    let some : 0 < front = omega (arith, c.if-front-eq0.false) in
    on_both c.push_front.result
    (λ (room : length old + 2 ≤ 4096) (put : new ≡ old ++ front ∷ take pairs (two ∷ [])). put_either table first pairs one two front old new room c.requires.first p.pair p.other refl refl f.one f.other some c.if-two-pairs.false put)
    c.push_front.ensures.room c.push_front.ensures.text
