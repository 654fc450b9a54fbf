use Rattle.std.proofs.Common.{◌≡◌, ◌+◌, ◌<◌, length, take, drop, refl, sym, length-take, length-drop, arith}
use Rattle.std.specs.Prelude.{pos, ◌+ℤ◌}
use Rattle.locate02_db.specs.Items.{amount}
use Rattle.locate02_db.proofs.ItemLaws.{within_is}
use Rattle.locate02_db.proofs.ItemSteps.{entry_cut, entry_stop, entry_then, remainder_cut, remainder_none, remainder_some}
use Rattle.locate02_db.proofs.stream.read_entry.Goals as goal

pub returns-in-Err-clause-entry : goal.returns-in-Err-clause-entry
returns-in-Err-clause-entry g c = entry_cut c.args.path.now c.args.old c.args.first _ _ _ _ _ c.in-Err.cause c.in-Err.ensures.change

pub returns-in-Err-shared_within-clause-entry : goal.returns-in-Err-shared_within-clause-entry
returns-in-Err-shared_within-clause-entry g c =
    let e = rw c.bytes.ensures.value at c.in-Err-shared_within.ensures in
    entry_stop c.args.path.now c.args.old c.args.first _ _ _ _ _ c.in-Ok.change c.in-Err-shared_within.stop (sym e) c.in-Ok.ensures.change

pub returns-in-Err-read_ended-clause-entry : goal.returns-in-Err-read_ended-clause-entry
returns-in-Err-read_ended-clause-entry g c =
    let e = sym (rw c.bytes.ensures.value at c.in-Ok-shared_within.ensures) in
    let n = c.in-Ok-shared_within.shared in
    let within = within_is (length c.args.path.now) (pos c.args.old +ℤ amount c.in-Ok.change) n e in
    let len : length (take n c.args.path.now) ≡ n = omega (arith, length-take n c.args.path.now, within.1) in
    let path = c.read_ended.new.into in
    let text = rw (c.cut.ensures, len) at c.in-Err-read_ended.ensures.text in
    entry_then c.args.path.now c.args.old c.args.first path _ _ _ _ _ _ c.in-Ok.change n _ e c.in-Ok.ensures.change
    (remainder_cut c.in-Ok.change n path _ _ _ _ c.in-Err-read_ended.cause text)

pub returns-then-shared-count-eq0-clause-entry : goal.returns-then-shared-count-eq0-clause-entry
returns-then-shared-count-eq0-clause-entry g c =
    let e = sym (rw c.bytes.ensures.value at c.in-Ok-shared_within.ensures) in
    let n = c.in-Ok-shared_within.shared in
    let within = within_is (length c.args.path.now) (pos c.args.old +ℤ amount c.in-Ok.change) n e in
    let len : length (take n c.args.path.now) ≡ n = omega (arith, length-take n c.args.path.now, within.1) in
    let path = c.read_ended.new.into in
    let text = rw (c.cut.ensures, len) at c.in-Ok-read_ended.ensures.text in
    let count = rw (c.cut.ensures, len) at c.in-Ok-read_ended.ensures.count in
    entry_then c.args.path.now c.args.old c.args.first path _ _ _ _ _ _ c.in-Ok.change n _ e c.in-Ok.ensures.change
    (remainder_none c.in-Ok.change n path _ _ _ _ c.in-Ok-read_ended.count (omega (arith, c.if-shared-count-eq0.true)) (omega (arith, length-drop n path, count, c.if-shared-count-eq0.true)) text)

pub returns-clause-entry : goal.returns-clause-entry
returns-clause-entry g c =
    let e = sym (rw c.bytes.ensures.value at c.in-Ok-shared_within.ensures) in
    let n = c.in-Ok-shared_within.shared in
    let within = within_is (length c.args.path.now) (pos c.args.old +ℤ amount c.in-Ok.change) n e in
    let len : length (take n c.args.path.now) ≡ n = omega (arith, length-take n c.args.path.now, within.1) in
    let path = c.read_ended.new.into in
    let text = rw (c.cut.ensures, len) at c.in-Ok-read_ended.ensures.text in
    let count = rw (c.cut.ensures, len) at c.in-Ok-read_ended.ensures.count in
    let some : 0 < n + length (drop n path) = omega (arith, length-drop n path, count, c.if-shared-count-eq0.false) in
    entry_then c.args.path.now c.args.old c.args.first path _ _ _ _ _ _ c.in-Ok.change n _ e c.in-Ok.ensures.change
    (remainder_some c.in-Ok.change n path _ _ _ _ c.in-Ok-read_ended.count (record { change = c.in-Ok.change; shared = n }) refl refl some text)
