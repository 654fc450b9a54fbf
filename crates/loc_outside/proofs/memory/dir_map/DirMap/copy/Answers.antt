use Rattle.std.proofs.Common.{rules, ◌≡◌, ◌∙◌, ap, arith}
use Rattle.std.specs.FinMap.{from_sorted}
use Rattle.loc_outside.specs.declared.memory.dir_map.TreeDir.{TreeDir}
use Rattle.loc_outside.specs.declared.memory.keyed.Keyed.{Keyed}
use Rattle.loc_outside.specs.DirMap.{dir_of}
use Rattle.loc_outside.specs.Keyed.{pairs_by}
use Rattle.loc_outside.proofs.KeyedMaps.{copied_more, copied_all, copied_rises}
use Rattle.loc_outside.proofs.memory.dir_map.DirMap.copy.Goals as goal

pub loop-item-init : goal.loop-item-init
loop-item-init c = ap (pairs_by dir_of) c.new-items.ensures.items

pub loop-item-preserved : goal.loop-item-preserved
loop-item-preserved c =
    let key : c.in_ok-key.key.items ≡ c.item-item.result.key.items = search rules in
    let old = c.item-item.result.value in
    let copy : Keyed TreeDir = record { key = c.in_ok-key.key; value = record { times = old.times; hidden = old.hidden; names = c.in_ok-copy.field-0 } } in
    ap (pairs_by dir_of) c.in_ok-push.ensures.items
    ∙ copied_more dir_of c.loop-item.items.items c.deref-item-items.result.now c.loop-item.item-index c.item-item.result copy (omega arith) c.item-item.is key (λ i. record { times = old.times; hidden = old.hidden; names = c.in_ok-copy.ensures i }) c.loop-item.invariant

pub invariant_of-result : goal.invariant_of-result
invariant_of-result c =
    let all = copied_all dir_of c.loop-item.items.items c.deref-item-items.result.now c.loop-item.item-index c.loop-item-test.false c.loop-item.invariant ∙ ap (pairs_by dir_of) c.deref-item-items.ensures.value in
    copied_rises dir_of c.loop-item.items.items c.self.inside.items.items all c.self.invariant

pub returns : goal.returns
returns c =
    let all = copied_all dir_of c.loop-item.items.items c.deref-item-items.result.now c.loop-item.item-index c.loop-item-test.false c.loop-item.invariant ∙ ap (pairs_by dir_of) c.deref-item-items.ensures.value in
    ap from_sorted all ∙ c.self.view_is
