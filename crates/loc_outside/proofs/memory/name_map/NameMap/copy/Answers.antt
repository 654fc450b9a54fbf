use Rattle.std.proofs.Common.{rules, ◌≡◌, refl, ◌∙◌, ap, arith}
use Rattle.std.specs.FinMap.{from_sorted}
use Rattle.path_order.specs.declared.kind.Kind.{Kind}
use Rattle.loc_outside.specs.declared.memory.keyed.Keyed.{Keyed}
use Rattle.loc_outside.specs.Keyed.{pairs_by}
use Rattle.loc_outside.proofs.FittingNames.{are_names_same}
use Rattle.loc_outside.proofs.KeyedMaps.{copied_more, copied_all}
use Rattle.loc_outside.proofs.memory.name_map.NameMap.copy.Goals as goal

pub loop-item-init : goal.loop-item-init
loop-item-init c = ap (pairs_by (λ kind. kind)) c.new-items.ensures.items

pub loop-item-preserved : goal.loop-item-preserved
loop-item-preserved c =
    let key : c.in_ok-key.key.items ≡ c.item-item.result.key.items = search rules in
    let copy : Keyed Kind = record { key = c.in_ok-key.key; value = c.item-item.result.value } in
    ap (pairs_by (λ kind. kind)) c.in_ok-push.ensures.items ∙ copied_more (λ kind. kind) c.loop-item.items.items c.deref-item-items.result.now c.loop-item.item-index c.item-item.result copy (omega arith) c.item-item.is key refl c.loop-item.invariant

pub invariant_of-result : goal.invariant_of-result
invariant_of-result c =
    let all = copied_all (λ kind. kind) c.loop-item.items.items c.deref-item-items.result.now c.loop-item.item-index c.loop-item-test.false c.loop-item.invariant ∙ ap (pairs_by (λ kind. kind)) c.deref-item-items.ensures.value in
    are_names_same c.self.inside.items.items c.loop-item.items.items all c.self.invariant

pub returns : goal.returns
returns c =
    let all = copied_all (λ kind. kind) c.loop-item.items.items c.deref-item-items.result.now c.loop-item.item-index c.loop-item-test.false c.loop-item.invariant ∙ ap (pairs_by (λ kind. kind)) c.deref-item-items.ensures.value in
    ap from_sorted all ∙ c.self.view_is
