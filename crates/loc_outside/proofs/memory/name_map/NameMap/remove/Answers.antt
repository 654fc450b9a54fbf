use Rattle.std.proofs.Common.{◌∙◌, ap, sym, subst, List}
use Rattle.std.specs.FinMap.{remove as without_entry}
use Rattle.path_order.specs.declared.kind.Kind.{Kind}
use Rattle.loc_outside.specs.declared.memory.keyed.Keyed.{Keyed}
use Rattle.loc_outside.specs.Keyed.{IsAt, IsGap, pairs_by}
use Rattle.loc_outside.proofs.FittingNames.{are_names_without}
use Rattle.loc_outside.proofs.KeyedLemmas.{gap_apart, without_apart, without_at}
use Rattle.loc_outside.proofs.KeyedMaps.{map_without}
use Rattle.loc_outside.proofs.memory.name_map.NameMap.remove.Goals as goal

pub invariant_of-self : goal.invariant_of-self
invariant_of-self c =
    let here = subst (λ (l : List (Keyed Kind)). IsAt l c.args.name.now c.in-Ok.place) c.deref.ensures.value c.in-Ok.ensures.found in
    are_names_without _ _ c.args.name.now c.self.invariant (ap (pairs_by (λ k. k)) c.remove.ensures.items ∙ without_at (λ k. k) c.self.inside.items.items c.in-Ok.place c.args.name.now c.self.invariant.rise here)

pub returns-in-Ok : goal.returns-in-Ok
returns-in-Ok c =
    let here = subst (λ (l : List (Keyed Kind)). IsAt l c.args.name.now c.in-Ok.place) c.deref.ensures.value c.in-Ok.ensures.found in
    map_without (λ k. k) c.self.inside.items.items c.remove.new.self.items c.args.name.now c.self.invariant.rise (ap (pairs_by (λ k. k)) c.remove.ensures.items ∙ without_at (λ k. k) c.self.inside.items.items c.in-Ok.place c.args.name.now c.self.invariant.rise here)
    ∙ ap (λ m. without_entry m c.args.name.now) c.self.view_is

pub returns-in_default : goal.returns-in_default
returns-in_default c =
    let gap = subst (λ (l : List (Keyed Kind)). IsGap l c.args.name.now c.in_default.field-0) c.deref.ensures.value c.in_default.ensures.absent in
    let items = c.self.inside.items.items in
    sym c.self.view_is ∙ map_without (λ k. k) items items c.args.name.now c.self.invariant.rise (without_apart (λ k. k) items c.args.name.now (gap_apart items c.args.name.now c.in_default.field-0 gap)) ∙ ap (λ m. without_entry m c.args.name.now) c.self.view_is
