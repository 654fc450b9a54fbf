use Rattle.std.proofs.Common.{rules, ◌≡◌, ◌∙◌, ap, subst, List}
use Rattle.std.proofs.Math.ListN.{set}
use Rattle.std.specs.FinMap.{insert as with_entry}
use Rattle.path_order.specs.declared.kind.Kind.{Kind}
use Rattle.loc_outside.specs.declared.memory.keyed.Keyed.{Keyed}
use Rattle.loc_outside.specs.Keyed.{IsAt, IsGap, pairs_by}
use Rattle.loc_outside.proofs.FittingNames.{are_names_put}
use Rattle.loc_outside.proofs.KeyedLemmas.{put_at, put_gap}
use Rattle.loc_outside.proofs.KeyedMaps.{map_put}
use Rattle.loc_outside.proofs.memory.name_map.NameMap.put.Goals as goal

pub invariant_of-self : goal.invariant_of-self
invariant_of-self c =
    let here = subst (λ (l : List (Keyed Kind)). IsAt l c.args.name.now c.in-Ok.place) c.deref.ensures.value c.in-Ok.ensures.found in
    let item : Keyed Kind = record { key = c.index_mut.result.now.key; value = c.args.kind } in
    let named = ap (λ (k : Keyed Kind). k.key.items) c.index_mut.ensures.value ∙ here.1 c.index_mut.result.now in
    are_names_put _ _ c.args.name.now c.args.kind c.self.invariant c.requires (put_at (λ k. k) c.self.inside.items.items c.in-Ok.place item c.args.name.now c.self.invariant.rise here named)

pub returns-in-Ok-clause-ok : goal.returns-in-Ok-clause-ok
returns-in-Ok-clause-ok c =
    let here = subst (λ (l : List (Keyed Kind)). IsAt l c.args.name.now c.in-Ok.place) c.deref.ensures.value c.in-Ok.ensures.found in
    let item : Keyed Kind = record { key = c.index_mut.result.now.key; value = c.args.kind } in
    let named = ap (λ (k : Keyed Kind). k.key.items) c.index_mut.ensures.value ∙ here.1 c.index_mut.result.now in
    map_put (λ k. k) c.self.inside.items.items (set c.self.inside.items.items c.in-Ok.place item) c.args.name.now c.args.kind c.self.invariant.rise (put_at (λ k. k) c.self.inside.items.items c.in-Ok.place item c.args.name.now c.self.invariant.rise here named)
    ∙ ap (λ m. with_entry m c.args.name.now c.args.kind) c.self.view_is

pub invariant_of-self-in-Err : goal.invariant_of-self-in-Err
invariant_of-self-in-Err c =
    let gap = subst (λ (l : List (Keyed Kind)). IsGap l c.args.name.now c.in-Err.place) c.deref.ensures.value c.in-Err.ensures.absent in
    let named : c.in_ok-key-in-Err.key.items ≡ c.args.name.now = search rules in
    let item : Keyed Kind = record { key = c.in_ok-key-in-Err.key; value = c.args.kind } in
    are_names_put _ _ c.args.name.now c.args.kind c.self.invariant c.requires
    (ap (pairs_by (λ k. k)) c.in_ok-insert-in-Err.ensures.items ∙ put_gap (λ k. k) c.self.inside.items.items c.in-Err.place item c.args.name.now gap named)

pub returns-in_ok-insert-in-Err-clause-ok : goal.returns-in_ok-insert-in-Err-clause-ok
returns-in_ok-insert-in-Err-clause-ok c =
    let gap = subst (λ (l : List (Keyed Kind)). IsGap l c.args.name.now c.in-Err.place) c.deref.ensures.value c.in-Err.ensures.absent in
    let named : c.in_ok-key-in-Err.key.items ≡ c.args.name.now = search rules in
    let item : Keyed Kind = record { key = c.in_ok-key-in-Err.key; value = c.args.kind } in
    map_put (λ k. k) c.self.inside.items.items c.insert.new.self.items c.args.name.now c.args.kind c.self.invariant.rise
    (ap (pairs_by (λ k. k)) c.in_ok-insert-in-Err.ensures.items ∙ put_gap (λ k. k) c.self.inside.items.items c.in-Err.place item c.args.name.now gap named)
    ∙ ap (λ m. with_entry m c.args.name.now c.args.kind) c.self.view_is
