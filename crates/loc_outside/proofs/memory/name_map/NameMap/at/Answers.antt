use Rattle.std.proofs.Common.{◌≡◌, ◌<◌, ◌∙◌, ap, sym, subst, length, arith, IsTrue, List, ℕ, slice_get, Some}
use Rattle.std.specs.FinMap.{entries}
use Rattle.loc_outside.specs.Edits.{fits}
use Rattle.loc_outside.proofs.FittingNames.{fits_at}
use Rattle.loc_outside.proofs.KeyedMaps.{entries_are, length_of, get_pair}
use Rattle.loc_outside.proofs.memory.name_map.NameMap.at.Goals as goal

pub index-item-requires : goal.index-item-requires
index-item-requires c =
    let are : length (entries c.args.self.now) ≡ length c.self.inside.items.items = ap (λ m. length (entries m)) (sym c.self.view_is) ∙ ap length (entries_are (λ kind. kind) c.self.inside.items.items c.self.invariant.rise) ∙ length_of (λ kind. kind) c.self.inside.items.items in
    omega (arith, are)

pub returns-clause-entry : goal.returns-clause-entry
returns-clause-entry c =
    let are : length (entries c.args.self.now) ≡ length c.self.inside.items.items = ap (λ m. length (entries m)) (sym c.self.view_is) ∙ ap length (entries_are (λ kind. kind) c.self.inside.items.items c.self.invariant.rise) ∙ length_of (λ kind. kind) c.self.inside.items.items in
    let lt : c.args.place < length c.self.inside.items.items = omega (arith, are) in
    ap (λ m. slice_get (entries m) c.args.place) (sym c.self.view_is)
    ∙ ap (λ l. slice_get l c.args.place) (entries_are (λ kind. kind) c.self.inside.items.items c.self.invariant.rise)
    ∙ get_pair (λ kind. kind) c.self.inside.items.items c.args.place c.index-item.result.now lt c.index-item.ensures
    ∙ ap (λ (n : List ℕ). Some (n, c.index-item.result.now.value)) (sym c.deref.ensures.value)

pub returns-clause-fits : goal.returns-clause-fits
returns-clause-fits c =
    let are : length (entries c.args.self.now) ≡ length c.self.inside.items.items = ap (λ m. length (entries m)) (sym c.self.view_is) ∙ ap length (entries_are (λ kind. kind) c.self.inside.items.items c.self.invariant.rise) ∙ length_of (λ kind. kind) c.self.inside.items.items in
    let lt : c.args.place < length c.self.inside.items.items = omega (arith, are) in
    subst (λ (n : List ℕ). IsTrue (fits n)) (sym c.deref.ensures.value) (fits_at c.self.inside.items.items c.args.place c.index-item.result.now lt c.index-item.ensures c.self.invariant.fit)
