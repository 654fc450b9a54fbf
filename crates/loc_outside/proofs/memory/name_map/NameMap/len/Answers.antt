use Rattle.std.proofs.Common.{◌≡◌, ◌∙◌, ap, sym, length, arith}
use Rattle.std.specs.FinMap.{entries}
use Rattle.loc_outside.proofs.KeyedMaps.{entries_are, length_of}
use Rattle.loc_outside.proofs.memory.name_map.NameMap.len.Goals as goal

pub returns : goal.returns
returns c =
    let are : length (entries c.args.self.now) ≡ length c.self.inside.items.items = ap (λ m. length (entries m)) (sym c.self.view_is) ∙ ap length (entries_are (λ kind. kind) c.self.inside.items.items c.self.invariant.rise) ∙ length_of (λ kind. kind) c.self.inside.items.items in
    omega (arith, are)
