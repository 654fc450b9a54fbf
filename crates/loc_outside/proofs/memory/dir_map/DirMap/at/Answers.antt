use Rattle.std.proofs.Common.{◌≡◌, ◌<◌, ◌≤◌, ◌∙◌, ap, sym, List, ℕ, length, get_or, subst}
use Rattle.std.specs.Option.{option_map}
use Rattle.loc_outside.specs.declared.memory.dir_map.TreeDir.{TreeDir}
use Rattle.loc_outside.specs.declared.memory.keyed.Keyed.{Keyed}
use Rattle.loc_outside.specs.DirMap.{dir_of}
use Rattle.loc_outside.specs.Trees.{Dir}
use Rattle.loc_outside.proofs.DirLemmas.{entry_at, no_entry}
use Rattle.loc_outside.proofs.memory.dir_map.DirMap.at.Goals as goal

pub returns-in_err-item : goal.returns-in_err-item
returns-in_err-item c =
    let past : length c.self.inside.items.items ≤ c.args.place = subst (λ (l : List (Keyed TreeDir)). length l ≤ c.args.place) c.deref.ensures.value c.in_err-item.ensures.lookup.3 in
    ap (option_map (λ dir. dir_of dir.now)) c.from_residual.ensures
    ∙ sym (ap (option_map (λ (entry : List ℕ × Dir). entry.1)) (no_entry c.self.inside.items.items c.args.self.now c.self.view_is c.self.invariant c.args.place past))

pub returns : goal.returns
returns c =
    let item : Keyed TreeDir = c.in_ok-item.item.now in
    let here : c.args.place < length c.self.inside.items.items = subst (λ (l : List (Keyed TreeDir)). c.args.place < length l) c.deref.ensures.value c.in_ok-item.ensures.lookup.3.0 in
    let is : item ≡ get_or c.self.inside.items.items c.args.place item = c.in_ok-item.ensures.lookup.1 ∙ ap (λ (l : List (Keyed TreeDir)). get_or l c.args.place item) c.deref.ensures.value in
    sym (ap (option_map (λ (entry : List ℕ × Dir). entry.1)) (entry_at c.self.inside.items.items c.args.self.now c.self.view_is c.self.invariant c.args.place item here is))
