use Rattle.std.proofs.Common.{refl}
use Rattle.loc_outside.specs.declared.memory.dir_map.TreeDir.{TreeDir}
use Rattle.loc_outside.specs.declared.memory.keyed.Keyed.{Keyed}
use Rattle.loc_outside.specs.Edits.{with_times}
use Rattle.loc_outside.proofs.DirLemmas.{Seen, edited_rises, changed_here, changed_nowhere, is_there, not_there}
use Rattle.loc_outside.proofs.memory.dir_map.DirMap.set_times.Goals as goal

pub returns-in_default-clause-there : goal.returns-in_default-clause-there
returns-in_default-clause-there c =
    let seen : Seen c.self.inside.items.items c.deref.result.now c.args.self.now = record { view = c.self.view_is; rise = c.self.invariant; same = c.deref.ensures.value } in
    not_there _ _ _ seen c.args.path.now c.in_default.field-0 c.in_default.ensures.absent

pub returns-in_default-clause-after : goal.returns-in_default-clause-after
returns-in_default-clause-after c =
    let seen : Seen c.self.inside.items.items c.deref.result.now c.args.self.now = record { view = c.self.view_is; rise = c.self.invariant; same = c.deref.ensures.value } in
    changed_nowhere _ _ _ seen c.args.path.now c.in_default.field-0 c.in_default.ensures.absent (with_times c.args.times)

pub invariant_of-self : goal.invariant_of-self
invariant_of-self c =
    let seen : Seen c.self.inside.items.items c.deref.result.now c.args.self.now = record { view = c.self.view_is; rise = c.self.invariant; same = c.deref.ensures.value } in
    edited_rises _ _ _ seen c.args.path.now c.in-Ok.place c.in-Ok.ensures.found c.index_mut.result.now _ c.index_mut.ensures.value refl

pub returns-clause-there : goal.returns-clause-there
returns-clause-there c =
    let seen : Seen c.self.inside.items.items c.deref.result.now c.args.self.now = record { view = c.self.view_is; rise = c.self.invariant; same = c.deref.ensures.value } in
    is_there _ _ _ seen c.args.path.now c.in-Ok.place c.in-Ok.ensures.found c.index_mut.result.now c.index_mut.ensures.value

pub returns-clause-after : goal.returns-clause-after
returns-clause-after c =
    let seen : Seen c.self.inside.items.items c.deref.result.now c.args.self.now = record { view = c.self.view_is; rise = c.self.invariant; same = c.deref.ensures.value } in
    let old = c.index_mut.result.now.value in
    let new : Keyed TreeDir = record { key = c.index_mut.result.now.key; value = record { times = c.args.times; hidden = old.hidden; names = old.names } } in
    changed_here _ _ _ seen c.args.path.now c.in-Ok.place c.in-Ok.ensures.found c.index_mut.result.now new c.index_mut.ensures.value refl (with_times c.args.times)
    refl
