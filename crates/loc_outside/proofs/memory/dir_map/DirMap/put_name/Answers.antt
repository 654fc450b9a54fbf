use Rattle.std.proofs.Common.{refl}
use Rattle.loc_outside.specs.declared.memory.dir_map.TreeDir.{TreeDir}
use Rattle.loc_outside.specs.declared.memory.keyed.Keyed.{Keyed}
use Rattle.loc_outside.specs.Edits.{with_name}
use Rattle.loc_outside.proofs.DirLemmas.{Seen, edited_rises, changed_here, changed_nowhere, is_there, not_there}
use Rattle.loc_outside.proofs.memory.dir_map.DirMap.put_name.Goals as goal

pub returns-in_default-clause-there : goal.returns-in_default-clause-there
returns-in_default-clause-there c =
    let seen : Seen c.self.inside.items.items c.deref.result.now c.args.self.now = record { view = c.self.view_is; rise = c.self.invariant; same = c.deref.ensures.value } in
    not_there _ _ _ seen c.args.path.now c.in_default.field-0 c.in_default.ensures.absent

pub returns-in_default-clause-ok : goal.returns-in_default-clause-ok
returns-in_default-clause-ok c =
    let seen : Seen c.self.inside.items.items c.deref.result.now c.args.self.now = record { view = c.self.view_is; rise = c.self.invariant; same = c.deref.ensures.value } in
    changed_nowhere _ _ _ seen c.args.path.now c.in_default.field-0 c.in_default.ensures.absent (with_name c.args.name.now c.args.kind)

pub invariant_of-self-2 : goal.invariant_of-self-2
invariant_of-self-2 c =
    let seen : Seen c.self.inside.items.items c.deref.result.now c.args.self.now = record { view = c.self.view_is; rise = c.self.invariant; same = c.deref.ensures.value } in
    edited_rises _ _ _ seen c.args.path.now c.in-Ok.place c.in-Ok.ensures.found c.index_mut.result.now _ c.index_mut.ensures.value refl

pub returns-clause-there : goal.returns-clause-there
returns-clause-there c =
    let seen : Seen c.self.inside.items.items c.deref.result.now c.args.self.now = record { view = c.self.view_is; rise = c.self.invariant; same = c.deref.ensures.value } in
    is_there _ _ _ seen c.args.path.now c.in-Ok.place c.in-Ok.ensures.found c.index_mut.result.now c.index_mut.ensures.value

pub returns-clause-ok : goal.returns-clause-ok
returns-clause-ok c =
    let seen : Seen c.self.inside.items.items c.deref.result.now c.args.self.now = record { view = c.self.view_is; rise = c.self.invariant; same = c.deref.ensures.value } in
    let old = c.index_mut.result.now.value in
    let new : Keyed TreeDir = record { key = c.index_mut.result.now.key; value = record { times = old.times; hidden = old.hidden; names = c.put.new.self } } in
    changed_here _ _ _ seen c.args.path.now c.in-Ok.place c.in-Ok.ensures.found c.index_mut.result.now new c.index_mut.ensures.value refl (with_name c.args.name.now c.args.kind)
    (λ i. record { times = old.times; hidden = old.hidden; names = c.in_ok-put.ensures.ok i })
