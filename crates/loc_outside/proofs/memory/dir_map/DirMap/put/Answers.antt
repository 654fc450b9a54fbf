use Rattle.std.proofs.Common.{rules, ◌≡◌, refl}
use Rattle.loc_outside.specs.declared.memory.dir_map.TreeDir.{TreeDir}
use Rattle.loc_outside.specs.declared.memory.keyed.Keyed.{Keyed}
use Rattle.loc_outside.proofs.DirLemmas.{Seen, edited_rises, put_over, put_in_rises, put_new}
use Rattle.loc_outside.proofs.memory.dir_map.DirMap.put.Goals as goal

pub invariant_of-self : goal.invariant_of-self
invariant_of-self c =
    let seen : Seen c.self.inside.items.items c.deref.result.now c.args.self.now = record { view = c.self.view_is; rise = c.self.invariant; same = c.deref.ensures.value } in
    edited_rises _ _ _ seen c.args.path.now c.in-Ok.place c.in-Ok.ensures.found c.index_mut.result.now _ c.index_mut.ensures.value refl

pub returns-in-Ok-clause-ok : goal.returns-in-Ok-clause-ok
returns-in-Ok-clause-ok c =
    let seen : Seen c.self.inside.items.items c.deref.result.now c.args.self.now = record { view = c.self.view_is; rise = c.self.invariant; same = c.deref.ensures.value } in
    let old = c.index_mut.result.now.value in
    let new : Keyed TreeDir = record { key = c.index_mut.result.now.key; value = record { times = c.args.times; hidden = c.args.hidden; names = old.names } } in
    put_over _ _ _ seen c.args.path.now c.in-Ok.place c.in-Ok.ensures.found c.index_mut.result.now new c.index_mut.ensures.value refl refl

pub invariant_of-self-in-Err : goal.invariant_of-self-in-Err
invariant_of-self-in-Err c =
    let seen : Seen c.self.inside.items.items c.deref.result.now c.args.self.now = record { view = c.self.view_is; rise = c.self.invariant; same = c.deref.ensures.value } in
    let key : c.in_ok-key-in-Err.key.items ≡ c.args.path.now = search rules in
    let item : Keyed TreeDir = record { key = c.in_ok-key-in-Err.key; value = record { times = c.args.times; hidden = c.args.hidden; names = c.new-names.result } } in
    put_in_rises _ _ _ seen c.args.path.now c.in-Err.place c.in-Err.ensures.absent c.insert.new.self.items item c.in_ok-insert-in-Err.ensures.items key

pub returns-in_ok-insert-in-Err-clause-ok : goal.returns-in_ok-insert-in-Err-clause-ok
returns-in_ok-insert-in-Err-clause-ok c =
    let seen : Seen c.self.inside.items.items c.deref.result.now c.args.self.now = record { view = c.self.view_is; rise = c.self.invariant; same = c.deref.ensures.value } in
    let key : c.in_ok-key-in-Err.key.items ≡ c.args.path.now = search rules in
    let item : Keyed TreeDir = record { key = c.in_ok-key-in-Err.key; value = record { times = c.args.times; hidden = c.args.hidden; names = c.new-names.result } } in
    put_new _ _ _ seen c.args.path.now c.in-Err.place c.in-Err.ensures.absent c.insert.new.self.items item c.in_ok-insert-in-Err.ensures.items key c.new-names.ensures
