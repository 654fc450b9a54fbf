use Rattle.loc_outside.proofs.DirLemmas.{Seen, get_none, placed}
use Rattle.loc_outside.proofs.memory.dir_map.DirMap.place.Goals as goal

pub returns-in-Err-clause-absent : goal.returns-in-Err-clause-absent
returns-in-Err-clause-absent c =
    let seen : Seen c.self.inside.items.items c.deref.result.now c.args.self.now = record { view = c.self.view_is; rise = c.self.invariant; same = c.deref.ensures.value } in
    get_none _ _ _ seen c.args.path.now c.in-Err.field-0 c.in-Err.ensures.absent

pub returns-in-Ok-clause-found : goal.returns-in-Ok-clause-found
returns-in-Ok-clause-found c =
    let seen : Seen c.self.inside.items.items c.deref.result.now c.args.self.now = record { view = c.self.view_is; rise = c.self.invariant; same = c.deref.ensures.value } in
    placed _ _ _ seen c.args.path.now c.in-Ok.place c.in-Ok.ensures.found
