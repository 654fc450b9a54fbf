use Rattle.std.proofs.Common.{List, get_or, take, sym, ◌∙◌, ap}
use Rattle.std.specs.List.{list_any}
use Rattle.mount_table.specs.Lookup.{shows_elsewhere}
use Rattle.mount_table.specs.Row.{MountRow}
use Rattle.mount_table.proofs.CoverLemmas.{row_at, is_bind-none, is_bind-at}
use Rattle.mount_table.proofs.table.Mounts.is_bind.Goals as goal

pub returns-in_default : goal.returns-in_default
returns-in_default c = sym (is_bind-none c.args.self.now c.args.path.now (c.in_default.ensures c.requires))

pub returns : goal.returns
returns c =
    let rows = c.args.self.now in
    let path = c.args.path.now in
    let place = c.in-Some.place in
    let last = c.in-Some.ensures.0 in
    let row_is = c.index.ensures ∙ ap (λ (l : List MountRow). get_or l place c.index.result.now) c.self.view_is ∙ row_at rows path place last c.index.result.now in
    let before_is = c.deref.ensures.value ∙ c.self.view_is in
    c.is_shown_elsewhere.ensures ∙ (λ i. list_any (shows_elsewhere path (row_is i)) (take place (before_is i))) ∙ sym (is_bind-at rows path place c.requires last)
