use Rattle.std.proofs.Common.{ℕ, List, Option, sym, ◌∙◌, subst}
use Rattle.mount_table.specs.Index.{Indexes, place_in}
use Rattle.mount_table.specs.Row.{MountRow}
use Rattle.mount_table.proofs.table.Mounts.place_at.Goals as goal

pub returns : goal.returns
returns c =
    let path = c.args.path.now in
    subst (λ (o : Option ℕ). Indexes c.args.self.now path o) (sym (c.copied.ensures ∙ c.get.ensures.value))
    (subst (λ (rows : List MountRow). Indexes rows path (place_in c.self.inside.index path)) c.self.view_is (c.self.invariant.0.at_each path))
