use Rattle.std.proofs.Common.{◌∙◌, List, Bool, sym, ap, subst}
use Rattle.mount_table.specs.Index.{Tops, is_top}
use Rattle.mount_table.specs.Row.{MountRow}
use Rattle.mount_table.proofs.CoverLemmas.{none_longer-path, none_longer-top}
use Rattle.mount_table.proofs.table.Mounts.longest_front.Goals as goal

pub returns-then-path-lt2-clause-none_longer : goal.returns-then-path-lt2-clause-none_longer
returns-then-path-lt2-clause-none_longer c = none_longer-path c.args.path.now c.args.self.now

pub returns-clause-none_longer : goal.returns-clause-none_longer
returns-clause-none_longer c =
    none_longer-top c.self.inside.tops.items c.args.path.now c.args.self.now
    (subst (λ (rows : List MountRow). Tops rows c.self.inside.tops.items) c.self.view_is c.self.invariant.2)
    (ap (λ (tops : List Bool). is_top tops c.args.path.now) (sym c.deref.ensures.value) ∙ sym c.is_top.ensures ∙ c.if-is_top.false)
