use Rattle.std.proofs.Common.{◌≡◌, IfOk, subst, ◌∙◌}
use Rattle.std.proofs.lemmas.List.Filters.{dedup_is}
use Rattle.updatedb_conf.proofs.Sets.{rising_sorted, set_of_sorted}
use Rattle.updatedb_conf.proofs.word_set.set_of_list.Goals as goal

pub set_of_rising-requires : goal.set_of_rising-requires
set_of_rising-requires c =
    rising_sorted c.sort_unstable.new.self.items c.deref.result.now c.sort_unstable.ensures.sorted (c.deref.ensures.value ∙ dedup_is _ _ _ c.dedup.ensures.filtered)

pub returns : goal.returns
returns c =
    subst (λ s. IfOk c.set_of_rising.result (λ set. set ≡ s)) (set_of_sorted c.args.list.items c.sort_unstable.new.self.items c.deref.result.now c.sort_unstable.ensures.permutation (c.deref.ensures.value ∙ dedup_is _ _ _ c.dedup.ensures.filtered)) c.set_of_rising.ensures
