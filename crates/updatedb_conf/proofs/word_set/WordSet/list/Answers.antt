use Rattle.std.proofs.Common.{◌≡◌, IfOk, map, subst, rules}
use Rattle.std.proofs.lemmas.Iterator.{YieldsList-from_slice, YieldsList-from_map_by}
use Rattle.std.proofs.lemmas.Iterator.Consumers.{map_from_collect}
use Rattle.updatedb_conf.specs.Stored.{piece}
use Rattle.updatedb_conf.proofs.Sets.{stored_members}
use Rattle.updatedb_conf.proofs.word_set.WordSet.list.Goals as goal

pub returns : goal.returns
returns c =
    let all = map_from_collect _ c.collect.ensures.ran (YieldsList-from_map_by _ (λ r. r.now) (piece c.as_slice-text.result.now) (YieldsList-from_slice c.self.inside.spans.items (cc)) c.map.ensures.closure (λ x r q k. search rules)) in
    subst (λ l. IfOk c.collect.result (λ list. map (λ word. word.now) list.items ≡ l)) (stored_members c.self.inside.text.items c.as_slice-text.result.now c.self.inside.spans.items c.args.self.now c.as_slice-text.ensures.value c.self.invariant c.self.view_is) all
