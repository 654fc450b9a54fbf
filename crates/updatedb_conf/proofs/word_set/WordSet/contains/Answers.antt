use Rattle.std.proofs.Common.{◌∙◌, rules}
use Rattle.std.proofs.lemmas.Fn.{always_returns_same}
use Rattle.updatedb_conf.specs.Stored.{piece}
use Rattle.updatedb_conf.proofs.Sets.{byte_cmp}
use Rattle.updatedb_conf.proofs.Searches.{answered}
use Rattle.updatedb_conf.proofs.word_set.WordSet.contains.Goals as goal

pub returns : goal.returns
returns c =
    c.is_ok.ensures.value
    ∙ answered c.self.inside.text.items c.as_slice-text.result.now c.args.word.now c.self.inside.spans.items c.deref.result.now c.binary_search_by.result c.args.self.now c.as_slice-text.ensures.value c.deref.ensures.value c.self.invariant c.self.view_is c.binary_search_by.ensures.bound (c.binary_search_by.ensures.position (λ span. byte_cmp (piece c.as_slice-text.result.now span) c.args.word.now) (always_returns_same _ _ _ (λ a r f called. search rules)))
