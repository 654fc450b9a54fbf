use Rattle.std.proofs.Common.{◌∙◌, nat_eq, rules, sym, tests}
use Rattle.std.proofs.lemmas.Iterator.Adapters.{YieldsList-from_bytes}
use Rattle.std.proofs.lemmas.Iterator.Search.{any_from_yields_List}
use Rattle.updatedb_conf.specs.Words.{is_space, words}
use Rattle.updatedb_conf.proofs.Slashes.{any_in-words}
use Rattle.tool_words.proofs.WordLemmas.{no_slash_between}
use Rattle.tool_words.proofs.values.has_slash.Goals as goal

pub returns : goal.returns
unfolding words
returns c = any_from_yields_List (λ y. nat_eq y 47) _ _ _ c.any.ensures.ran (YieldsList-from_bytes c.args.list.now cc) (λ x b q k. search (rules, tests))
    ∙ sym (any_in-words (λ y. nat_eq y 47) is_space no_slash_between c.args.list.now)
