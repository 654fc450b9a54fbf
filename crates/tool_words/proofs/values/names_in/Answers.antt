use Rattle.std.proofs.Common.{lit<, rules}
use Rattle.std.proofs.lemmas.Iterator.{YieldsList-from_map_by}
use Rattle.std.proofs.lemmas.Iterator.Consumers.{map_from_collect}
use Rattle.std.proofs.lemmas.Iterator.Splits.{YieldsList-from_str_split}
use Rattle.tool_words.specs.Values.{names_in, or_default}
use Rattle.tool_words.proofs.values.names_in.Goals as goal

pub returns : goal.returns
unfolding names_in
returns c = map_from_collect _ c.collect.ensures.ran
    (YieldsList-from_map_by _ (λ x. x.now) or_default
    (YieldsList-from_str_split 58 c.args.list.now (lit< tt) (cc) (cc) (cc))
    c.map.ensures.closure (λ x r q k. search rules))
