use Rattle.std.proofs.Common.{◌≡◌, ℕ, length, take, ◌∙◌, ap, rules}
use Rattle.std.specs.List.{filter, slice_split}
use Rattle.std.proofs.Math.Seq.{take-length}
use Rattle.std.proofs.lemmas.Iterator.Consumers.{YieldsList-turn, YieldsList-end}
use Rattle.std.proofs.lemmas.Iterator.Splits.{YieldsList-from_slice_split}
use Rattle.updatedb_conf.specs.Words.{words, is_space, is_nonempty}
use Rattle.updatedb_conf.proofs.TextParts.{filter_next}
use Rattle.updatedb_conf.proofs.words.words_in.Goals as goal
use borrow.Author.Tests.{tests}

pub loop-part-preserved : goal.loop-part-preserved
loop-part-preserved c =
    let here = YieldsList-turn (YieldsList-from_slice_split _ is_space c.args.text.now (cc) (cc) (cc) (λ x r q k. search (rules, tests))) c.loop-part.yielded _ c.loop-part.yielded_by _ _ c.in-Some.part c.in-Some.is c.next.ensures.steps in
    c.in_ok-push_part.ensures ∙ filter_next (slice_split is_space c.args.text.now) c.loop-part.yielded c.in-Some.part c.in-Some.part.now _ here c.loop-part.invariant

pub returns : goal.returns
unfolding words
returns c =
    let all = YieldsList-end (YieldsList-from_slice_split _ is_space c.args.text.now (cc) (cc) (cc) (λ x r q k. search (rules, tests))) c.loop-part.yielded _ c.loop-part.yielded_by _ _ c.in-None.is c.next.ensures.steps in
    c.loop-part.invariant ∙ ap (λ n. filter is_nonempty (take n (slice_split is_space c.args.text.now))) all.1 ∙ ap (filter is_nonempty) (take-length (slice_split is_space c.args.text.now))
