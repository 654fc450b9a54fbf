use Rattle.std.proofs.Common.{◌≡◌, ◌++◌, IfOk, ap, sym, subst, ◌∙◌, length, vec_len, arith}
use borrow.Author.Tests.{eqb-true}
use Rattle.updatedb_conf.specs.Words.{words}
use Rattle.updatedb_conf.proofs.Sets.{joined-nil, joined_texts, no_texts}
use Rattle.updatedb_conf.proofs.word_set.WordSet.with_text.Goals as goal

pub returns-then-is_empty : goal.returns-then-is_empty
returns-then-is_empty c =
    let no_len : vec_len c.in_ok-more.more ≡ 0 = eqb-true _ _ (sym c.is_empty.ensures ∙ c.if-is_empty.true) in
    let none : length c.in_ok-more.more.items ≡ 0 = omega (arith, c.in_ok-more.more.ok.0) in
    joined-nil c.args.self (words c.args.text.now) (no_texts c.in_ok-more.more.items (words c.args.text.now) c.in_ok-more.ensures none)

pub returns : goal.returns
returns c =
    subst (λ s. IfOk c.set_of_list.result (λ set. set ≡ s))
    (joined_texts c.args.self c.in_ok-list.list.items c.in_ok-more.more.items c.extend_from_slice.new.self.items (words c.args.text.now) c.in_ok-list.ensures c.in_ok-more.ensures (c.in_ok-extend_from_slice.ensures.items ∙ ap (λ l. c.in_ok-list.list.items ++ l) c.deref.ensures.value))
    c.set_of_list.ensures
