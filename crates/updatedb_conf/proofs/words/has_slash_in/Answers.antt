use Rattle.std.proofs.Common.{◌≡◌, ℕ, true, false, nat_eq, ap, ◌∙◌, sym, rules}
use Rattle.updatedb_conf.specs.Words.{words, is_space, is_blank}
use Rattle.updatedb_conf.proofs.Slashes.{any_in-words}
use Rattle.updatedb_conf.proofs.words.has_slash_in.Goals as goal
use borrow.Author.Tests.{tests}

no_slash_between : (x : ℕ) → is_space x ≡ true → nat_eq x 47 ≡ false
unfolding is_blank
no_slash_between x h = search (rules, tests)

pub returns : goal.returns
unfolding words
returns c = c.contains.ensures.value ∙ sym (any_in-words (λ y. nat_eq y 47) is_space no_slash_between c.args.text.now)
