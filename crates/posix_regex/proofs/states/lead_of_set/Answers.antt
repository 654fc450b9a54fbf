use Rattle.std.proofs.Common.{◌≡◌, ◌∙◌, ◌<◌, slice_index, true, false, sym, arith, rules}
use Rattle.std.proofs.lemmas.Bool.{false≢true}
use Rattle.byte_class.specs.ByteSet.{has}
use Rattle.byte_class.proofs.Members.{members_pass, members_with}
use Rattle.posix_regex.proofs.states.lead_of_set.Goals as goal

pub returns-then-not-contains : goal.returns-then-not-contains
returns-then-not-contains c = λ u j.
    let byte = slice_index c.args.text.now c.args.at in
    let no : has c.args.set byte ≡ false = search rules in
    (λ lead. absurd (false≢true (sym no ∙ members_pass (has c.args.set) byte lead.3)), λ none. absurd none)

pub returns : goal.returns
returns c = λ u j.
    let byte = slice_index c.args.text.now c.args.at in
    let yes : has c.args.set byte ≡ true = search rules in
    let fits : byte < 256 = first_of (search rules, omega (arith, c.type_inv.text c.args.at)) in
    (λ lead. (lead.0, lead.1), λ to. (to.0, to.1, omega arith, members_with (has c.args.set) byte fits yes))
