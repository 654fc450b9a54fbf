use Rattle.std.proofs.Common.{◌≡◌, ◌∙◌, ◌<◌, length, slice_index, sym, arith, rules}
use Rattle.byte_class.specs.ByteSet.{has}
use Rattle.byte_class.proofs.Members.{members_pass, members_with}
use Rattle.posix_regex.proofs.first.may_begin.Goals as goal

pub returns-then-at-text : goal.returns-then-at-text
returns-then-at-text c =
    let set = has c.in-Some.set in
    let byte = slice_index c.args.text.now c.args.at in
    let within : c.args.at < length c.args.text.now = omega arith in
    let is : c.contains.result ≡ set byte = search rules in
    let fits : byte < 256 = first_of (search rules, omega (arith, c.type_inv.text c.args.at)) in
    rw c.in-Some.is (λ t. (within, members_with set byte fits (sym is ∙ t)), λ h. is ∙ members_pass set byte h.1)
