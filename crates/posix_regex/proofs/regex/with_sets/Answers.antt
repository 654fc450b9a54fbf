use Rattle.std.proofs.Common.{◌≡◌, ◌∙◌, sym, subst}
use Rattle.posix_regex.specs.Literal.{IsLiteral, literal_of}
use Rattle.posix_regex.proofs.Literals.{stretch_occurs}
use Rattle.posix_regex.proofs.regex.with_sets.Goals as goal

pub invariant_of-result : goal.invariant_of-result
invariant_of-result c =
    let same : literal_of c.in_ok-finder.finder ≡ c.in_ok-bytes.bytes.items = c.in_ok-finder.ensures ∙ c.deref.ensures.value in
    let told : IsLiteral c.args.states (literal_of c.in_ok-finder.finder) = subst (IsLiteral c.args.states) (sym same) c.in_ok-bytes.ensures in (
      c.in_ok-table.ensures.now_width,
      c.in_ok-table.ensures.next_width,
      λ text. stretch_occurs text c.args.states told.place (literal_of c.in_ok-finder.finder) told.stretch,
      c.first_bytes-first.ensures.first,
      c.in_ok-table.ensures.value,
    )

pub returns-clause-literal : goal.returns-clause-literal
returns-clause-literal c =
    let same : literal_of c.in_ok-finder.finder ≡ c.in_ok-bytes.bytes.items = c.in_ok-finder.ensures ∙ c.deref.ensures.value in
    subst (IsLiteral c.args.states) (sym same) c.in_ok-bytes.ensures
