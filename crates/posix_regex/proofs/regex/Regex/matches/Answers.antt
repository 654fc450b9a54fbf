use Rattle.std.proofs.Common.{◌≡◌, IfSome, false, arith, refl, ap, sym, subst, ◌∙◌}
use Rattle.std.proofs.lemmas.Bool.{false≢true}
use Rattle.posix_regex.specs.First.{bytes_of}
use Rattle.posix_regex.specs.Literal.{Compiled}
use Rattle.posix_regex.specs.Moves.{ReachesEnd}
use Rattle.posix_regex.specs.Program.{items_of}
use Rattle.posix_regex.specs.Table.{IsTable}
use Rattle.posix_regex.proofs.Finds.{is_finds}
use Rattle.posix_regex.proofs.Found.{end_found, found_end}
use Rattle.posix_regex.proofs.Starts.{none_begins}
use Rattle.posix_regex.proofs.regex.Regex.matches.Goals as goal

pub returns-then-lacks-clause-value : goal.returns-then-lacks-clause-value
returns-then-lacks-clause-value g c = λ e is.
    let same : c.self.inside.states ≡ items_of e = ap (λ (m : Compiled). m.items) c.self.view_is ∙ is in (
      λ t. absurd (false≢true t),
      λ f. absurd (c.if-lacks.ensures.0 refl
          (c.self.invariant.2 c.args.text.now (subst (λ items. ReachesEnd items c.args.text.now) (sym same) (found_end e c.args.text.now f)))),
    )

pub returns-then-lacks-clause-decided : goal.returns-then-lacks-clause-decided
returns-then-lacks-clause-decided g c = λ e is. is_finds e c.args.text.now false (returns-then-lacks-clause-value g c e is)

pub returns-then-lacks_all-clause-value : goal.returns-then-lacks_all-clause-value
returns-then-lacks_all-clause-value g c = λ e is.
    let text = c.args.text.now in
    let same : c.self.inside.states ≡ items_of e = ap (λ (m : Compiled). m.items) c.self.view_is ∙ is in (
      λ t. absurd (false≢true t),
      λ f. absurd (none_begins c.self.inside.states text (bytes_of c.self.inside.first) c.self.invariant.3 (λ i within. omega (arith, c.type_inv.text i)) (c.if-lacks_all.ensures.0 refl)
          (subst (λ items. ReachesEnd items text) (sym same) (found_end e text f))),
    )

pub returns-then-lacks_all-clause-decided : goal.returns-then-lacks_all-clause-decided
returns-then-lacks_all-clause-decided g c = λ e is. is_finds e c.args.text.now false (returns-then-lacks_all-clause-value g c e is)

pub returns-clause-value : goal.returns-clause-value
returns-clause-value g c = λ e is.
    let same : c.self.inside.states ≡ items_of e = ap (λ (m : Compiled). m.items) c.self.view_is ∙ is in
    let v = c.search.ensures.value in (
      λ t. end_found e c.args.text.now (subst (λ items. ReachesEnd items c.args.text.now) same (v.0 t)),
      λ f. v.1 (subst (λ items. ReachesEnd items c.args.text.now) (sym same) (found_end e c.args.text.now f)),
    )

pub returns-clause-decided : goal.returns-clause-decided
returns-clause-decided g c = λ e is. is_finds e c.args.text.now c.search.result (returns-clause-value g c e is)

pub search_by-requires : goal.search_by-requires
search_by-requires g c = rw c.deref.ensures.value (subst (λ o. IfSome o (λ rows. IsTable c.self.inside.states rows.items)) c.in-Some.is c.self.invariant.4)

pub returns-in-Some-clause-value : goal.returns-in-Some-clause-value
returns-in-Some-clause-value g c = λ e is.
    let same : c.self.inside.states ≡ items_of e = ap (λ (m : Compiled). m.items) c.self.view_is ∙ is in
    let v = c.search_by.ensures.value in (
      λ t. end_found e c.args.text.now (subst (λ items. ReachesEnd items c.args.text.now) same (v.0 t)),
      λ f. v.1 (subst (λ items. ReachesEnd items c.args.text.now) (sym same) (found_end e c.args.text.now f)),
    )

pub returns-in-Some-clause-decided : goal.returns-in-Some-clause-decided
returns-in-Some-clause-decided g c = λ e is. is_finds e c.args.text.now c.search_by.result (returns-in-Some-clause-value g c e is)
