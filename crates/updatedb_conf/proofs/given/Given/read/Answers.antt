use Rattle.std.proofs.Common.{◌≡◌, ◌+◌, ◌++◌, ◌∷◌, [], length, drop, Ok, Err, ap, sym, ◌∙◌, arith, rules}
use Rattle.std.proofs.lemmas.List.{length_push}
use Rattle.std.proofs.lemmas.Iterator.Consumers.{YieldsList-turn, YieldsList-end}
use Rattle.std.proofs.lemmas.Iterator.Splits.{YieldsList-from_slice_split}
use Rattle.updatedb_conf.specs.Settings.{lines, given_by, given_in, at_line}
use Rattle.updatedb_conf.specs.Line.{◌>>=◌}
use Rattle.updatedb_conf.specs.Words.{is_newline}
use Rattle.updatedb_conf.proofs.Refusals.{refused_for_a_line}
use Rattle.updatedb_conf.proofs.TextParts.{given_by_next, given_by_end}
use Rattle.updatedb_conf.proofs.given.Given.read.Goals as goal
use borrow.Author.Tests.{tests}

pub lines-preserved : goal.lines-preserved
lines-preserved c =
    let here = YieldsList-turn (YieldsList-from_slice_split _ is_newline c.args.text.now (cc) (cc) (cc) (λ x r q k. search (rules, tests))) c.lines.yielded _ c.lines.yielded_by _ _ c.in-Some.line c.in-Some.is c.next.ensures.steps in
    record {
      counted = omega (arith, length_push c.lines.yielded c.in-Some.line);
      rest =
          ap (λ r. at_line (c.lines.number + 1) r >>= λ more. given_by (c.lines.number + 1 + 1) more (drop (length (c.lines.yielded ++ c.in-Some.line ∷ [])) (lines c.args.text.now))) (sym c.in-Ok.is ∙ c.with_line.ensures)
          ∙ given_by_next (lines c.args.text.now) c.lines.yielded c.in-Some.line c.in-Some.line.now (c.lines.number + 1) c.lines.given (given_in c.args.text.now) here c.lines.invariant.rest;
    }

pub returns-in-Err-clause-values : goal.returns-in-Err-clause-values
returns-in-Err-clause-values c =
    let here = YieldsList-turn (YieldsList-from_slice_split _ is_newline c.args.text.now (cc) (cc) (cc) (λ x r q k. search (rules, tests))) c.lines.yielded _ c.lines.yielded_by _ _ c.in-Some.line c.in-Some.is c.next.ensures.steps in
    ap (λ r. at_line (c.lines.number + 1) r >>= λ more. given_by (c.lines.number + 1 + 1) more (drop (length (c.lines.yielded ++ c.in-Some.line ∷ [])) (lines c.args.text.now))) (sym c.in-Err.is ∙ c.with_line.ensures)
    ∙ given_by_next (lines c.args.text.now) c.lines.yielded c.in-Some.line c.in-Some.line.now (c.lines.number + 1) c.lines.given (given_in c.args.text.now) here c.lines.invariant.rest

pub returns-clause-values : goal.returns-clause-values
returns-clause-values c =
    let all = YieldsList-end (YieldsList-from_slice_split _ is_newline c.args.text.now (cc) (cc) (cc) (λ x r q k. search (rules, tests))) c.lines.yielded _ c.lines.yielded_by _ _ c.in-None.is c.next.ensures.steps in
    given_by_end (lines c.args.text.now) (length c.lines.yielded) (c.lines.number + 1) c.lines.given (given_in c.args.text.now) all.1 c.lines.invariant.rest

pub returns-in-Err-clause-cause : goal.returns-in-Err-clause-cause
returns-in-Err-clause-cause c =
    refused_for_a_line c.args.text.now (Err (record { line = c.lines.number + 1; cause = c.in-Err.cause })) (returns-in-Err-clause-values c)
