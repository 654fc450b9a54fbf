use Rattle.std.proofs.Common.{◌≡◌, ℕ, ◌+◌, ◌-◌, ◌<◌, length, get_or, min, refl, ap, ◌∙◌, arith, ⊎_elim}
use Rattle.std.proofs.lemmas.Bool.{cases_lt}
use Rattle.glob_match.specs.Needle.{plain_wanted}
use Rattle.glob_match.proofs.Spots.{none_shared, known-none}
use Rattle.glob_match.proofs.needle.Needle.judge.Goals as goal

pub returns-in_default-near-clause-known : goal.returns-in_default-near-clause-known
returns-in_default-near-clause-known c before known alike =
    let n = c.self.inside in
    let fits : (k : ℕ) → get_or c.args.text.now k 0 < 256 = λ k. omega (arith, c.type_inv.text k) in
    let some : 0 < length c.args.self.now.1 = c.in_default-near.ensures.some refl in
    let len : c.len.result ≡ length c.args.self.now.1 = c.len.ensures ∙ n.bytes.ok.0 ∙ ap (λ v. length v.1) c.self.view_is in
    let first : c.saturating_sub-first.result ≡ min c.in-Some.quiet (length c.args.text.now) + 1 - length c.args.self.now.1 = omega (arith, c.saturating_sub-first.ensures, c.min.ensures, len) in
    known-none c.args.self.now.0 c.args.self.now.1 c.args.text.now some fits c.saturating_sub-first.result
    (λ place l h. none_shared c.args.self.now.0 c.args.self.now.1 c.args.text.now some fits c.args.shared c.in-Some.quiet place before c.in-Some.ensures.within alike
    (c.in-Some.ensures.quiet (plain_wanted c.args.self.now.0 c.args.self.now.1) before known) (omega (arith, first, l)) h)
    c.in_default-near.ensures.near

pub returns-clause-known : goal.returns-clause-known
returns-clause-known c before known alike =
    let n = c.self.inside in
    let fits : (k : ℕ) → get_or c.args.text.now k 0 < 256 = λ k. omega (arith, c.type_inv.text k) in
    let len : c.len.result ≡ length c.args.self.now.1 = c.len.ensures ∙ n.bytes.ok.0 ∙ ap (λ v. length v.1) c.self.view_is in
    let first : c.saturating_sub-first.result ≡ min c.in-Some.quiet (length c.args.text.now) + 1 - length c.args.self.now.1 = omega (arith, c.saturating_sub-first.ensures, c.min.ensures, len) in
    c.search_from.ensures.known (λ place below h some. ⊎_elim
    (λ l. none_shared c.args.self.now.0 c.args.self.now.1 c.args.text.now some fits c.args.shared c.in-Some.quiet place before c.in-Some.ensures.within alike
    (c.in-Some.ensures.quiet (plain_wanted c.args.self.now.0 c.args.self.now.1) before known) (omega (arith, first, l)) h)
    (λ l. c.in-Some-near.ensures.near place l below h)
    (cases_lt place c.saturating_sub-first.result))
