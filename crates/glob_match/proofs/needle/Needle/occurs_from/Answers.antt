use Rattle.std.proofs.Common.{◌≡◌, ◌+◌, ◌-◌, ◌<◌, ℕ, length, subst, arith, false-eqb, ⊎_elim}
use Rattle.std.proofs.lemmas.Bool.{cases_lt, false≢true}
use Rattle.glob_match.specs.Needle.{Stands}
use Rattle.glob_match.proofs.Needles.{stands-drop, stands-undrop, stands-fits}
use Rattle.glob_match.proofs.needle.Needle.occurs_from.Goals as goal

pub returns-in-Some : goal.returns-in-Some
returns-in-Some c = (
  λ e.
      let s = c.stands_from.ensures.0 e in
      let place : ℕ = s.0 - c.args.from in
      let same : s.0 ≡ c.args.from + place = omega (arith, s.1, c.in-Some.ensures.from) in
      (place, stands-drop c.args.self.now.0 c.args.self.now.1 c.args.text.now c.args.from place (subst (Stands c.args.self.now.0 c.args.self.now.1 c.args.text.now) same s.2)),
  λ o.
      let there = stands-undrop c.args.self.now.0 c.args.self.now.1 c.args.text.now c.args.from o.0 c.requires o.1 in
      c.stands_from.ensures.1 (
        c.args.from + o.0,
        ⊎_elim (λ l. absurd (c.in-Some.ensures.near (c.args.from + o.0) (omega arith) l there)) (λ l. l) (cases_lt (c.args.from + o.0) c.in-Some.near),
        there,
      ),
)

pub returns-in-None : goal.returns-in-None
returns-in-None c = (
  λ e. absurd (false≢true e),
  λ o.
      let n = c.self.inside in
      let some = subst (λ v. 0 < length v.1) c.self.view_is (omega (arith, n.bytes.ok.0, false-eqb n.bytes.len 0 c.if-is_empty.ensures)) in
      let there = stands-undrop c.args.self.now.0 c.args.self.now.1 c.args.text.now c.args.from o.0 c.requires o.1 in
      absurd (c.in-None.ensures.near (c.args.from + o.0) (omega arith) (omega (arith, some, stands-fits c.args.self.now.0 c.args.self.now.1 c.args.text.now (c.args.from + o.0) some there)) there),
)
