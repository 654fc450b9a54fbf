use Rattle.std.proofs.Common.{ℕ, ◌-◌, ◌++◌, List, take, drop, ap, ◌∙◌, arith}
use Rattle.std.proofs.lemmas.Bool.{eqb-true}
use Rattle.std.proofs.Math.Seq.{take-add}
use Rattle.byte_feed.proofs.TakenOff.{took_grown}
use Rattle.byte_feed.proofs.feed.Feed.read_more.Goals as goal

pub returns-clause-took : goal.returns-clause-took
returns-clause-took g c =
    let h : ℕ = c.self.inside.end - c.self.inside.at in
    let n : ℕ = c.in-Ok.count in
    let got = take n (drop h c.read_into.new.buffer) in
    rw (← c.self.view_is) (took_grown _ _ _ _ got c.if-self.false c.in-Ok.ensures.bytes.0
    (λ e. let none = eqb-true _ _ e in (ap (λ (m : ℕ). take m (drop h c.read_into.new.buffer)) none, c.in-Ok.ensures.bytes.1 none))
    (take-add h n c.read_into.new.buffer ∙ ap (λ (l : List ℕ). l ++ got) (c.in-Ok.ensures.before ∙ c.to_front.ensures.moved))
    (omega arith))
