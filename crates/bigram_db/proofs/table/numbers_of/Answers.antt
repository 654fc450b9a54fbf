use Rattle.std.proofs.Common.{◌≡◌, ◌+◌, ◌-◌, ◌∙◌, ℕ, sym, subst, arith}
use Rattle.std.proofs.Math.ListN.{length-replicate}
use Rattle.std.proofs.lemmas.List.{length-set}
use Rattle.bigram_db.proofs.Numbered.{NumbersFrom, numbered_none, numbered_past, numbered_more, numbered_all}
use Rattle.bigram_db.proofs.table.numbers_of.Goals as goal

pub pairs-init : goal.pairs-init
pairs-init c = record { few = omega arith; cells = length-replicate {A = ℕ} 9216 128; numbered = numbered_none c.args.bytes.now c.told-bytes }

pub pairs-preserved-then-not-is_counted : goal.pairs-preserved-then-not-is_counted
pairs-preserved-then-not-is_counted c =
    let n : ℕ = c.pairs.left - 1 in
    let up : c.pairs.left ≡ n + 1 = omega (arith, c.pairs-test.true) in
    let from = subst (λ (m : ℕ). NumbersFrom c.args.bytes.now m c.pairs.numbers) up c.pairs.invariant.numbered in
    record {
      few = omega (arith, c.pairs.invariant.few);
      cells = c.pairs.invariant.cells;
      numbered = numbered_past c.args.bytes.now c.pairs.numbers n c.told-bytes (omega (arith, c.pairs.invariant.few, up)) (sym c.if-not-is_counted.ensures) from;
    }

pub pairs-preserved : goal.pairs-preserved
pairs-preserved c =
    let n : ℕ = c.pairs.left - 1 in
    let up : c.pairs.left ≡ n + 1 = omega (arith, c.pairs-test.true) in
    let from = subst (λ (m : ℕ). NumbersFrom c.args.bytes.now m c.pairs.numbers) up c.pairs.invariant.numbered in
    let numbered = numbered_more c.args.bytes.now c.pairs.numbers n c.told-bytes c.pairs.invariant.cells (omega (arith, c.pairs.invariant.few, up)) (sym c.if-not-is_counted.ensures) from in
    record {
      few = omega (arith, c.pairs.invariant.few);
      cells = length-set c.pairs.numbers c.place_of.result n ∙ c.pairs.invariant.cells;
      numbered = rw c.place_of.ensures.value numbered;
    }

pub returns : goal.returns
returns c =
    let none : c.pairs.left ≡ 0 = omega (arith, c.pairs-test.false) in
    numbered_all c.args.bytes.now c.pairs.numbers (subst (λ (m : ℕ). NumbersFrom c.args.bytes.now m c.pairs.numbers) none c.pairs.invariant.numbered)
