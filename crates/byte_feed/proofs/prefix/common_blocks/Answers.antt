use Rattle.std.proofs.Common.{◌≡◌, ℕ, ◌+◌, ◌-◌, List, take, drop, sym, ◌∙◌, subst, arith}
use Rattle.std.proofs.lemmas.Slice.Eq.{bytes_eq-Decides}
use Rattle.byte_feed.proofs.CommonPrefix.{take_more}
use Rattle.byte_feed.proofs.prefix.common_blocks.Goals as goal

pub loop-same-preserved : goal.loop-same-preserved
loop-same-preserved c =
    let inv = c.loop-same.invariant in
    let s = c.loop-same.same in
    let block : List ℕ → ℕ → List ℕ = λ text n. take n (drop s text) in
    let width : s + 16 - s ≡ 16 = omega arith in
    let a = c.args.a.now in
    let b = c.args.b.now in
    let same = (bytes_eq-Decides (block a (s + 16 - s)) (block b (s + 16 - s))).0 (sym c.eq.ensures ∙ c.if-eq.true) in
    (omega (arith, c.loop-same-test.true, inv.0), take_more s 16 a b inv.1 (subst (λ (n : ℕ). block a n ≡ block b n) width same))
