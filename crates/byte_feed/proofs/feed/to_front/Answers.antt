use Rattle.std.proofs.Common.{◌≡◌, ℕ, ◌+◌, ◌-◌, take, drop, sym, ap, ◌∙◌, arith, length-drop}
use lib.Seq.{paste}
use Rattle.std.proofs.lemmas.List.{drop-take}
use Rattle.std.proofs.lemmas.List.Edits.{take-paste}
use Rattle.byte_feed.proofs.feed.to_front.Goals as goal

pub returns-clause-moved : goal.returns-clause-moved
returns-clause-moved c =
    let all = c.args.buffer.now in
    let n : ℕ = c.args.end - c.args.at in
    let end : c.args.at + n ≡ c.args.end = omega arith in
    let front : 0 + n ≡ n = omega arith in
    ap (take n) c.copy_within.ensures.after
    ∙ ap (λ (k : ℕ). take k (paste all 0 (drop c.args.at all) n)) (sym front)
    ∙ take-paste all 0 (drop c.args.at all) n (omega arith) (omega (arith, length-drop c.args.at all))
    ∙ sym (drop-take c.args.at n all)
    ∙ ap (λ (k : ℕ). drop c.args.at (take k all)) end
