use Rattle.std.proofs.Common.{◌+◌, drop, ap, ◌∙◌, arith, rules}
use Rattle.std.proofs.Math.ListN.{drop_of_length-le}
use Rattle.glob_match.specs.Bracket.{part_at, parts, parts_first}
use Rattle.glob_match.proofs.BracketParts.{Joins-first, Joins-more, Joins-closed, parts-closed, parts-more, parts-nil, parts_first-more, parts_first-none, rest_is}
use Rattle.glob_match.proofs.bracket.read_parts.Goals as goal

pub returns-then-is_empty-clause-none : goal.returns-then-is_empty-clause-none
returns-then-is_empty-clause-none c = parts_first-none c.args.text.now (search rules)

pub loop-at-init : goal.loop-at-init
loop-at-init c =
    let first = parts_first-more c.args.text.now c.insert_part-at.result (omega arith) c.insert_part-at.ensures.taken c.insert_part-at.ensures.some in
    (c.insert_part-at.ensures.within, rw first (Joins-first c.insert_part-at.new.set c.new-set.result (part_at c.args.text.now).0 (parts 0 (drop c.insert_part-at.result c.args.text.now)) c.new-set.ensures c.insert_part-at.ensures.inserted))

pub returns-then-text-at-eq93-clause-some : goal.returns-then-text-at-eq93-clause-some
returns-then-text-at-eq93-clause-some c =
    Joins-closed c.loop-at.set (drop (c.loop-at.at + 1) c.args.text.now) (parts_first c.args.text.now) (rw (parts-closed c.args.text.now c.loop-at.at (omega arith) (omega arith)) at c.loop-at.invariant.1)

pub loop-at-preserved : goal.loop-at-preserved
loop-at-preserved c =
    let rest = rest_is c.args.text.now c.loop-at.at in
    let n = c.insert_part-at-in-loop-at.result in
    let p = part_at (drop c.loop-at.at c.args.text.now) in
    let more = parts-more c.args.text.now c.loop-at.at n (omega arith) (λ e. c.if-text-at-eq93.false e) (rw rest at c.insert_part-at-in-loop-at.ensures.taken) c.insert_part-at-in-loop-at.ensures.some in (
      omega (arith, c.insert_part-at-in-loop-at.ensures.within),
      Joins-more c.loop-at.set c.insert_part-at-in-loop-at.new.set p.0 (parts 0 (drop (c.loop-at.at + n) c.args.text.now)) (parts_first c.args.text.now) (rw more at c.loop-at.invariant.1) (rw rest at c.insert_part-at-in-loop-at.ensures.inserted),
    )

pub returns-clause-none : goal.returns-clause-none
returns-clause-none c =
    rw (ap (parts 0) (drop_of_length-le c.args.text.now {i = c.loop-at.at} (omega arith)) ∙ parts-nil) at c.loop-at.invariant.1
