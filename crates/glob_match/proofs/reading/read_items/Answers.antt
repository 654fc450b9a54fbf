use Rattle.std.proofs.Common.{◌++◌, sym, ap, ◌∙◌, arith, append-nil}
use Rattle.std.proofs.Math.ListN.{drop_of_length-le}
use Rattle.glob_match.specs.Pattern.{items}
use Rattle.glob_match.proofs.BracketParts.{rest_is}
use Rattle.glob_match.proofs.Units.{items-read, items-nil}
use Rattle.glob_match.proofs.reading.read_items.Goals as goal

pub loop-at-preserved : goal.loop-at-preserved
loop-at-preserved c =
    let pattern = c.args.pattern.now in
    let at = c.loop-at.at in
    let rest = rest_is pattern at in
    let e = c.in_ok-at.ensures in (
      omega (arith, e.within),
      items-read c.args.fold pattern at c.in_ok-at.field-0 c.loop-at.read c.push_item.new.items e.some (rw rest at e.within) (rw rest at e.rest) (rw rest at e.pushed) ∙ c.loop-at.invariant.1,
    )

pub returns : goal.returns
returns c =
    sym (append-nil c.loop-at.read)
    ∙ ap (λ rest. c.loop-at.read ++ rest) (sym (ap (items c.args.fold 0) (drop_of_length-le c.args.pattern.now {i = c.loop-at.at} (omega arith)) ∙ items-nil c.args.fold))
    ∙ c.loop-at.invariant.1
