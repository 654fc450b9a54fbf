use Rattle.std.proofs.Common.{◌≡◌, ◌⊎◌, inr}
use Rattle.db_convert.specs.Converts.{PendsPart}
use Rattle.db_convert.proofs.Targets.{part_whole}
use Rattle.db_convert.proofs.TurnTexts.{on_err}
use Rattle.db_convert.proofs.converting.store_text.Goals as goal

pub returns-clause-left : goal.returns-clause-left
returns-clause-left g c =
    let text = c.args.text.now in
    on_err c.commit.result (g.O.Output.held c.commit.new.self ≡ g.O.Output.held c.put_all.new.sink)
    ((g.O.Output.held c.commit.new.self ≡ g.O.Output.held c.args.output.now) ⊎ PendsPart c.args.name.now text (g.O.Output.held c.args.output.now) (g.O.Output.held c.commit.new.self))
    (λ same. inr (part_whole c.args.name.now text _ _ _ _ c.in_ok-begin.ensures.ok (g.met.O.Output.keeps_held _ _ text c.in_ok-put_all.ensures.kept c.in_ok-put_all.ensures.ok) same))
    c.commit.ensures.err
