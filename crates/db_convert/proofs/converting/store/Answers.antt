use Rattle.std.proofs.Common.{◌≡◌, ◌⊎◌, inr}
use Rattle.db_convert.specs.Conversion.{encode}
use Rattle.db_convert.specs.Converts.{PendsPart}
use Rattle.db_convert.specs.Plans.{format_of}
use Rattle.db_convert.proofs.Targets.{part_whole}
use Rattle.db_convert.proofs.TurnTexts.{on_err}
use Rattle.db_convert.proofs.converting.store.Goals as goal

pub returns-clause-left : goal.returns-clause-left
returns-clause-left g c =
    let text = encode (format_of c.args.target) c.args.paths.now in
    on_err c.commit.result (g.O.Output.held c.commit.new.self ≡ g.O.Output.held c.put_paths.new.sink)
    ((g.O.Output.held c.commit.new.self ≡ g.O.Output.held c.args.output.now) ⊎ PendsPart c.args.name.now text (g.O.Output.held c.args.output.now) (g.O.Output.held c.commit.new.self))
    (λ same. inr (part_whole c.args.name.now text _ _ _ _ c.in_ok-begin.ensures.ok (g.met.O.Output.keeps_held _ _ text c.in_ok-put_paths.ensures.kept c.in_ok-put_paths.ensures.ok) same))
    c.commit.ensures.err
