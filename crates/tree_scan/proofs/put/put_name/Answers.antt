use Rattle.std.proofs.Common.{Bool, [], sym, subst, if◌then◌else◌}
use Rattle.loc_outside.specs.Outside.{AppendsPart}
use Rattle.tree_scan.specs.Blocks.{line}
use Rattle.loc_outside.proofs.PartTaken.{part_all}
use Rattle.tree_scan.proofs.WrittenNames.{when_err}
use Rattle.tree_scan.proofs.Follows.{follows_part, follows_line}
use Rattle.tree_scan.proofs.put.put_name.Goals as goal

pub returns-in_err-put_line-clause-err : goal.returns-in_err-put_line-clause-err
returns-in_err-put_line-clause-err g c = when_err _ _ (part_all _ _ _ c.in_ok-put_entry.ensures.ok)

pub returns-in_err-put_entry-clause-follows : goal.returns-in_err-put_entry-clause-follows
returns-in_err-put_entry-clause-follows g c = when_err _ _ (follows_part _ _ _ _ _ c.in_err-put_entry.ensures.err)

pub returns-in_err-put_line-clause-follows : goal.returns-in_err-put_line-clause-follows
returns-in_err-put_line-clause-follows g c =
    let line_is = subst (λ (b : Bool). AppendsPart (g.P.Sink.taken c.args.echo.now) (g.P.Sink.taken c.put_line.new.echo) (if b then line c.args.path.now (c.args.name.now, c.args.kind) else [])) (sym c.if-not-verbose.false) c.in_err-put_line.ensures.err in
    when_err _ _ (follows_line _ _ _ _ _ _ c.in_ok-put_entry.ensures.ok line_is)
