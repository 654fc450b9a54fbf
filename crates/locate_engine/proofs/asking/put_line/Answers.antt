use Rattle.std.proofs.Common.{Result, Ok, Err, OnErr}
use Rattle.locate_engine.proofs.LineParts.{line_short}
use Rattle.locate_engine.proofs.asking.put_line.Goals as goal

on_err : {A E : Type 0} (r : Result A E) (P Q : Type 0) → (P → Q) → OnErr r P → OnErr r Q
on_err (Ok x) P Q go h = h
on_err (Err e) P Q go h = go h

pub returns-clause-err : goal.returns-clause-err
returns-clause-err g c = on_err c.put_all-2.result _ _ (line_short c.args.query.now.count_only c.args.query.now.separator _ _ _ c.args.path.now c.if-query.false c.in_ok-put_all.ensures.ok) c.put_all-2.ensures.short
