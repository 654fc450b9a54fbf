use Rattle.locate_tools.proofs.MessagesAfter.{on_err, part_at}
use Rattle.locate_tools.proofs.lines.put_pieces.Goals as goal

pub returns-in_err-put_all-clause-err : goal.returns-in_err-put_all-clause-err
returns-in_err-put_all-clause-err g c =
    on_err c.from_residual.result _ (part_at (λ p. p.now) c.args.pieces.now c.loop-piece.piece-index _ _ _ _ c.loop-piece-test.true c.loop-piece.invariant.taken c.in_err-put_all.ensures.err)
