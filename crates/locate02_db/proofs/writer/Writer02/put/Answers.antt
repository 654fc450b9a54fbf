use Rattle.std.proofs.Common.{◌≡◌, ℕ, List, subst}
use Rattle.loc_outside.specs.Outside.{AppendsShort}
use Rattle.byte_feed.specs.Prefix.{common_prefix}
use Rattle.locate02_db.specs.Writer.{WriterState}
use Rattle.loc_outside.proofs.LessTaken.{short_after, err_from}
use Rattle.locate02_db.proofs.Puts.{piece_is, after_is}
use Rattle.locate02_db.proofs.writer.Writer02.put.Goals as goal

pub returns-in_err-put_ended-clause-err : goal.returns-in_err-put_ended-clause-err
returns-in_err-put_ended-clause-err g c =
    let s = c.self.inside in
    let w : WriterState = record { path = s.path; shared = s.shared } in
    let path = c.args.path.now in
    let n = c.common_prefix-shared.result in
    let same : n ≡ common_prefix w.path path = rw c.bytes.ensures.value at c.common_prefix-shared.ensures.value in
    let part = short_after _ _ _ _ _ c.in_ok-put_change.ensures.ok c.in_err-put_ended.ensures.err in
    rw (← c.self.view_is) (err_from c.from_residual-in_err-put_ended.result _ (subst (λ (p : List ℕ). AppendsShort (g.K.Sink.taken c.args.sink.now) (g.K.Sink.taken c.put_ended.new.sink) p) (piece_is w path n c.between.result same c.between.ensures) part))

pub returns-clause-goes_on : goal.returns-clause-goes_on
returns-clause-goes_on g c =
    let s = c.self.inside in
    let w : WriterState = record { path = s.path; shared = s.shared } in
    let path = c.args.path.now in
    let n = c.common_prefix-shared.result in
    let same : n ≡ common_prefix w.path path = rw c.bytes.ensures.value at c.common_prefix-shared.ensures.value in
    rw (← c.self.view_is) (after_is w path c.cut.new.self c.append.new.self n c.append.result same c.requires.path.fits c.cut.ensures c.append.ensures.variant.1 c.append.ensures.ok)
