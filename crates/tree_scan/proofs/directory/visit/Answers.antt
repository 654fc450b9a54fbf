use Rattle.std.proofs.Common.{rules, ◌≡◌, ◌+◌, refl, sym, ◌∙◌, ap, subst, List, ℕ, arith, Err, Some}
use Rattle.std.specs.FinMap.{get}
use Rattle.std.specs.Io.KnownBytes.{Appends}
use Rattle.loc_outside.specs.Outside.{AppendsPart}
use Rattle.tree_scan.specs.Admitted.{admitted}
use Rattle.loc_outside.specs.Trees.{Dir, Dirs}
use Rattle.tree_scan.specs.Stops.{LinesFollow, taken}
use Rattle.tree_scan.specs.Walks.{Breaks}
use Rattle.tree_scan.specs.Blocks.{block_pieces, block_text, lines_of, time_of}
use Rattle.tree_scan.specs.Plans.{plan_of}
use Rattle.tree_scan.specs.Records.{Relied}
use Rattle.tree_scan.proofs.WrittenNames.{if_err, when_err}
use Rattle.tree_scan.proofs.TreeAnswers.{seen_true, seen_false, pushed_short}
use Rattle.tree_scan.proofs.Visits.{passes_shown, passes_hidden, breaks_shown, breaks_none}
use Rattle.tree_scan.proofs.directory.visit.Goals as goal

pub returns-then-not-found-clause-shown : goal.returns-then-not-found-clause-shown
returns-then-not-found-clause-shown g c = λ dirs dir told found time relied.
    let device = c.device_of-device.ensures ∙ ap (λ (p : List ℕ). (plan_of c.args.rules.now).device_of p) c.bytes.ensures.value in
    let seen = c.in_ok-found.ensures.shown dirs dir told (subst (λ (p : List ℕ). get dirs p ≡ Some dir) (sym c.bytes-2.ensures.value) found) time
    (subst (λ (p : List ℕ). Relied (g.V.Voucher.records c.args.voucher.now) c.device_of-device.result p dir) (sym c.bytes-2.ensures.value) (subst (λ (d : ℕ). Relied (g.V.Voucher.records c.args.voucher.now) d c.args.path.now dir) (sym device) relied)) in
    passes_hidden dirs (plan_of c.args.rules.now) c.args.now c.args.path.now dir _ _ c.args.progress.now _ found c.requires.unpruned
    (seen_false c.in_ok-found.found c.bytes-2.result.now c.find_names.new.names dir c.if-not-found.true seen) refl refl refl refl

pub returns-clause-shown : goal.returns-clause-shown
returns-clause-shown g c = λ dirs dir told found time relied.
    let device = c.device_of-device.ensures ∙ ap (λ (p : List ℕ). (plan_of c.args.rules.now).device_of p) c.bytes.ensures.value in
    let seen = seen_true c.in_ok-found.found c.bytes-2.result.now c.find_names.new.names dir c.if-not-found.false
    (c.in_ok-found.ensures.shown dirs dir told (subst (λ (p : List ℕ). get dirs p ≡ Some dir) (sym c.bytes-2.ensures.value) found) time
    (subst (λ (p : List ℕ). Relied (g.V.Voucher.records c.args.voucher.now) c.device_of-device.result p dir) (sym c.bytes-2.ensures.value) (subst (λ (d : ℕ). Relied (g.V.Voucher.records c.args.voucher.now) d c.args.path.now dir) (sym device) relied))) in
    passes_shown dirs (plan_of c.args.rules.now) c.args.now c.args.time c.stamp_at-stamp.result c.written_device-written.result c.device_of-device.result c.args.path.now dir c.find_names.new.names _ _ _ _ c.args.progress.now _ found c.requires.unpruned
    (seen.0, seen.1 ∙ ap (λ (p : List ℕ). admitted p dir) c.bytes-2.ensures.value) time c.stamp_at-stamp.ensures c.written_device-written.ensures device
    (subst (λ (p : List ℕ). Appends (g.D.Sink.taken c.args.sink.now) (g.D.Sink.taken c.put_block.new.sink) (block_text c.stamp_at-stamp.result c.written_device-written.result p c.find_names.new.names)) c.in-Ok.ensures.path c.in-Ok-put_block.ensures.ok)
    (subst (λ (p : List ℕ). Appends (g.P.Sink.taken c.args.echo.now) (g.P.Sink.taken c.put_block.new.echo) (lines_of c.args.rules.now.verbose p c.find_names.new.names)) c.in-Ok.ensures.path c.in-Ok-put_block.ensures.echoed)
    c.in-Ok.ensures.ok refl refl (ap (λ (n : ℕ). c.args.progress.now.counts.entries + n) c.len.ensures)

pub returns-in_err-found-clause-breaks : goal.returns-in_err-found-clause-breaks
returns-in_err-found-clause-breaks g c =
    let p : (dirs : Dirs) (dir : Dir) → g.T.Tree.dirs c.args.tree.now ≡ Some dirs → get dirs c.args.path.now ≡ Some dir → c.args.time ≡ time_of dir.times → Relied (g.V.Voucher.records c.args.voucher.now) ((plan_of c.args.rules.now).device_of c.args.path.now) c.args.path.now dir
    → Breaks dirs (plan_of c.args.rules.now) c.args.now c.args.path.now (taken (g.D.Sink.taken c.args.sink.now) (g.P.Sink.taken c.args.echo.now)) (taken (g.D.Sink.taken c.args.sink.now) (g.P.Sink.taken c.args.echo.now)) =
    λ dirs dir told found time relied. breaks_none dirs (plan_of c.args.rules.now) c.args.now c.args.path.now _ _ _ _ refl refl in
    when_err _ _ p

pub returns-in_default-put_block-clause-breaks : goal.returns-in_default-put_block-clause-breaks
returns-in_default-put_block-clause-breaks g c = λ dirs dir told found time relied.
    let device = c.device_of-device.ensures ∙ ap (λ (p : List ℕ). (plan_of c.args.rules.now).device_of p) c.bytes.ensures.value in
    let seen = seen_true c.in_ok-found.found c.bytes-2.result.now c.find_names.new.names dir c.if-not-found.false
    (c.in_ok-found.ensures.shown dirs dir told (subst (λ (p : List ℕ). get dirs p ≡ Some dir) (sym c.bytes-2.ensures.value) found) time
    (subst (λ (p : List ℕ). Relied (g.V.Voucher.records c.args.voucher.now) c.device_of-device.result p dir) (sym c.bytes-2.ensures.value) (subst (λ (d : ℕ). Relied (g.V.Voucher.records c.args.voucher.now) d c.args.path.now dir) (sym device) relied))) in
    breaks_shown dirs (plan_of c.args.rules.now) c.args.now c.args.time c.stamp_at-stamp.result c.written_device-written.result c.device_of-device.result c.args.path.now dir c.find_names.new.names _ _ _ _ found c.requires.unpruned
    (seen.0, seen.1 ∙ ap (λ (p : List ℕ). admitted p dir) c.bytes-2.ensures.value) time c.stamp_at-stamp.ensures c.written_device-written.ensures device
    (subst (λ (p : List ℕ). AppendsPart (g.D.Sink.taken c.args.sink.now) (g.D.Sink.taken c.put_block.new.sink) (block_text c.stamp_at-stamp.result c.written_device-written.result p c.find_names.new.names)) c.in-Ok.ensures.path c.in_default-put_block.ensures.err)
    (subst (λ (p : List ℕ). AppendsPart (g.P.Sink.taken c.args.echo.now) (g.P.Sink.taken c.put_block.new.echo) (lines_of c.args.rules.now.verbose p c.find_names.new.names)) c.in-Ok.ensures.path c.in_default-put_block.ensures.echo_err)
    (subst (λ (p : List ℕ). LinesFollow (block_pieces c.args.rules.now.verbose c.stamp_at-stamp.result c.written_device-written.result p c.find_names.new.names) (taken (g.D.Sink.taken c.args.sink.now) (g.P.Sink.taken c.args.echo.now)) (taken (g.D.Sink.taken c.put_block.new.sink) (g.P.Sink.taken c.put_block.new.echo))) c.in-Ok.ensures.path c.in_default-put_block.ensures.follows)

pub returns-then-progress-limits-clause-breaks : goal.returns-then-progress-limits-clause-breaks
returns-then-progress-limits-clause-breaks g c = λ dirs dir told found time relied. breaks_none dirs (plan_of c.args.rules.now) c.args.now c.args.path.now _ _ _ _ refl refl

pub returns-in_default-clause-breaks : goal.returns-in_default-clause-breaks
returns-in_default-clause-breaks g c = λ dirs dir told found time relied. breaks_none dirs (plan_of c.args.rules.now) c.args.now c.args.path.now _ _ _ _ refl refl

pub returns-clause-progress : goal.returns-clause-progress
returns-clause-progress g c =
    let short = pushed_short c.args.path.now c.find_names.new.names c.args.progress.now.pending c.push_children.new.pending 16777216 c.in-Ok.ensures.ok (c.in_ok-found.ensures.fitting c.if-not-found.false).few in
    record { more = omega (arith, short); rises = search rules; counted = search rules; adds = search rules }

pub returns-in_err-found-clause-ended : goal.returns-in_err-found-clause-ended
returns-in_err-found-clause-ended g c = if_err c.from_residual.result c.in_err-found.field-0.0 _ (search rules) (record {
  no_missing = λ e. c.in_err-found.ensures.no_missing (ap Err e);
  unpruned = c.requires.unpruned;
  whole = λ w. (refl, refl);
  many = λ e. absurd (c.in_err-found.ensures.no_directories (ap Err e));
  wide = λ e. record {
    listed = λ w. search rules;
    many_names = λ dirs dir told found. c.in_err-found.ensures.many (ap Err e) dirs dir told (subst (λ (p : List ℕ). get dirs p ≡ Some dir) (sym c.bytes-2.ensures.value) found);
  };
})
