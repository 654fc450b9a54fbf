use Rattle.std.proofs.Common.{List, ℕ, subst}
use Rattle.std.specs.Io.KnownBytes.{Appends}
use Rattle.std.proofs.KnownBytes.{Appends-trans}
use Rattle.loc_outside.proofs.PartTaken.{part_first, part_second, part_all}
use Rattle.loc_outside.specs.Outside.{AppendsPart}
use Rattle.tree_scan.specs.Blocks.{head_text}
use Rattle.tree_scan.proofs.WrittenNames.{when_err}
use Rattle.tree_scan.proofs.Follows.{follows_part, block_in_entries, block_at_end}
use Rattle.tree_scan.proofs.put.put_block.Goals as goal

pub returns-in_err-put_head-clause-err : goal.returns-in_err-put_head-clause-err
returns-in_err-put_head-clause-err g c =
    when_err _ _ (part_first _ _ _ _ (part_first _ _ _ _ (subst (λ (p : List ℕ). AppendsPart (g.D.Sink.taken c.args.sink.now) (g.D.Sink.taken c.put_head.new.sink) (head_text c.args.stamp c.args.device p)) c.bytes.ensures.value c.in_err-put_head.ensures.err)))

pub returns-in_err-put_entries-clause-err : goal.returns-in_err-put_entries-clause-err
returns-in_err-put_entries-clause-err g c =
    let head = subst (λ (p : List ℕ). Appends (g.D.Sink.taken c.args.sink.now) (g.D.Sink.taken c.put_head.new.sink) (head_text c.args.stamp c.args.device p)) c.bytes.ensures.value c.in_ok-put_head.ensures.ok in
    when_err _ _ (part_first _ _ _ _ (part_second _ _ _ _ _ head c.in_err-put_entries.ensures.err))

pub returns-in_err-put_end-clause-err : goal.returns-in_err-put_end-clause-err
returns-in_err-put_end-clause-err g c =
    let head = subst (λ (p : List ℕ). Appends (g.D.Sink.taken c.args.sink.now) (g.D.Sink.taken c.put_head.new.sink) (head_text c.args.stamp c.args.device p)) c.bytes.ensures.value c.in_ok-put_head.ensures.ok in
    when_err _ _ (part_second _ _ _ _ _ (Appends-trans _ _ _ _ _ head c.in_ok-put_entries.ensures.ok) c.in_err-put_end.ensures.err)

pub returns-in_err-put_end-clause-echo_err : goal.returns-in_err-put_end-clause-echo_err
returns-in_err-put_end-clause-echo_err g c = when_err _ _ (part_all _ _ _ c.in_ok-put_entries.ensures.echoed)

pub returns-in_err-put_head-clause-follows : goal.returns-in_err-put_head-clause-follows
returns-in_err-put_head-clause-follows g c = when_err _ _ (follows_part _ _ _ _ _ c.in_err-put_head.ensures.err)

pub returns-in_err-put_entries-clause-follows : goal.returns-in_err-put_entries-clause-follows
returns-in_err-put_entries-clause-follows g c =
    let head = subst (λ (p : List ℕ). Appends (g.D.Sink.taken c.args.sink.now) (g.D.Sink.taken c.put_head.new.sink) (head_text c.args.stamp c.args.device p)) c.bytes.ensures.value c.in_ok-put_head.ensures.ok in
    when_err _ _ (block_in_entries c.args.verbose c.args.stamp c.args.device c.args.path.now c.args.names.now _ _ _ _ _ head c.in_err-put_entries.ensures.follows)

pub returns-in_err-put_end-clause-follows : goal.returns-in_err-put_end-clause-follows
returns-in_err-put_end-clause-follows g c =
    let head = subst (λ (p : List ℕ). Appends (g.D.Sink.taken c.args.sink.now) (g.D.Sink.taken c.put_head.new.sink) (head_text c.args.stamp c.args.device p)) c.bytes.ensures.value c.in_ok-put_head.ensures.ok in
    when_err _ _ (block_at_end c.args.verbose c.args.stamp c.args.device c.args.path.now c.args.names.now _ _ _ _ _ _ head c.in_ok-put_entries.ensures.ok c.in_ok-put_entries.ensures.echoed c.in_err-put_end.ensures.err)
