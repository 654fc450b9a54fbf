use Rattle.std.proofs.Common.{Bool, ℕ, ◌≡◌, ◌+◌, ◌≤◌, ap, subst, sym, ◌∙◌, arith, List, Err}
use Rattle.std.specs.Io.KnownBytes.{Appends}
use Rattle.tree_scan.specs.declared.rules.Limits.{Limits}
use Rattle.tree_scan.specs.declared.rules.ScanFault.{ScanFault}
use Rattle.tree_scan.specs.declared.rules.ScanFault.TheVariants as scan_faults
use Rattle.tree_scan.specs.Plans.{plan_of}
use Rattle.tree_scan.specs.Records.{Record, answers_all, known}
use Rattle.tree_scan.specs.Scans.{Completed, Exceeded, Found, Stopped, usual}
use Rattle.tree_scan.specs.Stops.{taken}
use Rattle.database_update.specs.Holding.{pending_in}
use Rattle.database_update.proofs.HoldingLemmas.{pending_grows}
use Rattle.database_update.proofs.ScanLemmas.{err_is, same_fault, stopped_alike}
use Rattle.database_update.proofs.storing.scan_into.Goals as goal

pub scan-requires-clause-limits : goal.scan-requires-clause-limits
scan-requires-clause-limits g c = subst (λ (l : Limits). (l.names ≤ 16777216) × (l.directories ≤ 4294967295)) (sym c.standard.ensures) (omega arith, omega arith)

pub returns-in-Ok-clause-done : goal.returns-in-Ok-clause-done
returns-in-Ok-clause-done g c = λ dirs told honest. g.met.O.Output.keeps_held _ _ _ c.scan.ensures.sink_kept (c.in-Ok.ensures.done dirs told honest)

pub returns-in-Ok-clause-completed : goal.returns-in-Ok-clause-completed
returns-in-Ok-clause-completed g c = λ dirs told honest.
    let plan = plan_of c.args.rules.now in
    let rs : List Record = known (g.V.Voucher.records c.args.voucher.now) in
    let all : Bool = answers_all (g.V.Voucher.records c.args.voucher.now) (g.V.Voucher.ordered c.args.voucher.now) (g.V.Voucher.unbroken c.scan.new.voucher) in
    subst (λ (l : Limits). Completed l rs all dirs plan c.in-Ok.counts (g.P.Sink.taken c.args.out.now) (g.P.Sink.taken c.scan.new.echo) (g.T.Tree.openings c.args.tree.now) (g.T.Tree.openings c.scan.new.tree)) c.standard.ensures
    (c.in-Ok.ensures.completed dirs told honest)

pub returns-in-Ok-clause-openings : goal.returns-in-Ok-clause-openings
returns-in-Ok-clause-openings g c = subst (λ (l : Limits). g.T.Tree.openings c.scan.new.tree ≤ g.T.Tree.openings c.args.tree.now + l.directories) c.standard.ensures c.scan.ensures.openings

pub returns-in-Err-clause-openings : goal.returns-in-Err-clause-openings
returns-in-Err-clause-openings g c = subst (λ (l : Limits). g.T.Tree.openings c.scan.new.tree ≤ g.T.Tree.openings c.args.tree.now + l.directories) c.standard.ensures c.scan.ensures.openings

pub returns-in-Err-clause-part : goal.returns-in-Err-clause-part
returns-in-Err-clause-part g c = λ dirs told honest.
    let part = (c.in-Err.ensures.stopped dirs told honest).wrote.text in
    (part.0, part.1, g.met.O.Output.keeps_held _ _ _ c.scan.ensures.sink_kept part.2)

pub returns-in-Err-clause-stopped : goal.returns-in-Err-clause-stopped
returns-in-Err-clause-stopped g c = λ dirs told honest f is.
    let plan = plan_of c.args.rules.now in
    let rs : List Record = known (g.V.Voucher.records c.args.voucher.now) in
    let all : Bool = answers_all (g.V.Voucher.records c.args.voucher.now) (g.V.Voucher.ordered c.args.voucher.now) (g.V.Voucher.unbroken c.scan.new.voucher) in
    let same : c.in-Err.fault ≡ f = same_fault c.in-Err.fault f (sym c.fault_of_scan.ensures ∙ is) in
    let old = taken (g.O.Sink.taken c.args.output.now) (g.P.Sink.taken c.args.out.now) in
    let new = taken (g.O.Sink.taken c.scan.new.sink) (g.P.Sink.taken c.scan.new.echo) in
    let said = subst (λ (l : Limits). Stopped c.in-Err.fault l rs all c.args.now dirs plan old new) c.standard.ensures (c.in-Err.ensures.stopped dirs told honest) in
    let alike : (bytes : List ℕ) → Appends (g.O.Sink.taken c.args.output.now) (g.O.Sink.taken c.scan.new.sink) bytes → Appends (pending_in (g.O.Output.held c.args.output.now)) (pending_in (g.O.Output.held c.scan.new.sink)) bytes
    = λ bytes grows. pending_grows _ _ bytes (g.met.O.Output.keeps_held _ _ bytes c.scan.ensures.sink_kept grows) in
    subst (λ (x : ScanFault). Stopped x usual rs all c.args.now dirs plan (taken (pending_in (g.O.Output.held c.args.output.now)) (g.P.Sink.taken c.args.out.now)) (taken (pending_in (g.O.Output.held c.scan.new.sink)) (g.P.Sink.taken c.scan.new.echo))) same
    (stopped_alike c.in-Err.fault usual rs all c.args.now dirs plan _ _ _ _ _ _ alike said)

pub returns-in-Err-clause-found : goal.returns-in-Err-clause-found
returns-in-Err-clause-found g c = λ dirs told f is.
    let same : c.in-Err.fault ≡ f = same_fault c.in-Err.fault f (sym c.fault_of_scan.ensures ∙ is) in
    subst (λ (x : ScanFault). Found x usual c.args.rules.now.root dirs) same (subst (λ (l : Limits). Found c.in-Err.fault l c.args.rules.now.root dirs) c.standard.ensures (c.in-Err.ensures.found dirs told))

pub returns-in-Err-clause-exceeded : goal.returns-in-Err-clause-exceeded
returns-in-Err-clause-exceeded g c = λ dirs told honest f is.
    let plan = plan_of c.args.rules.now in
    let rs : List Record = known (g.V.Voucher.records c.args.voucher.now) in
    let all : Bool = answers_all (g.V.Voucher.records c.args.voucher.now) (g.V.Voucher.ordered c.args.voucher.now) (g.V.Voucher.unbroken c.scan.new.voucher) in
    let same : c.in-Err.fault ≡ f = same_fault c.in-Err.fault f (sym c.fault_of_scan.ensures ∙ is) in
    subst (λ (x : ScanFault). Exceeded x usual rs all dirs plan) same (subst (λ (l : Limits). Exceeded c.in-Err.fault l rs all dirs plan) c.standard.ensures (c.in-Err.ensures.exceeded dirs told honest))

pub returns-in-Err-clause-failures : goal.returns-in-Err-clause-failures
returns-in-Err-clause-failures g c =
    let failed = c.scan.ensures.failures in
    record {
      tree_later = c.scan.ensures.failures.tree_later;
      sink_later = c.scan.ensures.failures.sink_later;
      echo_later = c.scan.ensures.failures.echo_later;
      tree_fault = λ was. c.in-Err.ensures.failures.tree_fault (ap Err (same_fault c.in-Err.fault scan_faults.TreeFault (sym c.fault_of_scan.ensures ∙ err_is _ _ was)));
      write_fault = λ was. c.in-Err.ensures.failures.write_fault (ap Err (same_fault c.in-Err.fault scan_faults.WriteFault (sym c.fault_of_scan.ensures ∙ err_is _ _ was)));
    }
