use Rattle.std.proofs.Common.{◌≡◌, Bool, List, ap, inr, Err}
use Rattle.tree_scan.specs.declared.rules.ScanFault.{ScanFault}
use Rattle.tree_scan.specs.Blocks.{scan_text}
use Rattle.tree_scan.specs.Plans.{plan_of}
use Rattle.tree_scan.specs.Records.{Record, answers_all, known}
use Rattle.tree_scan.specs.Scans.{Stopped, usual}
use Rattle.tree_scan.specs.Stops.{taken}
use Rattle.database_update.specs.Faults.{fault_of}
use Rattle.database_update.specs.Holding.{none_pending, pending_in}
use Rattle.database_update.proofs.HoldingLemmas.{leaves_scan, leaves_whole, named, pending_begun}
use Rattle.database_update.proofs.ScanLemmas.{is_fault_of, not_lacking, not_written, part_stored, scan_fault, stopped_from, stopped_write}
use Rattle.database_update.proofs.storing.store.Goals as goal

pub finish-requires : goal.finish-requires
finish-requires g c = record { begun = named c.args.name.now _ _ _ c.in-Ok.ensures.ok c.scan_into.ensures.begun }

pub returns-in-Err-clause-left : goal.returns-in-Err-clause-left
returns-in-Err-clause-left g c = λ dirs told honest.
    let plan = plan_of c.args.rules.now in
    let fault = c.in-Err.fault in
    let said = c.in-Err.ensures in
    let start = c.in-Ok.ensures.ok in
    let rs : List Record = known (g.V.Voucher.records c.args.voucher.now) in
    let all : Bool = answers_all (g.V.Voucher.records c.args.voucher.now) (g.V.Voucher.ordered c.args.voucher.now) (g.V.Voucher.unbroken c.scan_into.new.voucher) in
    let from : (f : ScanFault) → fault ≡ fault_of f → Stopped f usual rs all c.args.now dirs plan (taken (none_pending (g.O.Output.held c.args.output.now)) (g.P.Sink.taken c.args.out.now)) (taken (pending_in (g.O.Output.held c.scan_into.new.output)) (g.P.Sink.taken c.pass_on.new.out))
    = λ f is. stopped_from f rs all c.args.now dirs plan _ _ _ _ _ _ (pending_begun c.args.name.now _ _ start) c.pass_on.ensures.taken (said.stopped dirs told honest f is) in
    let part = (from (scan_fault fault) (is_fault_of fault said.scan)).wrote in
    record {
      leaves = leaves_scan fault c.args.name.now (scan_text dirs plan c.args.now) _ _ _ said.scan start (said.part dirs told honest)
          (λ is. ap g.O.Output.held (said.untouched (ap Err is)).1);
      echo_part = part.lines_part;
      wrote = inr part;
      stopped = λ f is. (from f is).at;
    }

pub returns-in-Err-clause-unwritten : goal.returns-in-Err-clause-unwritten
returns-in-Err-clause-unwritten g c = λ dirs told was none. absurd (not_written c.in-Err.fault (c.in-Err.ensures.lacking dirs told none) was)

pub returns-in-Err-finish-clause-left : goal.returns-in-Err-finish-clause-left
returns-in-Err-finish-clause-left g c = λ dirs told honest.
    let plan = plan_of c.args.rules.now in
    let said = c.in-Err-finish.ensures in
    let start = c.in-Ok.ensures.ok in
    let rs : List Record = known (g.V.Voucher.records c.args.voucher.now) in
    let all : Bool = answers_all (g.V.Voucher.records c.args.voucher.now) (g.V.Voucher.ordered c.args.voucher.now) (g.V.Voucher.unbroken c.scan_into.new.voucher) in
    let put = c.in-Ok-scan_into.ensures.done dirs told honest in
    let lined = (c.in-Ok-scan_into.ensures.completed dirs told honest).echoed in
    let part = part_stored c.args.name.now dirs plan c.args.now _ _ _ _ _ _ _ start put said.err lined said.taken in
    record {
      leaves = leaves_whole c.in-Err-finish.fault c.args.name.now (scan_text dirs plan c.args.now) _ _ _ _ said.cause start put said.err;
      echo_part = part.lines_part;
      wrote = inr part;
      stopped = stopped_write c.in-Err-finish.fault rs all c.args.now dirs plan _ _ _ _ said.cause;
    }

pub returns-in-Err-finish-clause-unwritten : goal.returns-in-Err-finish-clause-unwritten
returns-in-Err-finish-clause-unwritten g c = λ dirs told was none. absurd (not_lacking c.in-Ok-scan_into.counts (c.in-Ok-scan_into.ensures.lacking dirs told none))
