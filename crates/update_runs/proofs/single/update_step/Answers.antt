use Rattle.std.proofs.Common.{◌-◌, ◌∙◌, refl, arith, subst, ℕ, List, Some, Option}
use Rattle.loc_outside.specs.Memory.{Lent}
use Rattle.tree_scan.specs.Plans.{plan_of}
use Rattle.dir_reuse.specs.Stream.{OpensKnown}
use Rattle.update_runs.proofs.Updated.{asked, found_of, lacks_none, opened, refused, risen, updated}
use Rattle.update_runs.proofs.single.update_step.Goals as goal

pub returns-in-Ok-clause-done : goal.returns-in-Ok-clause-done
returns-in-Ok-clause-done c =
    let plan = plan_of c.args.rules.now in
    let cursor = c.open_on-voucher.result.cursor in
    let left : Option (List ℕ) = Some c.open_on-voucher.result.src.now.left in
    let opens : OpensKnown plan.root plan.block (Some c.args.old.now) cursor left =
    subst (λ (b : List ℕ). OpensKnown plan.root b (Some c.args.old.now) cursor left) c.requires.same
    (subst (λ (s : Lent). OpensKnown plan.root c.args.block.now (Some s.left) cursor left) c.new-source.ensures c.open_on-voucher.ensures.opened) in
    updated plan c.args.old.now c.args.step.now _ _ c.standard.result c.args.into.now.held.pending c.scan-scanned.new.sink.held.pending c.in-Ok.counts _ _ _ _ _
    (opened plan c.args.old.now left cursor c.scan-scanned.new.voucher.cursor opens c.open_on-voucher.ensures.broke c.scan-scanned.ensures.voucher_kept.2.unbroken)
    c.standard.ensures c.requires.empty (let h = c.requires.openings in omega (arith, h)) refl
    (c.saturating_sub.ensures ∙ (λ i. c.openings.ensures.told i - c.openings-before.ensures.told i))
    c.in-Ok.ensures.done c.in-Ok.ensures.completed
    (λ gone. lacks_none c.in-Ok.counts (c.in-Ok.ensures.lacking c.args.step.now.tree.dirs refl gone))

pub returns-in-Err-clause-refused : goal.returns-in-Err-clause-refused
returns-in-Err-clause-refused c =
    let plan = plan_of c.args.rules.now in
    let cursor = c.open_on-voucher.result.cursor in
    let left : Option (List ℕ) = Some c.open_on-voucher.result.src.now.left in
    let opens : OpensKnown plan.root plan.block (Some c.args.old.now) cursor left =
    subst (λ (b : List ℕ). OpensKnown plan.root b (Some c.args.old.now) cursor left) c.requires.same
    (subst (λ (s : Lent). OpensKnown plan.root c.args.block.now (Some s.left) cursor left) c.new-source.ensures c.open_on-voucher.ensures.opened) in
    refused plan c.args.old.now c.args.step.now.tree.dirs _ _ c.standard.result c.in-Err.fault c.fault_of_scan.result
    (opened plan c.args.old.now left cursor c.scan-scanned.new.voucher.cursor opens c.open_on-voucher.ensures.broke c.scan-scanned.ensures.voucher_kept.2.unbroken)
    c.standard.ensures c.fault_of_scan.ensures c.in-Err.ensures.found c.in-Err.ensures.exceeded c.in-Err.ensures.lacking

pub returns-in-Ok-clause-counted : goal.returns-in-Ok-clause-counted
returns-in-Ok-clause-counted c = risen _ _ _ (c.saturating_sub.ensures ∙ (λ i. c.openings.ensures.told i - c.openings-before.ensures.told i))

pub returns-in-Ok-clause-asked : goal.returns-in-Ok-clause-asked
returns-in-Ok-clause-asked c =
    let plan = plan_of c.args.rules.now in
    let cursor = c.open_on-voucher.result.cursor in
    let left : Option (List ℕ) = Some c.open_on-voucher.result.src.now.left in
    let opens : OpensKnown plan.root plan.block (Some c.args.old.now) cursor left =
    subst (λ (b : List ℕ). OpensKnown plan.root b (Some c.args.old.now) cursor left) c.requires.same
    (subst (λ (s : Lent). OpensKnown plan.root c.args.block.now (Some s.left) cursor left) c.new-source.ensures c.open_on-voucher.ensures.opened) in
    asked plan c.args.old.now c.args.step.now.tree.dirs _ _ _ _ _ _ _
    (opened plan c.args.old.now left cursor c.scan-scanned.new.voucher.cursor opens c.open_on-voucher.ensures.broke c.scan-scanned.ensures.voucher_kept.2.unbroken)
    c.scan-scanned.ensures.asked_of

pub returns-in-Err-clause-asked : goal.returns-in-Err-clause-asked
returns-in-Err-clause-asked c =
    let plan = plan_of c.args.rules.now in
    let cursor = c.open_on-voucher.result.cursor in
    let left : Option (List ℕ) = Some c.open_on-voucher.result.src.now.left in
    let opens : OpensKnown plan.root plan.block (Some c.args.old.now) cursor left =
    subst (λ (b : List ℕ). OpensKnown plan.root b (Some c.args.old.now) cursor left) c.requires.same
    (subst (λ (s : Lent). OpensKnown plan.root c.args.block.now (Some s.left) cursor left) c.new-source.ensures c.open_on-voucher.ensures.opened) in
    asked plan c.args.old.now c.args.step.now.tree.dirs _ _ _ _ _ _ _
    (opened plan c.args.old.now left cursor c.scan-scanned.new.voucher.cursor opens c.open_on-voucher.ensures.broke c.scan-scanned.ensures.voucher_kept.2.unbroken)
    c.scan-scanned.ensures.asked_of

pub returns-in-Err-clause-found : goal.returns-in-Err-clause-found
returns-in-Err-clause-found c = found_of c.standard.result c.in-Err.fault c.fault_of_scan.result _ c.args.step.now.tree.dirs c.standard.ensures c.fault_of_scan.ensures c.in-Err.ensures.found
