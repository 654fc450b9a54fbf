use Rattle.std.proofs.Common.{List, ℕ, Option, Some, subst, sym, arith}
use Rattle.tree_scan.specs.Plans.{plan_of}
use Rattle.tree_scan.specs.Records.{Record}
use Rattle.dir_reuse.specs.Keeping.{GivesKnown, SomeKept}
use Rattle.dir_reuse.proofs.Keeping.{broke_then, keeps_all, keeps_begin, keeps_more, keeps_same, keeps_stay}
use Rattle.dir_reuse.specs.Stream.{OpensKnown}
use Rattle.dir_reuse.proofs.map_voucher.MapVoucher.open_on.Goals as goal

pub heads-init : goal.heads-init
heads-init g c = record {
  kept_so_far = subst (λ (rs : List Record). SomeKept (plan_of c.args.rules.now).root c.args.block.now (g.S.Source.left c.args.src.now) rs c.open_on-cursor.result (g.S.Source.left c.open_on-cursor.new.src)) (sym c.new-kept.ensures.items)
      (keeps_begin (plan_of c.args.rules.now).root c.args.block.now (g.S.Source.left c.args.src.now) c.open_on-cursor.result (g.S.Source.left c.open_on-cursor.new.src) (subst (λ (p : List ℕ). OpensKnown p c.args.block.now (g.S.Source.left c.args.src.now) c.open_on-cursor.result (g.S.Source.left c.open_on-cursor.new.src)) c.bytes.ensures.value c.open_on-cursor.ensures.opened));
  sound = c.open_on-cursor.ensures.sound;
  apart = c.open_on-cursor.ensures.apart;
  broke = c.open_on-cursor.ensures.broke;
  faults = c.open_on-cursor.ensures.later;
  kept = c.open_on-cursor.ensures.kept;
}

pub heads-preserved : goal.heads-preserved
heads-preserved g c =
    let head = c.next_head.ensures in
    let taken = c.in_ok-found.ensures in
    let before = keeps_stay (plan_of c.args.rules.now).root c.args.block.now (g.S.Source.left c.args.src.now) c.heads.kept.items c.heads.cursor c.next_head.new.self _ _ head.unbroken c.heads.invariant.kept_so_far head.stays in
    record {
      kept_so_far = keeps_same (plan_of c.args.rules.now).root c.args.block.now (g.S.Source.left c.args.src.now) c.heads.kept.items c.next_head.new.self c.take_record.new.self _ _ taken.unbroken before (subst (λ (o : Option Record). GivesKnown o c.next_head.new.self (g.S.Source.left c.next_head.new.src) c.take_record.new.self (g.S.Source.left c.take_record.new.src)) c.in-None.is taken.gives);
      sound = taken.sound;
      apart = taken.apart;
      broke = λ e. broke_then c.next_head.new.self.unbroken c.take_record.new.self.unbroken (g.S.Source.faults c.args.src.now) (g.S.Source.faults c.next_head.new.src) (g.S.Source.faults c.take_record.new.src) (omega (arith, c.heads.invariant.faults, head.later)) taken.later
          (λ e. broke_then c.heads.cursor.unbroken c.next_head.new.self.unbroken (g.S.Source.faults c.args.src.now) (g.S.Source.faults c.heads.src) (g.S.Source.faults c.next_head.new.src) c.heads.invariant.faults head.later c.heads.invariant.broke head.broke e) taken.broke e;
      faults = omega (arith, c.heads.invariant.faults, head.later, taken.later);
      kept = g.met.S.Source.keeps_on _ _ _ c.heads.invariant.kept (g.met.S.Source.keeps_on _ _ _ head.kept taken.kept);
    }

pub heads-preserved-in-Continue-branch-2 : goal.heads-preserved-in-Continue-branch-2
heads-preserved-in-Continue-branch-2 g c =
    let head = c.next_head.ensures in
    let taken = c.in_ok-found.ensures in
    let before = keeps_stay (plan_of c.args.rules.now).root c.args.block.now (g.S.Source.left c.args.src.now) c.heads.kept.items c.heads.cursor c.next_head.new.self _ _ head.unbroken c.heads.invariant.kept_so_far head.stays in
    record {
      kept_so_far = subst (λ (rs : List Record). SomeKept (plan_of c.args.rules.now).root c.args.block.now (g.S.Source.left c.args.src.now) rs c.take_record.new.self (g.S.Source.left c.take_record.new.src)) (sym c.in_ok-push-in-Some.ensures.items)
          (keeps_more (plan_of c.args.rules.now).root c.args.block.now (g.S.Source.left c.args.src.now) c.heads.kept.items (Some c.in-Some.record) c.next_head.new.self c.take_record.new.self _ _ taken.unbroken before
          (subst (λ (o : Option Record). GivesKnown o c.next_head.new.self (g.S.Source.left c.next_head.new.src) c.take_record.new.self (g.S.Source.left c.take_record.new.src)) c.in-Some.is taken.gives));
      sound = taken.sound;
      apart = taken.apart;
      broke = λ e. broke_then c.next_head.new.self.unbroken c.take_record.new.self.unbroken (g.S.Source.faults c.args.src.now) (g.S.Source.faults c.next_head.new.src) (g.S.Source.faults c.take_record.new.src) (omega (arith, c.heads.invariant.faults, head.later)) taken.later
          (λ e. broke_then c.heads.cursor.unbroken c.next_head.new.self.unbroken (g.S.Source.faults c.args.src.now) (g.S.Source.faults c.heads.src) (g.S.Source.faults c.next_head.new.src) c.heads.invariant.faults head.later c.heads.invariant.broke head.broke e) taken.broke e;
      faults = omega (arith, c.heads.invariant.faults, head.later, taken.later);
      kept = g.met.S.Source.keeps_on _ _ _ c.heads.invariant.kept (g.met.S.Source.keeps_on _ _ _ head.kept taken.kept);
    }

pub returns-in_err-found-clause-kept : goal.returns-in_err-found-clause-kept
returns-in_err-found-clause-kept g c = g.met.S.Source.keeps_on _ _ _ c.heads.invariant.kept (g.met.S.Source.keeps_on _ _ _ c.next_head.ensures.kept c.in_err-found.ensures.kept)

pub returns-in_err-push-in-Some-clause-kept : goal.returns-in_err-push-in-Some-clause-kept
returns-in_err-push-in-Some-clause-kept g c = g.met.S.Source.keeps_on _ _ _ c.heads.invariant.kept (g.met.S.Source.keeps_on _ _ _ c.next_head.ensures.kept c.in_ok-found.ensures.kept)

pub returns-clause-records : goal.returns-clause-records
returns-clause-records g c =
    keeps_all (plan_of c.args.rules.now).root c.args.block.now (g.S.Source.left c.args.src.now) c.heads.kept.items c.next_head.new.self (g.S.Source.left c.next_head.new.src) (c.next_head.ensures.closed c.heads-test.false)
    (keeps_stay (plan_of c.args.rules.now).root c.args.block.now (g.S.Source.left c.args.src.now) c.heads.kept.items c.heads.cursor c.next_head.new.self _ _ c.next_head.ensures.unbroken c.heads.invariant.kept_so_far c.next_head.ensures.stays)
