use Rattle.std.proofs.Common.{◌≡◌, ◌^◌, ◌-◌, ◌≤◌, IsTrue, false}
use Rattle.loc_outside.specs.Causes.{Rose}
use Rattle.tree_scan.specs.Plans.{plan_of}
use Rattle.dir_reuse.specs.Answering.{is_sound}
use Rattle.dir_reuse.specs.Keeping.{SomeKept}
use Rattle.dir_reuse.proofs.map_voucher.MapVoucher.open_on.Given as goal

abbrev pub invariant-heads : goal.invariant-heads
invariant-heads g l = record {
  kept_so_far : SomeKept (plan_of l.rules).root l.block (g.S.Source.left l.fn.src) l.kept.items l.cursor (g.S.Source.left l.src);
  sound : IsTrue (is_sound l.cursor);
  apart : l.cursor.at_head ≡ false;
  broke : l.cursor.unbroken ≡ false → Rose (g.S.Source.faults l.fn.src) (g.S.Source.faults l.src);
  faults : g.S.Source.faults l.fn.src ≤ g.S.Source.faults l.src;
  kept : g.S.Source.kept l.fn.src l.src;
}

abbrev pub decreases-heads : goal.decreases-heads
decreases-heads g l = 2 ^ 40 - l.cursor.reader.place
