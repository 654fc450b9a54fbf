use Rattle.std.proofs.Common.{sym, ◌∙◌, arith}
use Rattle.std.proofs.lemmas.Bool.{false≢true}
use Rattle.posix_regex.proofs.Inserted.{contains_at, place_of}
use Rattle.posix_regex.proofs.Tables.{has-none}
use Rattle.posix_regex.proofs.table.set_of.Goals as goal

pub loop-k-init : goal.loop-k-init
loop-k-init c = record {
  within = omega arith;
  so_far = λ s. (λ t. absurd (false≢true (sym (has-none s) ∙ t)), λ h. absurd (omega (arith, h.1)));
}

pub returns : goal.returns
returns c = λ s. (
  λ t.
      let m = (c.loop-k.invariant.so_far s).0 t in
      contains_at c.args.reached.now.order m.0 s (omega (arith, m.1, c.loop-k.invariant.within)) (sym m.2),
  λ h.
      let p = place_of c.args.reached.now.order s h in
      (c.loop-k.invariant.so_far s).1 (p.0, omega (arith, p.1, c.loop-k-test.false, c.len.ensures.value), p.2),
)
