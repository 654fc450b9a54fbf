use Rattle.std.proofs.Common.{◌≡◌, ◌≢◌, ◌<◌, ◌≤◌, ◌==◌, length, get_or, set, slice_get, Some, IfSome, refl, sym, ◌∙◌, subst, ⊎_elim, arith, length-set, get_or-set_other, get_or-set_same}
use Rattle.std.proofs.lemmas.Bool.{cases_lt}
use Rattle.std.proofs.lemmas.Option.{slice_get_read}
use Rattle.posix_regex.specs.Table.{Entry, Ends}
use Rattle.posix_regex.proofs.Tables.{entry_grown}
use Rattle.posix_regex.proofs.table.row.Goals as goal

pub loop-byte-preserved : goal.loop-byte-preserved
loop-byte-preserved g c =
    let inv = c.loop-byte.invariant in
    let e = c.in_ok-entry.ensures in
    let items = c.args.states.now in
    let new = c.entry.new.sets.items in
    let first = c.args.number == 0 in
    let number = c.index-set.result.now in
    let byte = c.loop-byte.byte in
    let v = c.in-Some.next_entry in
    let old = c.loop-byte.entries in
    let within : byte < length old = omega (arith, inv.len, c.loop-byte-test.true) in
    let here : Entry items new first byte number v = subst (λ o. IfSome o (λ x. Entry items new first byte number x)) c.in-Some.is e.value in
    record {
      now_width = e.now_width;
      next_width = e.next_width;
      grown = λ i w is. e.grown i w (inv.grown i w is);
      few = e.few;
      longer = omega (arith, inv.longer, e.longer);
      len = length-set old byte v ∙ inv.len;
      entries = λ b lt. ⊎_elim
          (λ (before : b < byte).
          let ne : b ≢ byte = λ same. omega (arith, same, before) in
          subst (λ x. Entry items new first b number x) (sym (get_or-set_other old byte b v 0 ne))
          (entry_grown items c.loop-byte.sets.items new first b number (get_or old b 0) e.grown (inv.entries b before)))
          (λ (last : byte ≤ b).
          let same : b ≡ byte = omega (arith, last, lt) in
          subst (λ k. Entry items new first k number (get_or (set old byte v) k 0)) (sym same)
          (subst (λ x. Entry items new first byte number x) (sym (get_or-set_same old byte v 0 within)) here))
          (cases_lt b byte);
    }

pub returns-clause-value : goal.returns-clause-value
returns-clause-value g c =
    let set = c.index-set.result.now in
    let inv = c.loop-byte.invariant in
    let is : slice_get c.args.sets.now.items c.args.number ≡ Some set = slice_get_read c.args.sets.now.items (length c.args.sets.now.items) c.args.number set refl c.requires.some c.index-set.ensures in (
      set,
      inv.grown c.args.number set is,
      record {
        entries = λ b fits. subst (λ l. Entry c.args.states.now c.loop-byte.sets.items (c.args.number == 0) b set (get_or l b 0)) (sym c.new.ensures.next)
            (inv.entries b (omega (arith, c.loop-byte-test.false, c.loop-byte.auto.byte-end, fits)));
        ends = subst (λ x. Ends c.args.states.now (c.args.number == 0) set x) (sym c.new.ensures.end) c.ends-end.ensures.value;
        leaving = rw c.new.ensures.next c.new.ensures.leaving;
      },
    )
