use Rattle.std.proofs.Common.{◌≡◌, ◌↔◌, ◌+◌, true, slice_get, Some, refl, sym, ◌∙◌, subst, arith}
use Rattle.posix_regex.specs.Moves.{ReachesEnd}
use Rattle.posix_regex.proofs.Tables.{Stands, row_at, stands_first, stands_inside, stands_row, stands_found, stands_next, stands_on, stands_end}
use Rattle.posix_regex.proofs.table.search_by.Goals as goal

pub loop-at-init : goal.loop-at-init
loop-at-init g c = record {
  within = omega arith;
  stands = stands_first c.args.states.now c.args.rows.now c.args.text.now c.requires;
  rising = omega arith;
  bound = omega arith;
}

pub offset_bounds-rows-number : goal.offset_bounds-rows-number
offset_bounds-rows-number g c = omega (arith, c.loop-at.invariant.stands.low)

pub bounds-rows-number : goal.bounds-rows-number
bounds-rows-number g c = stands_inside c.args.states.now c.args.rows.now c.args.text.now c.loop-at.number c.loop-at.at c.loop-at.invariant.stands

pub offset_bounds-rows-number-2 : goal.offset_bounds-rows-number-2
offset_bounds-rows-number-2 g c = omega (arith, c.loop-at.invariant.stands.low)

pub bounds-rows-number-2 : goal.bounds-rows-number-2
bounds-rows-number-2 g c = stands_inside c.args.states.now c.args.rows.now c.args.text.now c.loop-at.number c.loop-at.at c.loop-at.invariant.stands

pub bounds-rows-number-in-loop-at : goal.bounds-rows-number-in-loop-at
bounds-rows-number-in-loop-at g c =
    let rows = c.args.rows.now in
    let number = c.loop-at.number in
    let at = c.loop-at.at in
    let st = c.loop-at.invariant.stands in
    rw c.after-entry.ensures.value
    (stands_inside c.args.states.now rows c.args.text.now _ (at + 1)
    (stands_next c.args.states.now rows c.args.text.now number at st (row_at rows number) (stands_row c.args.states.now rows c.args.text.now number at st) c.loop-at-test.true (omega (arith, c.type_inv.text)) (λ e. c.if-entry.false (c.after-entry.ensures.value ∙ e))))

pub returns-then-entry-clause-value : goal.returns-then-entry-clause-value
returns-then-entry-clause-value g c =
    let rows = c.args.rows.now in
    let number = c.loop-at.number in
    let at = c.loop-at.at in
    let st = c.loop-at.invariant.stands in (
      λ t. stands_found c.args.states.now rows c.args.text.now number at st (row_at rows number) (stands_row c.args.states.now rows c.args.text.now number at st) c.loop-at-test.true (omega (arith, c.type_inv.text)) (sym c.after-entry.ensures.value ∙ c.if-entry.true),
      λ h. refl,
    )

pub loop-at-preserved : goal.loop-at-preserved
loop-at-preserved g c =
    let items = c.args.states.now in
    let rows = c.args.rows.now in
    let text = c.args.text.now in
    let number = c.loop-at.number in
    let at = c.loop-at.at in
    let entry = c.after-entry.result in
    let st = c.loop-at.invariant.stands in
    let next : Stands items rows text entry (at + 1) = subst (λ n. Stands items rows text n (at + 1)) (sym c.after-entry.ensures.value)
    (stands_next items rows text number at st (row_at rows number) (stands_row items rows text number at st) c.loop-at-test.true (omega (arith, c.type_inv.text)) (λ e. c.if-entry.false (c.after-entry.ensures.value ∙ e))) in
    let e = c.next_place-at.ensures in
    record {
      within = e.within;
      stands = stands_on items rows text entry (row_at rows entry) (stands_row items rows text entry (at + 1) next) (λ k. omega (arith, c.type_inv.text k)) (at + 1) next c.next_place-at.result e.from e.within e.none;
      rising = omega (arith, c.loop-at.invariant.rising, c.after-entry.ensures.counted);
      bound = omega (arith, c.loop-at.invariant.bound, c.after-entry.ensures.counted, e.from);
    }

pub returns-clause-value : goal.returns-clause-value
returns-clause-value g c =
    let rows = c.args.rows.now in
    let number = c.loop-at.number in
    let at = c.loop-at.at in
    let st = c.loop-at.invariant.stands in
    subst (λ b. (b ≡ true) ↔ ReachesEnd c.args.states.now c.args.text.now) (sym c.ends.ensures)
    (stands_end c.args.states.now rows c.args.text.now number at st (row_at rows number) (stands_row c.args.states.now rows c.args.text.now number at st) (omega (arith, c.loop-at-test.false, c.loop-at.invariant.within)))
