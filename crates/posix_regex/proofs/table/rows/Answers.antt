use Rattle.std.proofs.Common.{◌≡◌, [], ◌∷◌, ◌++◌, length, IfSome, sym, ap, subst, arith, rules, length-append}
use Rattle.posix_regex.specs.declared.row.Row.{Row}
use Rattle.posix_regex.specs.Table.{AreRows, IsMade}
use Rattle.posix_regex.proofs.Tables.{rows_more}
use Rattle.posix_regex.proofs.table.rows.Goals as goal

pub loop-rows-preserved : goal.loop-rows-preserved
loop-rows-preserved g c =
    let inv = c.loop-rows.invariant in
    let e = c.in_ok-row.ensures in
    let items = c.args.states.now in
    let new = c.row.new.sets.items in
    let old = c.loop-rows.rows.items in
    let row : Row = c.in-Some.made in
    let more : c.push.new.self.items ≡ old ++ row ∷ [] = c.in_ok-push-in-Some.ensures.items in
    let here : IsMade items new c.len-number.result row = subst (λ o. IfSome o (λ x. IsMade items new c.len-number.result x)) c.in-Some.is e.value in
    let at : c.len-number.result ≡ length old = search rules in
    let made : IsMade items new (length old) row = subst (λ k. IsMade items new k row) at here in
    record {
      now_width = e.now_width;
      next_width = e.next_width;
      few = e.few;
      within = omega (arith, ap length more, length-append old (row ∷ []), e.longer, c.loop-rows-test.true, c.len.ensures, c.len-in-loop-rows.ensures);
      first = e.grown 0 0 inv.first;
      made = subst (λ l. AreRows items new l) (sym more) (rows_more items c.loop-rows.sets.items new old row e.grown inv.made made);
    }
