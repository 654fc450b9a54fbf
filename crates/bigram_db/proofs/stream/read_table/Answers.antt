use Rattle.std.proofs.Common.{◌≡◌, ap, sym, ◌∙◌, arith, List, [], ℕ, length, take, Ok, refl, length-drop, length-take}
use Rattle.byte_feed.specs.declared.damage.Stop.TheVariants.{NotADatabase}
use Rattle.byte_feed.proofs.Draws.{draws_then, draws_still}
use Rattle.byte_feed.proofs.Wants.{looked_fault, looked_ok, looked_err}
use Rattle.bigram_db.specs.Items.{table_at}
use Rattle.bigram_db.proofs.EntryReads.{table_wants, table_there, table_not}
use Rattle.bigram_db.proofs.stream.read_table.Goals as goal

pub returns-in_default-clause-table : goal.returns-in_default-clause-table
returns-in_default-clause-table g c = looked_fault 256 (λ t. t) table_at table_wants _ _ _ _ c.in_default.ensures.took c.in_default.ensures.going.1 c.in_default.ensures.few

pub returns-in_default-table_of-clause-table : goal.returns-in_default-table_of-clause-table
returns-in_default-table_of-clause-table g c =
    let e = c.in-Ok.ensures in
    let none = table_not c.ahead.result.now (omega (arith, ap length c.ahead.ensures, length-take c.in-Ok.count c.look.new.self.held, e.want)) c.in_default-table_of.ensures in
    looked_err 256 c.in-Ok.count (λ (t : List ℕ). t) table_at table_wants _ _ _ _ NotADatabase e.took e.held e.all e.bound (ap table_at (sym c.ahead.ensures) ∙ none)

pub returns-clause-table : goal.returns-clause-table
returns-clause-table g c =
    let e = c.in-Ok.ensures in
    let some = c.in-Some.ensures in
    let read : table_at (take c.in-Ok.count c.look.new.self.held) ≡ Ok (c.in-Some.table, []) =
    ap table_at (sym c.ahead.ensures) ∙ table_there c.ahead.result.now some.1 ∙ ap (λ (t : List ℕ). Ok (t, [])) (sym some.0) in
    looked_ok 256 c.in-Ok.count (λ t. t) table_at table_wants _ _ _ _ _ c.in-Some.table [] e.took e.want e.held read c.pass.ensures.held c.pass.ensures.ended c.pass.ensures.offset (omega (arith, c.pass.ensures.bound))

pub returns-clause-drawn : goal.returns-clause-drawn
returns-clause-drawn g c =
    draws_then _ c.look.new.self _ _ _ _ _ _ _ c.in-Ok.ensures.drawn
    (draws_still c.look.new.self c.pass.new.self _ _ _ _ (omega (arith, c.pass.ensures.offset, ap length c.pass.ensures.held, length-drop c.in-Ok.count c.look.new.self.held, c.in-Ok.ensures.held)) c.pass.ensures.ended refl refl)
