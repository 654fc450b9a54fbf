use Rattle.std.proofs.Common.{◌≡◌, ◌-◌, ◌+◌, ◌<◌, ◌≤◌, ◌++◌, ℕ, Bool, true, false, eqb, List, Option, Result, Ok, Err, length, take, drop, ap, subst, sym, ◌∙◌, length-append, length-take, arith}
use Rattle.std.specs.Prelude.{ℤ, pos, ◌+ℤ◌, ◌-ℤ◌}
use Rattle.std.specs.Int.{w32}
use Rattle.std.proofs.lemmas.Bool.{eqb-true, eqb-false}
use Rattle.std.proofs.lemmas.List.{take-append-drop}
use mir.Val.{to_z, of_z}
use Rattle.byte_feed.specs.declared.damage.Stop.{Stop}
use Rattle.byte_feed.specs.declared.damage.Break.{Break}
use Rattle.byte_feed.specs.Feed.{FeedState}
use Rattle.byte_feed.proofs.Draws.{draws_then}
use Rattle.byte_feed.specs.Calls.{Shares}
use Rattle.byte_feed.specs.Field.{max_path}
use Rattle.bigram_db.specs.Items.{is_in_range, shared_within}
use Rattle.bigram_db.specs.Entries.{UnitsKnown}
use Rattle.bigram_db.proofs.EntryReads.{entry_count, entry_shared, entry_units, entry_ok, entry_empty}
use Rattle.bigram_db.proofs.Words.{range_same}
use Rattle.bigram_db.proofs.stream.read_entry.Goals as goal

-- the shared length, by the value itself
shared_at : (path bytes : List ℕ) (old : ℕ) (value : ℤ) (r : Result ℕ Stop) → bytes ≡ path → is_in_range value ≡ true → r ≡ shared_within (length bytes) (pos old +ℤ (to_z w32 (of_z w32 value) -ℤ pos 14)) → shared_within (length path) (pos old +ℤ (value -ℤ pos 14)) ≡ r
shared_at path bytes old value r same range e =
    sym (e ∙ ap (λ (l : List ℕ). shared_within (length l) (pos old +ℤ (to_z w32 (of_z w32 value) -ℤ pos 14))) same ∙ ap (λ (v : ℤ). shared_within (length path) (pos old +ℤ (v -ℤ pos 14))) (range_same value range))

cut_len : (path cut bytes : List ℕ) (shared : ℕ) → cut ≡ take shared path → bytes ≡ path → shared ≤ length bytes → length cut ≡ shared
cut_len path cut bytes shared is same within = omega (arith, ap length is, length-take shared path, ap length same, within)

-- the room, by the shared length
units_at_shared : (table cut text : List ℕ) (shared : ℕ) (f f' : FeedState) (l l' : Option (List ℕ)) (r : Result (Unit {0}) Break) → length cut ≡ shared → UnitsKnown table (4096 - length cut) text f l f' l' r → UnitsKnown table (max_path - shared) text f l f' l' r
units_at_shared table cut text shared f f' l l' r len u = subst (λ (n : ℕ). UnitsKnown table (4096 - n) text f l f' l' r) len u

path_parts : (path cut new : List ℕ) (shared : ℕ) → cut ≡ take shared path → take (length cut) new ≡ cut → new ≡ take shared path ++ drop (length cut) new
path_parts path cut new shared is begins = sym (take-append-drop (length cut) new) ∙ ap (λ (l : List ℕ). l ++ drop (length cut) new) (begins ∙ is)

parts_len : (path cut new : List ℕ) (shared : ℕ) → length cut ≡ shared → cut ≡ take shared path → take (length cut) new ≡ cut → length new ≡ shared + length (drop (length cut) new)
parts_len path cut new shared len is begins = omega (arith, ap length (path_parts path cut new shared is begins), length-append (take shared path) (drop (length cut) new), ap length is, len)

-- what stands before a path's rest is what was left of the path before
shares_cut : (path cut new : List ℕ) (shared : ℕ) → length cut ≡ shared → cut ≡ take shared path → take (length cut) new ≡ cut → Shares shared path new
shares_cut path cut new shared len is begins = record {
  within = omega (arith, parts_len path cut new shared len is begins);
  same = subst (λ (n : ℕ). take n new ≡ cut) len begins ∙ is;
}

empty_len : (bytes path : List ℕ) (b : Bool) → bytes ≡ path → b ≡ eqb (length bytes) 0 → b ≡ true → length path ≡ 0
empty_len bytes path b same is e = ap length (sym same) ∙ eqb-true (length bytes) 0 (sym is ∙ e)

some_len : (bytes path : List ℕ) (b : Bool) → bytes ≡ path → b ≡ eqb (length bytes) 0 → b ≡ false → 0 < length path
some_len bytes path b same is e = omega (arith, ap length same, eqb-false (length bytes) 0 (sym is ∙ e))

pub returns-in-Err-clause-entry : goal.returns-in-Err-clause-entry
returns-in-Err-clause-entry g c = entry_count c.args.table.now c.args.path.now c.args.path.now c.args.old c.args.feed.now c.read_count.new.feed (g.S.Source.left c.args.src.now) (g.S.Source.left c.read_count.new.src) c.in-Err.cause c.in-Err.ensures.count

pub returns-in-Err-shared_after-clause-entry : goal.returns-in-Err-shared_after-clause-entry
returns-in-Err-shared_after-clause-entry g c =
    entry_shared c.args.table.now c.args.path.now c.args.path.now c.args.old c.in-Ok.value c.in-Err-shared_after.stop c.args.feed.now c.read_count.new.feed (g.S.Source.left c.args.src.now) (g.S.Source.left c.read_count.new.src) c.in-Ok.ensures.count
    (shared_at c.args.path.now c.bytes-len.result.now c.args.old c.in-Ok.value (Err c.in-Err-shared_after.stop) c.bytes-len.ensures.value c.in-Ok.ensures.value c.in-Err-shared_after.ensures.shared)

pub returns-in-Err-read_units-clause-entry : goal.returns-in-Err-read_units-clause-entry
returns-in-Err-read_units-clause-entry g c =
    let shared = c.in-Ok-shared_after.shared in
    let cut = c.cut.new.self in
    let text = drop (length cut) c.read_units.new.path in
    let len = cut_len c.args.path.now cut c.bytes-len.result.now shared c.cut.ensures c.bytes-len.ensures.value c.in-Ok-shared_after.ensures.within in
    entry_units c.args.table.now c.args.path.now c.read_units.new.path c.args.old shared c.in-Ok.value text c.args.feed.now c.read_count.new.feed c.read_units.new.feed (g.S.Source.left c.args.src.now) (g.S.Source.left c.read_count.new.src) (g.S.Source.left c.read_units.new.src) c.in-Err-read_units.cause c.in-Ok.ensures.count
    (shared_at c.args.path.now c.bytes-len.result.now c.args.old c.in-Ok.value (Ok shared) c.bytes-len.ensures.value c.in-Ok.ensures.value c.in-Ok-shared_after.ensures.shared)
    (units_at_shared c.args.table.now cut text shared c.read_count.new.feed c.read_units.new.feed (g.S.Source.left c.read_count.new.src) (g.S.Source.left c.read_units.new.src) (Err c.in-Err-read_units.cause) len c.in-Err-read_units.ensures.units)

pub returns-then-is_empty-clause-entry : goal.returns-then-is_empty-clause-entry
returns-then-is_empty-clause-entry g c =
    let shared = c.in-Ok-shared_after.shared in
    let cut = c.cut.new.self in
    let new = c.read_units.new.path in
    let text = drop (length cut) new in
    let u = c.in-Ok-read_units.ensures in
    let len = cut_len c.args.path.now cut c.bytes-len.result.now shared c.cut.ensures c.bytes-len.ensures.value c.in-Ok-shared_after.ensures.within in
    let none = empty_len c.bytes.result.now new c.is_empty.result c.bytes.ensures.value c.is_empty.ensures c.if-is_empty.true in
    entry_empty c.args.table.now c.args.path.now new c.args.old shared c.in-Ok.value text c.args.feed.now c.read_count.new.feed c.read_units.new.feed (g.S.Source.left c.args.src.now) (g.S.Source.left c.read_count.new.src) (g.S.Source.left c.read_units.new.src) c.in-Ok.ensures.count
    (shared_at c.args.path.now c.bytes-len.result.now c.args.old c.in-Ok.value (Ok shared) c.bytes-len.ensures.value c.in-Ok.ensures.value c.in-Ok-shared_after.ensures.shared)
    (units_at_shared c.args.table.now cut text shared _ _ _ _ (Ok tt) len u.units)
    (omega (arith, none, parts_len c.args.path.now cut new shared len c.cut.ensures u.begins))

pub returns-clause-entry : goal.returns-clause-entry
returns-clause-entry g c =
    let shared = c.in-Ok-shared_after.shared in
    let cut = c.cut.new.self in
    let new = c.read_units.new.path in
    let text = drop (length cut) new in
    let u = c.in-Ok-read_units.ensures in
    let len = cut_len c.args.path.now cut c.bytes-len.result.now shared c.cut.ensures c.bytes-len.ensures.value c.in-Ok-shared_after.ensures.within in
    let some = some_len c.bytes.result.now new c.is_empty.result c.bytes.ensures.value c.is_empty.ensures c.if-is_empty.false in
    entry_ok c.args.table.now c.args.path.now new c.args.old shared c.in-Ok.value text c.args.feed.now c.read_count.new.feed c.read_units.new.feed (g.S.Source.left c.args.src.now) (g.S.Source.left c.read_count.new.src) (g.S.Source.left c.read_units.new.src) c.in-Ok.ensures.count
    (shared_at c.args.path.now c.bytes-len.result.now c.args.old c.in-Ok.value (Ok shared) c.bytes-len.ensures.value c.in-Ok.ensures.value c.in-Ok-shared_after.ensures.shared)
    (units_at_shared c.args.table.now cut text shared _ _ _ _ (Ok tt) len u.units)
    (path_parts c.args.path.now cut new shared c.cut.ensures u.begins)
    (omega (arith, some, parts_len c.args.path.now cut new shared len c.cut.ensures u.begins))

pub returns-clause-shares : goal.returns-clause-shares
returns-clause-shares g c =
    let shared = c.in-Ok-shared_after.shared in
    let cut = c.cut.new.self in
    let new = c.read_units.new.path in
    let u = c.in-Ok-read_units.ensures in
    let len = cut_len c.args.path.now cut c.bytes-len.result.now shared c.cut.ensures c.bytes-len.ensures.value c.in-Ok-shared_after.ensures.within in
    shares_cut c.args.path.now cut new shared len c.cut.ensures u.begins

pub returns-in-Err-read_units-clause-drawn : goal.returns-in-Err-read_units-clause-drawn
returns-in-Err-read_units-clause-drawn g c = draws_then _ _ _ _ _ _ _ _ _ c.in-Ok.ensures.drawn c.in-Err-read_units.ensures.drawn

pub returns-then-is_empty-clause-drawn : goal.returns-then-is_empty-clause-drawn
returns-then-is_empty-clause-drawn g c = draws_then _ _ _ _ _ _ _ _ _ c.in-Ok.ensures.drawn c.in-Ok-read_units.ensures.drawn

pub returns-clause-drawn : goal.returns-clause-drawn
returns-clause-drawn g c = draws_then _ _ _ _ _ _ _ _ _ c.in-Ok.ensures.drawn c.in-Ok-read_units.ensures.drawn
