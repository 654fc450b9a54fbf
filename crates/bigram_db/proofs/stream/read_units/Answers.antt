use Rattle.std.proofs.Common.{◌≡◌, ◌+◌, ◌-◌, ◌≤◌, ℕ, List, Option, Ok, Err, length, take, drop, refl, ap, subst, ◌∙◌, length-drop, arith}
use Rattle.std.proofs.lemmas.List.{take_all}
use Rattle.byte_feed.proofs.Draws.{draws_none, draws_still, draws_then}
use Rattle.byte_feed.specs.Feed.{FeedState, Draws}
use Rattle.bigram_db.specs.Entries.{SpellsText, UnitKnown}
use Rattle.bigram_db.proofs.EntryReads.{SoFarKnown, so_far_none, so_far_held, so_far_more, units_done, units_cut, units_unit}
use Rattle.bigram_db.proofs.UnitPushes.{nothing_behind, more_behind, same_front}
use Rattle.bigram_db.proofs.stream.read_units.Goals as goal

none_read : (path table : List ℕ) (f : FeedState) (l : Option (List ℕ)) → SoFarKnown table (4096 - length path) (drop (length path) path) f l f l
none_read path table f l = subst (λ (t : List ℕ). SoFarKnown table (4096 - length path) t f l f l) (nothing_behind path) (so_far_none table (4096 - length path) f l)

pub units-init : goal.units-init
units-init g c = record {
  begins = take_all (length c.args.path.now) c.args.path.now (omega arith);
  read = none_read c.args.path.now c.args.table.now _ _;
  grown = omega arith;
  plain = c.requires.plain;
  fits = omega (arith, c.bytes.ensures.fits, ap length c.bytes.ensures.value);
  forth = omega arith;
  near = omega arith;
  drawn = draws_none _ _ _;
  faults = omega arith;
  kept = g.met.S.Source.keeps_itself _;
}

-- bytes that were held and are passed over
drawn_past : (count : ℕ) (f f' : FeedState) (given : ℕ) (l : Option (List ℕ)) → count ≤ length f.held → f'.held ≡ drop count f.held → f'.offset ≡ f.offset + count → f'.ended ≡ f.ended → Draws f f' given given l l
drawn_past count f f' given l within held offset ended =
    draws_still f f' given given l l (omega (arith, within, ap length held, length-drop count f.held, offset)) ended refl refl

room_left : (n : ℕ) (path : List ℕ) → n ≤ length path → 4096 - length path ≡ 4096 - n - length (drop n path)
room_left n path le = omega (arith, length-drop n path, le)

pub returns-in-Ok-None-clause-units : goal.returns-in-Ok-None-clause-units
returns-in-Ok-None-clause-units g c =
    let n = length c.args.path.now in
    let table = c.args.table.now in
    let left = g.S.Source.left in
    let i = c.units.invariant in
    let path = c.push_units-count.new.path in
    let p = c.push_units-count.ensures in
    let count = c.push_units-count.result in
    let passed = c.pass.ensures in
    let held = c.held.ensures.value in
    let grown : n ≤ length path = omega (arith, i.grown, p.grown) in
    let within : count ≤ length c.units.feed.held = subst (λ (l : List ℕ). count ≤ length l) held p.within in
    let spells : SpellsText table (take count c.units.feed.held) (drop (length c.units.path) path) = subst (λ (l : List ℕ). SpellsText table (take count l) (drop (length c.units.path) path)) held p.units in
    let read = so_far_held table n count c.units.path path c.args.feed.now c.units.feed c.pass.new.self (left c.args.src.now) (left c.units.src) i.grown p.begins (omega (arith, p.grown)) p.fits spells within passed.held passed.ended passed.offset passed.bound i.read in
    units_done table (4096 - n) (drop n path) _ _ _ _ _ _ read (rw c.in-Ok-None.field-0-is at c.in-Ok-None.ensures.next)

pub returns-in-Err-clause-units : goal.returns-in-Err-clause-units
returns-in-Err-clause-units g c =
    let n = length c.args.path.now in
    let table = c.args.table.now in
    let left = g.S.Source.left in
    let i = c.units.invariant in
    let path = c.push_units-count.new.path in
    let p = c.push_units-count.ensures in
    let count = c.push_units-count.result in
    let passed = c.pass.ensures in
    let held = c.held.ensures.value in
    let grown : n ≤ length path = omega (arith, i.grown, p.grown) in
    let within : count ≤ length c.units.feed.held = subst (λ (l : List ℕ). count ≤ length l) held p.within in
    let spells : SpellsText table (take count c.units.feed.held) (drop (length c.units.path) path) = subst (λ (l : List ℕ). SpellsText table (take count l) (drop (length c.units.path) path)) held p.units in
    let read = so_far_held table n count c.units.path path c.args.feed.now c.units.feed c.pass.new.self (left c.args.src.now) (left c.units.src) i.grown p.begins (omega (arith, p.grown)) p.fits spells within passed.held passed.ended passed.offset passed.bound i.read in
    units_cut table (4096 - n) (drop n path) (drop n path) c.args.feed.now c.pass.new.self c.read_next.new.feed (left c.args.src.now) (left c.units.src) (left c.read_next.new.src) c.in-Err.cause read c.in-Err.ensures.next

pub units-preserved : goal.units-preserved
units-preserved g c =
    let n = length c.args.path.now in
    let table = c.args.table.now in
    let left = g.S.Source.left in
    let i = c.units.invariant in
    let path = c.push_units-count.new.path in
    let p = c.push_units-count.ensures in
    let count = c.push_units-count.result in
    let passed = c.pass.ensures in
    let held = c.held.ensures.value in
    let grown : n ≤ length path = omega (arith, i.grown, p.grown) in
    let within : count ≤ length c.units.feed.held = subst (λ (l : List ℕ). count ≤ length l) held p.within in
    let spells : SpellsText table (take count c.units.feed.held) (drop (length c.units.path) path) = subst (λ (l : List ℕ). SpellsText table (take count l) (drop (length c.units.path) path)) held p.units in
    let read = so_far_held table n count c.units.path path c.args.feed.now c.units.feed c.pass.new.self (left c.args.src.now) (left c.units.src) i.grown p.begins (omega (arith, p.grown)) p.fits spells within passed.held passed.ended passed.offset passed.bound i.read in
    let u = c.in-Ok.ensures in
    let next = rw c.in-Ok-Some.field-0-is at c.in-Ok-Some.ensures.next in
    let first = c.in-Ok-Some.first in
    let high = rw c.in-Ok-Some.field-0-is at c.in-Ok-Some.ensures.some in
    let known = subst (λ (room : ℕ). UnitKnown table room first (drop (length path) c.read_unit.new.path) c.read_next.new.feed (left c.read_next.new.src) c.read_unit.new.feed (left c.read_unit.new.src) (Ok tt)) (room_left n path grown) u.unit in
    let past = drawn_past count c.units.feed c.pass.new.self _ _ within passed.held passed.offset passed.ended in
    record {
      begins = same_front n path c.read_unit.new.path grown u.begins ∙ same_front n c.units.path path i.grown p.begins ∙ i.begins;
      read = so_far_more table (4096 - n) first (drop n path) (drop (length path) c.read_unit.new.path) (drop n c.read_unit.new.path) c.args.feed.now c.pass.new.self c.read_next.new.feed c.read_unit.new.feed (left c.args.src.now) (left c.units.src) (left c.read_next.new.src) (left c.read_unit.new.src) high (more_behind n path c.read_unit.new.path grown u.begins) read next known;
      grown = omega (arith, grown, u.grown);
      plain = u.plain;
      fits = u.fits;
      forth = omega (arith, i.forth, passed.offset, c.in-Ok-Some.ensures.forth, u.forth);
      near = omega (arith, i.near, p.grown, passed.offset, c.in-Ok-Some.ensures.near, u.near, u.grows);
      drawn = draws_then _ _ _ _ _ _ _ _ _ (draws_then _ _ _ _ _ _ _ _ _ (draws_then _ _ _ _ _ _ _ _ _ i.drawn past) c.in-Ok-Some.ensures.drawn) u.drawn;
      faults = omega (arith, i.faults, c.in-Ok-Some.ensures.later, u.later);
      kept = g.met.S.Source.keeps_on _ _ _ (g.met.S.Source.keeps_on _ _ _ i.kept c.in-Ok-Some.ensures.kept) u.kept;
    }

pub returns-in-Err-read_unit-clause-units : goal.returns-in-Err-read_unit-clause-units
returns-in-Err-read_unit-clause-units g c =
    let n = length c.args.path.now in
    let table = c.args.table.now in
    let left = g.S.Source.left in
    let i = c.units.invariant in
    let path = c.push_units-count.new.path in
    let p = c.push_units-count.ensures in
    let count = c.push_units-count.result in
    let passed = c.pass.ensures in
    let held = c.held.ensures.value in
    let grown : n ≤ length path = omega (arith, i.grown, p.grown) in
    let within : count ≤ length c.units.feed.held = subst (λ (l : List ℕ). count ≤ length l) held p.within in
    let spells : SpellsText table (take count c.units.feed.held) (drop (length c.units.path) path) = subst (λ (l : List ℕ). SpellsText table (take count l) (drop (length c.units.path) path)) held p.units in
    let read = so_far_held table n count c.units.path path c.args.feed.now c.units.feed c.pass.new.self (left c.args.src.now) (left c.units.src) i.grown p.begins (omega (arith, p.grown)) p.fits spells within passed.held passed.ended passed.offset passed.bound i.read in
    let next = rw c.in-Ok-Some.field-0-is at c.in-Ok-Some.ensures.next in
    let first = c.in-Ok-Some.first in
    let high = rw c.in-Ok-Some.field-0-is at c.in-Ok-Some.ensures.some in
    let known = subst (λ (room : ℕ). UnitKnown table room first (drop (length path) c.read_unit.new.path) c.read_next.new.feed (left c.read_next.new.src) c.read_unit.new.feed (left c.read_unit.new.src) (Err c.in-Err-read_unit.cause)) (room_left n path grown) c.in-Err-read_unit.ensures.unit in
    units_unit table (4096 - n) first (drop n path) (drop (length path) c.read_unit.new.path) (drop n c.read_unit.new.path) c.args.feed.now c.pass.new.self c.read_next.new.feed c.read_unit.new.feed (left c.args.src.now) (left c.units.src) (left c.read_next.new.src) (left c.read_unit.new.src) c.in-Err-read_unit.cause high read next known

pub returns-in-Err-read_unit-clause-drawn : goal.returns-in-Err-read_unit-clause-drawn
returns-in-Err-read_unit-clause-drawn g c =
    let count = c.push_units-count.result in
    let passed = c.pass.ensures in
    let within : count ≤ length c.units.feed.held = subst (λ (l : List ℕ). count ≤ length l) c.held.ensures.value c.push_units-count.ensures.within in
    let past = drawn_past count c.units.feed c.pass.new.self _ _ within passed.held passed.offset passed.ended in
    draws_then _ _ _ _ _ _ _ _ _ (draws_then _ _ _ _ _ _ _ _ _ (draws_then _ _ _ _ _ _ _ _ _ c.units.invariant.drawn past) c.in-Ok-Some.ensures.drawn) c.in-Err-read_unit.ensures.drawn
