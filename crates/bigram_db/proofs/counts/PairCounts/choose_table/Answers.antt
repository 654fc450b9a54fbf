use Rattle.std.proofs.Common.{◌≡◌, ◌∙◌, length, ap, sym, arith}
use Rattle.bigram_db.proofs.Taken.{taken_none, taken_table, taken_within, taken_end, taken_more, taken_all}
use Rattle.bigram_db.proofs.counts.PairCounts.choose_table.Goals as goal

pub places-init : goal.places-init
places-init c = taken_none c.args.self.now

pub next_after-requires : goal.next_after-requires
next_after-requires c =
    let size : length c.deref.result.now ≡ 9216 = omega (arith, c.deref.ensures.len, c.self.invariant) in
    let within = taken_within c.args.self.now c.places.place c.places.bytes c.places.last c.places.invariant in
    rw size within

pub new-requires : goal.new-requires
new-requires c = taken_table c.args.self.now c.places.place c.places.bytes c.places.last c.places.invariant

pub new-requires-2 : goal.new-requires-2
new-requires-2 c = taken_table c.args.self.now c.places.place c.places.bytes c.places.last c.places.invariant

pub returns-in_default : goal.returns-in_default
returns-in_default c =
    let numbers : c.deref.result.now ≡ c.args.self.now = c.deref.ensures.value ∙ c.self.view_is in
    let size : length c.args.self.now ≡ 9216 = ap length (sym numbers) ∙ c.deref.ensures.len ∙ c.self.invariant in
    let none = rw (numbers, size) at c.in_default.ensures in
    c.new.ensures ∙ taken_end c.args.self.now size c.places.place c.places.bytes c.places.last c.places.invariant none

pub places-preserved : goal.places-preserved
places-preserved c =
    let numbers : c.deref.result.now ≡ c.args.self.now = c.deref.ensures.value ∙ c.self.view_is in
    let size : length c.args.self.now ≡ 9216 = ap length (sym numbers) ∙ c.deref.ensures.len ∙ c.self.invariant in
    let next = rw (numbers, size) at c.in-Some.ensures in
    taken_more c.args.self.now size c.places.place c.places.bytes c.places.last c.places.invariant c.in-Some.next (omega arith) next

pub returns : goal.returns
returns c = c.new-2.ensures ∙ taken_all c.args.self.now c.places.place c.places.bytes c.places.last c.places.invariant (omega arith)
