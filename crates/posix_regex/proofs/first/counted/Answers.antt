use Rattle.std.proofs.Common.{◌≡◌, ℕ, ◌≤◌, [], length, None, Contains, refl, ap, ⊎_elim, arith}
use Rattle.byte_class.specs.ByteSet.{has}
use Rattle.byte_class.proofs.Members.{members_pass, members_with}
use Rattle.posix_regex.specs.First.{MayBegin}
use Rattle.posix_regex.proofs.Inserted.{kept_more, only_more}
use Rattle.posix_regex.proofs.Searching.{Spread, next_reached, still_reached, begun_place, waiting_first, all_there}
use Rattle.posix_regex.proofs.Starts.{begun_anywhere, can_inside}
use Rattle.posix_regex.specs.Moves.{Comes, Reached}
use Rattle.posix_regex.proofs.first.counted.Goals as goal

pub returns-clause-first : goal.returns-clause-first
returns-clause-first g c =
    let items = c.args.states.now in
    let e = c.if-spread.ensures in
    let old = c.clear.new.self.order in
    let start = c.insert.new.self.order in
    let all = c.spread.new.now.order in
    let next = c.spread.new.next.order in
    let begun : (s : ℕ) → Contains start s → Reached items [] s 0 = λ s h. ⊎_elim
    (λ there. absurd (omega (arith, there.1, ap length c.clear.ensures.empty)))
    (λ z. (0, (z.1, omega arith)))
    (only_more old start c.clear.new.self.width 0 s c.insert.ensures.order h) in
    let p : Spread items [] start all next 0 = record { kept = e.kept; next_sound = λ s h. next_reached items [] start 0 begun all e.sound s (e.next_sound s h); closed = e.closed refl; unfinished = e.unfinished refl } in
    let there = λ (n s i : ℕ) (h : Comes n items [] s i) (le : s ≤ length items).
    let b = begun_anywhere items [] (MayBegin [] None) (λ k. tt) n s i h in
    let here : i ≡ 0 = omega (arith, begun_place (MayBegin [] None) [] items n s i b) in
    let has : Contains all s = all_there (MayBegin [] None) items [] old start all next 0
    (waiting_first (MayBegin [] None) items [] old c.clear.ensures.empty)
    (λ t le h. kept_more old start c.clear.new.self.width 0 t c.insert.ensures.order h)
    (λ begins. c.insert.ensures.has (omega (arith, c.clear.ensures.width, c.requires.now_width)))
    p n s i here b le in
    has in (
      λ end. e.unfinished refl (there end.1.0 (length items) end.0 end.1.1 (omega arith)),
      λ byte fits. (
        λ h.
            let t = (c.taken.ensures byte fits).0 (members_pass (has c.taken.result) byte h) in
            (t.0, still_reached items [] start 0 begun t.0 (e.sound t.0 t.1), t.2),
        λ can.
            members_with (has c.taken.result) byte fits
            ((c.taken.ensures byte fits).1 (can.0, there can.1.0 can.0 0 can.1.1 (omega (arith, can_inside items can.0 byte can.2)), can.2)),
      ),
    )

pub returns-then-spread-clause-first : goal.returns-then-spread-clause-first
returns-then-spread-clause-first g c = (
  0,
  still_reached c.args.states.now [] c.insert.new.self.order 0
      (λ s h. ⊎_elim
      (λ there. absurd (omega (arith, there.1, ap length c.clear.ensures.empty)))
      (λ z. (0, (z.1, omega arith)))
      (only_more c.clear.new.self.order c.insert.new.self.order c.clear.new.self.width 0 s c.insert.ensures.order h))
      (length c.args.states.now)
      (c.if-spread.ensures.found refl),
)
