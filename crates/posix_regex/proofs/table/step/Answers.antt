use Rattle.std.proofs.Common.{length, ap, refl, inl, inr, ⊎_elim, arith}
use Rattle.byte_class.proofs.Members.{members_pass, members_with}
use Rattle.posix_regex.specs.Table.{has_state, states_of, Begins}
use Rattle.posix_regex.proofs.Inserted.{only_more}
use Rattle.posix_regex.proofs.table.step.Goals as goal

pub returns-then-spread-clause-value : goal.returns-then-spread-clause-value
returns-then-spread-clause-value g c =
    let from = c.insert_all.new.now.order in
    let all = c.insert_all.ensures in
    let begins : Begins (length c.args.states.now) (states_of c.args.set) from = record {
      kept = λ s le h. all.has s (omega (arith, le, c.len.ensures.value)) (members_pass (has_state c.args.set) s h);
      start = all.kept 0 (c.insert.ensures.has (omega (arith, c.clear.ensures.width, c.requires.now_width)));
      only = λ s h. ⊎_elim
          (λ old. ⊎_elim
          (λ none. absurd (omega (arith, none.1, ap length c.clear.ensures.empty)))
          (λ is. inr is.1)
          (only_more c.clear.new.self.order c.insert.new.self.order c.clear.new.self.width 0 s c.insert.ensures.order old))
          (λ more. inl (members_with (has_state c.args.set) s (omega (arith, more.0, c.len.ensures.value, c.requires.few)) more.1))
          (all.only s h);
    } in
    (from, begins, c.if-spread.ensures.found refl)

pub returns-clause-value : goal.returns-clause-value
returns-clause-value g c =
    let from = c.insert_all.new.now.order in
    let all = c.insert_all.ensures in
    let set = c.set_of.result in
    let e = c.if-spread.ensures in
    let begins : Begins (length c.args.states.now) (states_of c.args.set) from = record {
      kept = λ s le h. all.has s (omega (arith, le, c.len.ensures.value)) (members_pass (has_state c.args.set) s h);
      start = all.kept 0 (c.insert.ensures.has (omega (arith, c.clear.ensures.width, c.requires.now_width)));
      only = λ s h. ⊎_elim
          (λ old. ⊎_elim
          (λ none. absurd (omega (arith, none.1, ap length c.clear.ensures.empty)))
          (λ is. inr is.1)
          (only_more c.clear.new.self.order c.insert.new.self.order c.clear.new.self.width 0 s c.insert.ensures.order old))
          (λ more. inl (members_with (has_state c.args.set) s (omega (arith, more.0, c.len.ensures.value, c.requires.few)) more.1))
          (all.only s h);
    } in (
      from,
      c.spread.new.now.order,
      begins,
      record {
        kept = e.kept;
        sound = e.sound;
        next_sound = λ s h. e.next_sound s ((c.set_of.ensures s).0 (members_pass (has_state set) s h));
        closed = λ s u j h lead le. ⊎_elim
            (λ a. inl a)
            (λ a. inr (a.0, members_with (has_state set) u (omega (arith, le, c.requires.few)) ((c.set_of.ensures u).1 a.1)))
            (e.closed refl s u j h lead le);
        unfinished = e.unfinished refl;
      },
    )
