use Rattle.std.proofs.Common.{rules, ◌≡◌, ℕ, List, take, drop, subst, ◌∙◌}
use Rattle.std.specs.Io.KnownBytes.{Appends}
use Rattle.loc_outside.proofs.GatherLemmas.{passed_on, all_on}
use Rattle.loc_outside.proofs.KnownSteps.{rest_is}
use Rattle.loc_outside.proofs.gathering.Gathering.pass_on.Goals as goal

pub returns-then-count-len-clause-taken : goal.returns-then-count-len-clause-taken
returns-then-count-len-clause-taken g c =
    let went = subst (λ (l : List ℕ). Appends (g.S.Sink.taken c.args.self.now.below) (g.S.Sink.taken c.put_most-count.new.sink) (take c.put_most-count.result l)) c.deref.ensures.0 c.put_most-count.ensures.bytes in
    rw c.clear.ensures (all_on _ _ c.args.self.now.held.items c.put_most-count.result (c.if-count-len.true ∙ c.len.ensures.value) (g.met.S.SteadySink.stays_silent _ _ c.put_most-count.ensures.kept) went)

pub returns-clause-taken : goal.returns-clause-taken
returns-clause-taken g c =
    let went = subst (λ (l : List ℕ). Appends (g.S.Sink.taken c.args.self.now.below) (g.S.Sink.taken c.put_most-count.new.sink) (take c.put_most-count.result l)) c.deref.ensures.0 c.put_most-count.ensures.bytes in
    let rest : c.try_extend_from_slice.new.self.items ≡ drop c.put_most-count.result c.args.self.now.held.items = search (rules, rest_is) in
    rw rest (passed_on _ _ c.args.self.now.held.items c.put_most-count.result (g.met.S.SteadySink.stays_silent _ _ c.put_most-count.ensures.kept) went)
