use Rattle.std.proofs.Common.{◌≡◌, Contains, inl, inr, ⊎_elim, refl, sym, subst, arith}
use Rattle.posix_regex.proofs.Inserted.{only_more, kept_more}
use Rattle.posix_regex.proofs.search.insert.Goals as goal

pub returns-in-Both-clause-now_only : goal.returns-in-Both-clause-now_only
returns-in-Both-clause-now_only c = λ s h.
    let old = c.args.now.now.order in
    let mid = c.insert-in-Both.new.self.order in
    let w = c.args.now.now.width in
    rw c.in-Both.is (⊎_elim
    (λ h1. ⊎_elim (λ h0. inl h0) (λ e. inr (omega (arith, e.0, e.1), λ at. (refl, inl e.1))) (only_more old mid w c.in-Both.first s c.insert-in-Both.ensures.order h1))
    (λ e. inr (omega (arith, e.0, e.1, c.insert-in-Both.ensures.width), λ at. (refl, inr e.1)))
    (only_more mid c.insert-in-Both-2.new.self.order c.insert-in-Both.new.self.width c.in-Both.second s c.insert-in-Both-2.ensures.order h))

pub returns-in-Both-clause-has : goal.returns-in-Both-clause-has
returns-in-Both-clause-has c = λ at u j to below.
    let old = c.args.now.now.order in
    let mid = c.insert-in-Both.new.self.order in
    let last = c.insert-in-Both-2.new.self.order in
    let t = rw c.in-Both.is at to in
    inl (
      t.0,
      ⊎_elim
          (λ (e : u ≡ c.in-Both.first). kept_more mid last c.insert-in-Both.new.self.width c.in-Both.second u c.insert-in-Both-2.ensures.order (subst (λ x. Contains mid x) (sym e) (c.insert-in-Both.ensures.has (omega (arith, e, below)))))
          (λ (e : u ≡ c.in-Both.second). subst (λ x. Contains last x) (sym e) (c.insert-in-Both-2.ensures.has (omega (arith, e, below, c.insert-in-Both.ensures.width))))
          t.1,
    )

pub returns-in-Further-clause-next_only : goal.returns-in-Further-clause-next_only
returns-in-Further-clause-next_only c = λ s h.
    rw c.in-Further.is (⊎_elim (λ h0. inl h0) (λ e. inr (omega (arith, e.0, e.1, c.requires), λ at. (e.1, refl))) (only_more c.args.next.now.order c.insert-in-Further.new.self.order c.args.next.now.width c.in-Further.state s c.insert-in-Further.ensures.order h))
