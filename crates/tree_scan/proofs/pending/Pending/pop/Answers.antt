use Rattle.std.proofs.Common.{◌≤◌, ◌∷◌, IsTrue, List, ℕ, length, drop, sym, ◌∙◌, ap, subst}
use Rattle.std.specs.Prelude.{reverse}
use Rattle.path_order.specs.Path.{is_normal}
use Rattle.tree_scan.specs.Stack.{paths_at, AllNormal}
use Rattle.tree_scan.proofs.PendingPaths.{top}
use Rattle.tree_scan.proofs.pending.Pending.pop.Goals as goal

pub copy_from-requires-clause-there : goal.copy_from-requires-clause-there
copy_from-requires-clause-there c =
    let t = top c.self.inside.bytes.items c.self.inside.starts.items c.pop.new.self.items c.in-Some.start c.in-Some.ensures.items c.self.invariant in
    subst (λ (l : List ℕ). c.in-Some.start ≤ length l) (sym c.deref.ensures.value) t.there

pub copy_from-requires-clause-fits : goal.copy_from-requires-clause-fits
copy_from-requires-clause-fits c =
    let t = top c.self.inside.bytes.items c.self.inside.starts.items c.pop.new.self.items c.in-Some.start c.in-Some.ensures.items c.self.invariant in
    subst (λ (l : List ℕ). length (drop c.in-Some.start l) ≤ 4096) (sym c.deref.ensures.value) t.fits

pub invariant_of-self-2 : goal.invariant_of-self-2
invariant_of-self-2 c =
    let t = top c.self.inside.bytes.items c.self.inside.starts.items c.pop.new.self.items c.in-Some.start c.in-Some.ensures.items c.self.invariant in
    subst (λ (l : List ℕ). AllNormal (paths_at l (reverse c.pop.new.self.items))) (sym c.truncate.ensures.items) t.others

pub returns-clause-popped : goal.returns-clause-popped
returns-clause-popped c =
    let t = top c.self.inside.bytes.items c.self.inside.starts.items c.pop.new.self.items c.in-Some.start c.in-Some.ensures.items c.self.invariant in
    sym c.self.view_is ∙ t.are ∙ (λ i. (ap (drop c.in-Some.start) (sym c.deref.ensures.value) ∙ sym c.copy_from.ensures) i ∷ paths_at (sym c.truncate.ensures.items i) (reverse c.pop.new.self.items))

pub returns-clause-normal : goal.returns-clause-normal
returns-clause-normal c = λ b.
    let t = top c.self.inside.bytes.items c.self.inside.starts.items c.pop.new.self.items c.in-Some.start c.in-Some.ensures.items c.self.invariant in
    subst (λ (l : List ℕ). IsTrue (is_normal l)) (ap (drop c.in-Some.start) (sym c.deref.ensures.value) ∙ sym c.copy_from.ensures) t.normal
