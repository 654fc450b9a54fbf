use Rattle.std.proofs.Common.{◌≡◌, ℕ, ◌≤◌, List, length, get_or, take, Some, false, refl, sym, ◌∙◌, ap, arith, subst}
use Rattle.std.specs.List.{list_any}
use Rattle.mount_table.specs.Lookup.{covers}
use Rattle.mount_table.specs.Part.{NoneLonger}
use Rattle.mount_table.specs.Row.{MountRow}
use Rattle.mount_table.proofs.CoverLemmas.{none_longer-next, none_covers, deciding-at, deciding-none, place_within, row_at, not_all, all_none, normal_begins}
use Rattle.mount_table.proofs.table.Mounts.deciding.Goals as goal

pub loop-len-init : goal.loop-len-init
loop-len-init c = let e = c.longest_front-len.ensures in (e.within, e.none_longer, e.prefix)

pub index-requires : goal.index-requires
index-requires c =
    let within = place_within c.args.self.now (take c.loop-len.len c.args.path.now) c.in-Some.place c.in-Some.ensures.0 in
    omega (arith, ap length c.self.view_is)

pub returns-in-Some-clause-value : goal.returns-in-Some-clause-value
returns-in-Some-clause-value c =
    let last = c.in-Some.ensures.0 in
    let d = deciding-at c.args.path.now c.loop-len.len c.in-Some.place c.args.self.now (normal_begins c.args.path.now c.requires) c.loop-len.invariant.0 (c.loop-len.invariant.2 c.loop-len-test.true) c.loop-len.invariant.1 c.in-Some.ensures.1 last in
    ap Some (c.index.ensures ∙ ap (λ (rows : List MountRow). get_or rows c.in-Some.place c.index.result.now) c.self.view_is ∙ row_at c.args.self.now _ c.in-Some.place last c.index.result.now) ∙ sym d.1

pub returns-in-Some-clause-none : goal.returns-in-Some-clause-none
returns-in-Some-clause-none c =
    let last = c.in-Some.ensures.0 in
    let d = deciding-at c.args.path.now c.loop-len.len c.in-Some.place c.args.self.now (normal_begins c.args.path.now c.requires) c.loop-len.invariant.0 (c.loop-len.invariant.2 c.loop-len-test.true) c.loop-len.invariant.1 c.in-Some.ensures.1 last in
    (λ e. cc, λ all. absurd (not_all _ _ _ _ last d.0 all))

pub loop-len-preserved : goal.loop-len-preserved
loop-len-preserved c = (
  omega (arith, c.shorter_prefix-len.ensures.shorter, c.loop-len.invariant.0),
  none_longer-next c.args.path.now c.shorter_prefix-len.result c.loop-len.len c.args.self.now c.loop-len.invariant.0 c.shorter_prefix-len.ensures.others c.in_default.ensures c.loop-len.invariant.1,
  c.shorter_prefix-len.ensures.prefix,
)

-- none is longer than nothing at the end
none_left : (path : List ℕ) (len : ℕ) (rows : List MountRow) → len ≤ 0 → NoneLonger path len rows → list_any (covers path) rows ≡ false
none_left path len rows past most = none_covers path rows (subst (λ (n : ℕ). NoneLonger path n rows) (omega arith) most)

pub returns-clause-value : goal.returns-clause-value
returns-clause-value c = sym (deciding-none _ _ (none_left _ _ _ c.loop-len-test.false c.loop-len.invariant.1))

pub returns-clause-none : goal.returns-clause-none
returns-clause-none c = (λ _. all_none _ _ (none_left c.args.path.now c.loop-len.len c.args.self.now c.loop-len-test.false c.loop-len.invariant.1), λ _. refl)
