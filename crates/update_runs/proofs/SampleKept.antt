-- Updates may rely on the steps of a sample.
use Rattle.std.proofs.Common.{◌≡◌, ℕ, zero, suc, ◌+◌, ◌*◌, ◌<◌, ◌≤◌, ◌^◌, List, [], map, refl, sym, ap, ◌∙◌, subst, arith, All, true}
use Rattle.std.specs.List.{range_with_len}
use Rattle.std.proofs.lemmas.List.Elements.{All-contains, All-nil}
use Rattle.path_order.specs.Stamp.{Moment, later_of}
use Rattle.loc_outside.specs.declared.traits.tree.Times.{Times}
use Rattle.loc_outside.specs.Trees.{Dir, Dirs}
use Rattle.byte_feed.specs.Front.{items_of, items_within}
use Rattle.sample_trees.specs.Rounds.{dirs_after, seconds_of}
use Rattle.sample_trees.specs.Steps.{sample_steps, step_after}
use Rattle.sample_trees.proofs.Stamps.{At, all_shown, later_same, same_where_times_agree, until_after}
use Rattle.tree_scan.specs.Blocks.{device_in, time_of}
use Rattle.tree_scan.specs.Plan.{Plan}
use Rattle.tree_scan.specs.Reach.{is_open, reached}
use Rattle.tree_scan.specs.Records.{Record}
use Rattle.tree_scan.proofs.Lists.{Each, each_more}
use Rattle.dir_reuse.specs.Scanned.{FitsHead, IsPlan}
use Rattle.dir_reuse.specs.Usable.{is_ordered, records}
use Rattle.dir_reuse.proofs.Reached.{IsFound, led_found}
use Rattle.update_runs.specs.Runs.{Kept}
use Rattle.update_runs.specs.Single.{IsHonest, scan_of}
use Rattle.update_runs.proofs.StaysHonest.{stays_honest}

abbrev DevicesFit : Plan → Type 0
DevicesFit plan = (path : List ℕ) → device_in plan path < 2 ^ 32

-- ---- no database

none_recorded : (root block : List ℕ) → records root block [] ≡ []
unfolding items_of items_within
none_recorded root block = refl

-- no database is in order
pub none_ordered : (root block : List ℕ) → is_ordered root block [] ≡ true
unfolding items_of items_within
none_ordered root block = refl

pub honest_of_none : (plan : Plan) (dirs : Dirs) → IsHonest plan [] dirs
honest_of_none plan dirs = λ r dir recorded there bearing.
    absurd (All-contains (λ (r : Record). ⊥) (records plan.root plan.block []) r (subst (All (λ (r : Record). ⊥)) (sym (none_recorded plan.root plan.block)) (All-nil (λ (r : Record). ⊥))) recorded)

-- ---- the times of a sample

time_is : (seconds : ℕ) (dir : Dir) → At seconds dir → time_of dir.times ≡ record { seconds = seconds; nanos = 0 }
time_is seconds dir at = ap (λ (t : Times). later_of t.modified t.changed) at ∙ later_same (record { seconds = seconds; nanos = 0 })

fits : (seed rounds : ℕ) (plan : Plan) → rounds < 256 → DevicesFit plan → (e : List ℕ × Dir) → IsFound (dirs_after seed rounds) (is_open plan.pruned) e → FitsHead plan e
unfolding seconds_of
fits seed rounds plan few devices e f =
    let early = until_after seed rounds e.0 e.1 f.found in
    let time : time_of e.1.times ≡ record { seconds = early.at; nanos = 0 } = time_is early.at e.1 early.times in
    let seconds : (time_of e.1.times).seconds ≡ early.at = ap (λ (m : Moment). m.seconds) time in
    let nanos : (time_of e.1.times).nanos ≡ 0 = ap (λ (m : Moment). m.nanos) time in
    let bound = early.bound in
    record { seconds = below _ early.at rounds seconds bound few; nanos = small _ nanos; device = devices e.0 }
  where
    below : (n at rounds : ℕ) → n ≡ at → at ≤ 2000000 + 100 * rounds → rounds < 256 → n < 2 ^ 64
    below n at rounds e h k = omega arith

    small : (n : ℕ) → n ≡ 0 → n < 1000000000
    small n e = omega arith

all_fit : (seed rounds : ℕ) (plan : Plan) → rounds < 256 → IsPlan plan → DevicesFit plan → Each (FitsHead plan) (reached (dirs_after seed rounds) plan.pruned plan.root)
all_fit seed rounds plan few p devices =
    each_more (IsFound (dirs_after seed rounds) (is_open plan.pruned)) (FitsHead plan) (λ e f. fits seed rounds plan few devices e f) _ (led_found (dirs_after seed rounds) plan.pruned (is_open plan.pruned) plan.root p.root)

-- ---- the steps

kept_from : (seed from count : ℕ) (plan : Plan) (old : List ℕ) → from + count ≤ 256 → IsPlan plan → DevicesFit plan → IsHonest plan old (dirs_after seed from) → Kept plan old (map (step_after seed) (range_with_len from count))
kept_from seed from zero plan old few p devices honest = tt
kept_from seed from (suc zero) plan old few p devices honest = (honest, tt)
kept_from seed from (suc (suc count)) plan old few p devices honest = (
  honest,
  kept_from seed (from + 1) (suc count) plan (scan_of plan (step_after seed from)) (omega arith) p devices
      (stays_honest (dirs_after seed from) (dirs_after seed (from + 1)) plan (step_after seed from).now p (all_fit seed from plan (omega arith) p devices)
      (same_where_times_agree seed from (from + 1) (omega arith)) (all_shown seed (from + 1))),
)

pub sample_kept : (seed rounds : ℕ) (plan : Plan) → rounds < 256 → IsPlan plan → DevicesFit plan → Kept plan [] (sample_steps seed rounds)
unfolding sample_steps
sample_kept seed rounds plan few p devices = kept_from seed 0 (rounds + 1) plan [] (omega arith) p devices (honest_of_none plan (dirs_after seed 0))
