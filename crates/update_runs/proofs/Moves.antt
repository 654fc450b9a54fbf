-- The steps of a list of updates as they are left, beside those that were given.
use Rattle.std.proofs.Common.{◌≡◌, ℕ, ◌+◌, ◌≤◌, ◌<◌, inr, List, [], length, map, refl, sym, ap, ◌∙◌, subst, arith, IsTrue, drop, get_or, set}
use Rattle.std.proofs.Math.Seq.{map-set_same}
use Rattle.std.proofs.lemmas.List.{get_or-map, length-map}
use Rattle.std.proofs.lemmas.Simd.{map-map}
use Rattle.std.proofs.lemmas.List.Sums.{sum_by-set}
use Rattle.path_order.specs.Stamp.{Moment}
use Rattle.loc_outside.specs.Trees.{Dirs}
use Rattle.sample_trees.specs.declared.step.SampleStep.{SampleStep}
use Rattle.tree_scan.specs.Plan.{Plan}
use Rattle.tree_scan.specs.Scans.{Found, usual}
use Rattle.dir_reuse.specs.Usable.{is_ordered}
use Rattle.update_runs.specs.declared.outcome.ListFault.{ListFault}
use Rattle.update_runs.specs.Faults.{in_scan}
use Rattle.update_runs.specs.Runs.{Asks, IsSeen, opened_in_all, openings_of, trees_of}
use Rattle.update_runs.specs.Single.{IsHonest, opened_in, openings_in, scan_of, shown_by}
use Rattle.update_runs.proofs.Stands.{Stands, stands_at}

-- moments and directories are the same, and the trees were opened at most so much more often
pub record Moved (all steps : List SampleStep) (openings : ℕ) : Type 0 where
  pub same : map shown_by steps ≡ map shown_by all
  pub counted : openings_of steps ≤ openings_of all + openings

pub moved_first : (all : List SampleStep) → Moved all all 0
moved_first all = record { same = refl; counted = omega arith }

pub moved_on : (all steps : List SampleStep) (openings at n : ℕ) (d used : SampleStep) → at < length steps → Moved all steps openings → shown_by used ≡ shown_by (get_or steps at d)
    → openings_in used ≤ openings_in (get_or steps at d) + n → Moved all (set steps at used) (openings + n)
moved_on all steps openings at n d used h moved shows more =
    let sum = sum_by-set openings_in steps at used d h in
    let before = moved.counted in
    record { same = map-set_same shown_by steps at used d shows ∙ moved.same; counted = omega (arith, sum, before, more) }

-- ---- how much was asked of the trees

pub asks_none : (plan : Plan) (start : List ℕ) (all : List SampleStep) → Asks plan start all all
asks_none plan start all = record { same = refl; opened = λ kept ordered. omega arith }

pub asks_done : (plan : Plan) (start : List ℕ) (all : List SampleStep) (old : List ℕ) (directories openings : ℕ) (steps : List SampleStep) → Stands plan start all old directories openings [] → Moved all steps openings → Asks plan start all steps
asks_done plan start all old directories openings steps stands moved = record {
  same = moved.same;
  opened = λ kept ordered. let sum = (stands.known kept).sum ordered in let counted = moved.counted in omega (arith, sum, counted);
}

pub asks_stopped : (plan : Plan) (start : List ℕ) (all : List SampleStep) (old : List ℕ) (directories openings : ℕ) (steps : List SampleStep) (at : ℕ) (d used : SampleStep) → at < length steps
    → Stands plan start all old directories openings (drop at steps) → Moved all steps openings → shown_by used ≡ shown_by (get_or steps at d)
    → (IsHonest plan old (get_or steps at d).tree.dirs → IsTrue (is_ordered plan.root plan.block old) → openings_in used ≤ openings_in (get_or steps at d) + opened_in plan old (get_or steps at d).tree.dirs)
    → Asks plan start all (set steps at used)
asks_stopped plan start all old directories openings steps at d used h stands moved shows asked = record {
  same = map-set_same shown_by steps at used d shows ∙ moved.same;
  opened = λ kept ordered.
      let step : SampleStep = get_or steps at d in
      let known = (stands_at plan start all old directories openings steps at d h stands).known kept in
      let few = asked known.kept.0 (known.ordered ordered) in
      let all_sum : opened_in_all plan start all ≡ openings + (opened_in plan old step.tree.dirs + opened_in_all plan (scan_of plan step) (drop (at + 1) steps)) = known.sum ordered in
      let sum = sum_by-set openings_in steps at used d h in
      let before = moved.counted in
      omega (arith, few, all_sum, sum, before);
}

-- ---- what a fault tells

abbrev dirs_in : Moment × Dirs → Dirs
dirs_in shown = shown.1

trees_same : (all steps : List SampleStep) → map shown_by steps ≡ map shown_by all → trees_of steps ≡ trees_of all
trees_same all steps same = sym (map-map dirs_in shown_by steps) ∙ (ap (map dirs_in) same ∙ map-map dirs_in shown_by all)

pub seen_at : (fault : ListFault) (root : List ℕ) (all steps : List SampleStep) (openings at : ℕ) (d : SampleStep) → at < length steps → Moved all steps openings
    → Found (in_scan fault) usual root (get_or steps at d).tree.dirs → IsSeen fault root (trees_of all)
seen_at fault root all steps openings at d h moved found =
    subst (λ (trees : List Dirs). IsSeen fault root trees) (trees_same all steps moved.same)
    (inr (at, (get_or steps at d).tree.dirs, subst (λ (n : ℕ). at < n) (sym (length-map steps (λ (s : SampleStep). s.tree.dirs))) h, at_trees, found))
  where
    at_trees : get_or (trees_of steps) at (get_or steps at d).tree.dirs ≡ (get_or steps at d).tree.dirs
    at_trees = get_or-map (λ (s : SampleStep). s.tree.dirs) steps at d (get_or steps at d).tree.dirs h
