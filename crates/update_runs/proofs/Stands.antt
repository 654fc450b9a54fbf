-- How a list of updates stands before the steps that are left.
use Rattle.std.proofs.Common.{◌≡◌, ℕ, ◌+◌, ◌*◌, ◌≤◌, inl, inr, List, [], ◌∷◌, length, refl, sym, ap, ◌∙◌, subst, arith, IsTrue, All, drop, get_or, set, ◌<◌}
use Rattle.std.proofs.lemmas.List.{drop-set-lt, drop_more}
use Rattle.std.proofs.lemmas.List.Elements.{All-head, All-tail}
use Rattle.sample_trees.specs.declared.step.SampleStep.{SampleStep}
use Rattle.tree_scan.specs.Plan.{Plan}
use Rattle.dir_reuse.specs.Scanned.{IsPlan}
use Rattle.dir_reuse.specs.Usable.{is_ordered}
use Rattle.dir_reuse.proofs.ScanOrder.{scan_ordered}
use Rattle.update_runs.specs.declared.outcome.ListFault.{ListFault}
use Rattle.update_runs.specs.declared.outcome.ListFault.TheVariants.{OutOfMemory}
use Rattle.update_runs.specs.declared.outcome.ListResult.{ListResult}
use Rattle.update_runs.specs.declared.single.StepCounts.{StepCounts}
use Rattle.update_runs.specs.Runs.{AllPass, Comes, IsReady, Kept, StopsAt, last_database, last_reached, opened_in_all}
use Rattle.update_runs.specs.Single.{IsHonest, Refuses, Updates, opened_in, scan_of}

-- what holds if the steps can be relied on
pub record Known (plan : Plan) (start : List ℕ) (all : List SampleStep) (old : List ℕ) (directories openings : ℕ) (rest : List SampleStep) : Type 0 where
  pub kept : Kept plan old rest
  pub last : last_database plan start all ≡ last_database plan old rest
  pub heads : last_reached plan 0 all ≡ last_reached plan directories rest
  pub ordered : IsTrue (is_ordered plan.root plan.block start) → IsTrue (is_ordered plan.root plan.block old)
  pub sum : IsTrue (is_ordered plan.root plan.block start) → opened_in_all plan start all ≡ openings + opened_in_all plan old rest
  pub passed : AllPass plan old rest → AllPass plan start all

-- The steps that are left are ready, and the openings are no more than so many for each step.
pub record Stands (plan : Plan) (start : List ℕ) (all : List SampleStep) (old : List ℕ) (directories openings : ℕ) (rest : List SampleStep) : Type 0 where
  pub ready : All IsReady rest
  pub bound : openings + 4294967295 * length rest ≤ 4294967295 * length all
  pub stops : (fault : ListFault) → StopsAt fault plan old rest → StopsAt fault plan start all
  pub known : Kept plan start all → Known plan start all old directories openings rest

pub stands_first : (plan : Plan) (start : List ℕ) (all : List SampleStep) → All IsReady all → Stands plan start all start 0 0 all
stands_first plan start all ready = record {
  ready = ready;
  bound = omega arith;
  stops = λ fault s. s;
  known = λ kept. record { kept = kept; last = refl; heads = refl; ordered = λ o. o; sum = λ o. omega arith; passed = λ p. p };
}

known_next : (plan : Plan) (start : List ℕ) (all : List SampleStep) (old : List ℕ) (directories openings : ℕ) (step : SampleStep) (rest : List SampleStep) (counts : StepCounts) (made : List ℕ) → IsPlan plan
    → Known plan start all old directories openings (step ∷ rest) → Updates plan old step counts made → Known plan start all made counts.directories (openings + counts.opened) rest
known_next plan start all old directories openings step rest counts made p known did =
    let is : scan_of plan step ≡ made = sym did.scanned in
    record {
      kept = subst (λ (o : List ℕ). Kept plan o rest) is known.kept.1;
      last = known.last ∙ ap (λ (o : List ℕ). last_database plan o rest) is;
      heads = known.heads ∙ ap (λ (n : ℕ). last_reached plan n rest) (sym did.directories);
      ordered = λ o. subst (λ (x : List ℕ). IsTrue (is_ordered plan.root plan.block x)) is (scan_ordered step.tree.dirs plan step.now p);
      sum = λ o.
          let before = known.sum o in
          let opened = did.opened (known.ordered o) in
          let more : opened_in_all plan (scan_of plan step) rest ≡ opened_in_all plan made rest = ap (λ (x : List ℕ). opened_in_all plan x rest) is in
          added (opened_in_all plan start all) openings (opened_in plan old step.tree.dirs) counts.opened _ _ before opened more;
      passed = λ a. known.passed (did.passes, subst (λ (x : List ℕ). AllPass plan x rest) (sym is) a);
    }
  where
    added : (all openings now opened left more : ℕ) → all ≡ openings + (now + left) → opened ≡ now → left ≡ more → all ≡ openings + opened + more
    added all openings now opened left more h e k = omega arith

pub stands_next : (plan : Plan) (start : List ℕ) (all : List SampleStep) (old : List ℕ) (directories openings : ℕ) (step : SampleStep) (rest : List SampleStep) (counts : StepCounts) (made : List ℕ) → IsPlan plan
    → Stands plan start all old directories openings (step ∷ rest) → counts.opened ≤ 4294967295 → (IsHonest plan old step.tree.dirs → Updates plan old step counts made)
    → Stands plan start all made counts.directories (openings + counts.opened) rest
stands_next plan start all old directories openings step rest counts made p stands few did = record {
  ready = All-tail IsReady step rest stands.ready;
  bound = (let b = stands.bound in omega arith);
  stops = λ fault s. stands.stops fault (λ honest. let u = did honest in inr (u.passes, subst (λ (x : List ℕ). StopsAt fault plan x rest) u.scanned s));
  known = λ kept. let known = stands.known kept in known_next plan start all old directories openings step rest counts made p known (did known.kept.0);
}

pub stands_done : (plan : Plan) (start : List ℕ) (all : List SampleStep) (list : ListResult) → Stands plan start all list.bytes list.directories list.openings [] → Kept plan start all → Comes plan start all list
stands_done plan start all list stands kept =
    let known = stands.known kept in
    record {
      bytes = sym known.last;
      directories = sym known.heads;
      openings = λ o. (let s = known.sum o in omega arith);
      passed = known.passed tt;
    }

pub stands_stopped : (plan : Plan) (start : List ℕ) (all : List SampleStep) (old : List ℕ) (directories openings : ℕ) (step : SampleStep) (rest : List SampleStep) (fault : ListFault)
    → Stands plan start all old directories openings (step ∷ rest) → (IsHonest plan old step.tree.dirs → Refuses plan old step.tree.dirs fault) → StopsAt fault plan start all
stands_stopped plan start all old directories openings step rest fault stands refused = stands.stops fault (λ honest. inl (refused honest))

-- memory may run out at any step
pub memory_stops : (plan : Plan) (old : List ℕ) (steps : List SampleStep) → StopsAt OutOfMemory plan old steps
memory_stops plan old [] = refl
memory_stops plan old (step ∷ steps) = λ honest. inl (record {
  lacking = λ gone. inr refl;
  found = record { missing = λ e. absurd cc; wide_there = λ e. absurd cc; many_there = λ e. absurd cc };
  exceeded = record { wide_reached = λ e. absurd cc; many_tried = λ e. absurd cc };
})

-- ---- by the place of the next step

pub stands_at : (plan : Plan) (start : List ℕ) (all : List SampleStep) (old : List ℕ) (directories openings : ℕ) (steps : List SampleStep) (at : ℕ) (d : SampleStep) → at < length steps
    → Stands plan start all old directories openings (drop at steps) → Stands plan start all old directories openings (get_or steps at d ∷ drop (at + 1) steps)
stands_at plan start all old directories openings steps at d h stands = subst (λ (l : List SampleStep). Stands plan start all old directories openings l) (drop_more steps at d h) stands

pub next_ready : (plan : Plan) (start : List ℕ) (all : List SampleStep) (old : List ℕ) (directories openings : ℕ) (steps : List SampleStep) (at : ℕ) (d : SampleStep) → at < length steps
    → Stands plan start all old directories openings (drop at steps) → IsReady (get_or steps at d)
next_ready plan start all old directories openings steps at d h stands = All-head IsReady (get_or steps at d) (drop (at + 1) steps) (stands_at plan start all old directories openings steps at d h stands).ready

pub stands_on : (plan : Plan) (start : List ℕ) (all : List SampleStep) (old : List ℕ) (directories openings : ℕ) (steps : List SampleStep) (at : ℕ) (d used : SampleStep) (counts : StepCounts) (made : List ℕ) → IsPlan plan → at < length steps
    → Stands plan start all old directories openings (drop at steps) → counts.opened ≤ 4294967295 → (IsHonest plan old (get_or steps at d).tree.dirs → Updates plan old (get_or steps at d) counts made)
    → Stands plan start all made counts.directories (openings + counts.opened) (drop (at + 1) (set steps at used))
stands_on plan start all old directories openings steps at d used counts made p h stands few did =
    subst (λ (l : List SampleStep). Stands plan start all made counts.directories (openings + counts.opened) l) (sym (drop-set-lt (at + 1) steps at used (omega arith)))
    (stands_next plan start all old directories openings (get_or steps at d) (drop (at + 1) steps) counts made p (stands_at plan start all old directories openings steps at d h stands) few did)
