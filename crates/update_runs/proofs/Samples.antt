-- The steps of a sample: how many, that they are ready, and that only memory can run out.
use Rattle.std.proofs.Common.{◌≡◌, ℕ, zero, suc, ◌+◌, ◌*◌, ◌<◌, ◌≤◌, ◌⊎◌, inl, inr, List, [], ◌∷◌, map, length, refl, sym, ap, ◌∙◌, arith, All, Option, Some, None, IsSome}
use Rattle.std.specs.FinMap.{get}
use Rattle.std.specs.List.{range_with_len}
use Rattle.std.proofs.lemmas.List.Elements.{All-cons, All-nil}
use Rattle.std.proofs.lemmas.List.FromFn.{length-map-range_with_len}
use Rattle.loc_outside.specs.Trees.{Dir, Dirs}
use Rattle.sample_trees.specs.Rounds.{dirs_after}
use Rattle.sample_trees.specs.Sizes.{IsSmall}
use Rattle.sample_trees.specs.Steps.{sample_steps, step_after}
use Rattle.sample_trees.proofs.Sizes.{is_small}
use Rattle.tree_scan.specs.Plan.{Plan}
use Rattle.update_runs.specs.declared.outcome.ListFault.{ListFault}
use Rattle.update_runs.specs.declared.outcome.ListFault.TheVariants.{OutOfMemory, RootMissing, TooManyDirectories, TooManyNames}
use Rattle.update_runs.specs.Runs.{IsReady, Kept, StopsAt}
use Rattle.update_runs.specs.Single.{Passes, Refuses, scan_of}

pub steps_count : (seed rounds : ℕ) → length (sample_steps seed rounds) ≡ rounds + 1
unfolding sample_steps
steps_count seed rounds = length-map-range_with_len (step_after seed) 0 (rounds + 1)

ready_from : (seed from count : ℕ) → All IsReady (map (step_after seed) (range_with_len from count))
ready_from seed from zero = All-nil IsReady
ready_from seed from (suc count) = All-cons IsReady (step_after seed from) (map (step_after seed) (range_with_len (from + 1) count)) (record { steady = refl; openings = omega arith }) (ready_from seed (from + 1) count)

pub steps_ready : (seed rounds : ℕ) → All IsReady (sample_steps seed rounds)
unfolding sample_steps
steps_ready seed rounds = ready_from seed 0 (rounds + 1)

-- ---- refusals

some_there : (o : Option Dir) → IsSome o → o ≡ None → ⊥
some_there None h e = absurd cc
some_there (Some d) h e = cc

not_refused : (plan : Plan) (old : List ℕ) (dirs : Dirs) (names : ℕ) (fault : ListFault) → plan.root ≡ 47 ∷ [] → names < 10000 → IsSmall names dirs → Refuses plan old dirs fault → fault ≡ OutOfMemory
not_refused plan old dirs names OutOfMemory root h small refused = refl
not_refused plan old dirs names RootMissing root h small refused = absurd (some_there (get dirs (47 ∷ [])) small.root_there (ap (get dirs) (sym root) ∙ refused.found.missing refl))
not_refused plan old dirs names TooManyNames root h small refused =
    let wide = refused.found.wide_there refl in
    let few = small.narrow wide.path wide.dir wide.there in
    let many = wide.longer in
    absurd (omega (arith, few, many, h))
not_refused plan old dirs names TooManyDirectories root h small refused =
    let few = small.few in
    let many = refused.found.many_there refl in
    absurd (omega (arith, few, many))

memory_from : (plan : Plan) (old : List ℕ) (seed from count : ℕ) (fault : ListFault) → plan.root ≡ 47 ∷ [] → from + count ≤ 256 → Kept plan old (map (step_after seed) (range_with_len from count)) → StopsAt fault plan old (map (step_after seed) (range_with_len from count)) → fault ≡ OutOfMemory
memory_from plan old seed from zero fault root h kept stops = stops
memory_from plan old seed from (suc count) fault root h kept stops = by (λ on. memory_from plan (scan_of plan (step_after seed from)) seed (from + 1) count fault root (omega arith) kept.1 on) (stops kept.0)
  where
    by : (StopsAt fault plan (scan_of plan (step_after seed from)) (map (step_after seed) (range_with_len (from + 1) count)) → fault ≡ OutOfMemory)
        → Refuses plan old (dirs_after seed from) fault ⊎ (Passes plan old (dirs_after seed from) × StopsAt fault plan (scan_of plan (step_after seed from)) (map (step_after seed) (range_with_len (from + 1) count))) → fault ≡ OutOfMemory
    by rest (inl refused) = not_refused plan old (dirs_after seed from) (15 + 10 * from) fault root (omega arith) (is_small seed from) refused
    by rest (inr on) = rest on.1

pub only_memory : (plan : Plan) (seed rounds : ℕ) (fault : ListFault) → plan.root ≡ 47 ∷ [] → rounds < 256 → Kept plan [] (sample_steps seed rounds) → StopsAt fault plan [] (sample_steps seed rounds) → fault ≡ OutOfMemory
unfolding sample_steps
only_memory plan seed rounds fault root h kept stops = memory_from plan [] seed 0 (rounds + 1) fault root (omega arith) kept stops
