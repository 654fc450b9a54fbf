-- What the updates of a sample come to.
use Rattle.std.proofs.Common.{◌≡◌, ℕ, ◌<◌, ◌^◌, List, [], length, refl, ◌∙◌, subst, arith}
use Rattle.sample_trees.specs.declared.step.SampleStep.{SampleStep}
use Rattle.sample_trees.specs.Steps.{sample_steps}
use Rattle.tree_scan.specs.Plan.{Plan}
use Rattle.dir_reuse.specs.Scanned.{IsPlan}
use Rattle.update_runs.specs.declared.exercising.Exercised.{Exercised}
use Rattle.update_runs.specs.declared.outcome.ListFault.{ListFault}
use Rattle.update_runs.specs.declared.outcome.ListFault.TheVariants.{OutOfMemory}
use Rattle.update_runs.specs.declared.outcome.ListResult.{ListResult}
use Rattle.update_runs.specs.Exercises.{exercised, sample_plan}
use Rattle.update_runs.specs.Runs.{Comes, Kept, StopsAt}
use Rattle.update_runs.proofs.SampleKept.{none_ordered, sample_kept}
use Rattle.update_runs.proofs.Samples.{only_memory}

planned : length sample_plan.block < 2 ^ 32 → IsPlan sample_plan
planned short = record { root = refl; version = omega arith; block = short }

kept : (number rounds : ℕ) → rounds < 256 → length sample_plan.block < 2 ^ 32 → Kept sample_plan [] (sample_steps number rounds)
kept number rounds few short = sample_kept number rounds sample_plan few (planned short) (λ path. omega arith)

-- what holds of the rules and of the steps, if the steps can be relied on
abbrev OfSample : (Plan → List SampleStep → Type 0) → Plan → List SampleStep → Type 0
OfSample holds plan steps = Kept plan [] steps → holds plan steps

sampled : (holds : Plan → List SampleStep → Type 0) (plan : Plan) (steps : List SampleStep) (number rounds : ℕ) → plan ≡ sample_plan → steps ≡ sample_steps number rounds → rounds < 256 → length plan.block < 2 ^ 32
    → (Kept plan [] steps → holds plan steps) → holds sample_plan (sample_steps number rounds)
sampled holds plan steps number rounds is are few short given =
    let block : length sample_plan.block < 2 ^ 32 = subst (λ (p : Plan). length p.block < 2 ^ 32) is short in
    let all : OfSample holds sample_plan steps = subst (λ (p : Plan). OfSample holds p steps) is given in
    let said : OfSample holds sample_plan (sample_steps number rounds) = subst (λ (s : List SampleStep). OfSample holds sample_plan s) are all in
    said (kept number rounds few block)

pub exercise_comes : (plan : Plan) (steps : List SampleStep) (number rounds : ℕ) (list : ListResult) (text : List ℕ) → plan ≡ sample_plan → steps ≡ sample_steps number rounds → rounds < 256 → length plan.block < 2 ^ 32
    → text ≡ list.bytes → (Kept plan [] steps → Comes plan [] steps list)
    → ◌≡◌ {A = Exercised} (record { rounds = rounds; directories = list.directories; opened = list.openings; bytes = length text }) (exercised number rounds)
exercise_comes plan steps number rounds list text is are few short same given =
    let came : Comes sample_plan [] (sample_steps number rounds) list = sampled (λ p s. Comes p [] s list) plan steps number rounds is are few short given in
    let bytes = same ∙ came.bytes in
    let opened = came.openings (none_ordered sample_plan.root sample_plan.block) in
    λ i. record { rounds = rounds; directories = came.directories i; opened = opened i; bytes = length (bytes i) }

pub exercise_stops : (plan : Plan) (steps : List SampleStep) (number rounds : ℕ) (fault : ListFault) → plan ≡ sample_plan → steps ≡ sample_steps number rounds → rounds < 256 → length plan.block < 2 ^ 32
    → StopsAt fault plan [] steps → fault ≡ OutOfMemory
exercise_stops plan steps number rounds fault is are few short given =
    let block : length sample_plan.block < 2 ^ 32 = subst (λ (p : Plan). length p.block < 2 ^ 32) is short in
    only_memory sample_plan number rounds fault refl few (kept number rounds few block) (sampled (λ p s. StopsAt fault p [] s) plan steps number rounds is are few short (λ kept. given))
