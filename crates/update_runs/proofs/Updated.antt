-- What one update comes to, from what its scan has told.
use Rattle.std.specs.Prelude.{is_some, Err, IsErrOf, MatchBool, Ok, Result}
use Rattle.std.proofs.Common.{◌≡◌, ℕ, ◌+◌, ◌-◌, ◌≤◌, ◌^◌, Bool, true, false, ◌&&◌, List, [], ◌++◌, refl, sym, ap, ◌∙◌, subst, arith, Option, Some, None, IsSome, IsTrue, ◌⊎◌, inl, inr}
use Rattle.std.specs.FinMap.{get}
use Rattle.std.specs.Io.KnownBytes.{Appends}
use Rattle.loc_outside.specs.Causes.{Rose}
use Rattle.loc_outside.specs.Trees.{Dir, Dirs}
use Rattle.sample_trees.specs.declared.step.SampleStep.{SampleStep}
use Rattle.tree_scan.specs.declared.rules.Counts.{Counts}
use Rattle.tree_scan.specs.declared.rules.Limits.{Limits}
use Rattle.tree_scan.specs.declared.rules.ScanFault.{ScanFault}
use Rattle.tree_scan.specs.declared.rules.ScanFault.TheVariants as scan
use Rattle.tree_scan.specs.Blocks.{scan_text}
use Rattle.tree_scan.specs.Plan.{Plan}
use Rattle.tree_scan.specs.Records.{Honest, Record, answers_all}
use Rattle.tree_scan.specs.Records.{known as known_of}
use Rattle.tree_scan.specs.Scans.{AskedOf, Completed, Exceeded, Found, WhereKnown, usual}
use Rattle.dir_reuse.specs.declared.cursor.Cursor.{Cursor}
use Rattle.dir_reuse.specs.Stream.{OpensKnown, is_known_ordered, known}
use Rattle.dir_reuse.specs.Usable.{is_ordered, records}
use Rattle.update_runs.specs.declared.outcome.ListFault.{ListFault}
use Rattle.update_runs.specs.declared.outcome.ListFault.TheVariants as list
use Rattle.update_runs.specs.declared.single.StepCounts.{StepCounts}
use Rattle.update_runs.specs.Faults.{fault_of, in_scan}
use Rattle.update_runs.specs.Single.{IsHonest, Refuses, Updates, opened_in}

-- ---- the old database

never_rose : Rose 0 0 → ⊥
never_rose r = omega (arith, r)

-- The records of a voucher are those of the old database, and it answers from all of them where that is in order.
pub record Opened (plan : Plan) (old : List ℕ) (rs : Option (List Record)) (all : Bool) : Type 0 where
  pub told : rs ≡ Some (records plan.root plan.block old)
  pub whole : all ≡ is_ordered plan.root plan.block old

both_true : (b : Bool) → (true && (b && true)) ≡ b
both_true true = refl
both_true false = refl

abbrev Opens : Bool → List ℕ → Option (List ℕ) → Plan → Cursor → Type 0
Opens u file l plan c = MatchBool u ((known c l ≡ Some (records plan.root plan.block file)) × (is_known_ordered c l ≡ is_ordered plan.root plan.block file)) (known c l ≡ Some [])

pub opened : (plan : Plan) (old : List ℕ) (l : Option (List ℕ)) (c c' : Cursor) → OpensKnown plan.root plan.block (Some old) c l → (c.unbroken ≡ false → Rose 0 0) → ((Rose 0 0 → ⊥) → c'.unbroken ≡ c.unbroken)
    → Opened plan old (known c l) (answers_all (known c l) (is_known_ordered c l) c'.unbroken)
opened plan old l c c' opens broke still = by c.unbroken refl
  where
    by : (u : Bool) → c.unbroken ≡ u → Opened plan old (known c l) (answers_all (known c l) (is_known_ordered c l) c'.unbroken)
    by false is = absurd (never_rose (broke is))
    by true is =
        let told : (known c l ≡ Some (records plan.root plan.block old)) × (is_known_ordered c l ≡ is_ordered plan.root plan.block old) = subst (λ (u : Bool). Opens u old l plan c) is opens in
        let some : is_some (known c l) ≡ true = ap is_some told.0 in
        let on : c'.unbroken ≡ true = still never_rose ∙ is in
        record { told = told.0; whole = (λ i. some i && (told.1 i && on i)) ∙ both_true (is_ordered plan.root plan.block old) }

-- ---- it was done

there_if : (o : Option Dir) → (o ≡ None → ⊥) → IsSome o
there_if None h = absurd (h refl)
there_if (Some d) h = refl

pub lacks_none : (counts : Counts) → IsErrOf (Ok counts) scan.RootMissing ⊎ IsErrOf (Ok counts) scan.TreeFault → ⊥
lacks_none counts (inl e) = absurd cc
lacks_none counts (inr e) = absurd cc

taken_off : (opened o o' n : ℕ) → opened ≡ o' - o → o' ≡ o + n → opened ≡ n
taken_off opened o o' n e k = omega (arith, e, k)

pub updated : (plan : Plan) (old : List ℕ) (step : SampleStep) (rs : Option (List Record)) (all : Bool) (limits : Limits) (held made : List ℕ) (scanned : Counts) (counts : StepCounts) (echo echo' : Option (List ℕ)) (o o' : ℕ)
    → Opened plan old rs all → limits ≡ usual → held ≡ [] → o ≤ 2 ^ 63 → counts.directories ≡ scanned.directories → counts.opened ≡ o' - o
    → WhereKnown (Some step.tree.dirs) rs plan (λ dirs records. Appends (Some held) (Some made) (scan_text dirs plan step.now))
    → WhereKnown (Some step.tree.dirs) rs plan (λ dirs records. Completed limits records all dirs plan scanned echo echo' o o')
    → (get step.tree.dirs plan.root ≡ None → ⊥) → IsHonest plan old step.tree.dirs → Updates plan old step counts made
updated plan old step rs all limits held made scanned counts echo echo' o o' opens is none few directories opened wrote completed lacking honest =
    let dirs = step.tree.dirs in
    let h : Honest rs dirs plan = subst (λ (r : Option (List Record)). Honest r dirs plan) (sym opens.told) honest in
    let rest : known_of rs ≡ records plan.root plan.block old = ap known_of opens.told in
    let did : Completed usual (records plan.root plan.block old) all dirs plan scanned echo echo' o o' =
    subst (λ (x : List Record). Completed usual x all dirs plan scanned echo echo' o o') rest (subst (λ (x : Limits). Completed x (known_of rs) all dirs plan scanned echo echo' o o') is (completed dirs refl h)) in
    let text : made ≡ held ++ scan_text dirs plan step.now = wrote dirs refl h in
    record {
      passes = record { root_there = there_if (get dirs plan.root) lacking; few = did.few; narrow = did.narrow };
      scanned = text ∙ ap (λ (x : List ℕ). x ++ scan_text dirs plan step.now) none;
      directories = directories ∙ did.blocks;
      opened = λ ordered. taken_off counts.opened o o' _ opened (did.opened_once (subst (λ (b : Bool). IsTrue b) (sym opens.whole) ordered) few);
    }

-- ---- how often directories were opened

pub asked : (plan : Plan) (old : List ℕ) (dirs : Dirs) (rs : Option (List Record)) (all : Bool) (priced : List ℕ → Bool) (o o' times times' : ℕ) → Opened plan old rs all
    → WhereKnown (Some dirs) rs plan (λ d records. AskedOf records all d plan priced o o' times times') → IsHonest plan old dirs → IsTrue (is_ordered plan.root plan.block old) → o' ≤ o + opened_in plan old dirs
asked plan old dirs rs all priced o o' times times' opens asks honest ordered =
    let h : Honest rs dirs plan = subst (λ (r : Option (List Record)). Honest r dirs plan) (sym opens.told) honest in
    let did : AskedOf (records plan.root plan.block old) all dirs plan priced o o' times times' = subst (λ (x : List Record). AskedOf x all dirs plan priced o o' times times') (ap known_of opens.told) (asks dirs refl h) in
    did.unvouched_alone (subst (λ (b : Bool). IsTrue b) (sym opens.whole) ordered)

pub risen : (opened o o' : ℕ) → opened ≡ o' - o → o' ≤ o + opened
risen opened o o' e = omega (arith, e)

-- ---- it was refused

found_again : (f : ScanFault) (root : List ℕ) (dirs : Dirs) → Found f usual root dirs → Found (in_scan (fault_of f)) usual root dirs
found_again scan.RootMissing root dirs found = found
found_again scan.TooManyNames root dirs found = found
found_again scan.TooManyDirectories root dirs found = found
found_again scan.OutOfMemory root dirs found = found
found_again scan.TreeFault root dirs found = record { missing = λ e. absurd cc; wide_there = λ e. absurd cc; many_there = λ e. absurd cc }
found_again scan.WriteFault root dirs found = record { missing = λ e. absurd cc; wide_there = λ e. absurd cc; many_there = λ e. absurd cc }

exceeded_again : (f : ScanFault) (rs : List Record) (all : Bool) (dirs : Dirs) (plan : Plan) → Exceeded f usual rs all dirs plan → Exceeded (in_scan (fault_of f)) usual rs all dirs plan
exceeded_again scan.RootMissing rs all dirs plan found = found
exceeded_again scan.TooManyNames rs all dirs plan found = found
exceeded_again scan.TooManyDirectories rs all dirs plan found = found
exceeded_again scan.OutOfMemory rs all dirs plan found = found
exceeded_again scan.TreeFault rs all dirs plan found = record { wide_reached = λ e. absurd cc; many_tried = λ e. absurd cc }
exceeded_again scan.WriteFault rs all dirs plan found = record { wide_reached = λ e. absurd cc; many_tried = λ e. absurd cc }

pub found_of : (limits : Limits) (f : ScanFault) (fault : ListFault) (root : List ℕ) (dirs : Dirs) → limits ≡ usual → fault ≡ fault_of f → ((d : Dirs) → Some dirs ≡ Some d → Found f limits root d) → Found (in_scan fault) usual root dirs
found_of limits f fault root dirs is said found =
    let there : Found f usual root dirs = subst (λ (x : Limits). Found f x root dirs) is (found dirs refl) in
    subst (λ (x : ListFault). Found (in_scan x) usual root dirs) (sym said) (found_again f root dirs there)

-- the answer of a scan that ended with this fault
abbrev failed : ScanFault → Result Counts ScanFault
failed f = Err f

-- the answer to that of a scan; one that was done has none
abbrev fault_in : Result Counts ScanFault → ListFault
fault_in (Ok counts) = list.OutOfMemory
fault_in (Err f) = fault_of f

lacks : (f : ScanFault) → IsErrOf (failed f) scan.RootMissing ⊎ IsErrOf (failed f) scan.TreeFault → (fault_of f ≡ list.RootMissing) ⊎ (fault_of f ≡ list.OutOfMemory)
lacks f (inl e) = inl (ap fault_in e)
lacks f (inr e) = inr (ap fault_in e)

pub refused : (plan : Plan) (old : List ℕ) (dirs : Dirs) (rs : Option (List Record)) (all : Bool) (limits : Limits) (f : ScanFault) (fault : ListFault) → Opened plan old rs all → limits ≡ usual → fault ≡ fault_of f
    → ((d : Dirs) → Some dirs ≡ Some d → Found f limits plan.root d) → WhereKnown (Some dirs) rs plan (λ d records. Exceeded f limits records all d plan)
    → ((d : Dirs) → Some dirs ≡ Some d → get d plan.root ≡ None → IsErrOf (failed f) scan.RootMissing ⊎ IsErrOf (failed f) scan.TreeFault)
    → IsHonest plan old dirs → Refuses plan old dirs fault
refused plan old dirs rs all limits f fault opens is said found exceeded lacking honest =
    let h : Honest rs dirs plan = subst (λ (r : Option (List Record)). Honest r dirs plan) (sym opens.told) honest in
    let rest : known_of rs ≡ records plan.root plan.block old = ap known_of opens.told in
    let there : Found f usual plan.root dirs = subst (λ (x : Limits). Found f x plan.root dirs) is (found dirs refl) in
    let over : Exceeded f usual (records plan.root plan.block old) (is_ordered plan.root plan.block old) dirs plan =
    subst (λ (b : Bool). Exceeded f usual (records plan.root plan.block old) b dirs plan) opens.whole
    (subst (λ (x : List Record). Exceeded f usual x all dirs plan) rest (subst (λ (x : Limits). Exceeded f x (known_of rs) all dirs plan) is (exceeded dirs refl h))) in
    subst (λ (x : ListFault). Refuses plan old dirs x) (sym said) (record { found = found_again f plan.root dirs there; lacking = λ gone. lacks f (lacking dirs refl gone); exceeded = exceeded_again f (records plan.root plan.block old) (is_ordered plan.root plan.block old) dirs plan over })
