-- What holds of the plan that was made, holds of the plan that is told.
use Rattle.std.proofs.Common.{◌≡◌, ℕ, List, subst, Option, Some, Result, Ok, Err, OnOk}
use Rattle.loc_outside.specs.Files.{Files}
use Rattle.loc_outside.specs.Trees.{Dirs}
use Rattle.tool_words.specs.Updatedb.{UpdatedbAsked}
use Rattle.tree_scan.specs.Plan.{Plan}
use Rattle.database_update.specs.declared.fault.UpdateFault.{UpdateFault}
use Rattle.tree_scan.specs.Records.{Honest}
use Rattle.database_update.specs.OldDatabase.{WhereHonest, old_in, old_records}
use Rattle.database_update.specs.Settings.{WherePlanned, plan_in}

pub plan_is : (a b : Plan) (r : Result Plan UpdateFault) → r ≡ Ok a → r ≡ Ok b → a ≡ b
plan_is a b r p q = cc

pub told_by : (files : Option Files) (dirs : Option Dirs) (asked : UpdatedbAsked) (made : Plan) (holds : Dirs → Plan → Type 0)
    → ((f : Files) → files ≡ Some f → plan_in f asked ≡ Ok made) → ((d : Dirs) → dirs ≡ Some d → holds d made) → WherePlanned files dirs asked holds
told_by files dirs asked made holds accepted h = λ f d plan tf td e. subst (holds d) (plan_is made plan (plan_in f asked) (accepted f tf) e) (h d td)

-- the same of the old database besides
pub reused_by : (files : Option Files) (dirs : Option Dirs) (asked : UpdatedbAsked) (made : Plan) (holds : Dirs → Plan → Option (List ℕ) → Type 0)
    → ((f : Files) → files ≡ Some f → plan_in f asked ≡ Ok made)
    → ((f : Files) (d : Dirs) → files ≡ Some f → dirs ≡ Some d → Honest (Some (old_records (old_in f asked) made)) d made → holds d made (old_in f asked)) → WhereHonest files dirs asked holds
reused_by files dirs asked made holds accepted h = λ f d plan tf td e.
    subst (λ (p : Plan). Honest (Some (old_records (old_in f asked) p)) d p → holds d p (old_in f asked)) (plan_is made plan (plan_in f asked) (accepted f tf) e) (h f d tf td)

pub on_ok : {T E : Type 0} (r : Result T E) (P Q : Type 0) → (P → Q) → OnOk r P → OnOk r Q
on_ok (Ok x) P Q f h = f h
on_ok (Err e) P Q f h = tt
