-- What a scan has done with the records of its voucher, said of the records of the old database.
use Rattle.std.specs.Prelude.{not, min}
use Rattle.std.proofs.Common.{Bool, true, false, ◌≡◌, ℕ, ◌≤◌, ◌+◌, List, [], length, sym, ap, subst, ◌∙◌, ◌⊎◌, inl, inr, Option, Some, IsTrue, true≢false}
use Rattle.std.proofs.lemmas.Bool.{and_parts, le-leb}
use Rattle.std.proofs.lemmas.List.Elements.{All-filter}
use Rattle.std.specs.FinMap.{entries}
use Rattle.path_order.specs.Stamp.{Moment}
use Rattle.loc_outside.specs.Causes.{Rose, last_count}
use Rattle.loc_outside.specs.Held.{Held}
use Rattle.loc_outside.specs.Trees.{Dir, Dirs}
use Rattle.tree_scan.specs.declared.rules.Counts.{Counts}
use Rattle.tree_scan.specs.declared.rules.ScanFault.{ScanFault}
use Rattle.tree_scan.specs.Blocks.{time_of}
use Rattle.tree_scan.specs.Plan.{Plan}
use Rattle.tree_scan.specs.Reach.{reached, tried}
use Rattle.tree_scan.specs.Records.{Honest, Record, is_vouched, known, unvouched}
use Rattle.tree_scan.specs.Scans.{AskedOf, Completed, StoppedAt, usual}
use Rattle.tree_scan.specs.Stops.{CameTo, HasWide, Narrow, StopsAt, StopsWide, Taken}
use Rattle.dir_reuse.specs.Usable.{is_ordered}
use Rattle.database_update.specs.declared.fault.UpdateFault.{UpdateFault}
use Rattle.database_update.specs.OldDatabase.{has_risen, is_reused_whole}
use Rattle.database_update.specs.Scans.{Left, ScanExceeded}
use Rattle.database_update.proofs.ScanLemmas.{honest_none, unvouched_all}

-- A scan's voucher had these records, or none; where all of them were to be answered from, it had them, and so it did.
pub record Reuses (told : Option (List Record)) (all : Bool) (records : List Record) (all' : Bool) : Type 0 where
  pub from : (told ≡ Some records) ⊎ (told ≡ Some [])
  pub whole : IsTrue all' → (told ≡ Some records) × IsTrue all

pub honest_too : (told : Option (List Record)) (records : List Record) (dirs : Dirs) (plan : Plan) → (told ≡ Some records) ⊎ (told ≡ Some []) → Honest (Some records) dirs plan → Honest told dirs plan
honest_too told records dirs plan (inl is) h = subst (λ (o : Option (List Record)). Honest o dirs plan) (sym is) h
honest_too told records dirs plan (inr is) h = subst (λ (o : Option (List Record)). Honest o dirs plan) (sym is) (honest_none dirs plan)

narrow_too : (told : Option (List Record)) (records : List Record) (plan : Plan) (limit : ℕ) (es : List (List ℕ × Dir)) → (told ≡ Some records) ⊎ (told ≡ Some []) → Narrow limit (unvouched (known told) plan es) → Narrow limit (unvouched records plan es)
narrow_too told records plan limit es (inl is) n = subst (λ (o : Option (List Record)). Narrow limit (unvouched (known o) plan es)) is n
narrow_too told records plan limit es (inr is) n =
    let none : Narrow limit (unvouched [] plan es) = subst (λ (o : Option (List Record)). Narrow limit (unvouched (known o) plan es)) is n in
    let each : Narrow limit es = subst (Narrow limit) (unvouched_all plan es) none in
    All-filter (λ (e : List ℕ × Dir). not (is_vouched records e.0 (time_of e.1.times) (plan.device_of e.0))) (λ (e : List ℕ × Dir). length (entries e.1.names) ≤ limit) es each

pub completed_too : (told : Option (List Record)) (all all' : Bool) (records : List Record) (dirs : Dirs) (plan : Plan) (counts : Counts) (e e' : Option (List ℕ)) (o o' : ℕ) → Reuses told all records all'
    → Completed usual (known told) all dirs plan counts e e' o o' → Completed usual records all' dirs plan counts e e' o o'
completed_too told all all' records dirs plan counts e e' o o' r c = record {
  echoed = c.echoed;
  blocks = c.blocks;
  entries = c.entries;
  opened_once = λ yes small. subst (λ (t : Option (List Record)). o' ≡ o + length (unvouched (known t) plan (tried dirs plan.pruned plan.root))) (r.whole yes).0 (c.opened_once (r.whole yes).1 small);
  few = c.few;
  narrow = narrow_too told records plan usual.names (reached dirs plan.pruned plan.root) r.from c.narrow;
}

pub asked_too : (told : Option (List Record)) (all all' : Bool) (records : List Record) (dirs : Dirs) (plan : Plan) (priced : List ℕ → Bool) (o o' s s' : ℕ) → Reuses told all records all'
    → AskedOf (known told) all dirs plan priced o o' s s' → AskedOf records all' dirs plan priced o o' s s'
asked_too told all all' records dirs plan priced o o' s s' r a = record {
  opened = a.opened;
  unvouched_alone = λ yes. subst (λ (t : Option (List Record)). o' ≤ o + length (unvouched (known t) plan (tried dirs plan.pruned plan.root))) (r.whole yes).0 (a.unvouched_alone (r.whole yes).1);
  stats = a.stats;
}

pub exceeded_too : (told : Option (List Record)) (all all' : Bool) (records : List Record) (fault : UpdateFault) (dirs : Dirs) (plan : Plan) → Reuses told all records all' → ScanExceeded fault (known told) all dirs plan → ScanExceeded fault records all' dirs plan
exceeded_too told all all' records fault dirs plan r x = λ f is. record {
  wide_reached = λ was yes. subst (λ (t : Option (List Record)). HasWide usual.names (unvouched (known t) plan (reached dirs plan.pruned plan.root))) (r.whole yes).0 ((x f is).wide_reached was (r.whole yes).1);
  many_tried = (x f is).many_tried;
}

came_too : (told : Option (List Record)) (all all' : Bool) (records : List Record) (dirs : Dirs) (plan : Plan) (now : Moment) (path : List ℕ) (old new : Taken) → Reuses told all records all' → CameTo (known told) usual dirs plan now path old new → CameTo records usual dirs plan now path old new
came_too told all all' records dirs plan now path old new r came = record {
  candidate = came.candidate;
  wrote = came.wrote;
  narrow = narrow_too told records plan usual.names _ r.from came.narrow;
  few = came.few;
}

stops_too : (told : Option (List Record)) (all all' : Bool) (records : List Record) (dirs : Dirs) (plan : Plan) (now : Moment) (old new : Taken) → Reuses told all records all' → StopsAt (known told) usual dirs plan now old new → StopsAt records usual dirs plan now old new
stops_too told all all' records dirs plan now old new r (inl none) = inl none
stops_too told all all' records dirs plan now old new r (inr (path, came)) = inr (path, came_too told all all' records dirs plan now path old new r came)

wide_too : (told : Option (List Record)) (all all' : Bool) (records : List Record) (dirs : Dirs) (plan : Plan) (now : Moment) (old new : Taken) → Reuses told all records all' → StopsWide (known told) usual all dirs plan now old new → StopsWide records usual all' dirs plan now old new
wide_too told all all' records dirs plan now old new r s = record {
  path = s.path;
  came = came_too told all all' records dirs plan now s.path old new r s.came;
  wide = s.wide;
  unvouched = λ yes. subst (λ (t : Option (List Record)). is_vouched (known t) s.path (time_of s.wide.dir.times) (plan.device_of s.path) ≡ false) (r.whole yes).0 (s.unvouched (r.whole yes).1);
}

at_too : (f : ScanFault) (told : Option (List Record)) (all all' : Bool) (records : List Record) (now : Moment) (dirs : Dirs) (plan : Plan) (old new : Taken) → Reuses told all records all' → StoppedAt f usual (known told) all now dirs plan old new → StoppedAt f usual records all' now dirs plan old new
at_too f told all all' records now dirs plan old new r s = record {
  whole_tree = s.whole_tree;
  stops = λ was. stops_too told all all' records dirs plan now old new r (s.stops was);
  whole_names = s.whole_names;
  stops_wide = λ was. wide_too told all all' records dirs plan now old new r (s.stops_wide was);
  whole_directories = s.whole_directories;
  stops_full = λ was. stops_too told all all' records dirs plan now old new r (s.stops_full was);
}

pub left_too : (fault : UpdateFault) (told : Option (List Record)) (all all' : Bool) (records : List Record) (name : List ℕ) (now : Moment) (dirs : Dirs) (plan : Plan) (h h' : Option Held) (e e' : Option (List ℕ)) (same : Type 0) → Reuses told all records all'
    → Left fault (known told) all name now dirs plan h h' e e' same → Left fault records all' name now dirs plan h h' e e' same
left_too fault told all all' records name now dirs plan h h' e e' same r left = record {
  leaves = left.leaves;
  echo_part = left.echo_part;
  wrote = left.wrote;
  stopped = λ f is. at_too f told all all' records now dirs plan _ _ r (left.stopped f is);
}

-- ---- that no read failed

risen : (before now : ℕ) → Rose before now → has_risen before now ≡ true
risen before now r = le-leb (min (before + 1) last_count) now r

not_risen : (b : Bool) → IsTrue (not b) → b ≡ true → ⊥
not_risen b n is = true≢false (sym n ∙ ap not is)

-- where all records of a file were answered from, the reader did not fail, and the file is in order
pub all_unfailed : (file : List ℕ) (plan : Plan) (f f' : ℕ) → IsTrue (is_reused_whole (Some file) plan f f') → Rose f f' → ⊥
all_unfailed file plan f f' whole r = not_risen (has_risen f f') (and_parts (is_ordered plan.root plan.block file) _ whole).1 (risen f f' r)

pub all_ordered : (file : List ℕ) (plan : Plan) (f f' : ℕ) → IsTrue (is_reused_whole (Some file) plan f f') → IsTrue (is_ordered plan.root plan.block file)
all_ordered file plan f f' whole = (and_parts (is_ordered plan.root plan.block file) _ whole).0
