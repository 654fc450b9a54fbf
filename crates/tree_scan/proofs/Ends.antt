-- How a scan ends: what holds of each answer, by which fault it is.
use Rattle.std.specs.Prelude.{IfErr, IsErrOf, IsTrue}
use Rattle.std.proofs.Common.{◌≡◌, ◌≤◌, ◌<◌, ◌+◌, ℕ, Bool, true, false, List, length, take, Option, Some, None, Result, Ok, Err, inl, refl, sym, ◌∙◌, ap, true≢false}
use Rattle.std.specs.FinMap.{get, entries}
use Rattle.std.proofs.KnownBytes.{Appends-nil}
use Rattle.path_order.specs.Stamp.{Moment}
use Rattle.loc_outside.specs.Trees.{Dirs}
use Rattle.tree_scan.specs.declared.rules.Counts.{Counts}
use Rattle.tree_scan.specs.declared.rules.Limits.{Limits}
use Rattle.tree_scan.specs.declared.rules.ScanFault.{ScanFault}
use Rattle.tree_scan.specs.declared.rules.ScanFault.TheVariants.{RootMissing, TreeFault, WriteFault, TooManyNames, TooManyDirectories, OutOfMemory}
use Rattle.tree_scan.specs.Plan.{Plan}
use Rattle.tree_scan.specs.Reach.{reached, tried}
use Rattle.tree_scan.specs.Records.{Record, unvouched}
use Rattle.tree_scan.specs.Scans.{AskedOf, Exceeded, Found, Stopped, StoppedAt, WhereKnown, WrotePart}
use Rattle.tree_scan.specs.Steps.{priced_candidates}
use Rattle.tree_scan.specs.Stops.{HasWide, ListsMore, StopsAt, StopsAtWide, StopsWide, Taken, Whole, WroteBlocks, shown_of, taken}
use Rattle.tree_scan.proofs.Loop.{parts_none, whole_none}

abbrev Answer : Type 0
Answer = Result Counts ScanFault

pub stopped_by : (r : Answer) (told : Option Dirs) (records : Option (List Record)) (limits : Limits) (all : Bool) (now : Moment) (plan : Plan) (old new : Taken)
    → WhereKnown told records plan (λ dirs rs. WrotePart dirs plan now old new)
    → (IsErrOf r TreeFault → WhereKnown told records plan (λ dirs rs. Whole dirs plan now old new))
    → (IsErrOf r TreeFault → WhereKnown told records plan (λ dirs rs. StopsAt rs limits dirs plan now old new))
    → (IsErrOf r TooManyNames → WhereKnown told records plan (λ dirs rs. StopsAtWide dirs plan now limits.names old new))
    → (IsErrOf r TooManyNames → WhereKnown told records plan (λ dirs rs. StopsWide rs limits all dirs plan now old new))
    → (IsErrOf r TooManyDirectories → WhereKnown told records plan (λ dirs rs. WroteBlocks plan now (shown_of (take limits.directories (tried dirs plan.pruned plan.root))) old new))
    → (IsErrOf r TooManyDirectories → WhereKnown told records plan (λ dirs rs. StopsAt rs limits dirs plan now old new))
    → IfErr r (λ fault. WhereKnown told records plan (λ dirs rs. Stopped fault limits rs all now dirs plan old new))
stopped_by (Ok counts) told records limits all now plan old new part tree tree_at names names_at directories directories_at = tt
stopped_by (Err fault) told records limits all now plan old new part tree tree_at names names_at directories directories_at = λ dirs is honest. record {
  wrote = part dirs is honest;
  at = record {
    whole_tree = λ was. tree (ap Err was) dirs is honest;
    stops = λ was. tree_at (ap Err was) dirs is honest;
    whole_names = λ was. names (ap Err was) dirs is honest;
    stops_wide = λ was. names_at (ap Err was) dirs is honest;
    whole_directories = λ was. directories (ap Err was) dirs is honest;
    stops_full = λ was. directories_at (ap Err was) dirs is honest;
  };
}

pub found_by : (r : Answer) (told : Option Dirs) (limits : Limits) (root : List ℕ) → (IsErrOf r RootMissing → (dirs : Dirs) → told ≡ Some dirs → get dirs root ≡ None)
    → (IsErrOf r TooManyNames → (dirs : Dirs) → told ≡ Some dirs → ListsMore dirs limits.names)
    → (IsErrOf r TooManyDirectories → (dirs : Dirs) → told ≡ Some dirs → limits.directories < length (entries dirs))
    → IfErr r (λ fault. (dirs : Dirs) → told ≡ Some dirs → Found fault limits root dirs)
found_by (Ok counts) told limits root missing wide many = tt
found_by (Err fault) told limits root missing wide many = λ dirs is. record {
  missing = λ was. missing (ap Err was) dirs is;
  wide_there = λ was. wide (ap Err was) dirs is;
  many_there = λ was. many (ap Err was) dirs is;
}

pub exceeded_by : (r : Answer) (told : Option Dirs) (records : Option (List Record)) (limits : Limits) (all : Bool) (plan : Plan)
    → (IsErrOf r TooManyNames → WhereKnown told records plan (λ dirs rs. IsTrue all → HasWide limits.names (unvouched rs plan (reached dirs plan.pruned plan.root))))
    → (IsErrOf r TooManyDirectories → WhereKnown told records plan (λ dirs rs. limits.directories < length (tried dirs plan.pruned plan.root)))
    → IfErr r (λ fault. WhereKnown told records plan (λ dirs rs. Exceeded fault limits rs all dirs plan))
exceeded_by (Ok counts) told records limits all plan wide many = tt
exceeded_by (Err fault) told records limits all plan wide many = λ dirs is honest. record {
  wide_reached = λ was. wide (ap Err was) dirs is honest;
  many_tried = λ was. many (ap Err was) dirs is honest;
}

pub asked_by : (told : Option Dirs) (records : Option (List Record)) (all : Bool) (plan : Plan) (priced : List ℕ → Bool) (openings openings' times times' : ℕ)
    → WhereKnown told records plan (λ dirs rs. openings' ≤ openings + length (tried dirs plan.pruned plan.root))
    → WhereKnown told records plan (λ dirs rs. IsTrue all → openings' ≤ openings + length (unvouched rs plan (tried dirs plan.pruned plan.root)))
    → WhereKnown told records plan (λ dirs rs. times' ≤ times + priced_candidates dirs plan.pruned priced plan.root)
    → WhereKnown told records plan (λ dirs rs. AskedOf rs all dirs plan priced openings openings' times times')
asked_by told records all plan priced openings openings' times times' opened alone stats = λ dirs is honest. record {
  opened = opened dirs is honest;
  unvouched_alone = alone dirs is honest;
  stats = stats dirs is honest;
}

-- a fault that tells of no limit
abbrev pub is_within : ScanFault → Bool
is_within RootMissing = true
is_within TreeFault = true
is_within WriteFault = true
is_within TooManyNames = false
is_within TooManyDirectories = false
is_within OutOfMemory = true

-- and not of the root
abbrev pub is_bare : ScanFault → Bool
is_bare RootMissing = false
is_bare TreeFault = true
is_bare WriteFault = true
is_bare TooManyNames = false
is_bare TooManyDirectories = false
is_bare OutOfMemory = true

other : {P : Type 0} (kind : ScanFault → Bool) (fault x : ScanFault) → kind fault ≡ true → fault ≡ x → kind x ≡ false → P
other kind fault x so was not = absurd (true≢false (sym so ∙ ap kind was ∙ not))

-- nor of the tree
abbrev pub is_silent : ScanFault → Bool
is_silent RootMissing = true
is_silent TreeFault = false
is_silent WriteFault = true
is_silent TooManyNames = false
is_silent TooManyDirectories = false
is_silent OutOfMemory = true

-- before a limit was passed, where nothing was written
pub stopped_none : (fault : ScanFault) (limits : Limits) (records : List Record) (all : Bool) (now : Moment) (dirs : Dirs) (plan : Plan) (u e : Option (List ℕ)) → is_within fault ≡ true → Stopped fault limits records all now dirs plan (taken u e) (taken u e)
stopped_none fault limits records all now dirs plan u e so = record {
  wrote = parts_none dirs plan now u e;
  at = record {
    whole_tree = λ was. whole_none dirs plan now u e;
    stops = λ was. inl (record { blocks = Appends-nil u; lined = Appends-nil e });
    whole_names = λ was. other is_within fault TooManyNames so was refl;
    stops_wide = λ was. other is_within fault TooManyNames so was refl;
    whole_directories = λ was. other is_within fault TooManyDirectories so was refl;
    stops_full = λ was. other is_within fault TooManyDirectories so was refl;
  };
}

-- a fault that tells nothing of where the scan was
pub at_silent : (fault : ScanFault) (limits : Limits) (records : List Record) (all : Bool) (now : Moment) (dirs : Dirs) (plan : Plan) (old new : Taken) → is_silent fault ≡ true → StoppedAt fault limits records all now dirs plan old new
at_silent fault limits records all now dirs plan old new so = record {
  whole_tree = λ was. other is_silent fault TreeFault so was refl;
  stops = λ was. other is_silent fault TreeFault so was refl;
  whole_names = λ was. other is_silent fault TooManyNames so was refl;
  stops_wide = λ was. other is_silent fault TooManyNames so was refl;
  whole_directories = λ was. other is_silent fault TooManyDirectories so was refl;
  stops_full = λ was. other is_silent fault TooManyDirectories so was refl;
}

pub stopped_write : (limits : Limits) (records : List Record) (all : Bool) (now : Moment) (dirs : Dirs) (plan : Plan) (old new : Taken) → WrotePart dirs plan now old new → Stopped WriteFault limits records all now dirs plan old new
stopped_write limits records all now dirs plan old new part = record { wrote = part; at = at_silent WriteFault limits records all now dirs plan old new refl }

pub found_none : (fault : ScanFault) (limits : Limits) (root : List ℕ) (dirs : Dirs) → is_bare fault ≡ true → Found fault limits root dirs
found_none fault limits root dirs so = record {
  missing = λ was. other is_bare fault RootMissing so was refl;
  wide_there = λ was. other is_bare fault TooManyNames so was refl;
  many_there = λ was. other is_bare fault TooManyDirectories so was refl;
}

pub found_missing : (limits : Limits) (root : List ℕ) (dirs : Dirs) → get dirs root ≡ None → Found RootMissing limits root dirs
found_missing limits root dirs none = record {
  missing = λ was. none;
  wide_there = λ was. other is_within RootMissing TooManyNames refl was refl;
  many_there = λ was. other is_within RootMissing TooManyDirectories refl was refl;
}

pub exceeded_none : (fault : ScanFault) (limits : Limits) (records : List Record) (all : Bool) (dirs : Dirs) (plan : Plan) → is_within fault ≡ true → Exceeded fault limits records all dirs plan
exceeded_none fault limits records all dirs plan so = record {
  wide_reached = λ was. other is_within fault TooManyNames so was refl;
  many_tried = λ was. other is_within fault TooManyDirectories so was refl;
}
