-- What an update does, by where it ended: while it read its settings, or afterwards.
use Rattle.std.specs.Prelude.{IfErr, IfOk, IsErrAnd, IsErrOf, IsOk, IsOkUnless, IsSome, IsTrue, OnErr, OnOk}
use Rattle.std.proofs.Common.{◌≡◌, ◌≤◌, ◌<◌, ◌⊎◌, ◌+◌, ℕ, Bool, true, false, List, [], length, Option, Some, None, Result, Ok, Err, inl, inr, refl, sym, ap, subst, ◌∙◌, arith}
use Rattle.std.specs.FinMap.{entries, get}
use Rattle.std.specs.Option.{option_map}
use Rattle.path_order.specs.Stamp.{Moment}
use Rattle.loc_outside.specs.Causes.{Rose, raised}
use Rattle.loc_outside.specs.Files.{Files}
use Rattle.loc_outside.specs.Held.{Held}
use Rattle.loc_outside.specs.Trees.{Dir, Dirs}
use Rattle.loc_outside.proofs.PartTaken.{part_none}
use Rattle.tool_words.specs.Updatedb.{UpdatedbAsked}
use Rattle.tree_scan.specs.declared.rules.Counts.{Counts}
use Rattle.tree_scan.specs.Blocks.{scan_text}
use Rattle.tree_scan.specs.Plan.{Plan}
use Rattle.tree_scan.specs.Reach.{reached, tried}
use Rattle.tree_scan.specs.Records.{Honest, Record, unvouched}
use Rattle.tree_scan.specs.Scans.{AskedOf, Completed, Failures, WhereKnown, usual}
use Rattle.tree_scan.specs.Stops.{HasWide, Narrow}
use Rattle.tree_scan.specs.declared.rules.ScanFault.{ScanFault}
use Rattle.tree_scan.specs.declared.rules.ScanFault.TheVariants as scan_faults
use Rattle.tree_scan.proofs.Ends as ends
use Rattle.database_update.specs.declared.settings_file.SettingsFile.{SettingsFile}
use Rattle.database_update.specs.declared.settings_file.SettingsFile.TheVariants.{Configuration, Mounts}
use Rattle.database_update.specs.declared.fault.UpdateFault.{UpdateFault}
use Rattle.database_update.specs.declared.fault.UpdateFault.TheVariants.{BadConf, BadMount, ReadFault, RootMissing, TreeFault, WriteFault, TooManyNames, TooManyDirectories, OutOfMemory}
use Rattle.database_update.specs.Faults.{fault_of, hides_memory, is_early, is_from_outside, is_of_scan, is_of_settings, is_refusal}
use Rattle.database_update.specs.Holding.{Begins, LeavesHeld, stored_in, with_file, with_pending}
use Rattle.database_update.specs.OldDatabase.{header_most, is_foreign, old_in, old_records, old_size}
use Rattle.database_update.specs.Scans.{Left, ScanExceeded, ScanFound}
use Rattle.database_update.specs.Settings.{conf_in, plan_in}
use Rattle.database_update.specs.SettingsFiles.{both_read, name_of, read_most}
use Rattle.database_update.specs.Updates.{AfterFault, Around, Bounded, Caused, NothingFailed, Required, Same, Stored, Untouched, UpdateDoes, all_of}
use Rattle.database_update.proofs.MemoryLemmas.{scan_hides_none}
use Rattle.database_update.proofs.FileLemmas.{plan_bad_conf}
use Rattle.database_update.proofs.Reusing.{Reuses, asked_too, completed_too, exceeded_too, honest_too, left_too}
use Rattle.database_update.proofs.ScanLemmas.{err_is}
use Rattle.database_update.proofs.Shown.{narrow_stops}
use Rattle.database_update.proofs.ToldLemmas.{on_ok, plan_is, reused_by, told_by}

-- ---- by what was answered

pub if_ok_by : {T E : Type 0} (r : Result T E) (P : T → Type 0) → ((x : T) → r ≡ Ok x → P x) → IfOk r P
if_ok_by (Ok x) P h = h x refl
if_ok_by (Err e) P h = tt

with_ok : {T E : Type 0} (r : Result T E) (x : T) (P : T → Type 0) → r ≡ Ok x → IfOk r P → P x
with_ok {T} {E} r x P is h = subst (λ (q : Result T E). IfOk q P) is h

pub if_err_by : {T E : Type 0} (r : Result T E) (P : E → Type 0) → ((e : E) → r ≡ Err e → P e) → IfErr r P
if_err_by (Ok x) P h = tt
if_err_by (Err e) P h = h e refl

pub at_ok : {T E : Type 0} (r : Result T E) (x : T) (P : Type 0) → r ≡ Ok x → OnOk r P → P
at_ok {T} {E} r x P is h = subst (λ (q : Result T E). OnOk q P) is h

pub at_err : {T E : Type 0} (r : Result T E) (e : E) (P : Type 0) → r ≡ Err e → OnErr r P → P
at_err {T} {E} r e P is h = subst (λ (q : Result T E). OnErr q P) is h

pub with_err : {T E : Type 0} (r : Result T E) (e : E) (P : E → Type 0) → r ≡ Err e → IfErr r P → P e
with_err {T} {E} r e P is h = subst (λ (q : Result T E). IfErr q P) is h

pub ok_is : {T E : Type 0} (r : Result T E) (x : T) → r ≡ Ok x → IsOk r
ok_is {T} {E} r x is = subst (λ (q : Result T E). IsOk q) (sym is) refl

-- ---- while it read its settings

-- no fault of another kind
other : (kind : UpdateFault → Bool) (f x : UpdateFault) (P : Type 0) → IsTrue (kind f) → f ≡ x → kind x ≡ false → P
other kind f x P so is not = let both : kind f ≡ kind x = ap kind is in absurd cc

pub leaves_none : (f : UpdateFault) (name text : List ℕ) (h : Option Held) → IsTrue (is_of_settings f) → LeavesHeld f name text h h
leaves_none (BadConf line cause) name text h so = refl
leaves_none (BadMount line cause) name text h so = refl
leaves_none (ReadFault file) name text h so = refl
leaves_none RootMissing name text h so = absurd cc
leaves_none TreeFault name text h so = absurd cc
leaves_none WriteFault name text h so = absurd cc
leaves_none TooManyNames name text h so = absurd cc
leaves_none TooManyDirectories name text h so = absurd cc
leaves_none OutOfMemory name text h so = inl refl

pub begins_none : (f : UpdateFault) (n : ℕ) → IsTrue (is_of_settings f) → Begins f n n
begins_none (BadConf line cause) n so = refl
begins_none (BadMount line cause) n so = refl
begins_none (ReadFault file) n so = refl
begins_none RootMissing n so = absurd cc
begins_none TreeFault n so = absurd cc
begins_none WriteFault n so = absurd cc
begins_none TooManyNames n so = absurd cc
begins_none TooManyDirectories n so = absurd cc
begins_none OutOfMemory n so = inl refl

-- where such a fault is one of a scan, it tells of no limit, nor of the root
bare_early : (f : UpdateFault) (x : ScanFault) → IsTrue (is_of_settings f) → f ≡ fault_of x → ends.is_bare x ≡ true
bare_early f scan_faults.RootMissing so is = other is_of_settings f RootMissing _ so is refl
bare_early f scan_faults.TreeFault so is = refl
bare_early f scan_faults.WriteFault so is = refl
bare_early f scan_faults.TooManyNames so is = other is_of_settings f TooManyNames _ so is refl
bare_early f scan_faults.TooManyDirectories so is = other is_of_settings f TooManyDirectories _ so is refl
bare_early f scan_faults.OutOfMemory so is = refl

within_early : (f : UpdateFault) (x : ScanFault) → IsTrue (is_of_settings f) → f ≡ fault_of x → ends.is_within x ≡ true
within_early f scan_faults.RootMissing so is = refl
within_early f scan_faults.TreeFault so is = refl
within_early f scan_faults.WriteFault so is = refl
within_early f scan_faults.TooManyNames so is = other is_of_settings f TooManyNames _ so is refl
within_early f scan_faults.TooManyDirectories so is = other is_of_settings f TooManyDirectories _ so is refl
within_early f scan_faults.OutOfMemory so is = refl

silent_early : (f : UpdateFault) (x : ScanFault) → IsTrue (is_of_settings f) → f ≡ fault_of x → ends.is_silent x ≡ true
silent_early f scan_faults.RootMissing so is = refl
silent_early f scan_faults.TreeFault so is = other is_of_settings f TreeFault _ so is refl
silent_early f scan_faults.WriteFault so is = refl
silent_early f scan_faults.TooManyNames so is = other is_of_settings f TooManyNames _ so is refl
silent_early f scan_faults.TooManyDirectories so is = other is_of_settings f TooManyDirectories _ so is refl
silent_early f scan_faults.OutOfMemory so is = refl

pub left_none : (f : UpdateFault) (records : List Record) (all : Bool) (name : List ℕ) (now : Moment) (dirs : Dirs) (plan : Plan) (h : Option Held) (e : Option (List ℕ)) (same : Type 0) → IsTrue (is_of_settings f) → same → Left f records all name now dirs plan h h e e same
left_none f records all name now dirs plan h e same so kept = record {
  leaves = leaves_none f name _ h so;
  echo_part = part_none e _;
  wrote = inl (refl, kept);
  stopped = λ x is. ends.at_silent x usual records all now dirs plan _ _ (silent_early f x so is);
}

pub no_root : {P : Type 0} (f : UpdateFault) → IsTrue (is_of_settings f) → f ≡ RootMissing → P
no_root {P} f so was = other is_of_settings f RootMissing P so was refl

pub found_none : (f : UpdateFault) (root : List ℕ) (dirs : Dirs) → IsTrue (is_of_settings f) → ScanFound f root dirs
found_none f root dirs so = λ x is. ends.found_none x usual root dirs (bare_early f x so is)

pub exceeded_none : (f : UpdateFault) (records : List Record) (all : Bool) (dirs : Dirs) (plan : Plan) → IsTrue (is_of_settings f) → ScanExceeded f records all dirs plan
exceeded_none f records all dirs plan so = λ x is. ends.exceeded_none x usual records all dirs plan (within_early f x so is)

pub failures_none : (verbose : Bool) (f : UpdateFault) (t o p : ℕ) → IsTrue (is_of_settings f)
    → Failures verbose (IsErrOf {T = Counts} {E = UpdateFault} (Err f) TreeFault) (IsErrOf {T = Counts} {E = UpdateFault} (Err f) WriteFault) t t o o p p
failures_none verbose f t o p so = record {
  tree_later = omega arith;
  sink_later = omega arith;
  echo_later = omega arith;
  tree_fault = λ was. other is_of_settings f _ _ so (err_is f TreeFault was) refl;
  write_fault = λ was. other is_of_settings f _ _ so (err_is f WriteFault was) refl;
}

-- which answers there must be
pub refuses_early : (f fault : UpdateFault) (p : Result Plan UpdateFault) → IsTrue (is_of_settings f) → (IsTrue (is_refusal f) → p ≡ Err f) → p ≡ Err fault
    → (f ≡ fault) ⊎ ((f ≡ OutOfMemory) ⊎ ((f ≡ ReadFault Configuration) ⊎ (f ≡ ReadFault Mounts)))
refuses_early (BadConf line cause) fault p so refused gives = let is : p ≡ Err (BadConf line cause) = refused refl in inl cc
refuses_early (BadMount line cause) fault p so refused gives = let is : p ≡ Err (BadMount line cause) = refused refl in inl cc
refuses_early (ReadFault Configuration) fault p so refused gives = inr (inr (inl refl))
refuses_early (ReadFault Mounts) fault p so refused gives = inr (inr (inr refl))
refuses_early RootMissing fault p so refused gives = absurd cc
refuses_early TreeFault fault p so refused gives = absurd cc
refuses_early WriteFault fault p so refused gives = absurd cc
refuses_early TooManyNames fault p so refused gives = absurd cc
refuses_early TooManyDirectories fault p so refused gives = absurd cc
refuses_early OutOfMemory fault p so refused gives = inr (inl refl)

pub outside_early : (f : UpdateFault) (plan : Plan) (p : Result Plan UpdateFault) → IsTrue (is_of_settings f) → (IsTrue (is_refusal f) → p ≡ Err f) → p ≡ Ok plan → (f ≡ RootMissing) ⊎ IsTrue (is_from_outside f)
outside_early (BadConf line cause) plan p so refused made = let is : p ≡ Err (BadConf line cause) = refused refl in absurd cc
outside_early (BadMount line cause) plan p so refused made = let is : p ≡ Err (BadMount line cause) = refused refl in absurd cc
outside_early (ReadFault file) plan p so refused made = inr refl
outside_early RootMissing plan p so refused made = inl refl
outside_early TreeFault plan p so refused made = inr refl
outside_early WriteFault plan p so refused made = inr refl
outside_early TooManyNames plan p so refused made = absurd cc
outside_early TooManyDirectories plan p so refused made = absurd cc
outside_early OutOfMemory plan p so refused made = inr refl

pub memory_early : (f : UpdateFault) (plan : Plan) (p : Result Plan UpdateFault) (P : Type 0) → IsTrue (is_of_settings f) → (IsTrue (is_refusal f) → p ≡ Err f) → p ≡ Ok plan → ((file : SettingsFile) → f ≡ ReadFault file → P) → (P → ⊥) → f ≡ OutOfMemory
memory_early (BadConf line cause) plan p P so refused made read none = let is : p ≡ Err (BadConf line cause) = refused refl in absurd cc
memory_early (BadMount line cause) plan p P so refused made read none = let is : p ≡ Err (BadMount line cause) = refused refl in absurd cc
memory_early (ReadFault file) plan p P so refused made read none = absurd (none (read file refl))
memory_early RootMissing plan p P so refused made read none = absurd cc
memory_early TreeFault plan p P so refused made read none = absurd cc
memory_early WriteFault plan p P so refused made read none = absurd cc
memory_early TooManyNames plan p P so refused made read none = absurd cc
memory_early TooManyDirectories plan p P so refused made read none = absurd cc
memory_early OutOfMemory plan p P so refused made read none = refl

unread_early : (f : UpdateFault) (plan : Plan) (p : Result Plan UpdateFault) → IsTrue (is_of_settings f) → (IsTrue (is_refusal f) → p ≡ Err f) → p ≡ Ok plan → (f ≡ OutOfMemory) ⊎ ((f ≡ ReadFault Configuration) ⊎ (f ≡ ReadFault Mounts))
unread_early (BadConf line cause) plan p so refused made = let is : p ≡ Err (BadConf line cause) = refused refl in absurd cc
unread_early (BadMount line cause) plan p so refused made = let is : p ≡ Err (BadMount line cause) = refused refl in absurd cc
unread_early (ReadFault Configuration) plan p so refused made = inr (inl refl)
unread_early (ReadFault Mounts) plan p so refused made = inr (inr refl)
unread_early RootMissing plan p so refused made = absurd cc
unread_early TreeFault plan p so refused made = absurd cc
unread_early WriteFault plan p so refused made = absurd cc
unread_early TooManyNames plan p so refused made = absurd cc
unread_early TooManyDirectories plan p so refused made = absurd cc
unread_early OutOfMemory plan p so refused made = inl refl

-- the same, but for the reader
abbrev pub after_reading : Around → Option Files → ℕ → ℕ → Around
after_reading a files given failed = record a { files = files; given = given; reads_failed = failed }

-- What reading the settings has come to, where the update ended with it.
pub record Early (asked : UpdatedbAsked) (a : Around) (given failed : ℕ) (f : UpdateFault) : Type 0 where
  pub settings : IsTrue (is_of_settings f)
  pub refused : IsTrue (is_refusal f) → (files : Files) → a.files ≡ Some files → plan_in files asked ≡ Err f
  pub memory : hides_memory f ≡ false
  pub fault : (file : SettingsFile) → f ≡ ReadFault file → Rose a.reads_failed failed
  pub in_hand : f ≡ ReadFault Mounts → (files : Files) → a.files ≡ Some files → IsOk (conf_in files asked)
  pub given_few : given ≤ a.given + 17825794
  pub given_most : (files : Files) → a.files ≡ Some files → given ≤ a.given + both_read files
  pub conf_alone : (files : Files) (fault : UpdateFault) → a.files ≡ Some files → conf_in files asked ≡ Err fault → given ≤ a.given + read_most Configuration (get files (name_of Configuration))
  pub later : a.reads_failed ≤ failed

more_given : (g g' n m : ℕ) → g' ≤ g + n → g' ≤ g + n + m
more_given g g' n m h = omega (arith, h)

pub ended_early : (asked : UpdatedbAsked) (now : Moment) (a : Around) (fs : Option Files) (given failed : ℕ) (same : Same) (f : UpdateFault) → Early asked a given failed f → Untouched same → UpdateDoes asked now a (after_reading a fs given failed) same (Err f)
ended_early asked now a fs given failed same f e kept = record {
  stored = tt;
  after_fault = record {
    unstored = refl;
    left = λ files dirs plan told ds made honest. left_none f _ _ _ now dirs plan _ _ _ e.settings kept.2;
    unwritten = λ files dirs plan told ds made was none. (refl, kept.2);
    begins = begins_none f _ e.settings;
    early = λ early. kept;
    empty = λ was. no_root f e.settings was;
    settings_alone = λ early. e.given_few;
    settings_read = λ early. e.given_most;
    header_alone = λ was. no_root f e.settings was;
  };
  caused = record {
    refused = e.refused;
    memory = e.memory;
    read_fault = e.fault;
    in_hand = e.in_hand;
    found = λ dirs ds. found_none f _ dirs e.settings;
    exceeded = λ files dirs plan told ds made honest. exceeded_none f _ _ dirs plan e.settings;
  };
  required = record {
    refuses = λ files fault told refused. refuses_early f fault _ e.settings (λ so. e.refused so files told) refused;
    lacking = λ files dirs plan told ds made gone. outside_early f plan _ e.settings (λ so. e.refused so files told) made;
    complete = λ files dirs plan told ds made honest there narrow few failed reads. memory_early f plan _ _ e.settings (λ so. e.refused so files told) made e.fault reads;
    complete_reused = λ files dirs plan told ds made honest there narrow few none reads all. memory_early f plan _ _ e.settings (λ so. e.refused so files told) made e.fault reads;
    complete_unread = λ files dirs plan told ds made honest there narrow few none. unread_early f plan _ e.settings (λ so. e.refused so files told) made;
  };
  failures = failures_none _ f _ _ _ e.settings;
  bounded = record {
    unready = λ files fault told refused. kept;
    quiet = λ quiet. kept.2;
    passed_on = λ none held. held;
    given_most = λ files told. more_given a.given given (both_read files) _ (e.given_most files told);
    foreign_read = λ files plan told made foreign none. more_given a.given given (both_read files) _ (e.given_most files told);
    conf_alone = e.conf_alone;
    refused_read = λ files fault told refused. e.given_most files told;
    asked_of = λ files dirs plan told ds made honest. record { opened = omega arith; unvouched_alone = λ all. omega arith; stats = omega arith };
    openings = omega arith;
    reads_later = e.later;
  };
}

-- ---- afterwards

pub not_early : {P : Type 0} (f : UpdateFault) → IsTrue (is_of_scan f) → IsTrue (is_early f) → P
not_early (BadConf line cause) so early = absurd cc
not_early (BadMount line cause) so early = absurd cc
not_early (ReadFault file) so early = absurd cc
not_early RootMissing so early = absurd cc
not_early TreeFault so early = absurd cc
not_early WriteFault so early = absurd cc
not_early TooManyNames so early = absurd cc
not_early TooManyDirectories so early = absurd cc
not_early OutOfMemory so early = absurd cc

refusal_early : (f : UpdateFault) → IsTrue (is_refusal f) → IsTrue (is_early f)
refusal_early (BadConf line cause) so = refl
refusal_early (BadMount line cause) so = refl
refusal_early (ReadFault file) so = refl
refusal_early RootMissing so = absurd cc
refusal_early TreeFault so = absurd cc
refusal_early WriteFault so = absurd cc
refusal_early TooManyNames so = absurd cc
refusal_early TooManyDirectories so = absurd cc
refusal_early OutOfMemory so = absurd cc

pub not_refused : {P : Type 0} (f : UpdateFault) → IsTrue (is_of_scan f) → IsTrue (is_refusal f) → P
not_refused f so refusal = not_early f so (refusal_early f refusal)

pub not_read : {P : Type 0} (f : UpdateFault) (file : SettingsFile) → IsTrue (is_of_scan f) → f ≡ ReadFault file → P
not_read {P} f file so was = other is_of_scan f (ReadFault file) P so was refl

pub not_both : {P : Type 0} (p : Result Plan UpdateFault) (plan : Plan) (fault : UpdateFault) → p ≡ Ok plan → p ≡ Err fault → P
not_both p plan fault made refused = absurd cc

pub lacks_late : (r : Result Counts UpdateFault) → IsErrOf r RootMissing ⊎ (IsErrOf r TreeFault ⊎ IsErrOf r WriteFault) → IsErrAnd r (λ fault. (fault ≡ RootMissing) ⊎ IsTrue (is_from_outside fault))
lacks_late r (inl is) = subst (λ (q : Result Counts UpdateFault). IsErrAnd q (λ fault. (fault ≡ RootMissing) ⊎ IsTrue (is_from_outside fault))) (sym is) (inl refl)
lacks_late r (inr (inl is)) = subst (λ (q : Result Counts UpdateFault). IsErrAnd q (λ fault. (fault ≡ RootMissing) ⊎ IsTrue (is_from_outside fault))) (sym is) (inr refl)
lacks_late r (inr (inr is)) = subst (λ (q : Result Counts UpdateFault). IsErrAnd q (λ fault. (fault ≡ RootMissing) ⊎ IsTrue (is_from_outside fault))) (sym is) (inr refl)

narrow_not_wide : (limit : ℕ) (es : List (List ℕ × Dir)) → Narrow limit es → HasWide limit es → ⊥
narrow_not_wide limit es narrow wide =
    let x : List ℕ × Dir = (wide.path, wide.dir) in
    let small : length (entries wide.dir.names) ≤ limit = subst (λ (e : List ℕ × Dir). length (entries e.1.names) ≤ limit) wide.there.2 (narrow wide.there.0 x wide.there.1) in
    let more : limit < length (entries wide.dir.names) = wide.longer in
    omega arith

both_written : {A B V : Type 0} → (A → ⊥) → (V → B → ⊥) → A ⊎ V × B → ⊥
both_written no_a no_b (inl a) = no_a a
both_written no_a no_b (inr (v, b)) = no_b v b

-- where nothing is in the way, a fault of the scan is that memory ran out
pub memory_late : (f : UpdateFault) (dirs : Dirs) (plan : Plan) (records : List Record) (all : Bool) (verbose : Bool) (t t' o o' p p' : ℕ) → IsTrue (is_of_scan f) → ScanFound f plan.root dirs → ScanExceeded f records all dirs plan
    → Failures verbose (IsErrOf {T = Counts} {E = UpdateFault} (Err f) TreeFault) (IsErrOf {T = Counts} {E = UpdateFault} (Err f) WriteFault) t t' o o' p p'
    → IsSome (get dirs plan.root) → (f ≡ TooManyNames → ⊥) → length (tried dirs plan.pruned plan.root) ≤ 4294967295 → (Rose t t' → ⊥) → (Rose o o' → ⊥) → (IsTrue verbose → Rose p p' → ⊥) → f ≡ OutOfMemory
memory_late (BadConf line cause) dirs plan records all verbose t t' o o' p p' so found exceeded failed there not_wide few no_t no_o no_p = absurd cc
memory_late (BadMount line cause) dirs plan records all verbose t t' o o' p p' so found exceeded failed there not_wide few no_t no_o no_p = absurd cc
memory_late (ReadFault file) dirs plan records all verbose t t' o o' p p' so found exceeded failed there not_wide few no_t no_o no_p = absurd cc
memory_late RootMissing dirs plan records all verbose t t' o o' p p' so found exceeded failed there not_wide few no_t no_o no_p = let gone : get dirs plan.root ≡ None = (found scan_faults.RootMissing refl).missing refl in
    let both : IsSome {T = Dir} None = subst IsSome gone there in absurd cc
memory_late TreeFault dirs plan records all verbose t t' o o' p p' so found exceeded failed there not_wide few no_t no_o no_p = absurd (no_t (failed.tree_fault refl))
memory_late WriteFault dirs plan records all verbose t t' o o' p p' so found exceeded failed there not_wide few no_t no_o no_p = absurd (both_written no_o no_p (failed.write_fault refl))
memory_late TooManyNames dirs plan records all verbose t t' o o' p p' so found exceeded failed there not_wide few no_t no_o no_p = absurd (not_wide refl)
memory_late TooManyDirectories dirs plan records all verbose t t' o o' p p' so found exceeded failed there not_wide few no_t no_o no_p = let many : 4294967295 < length (tried dirs plan.pruned plan.root) = (exceeded scan_faults.TooManyDirectories refl).many_tried refl in absurd (omega arith)
memory_late OutOfMemory dirs plan records all verbose t t' o o' p p' so found exceeded failed there not_wide few no_t no_o no_p = refl

-- what is held back at the end, whatever was answered
pub passed_by : {T E : Type 0} (r : Result T E) (verbose : Bool) (P : Type 0) (held held' : ℕ) → OnOk r (IsTrue verbose → held' ≡ 0) → OnErr r (IsTrue verbose → P → held ≡ 0 → held' ≡ 0) → (verbose ≡ false → held' ≡ held) → P → held ≡ 0 → held' ≡ 0
passed_by r false P held held' flushed passed quiet none out = quiet refl ∙ out
passed_by (Ok x) true P held held' flushed passed quiet none out = flushed refl
passed_by (Err e) true P held held' flushed passed quiet none out = passed refl none out

-- What reading the settings and the old database has given, and what storing a scan by this plan has done then, with these
-- records.
pub record Went (asked : UpdatedbAsked) (now : Moment) (a a' : Around) (same : Same) (plan : Plan) (told : Option (List Record)) (all : Bool) (r : Result Counts UpdateFault) : Type 0 where
  pub accepted : (files : Files) → a.files ≡ Some files → plan_in files asked ≡ Ok plan
  pub root : plan.root ≡ asked.root
  pub fits : length plan.root ≤ 4096
  pub verbose : plan.verbose ≡ asked.verbose
  pub reuses : (files : Files) → a.files ≡ Some files → Reuses told all (old_records (old_in files asked) plan) (all_of (old_in files asked) plan a a')
  pub read_least : (files : Files) → a.files ≡ Some files → raised a.given (both_read files) ≤ a'.given
  pub given_most : (files : Files) → a.files ≡ Some files → a'.given ≤ a.given + both_read files + old_size (old_in files asked)
  pub header_alone : IsErrOf r RootMissing → (Rose a.reads_failed a'.reads_failed → ⊥) → (files : Files) → a.files ≡ Some files → a'.given ≤ a.given + both_read files + header_most (old_in files asked)
  pub foreign_read : (files : Files) → a.files ≡ Some files → IsTrue (is_foreign (old_in files asked) plan) → (Rose a.reads_failed a'.reads_failed → ⊥) → a'.given ≤ a.given + both_read files + header_most (old_in files asked)
  pub reads_later : a.reads_failed ≤ a'.reads_failed
  pub stored : OnOk r (WhereKnown a.dirs told plan (λ dirs records. a'.held ≡ option_map (with_file asked.output (scan_text dirs plan now)) a.held))
  pub completed : IfOk r (λ counts. WhereKnown a.dirs told plan (λ dirs records. Completed usual records all dirs plan counts a.taken a'.taken a.openings a'.openings))
  pub ended : OnOk r ((a'.begins ≡ raised a.begins 1) × (IsTrue plan.verbose → a'.held_back ≡ 0))
  pub unstored : OnErr r (stored_in a'.held ≡ stored_in a.held)
  pub left : IfErr r (λ fault. WhereKnown a.dirs told plan (λ dirs records. Left fault records all asked.output now dirs plan a.held a'.held a.taken a'.taken same.out))
  pub unwritten : IfErr r (λ fault. (dirs : Dirs) → a.dirs ≡ Some dirs → fault ≡ WriteFault → get dirs plan.root ≡ None → (a'.held ≡ a.held) × same.out)
  pub begins : IfErr r (λ fault. IsTrue (is_of_scan fault) × Begins fault a.begins a'.begins)
  pub held_back : OnErr r (IsTrue plan.verbose → (Rose a.writes_failed a'.writes_failed → ⊥) → a.held_back ≡ 0 → a'.held_back ≡ 0)
  pub empty : IsErrOf r RootMissing → (a'.held ≡ option_map (with_pending asked.output []) a.held) × same.out
  pub found : IfErr r (λ fault. (dirs : Dirs) → a.dirs ≡ Some dirs → ScanFound fault plan.root dirs)
  pub exceeded : IfErr r (λ fault. WhereKnown a.dirs told plan (λ dirs records. ScanExceeded fault records all dirs plan))
  pub lacking : (dirs : Dirs) → a.dirs ≡ Some dirs → get dirs plan.root ≡ None → IsErrOf r RootMissing ⊎ (IsErrOf r TreeFault ⊎ IsErrOf r WriteFault)
  pub failures : Failures plan.verbose (IsErrOf r TreeFault) (IsErrOf r WriteFault) a.tree_failed a'.tree_failed a.output_failed a'.output_failed a.writes_failed a'.writes_failed
  pub asked_of : WhereKnown a.dirs told plan (λ dirs records. AskedOf records all dirs plan a.priced a.openings a'.openings a.stats a'.stats)
  pub openings : a'.openings ≤ a.openings + 4294967295
  pub quiet : plan.verbose ≡ false → same.out
  pub same_held : same.out → a'.held_back ≡ a.held_back

module _ (asked : UpdatedbAsked) (now : Moment) (a a' : Around) (same : Same) (plan : Plan) (told : Option (List Record)) (all : Bool) (r : Result Counts UpdateFault) (w : Went asked now a a' same plan told all r) where
  -- the records and the mark of the old database
  abbrev records_of : Files → List Record
  records_of files = old_records (old_in files asked) plan

  abbrev whole_of : Files → Bool
  whole_of files = all_of (old_in files asked) plan a a'

  scan_of : (f : UpdateFault) → r ≡ Err f → IsTrue (is_of_scan f)
  scan_of f is = (with_err r f (λ fault. IsTrue (is_of_scan fault) × Begins fault a.begins a'.begins) is w.begins).0

  went_stored : (counts : Counts) → r ≡ Ok counts → Stored asked now counts a a'
  went_stored counts is = record {
    accepted = λ files fs. ok_is _ _ (w.accepted files fs);
    stored = reused_by a.files a.dirs asked plan (λ dirs p old. a'.held ≡ option_map (with_file asked.output (scan_text dirs p now)) a.held) w.accepted (λ files dirs fs ds honest.
        at_ok r counts _ is w.stored dirs ds (honest_too told (records_of files) dirs plan (w.reuses files fs).from honest));
    completed = reused_by a.files a.dirs asked plan (λ dirs p old. Completed usual (old_records old p) (all_of old p a a') dirs p counts a.taken a'.taken a.openings a'.openings) w.accepted (λ files dirs fs ds honest.
        completed_too told all (whole_of files) (records_of files) dirs plan counts a.taken a'.taken a.openings a'.openings (w.reuses files fs)
        (with_ok r counts (λ n. WhereKnown a.dirs told plan (λ dirs records. Completed usual records all dirs plan n a.taken a'.taken a.openings a'.openings)) is w.completed dirs ds (honest_too told (records_of files) dirs plan (w.reuses files fs).from honest)));
    passed_on = λ echoed. (at_ok r counts _ is w.ended).1 (w.verbose ∙ echoed);
    begun_once = (at_ok r counts _ is w.ended).0;
    read_least = w.read_least;
  }

  went_left : (f : UpdateFault) → r ≡ Err f → (files : Files) → a.files ≡ Some files → (dirs : Dirs) → a.dirs ≡ Some dirs → Honest (Some (records_of files)) dirs plan
      → Left f (records_of files) (whole_of files) asked.output now dirs plan a.held a'.held a.taken a'.taken same.out
  went_left f is files fs dirs ds honest =
      left_too f told all (whole_of files) (records_of files) asked.output now dirs plan a.held a'.held a.taken a'.taken same.out (w.reuses files fs)
      (with_err r f (λ fault. WhereKnown a.dirs told plan (λ dirs records. Left fault records all asked.output now dirs plan a.held a'.held a.taken a'.taken same.out)) is w.left dirs ds (honest_too told (records_of files) dirs plan (w.reuses files fs).from honest))

  went_exceeded : (f : UpdateFault) → r ≡ Err f → (files : Files) → a.files ≡ Some files → (dirs : Dirs) → a.dirs ≡ Some dirs → Honest (Some (records_of files)) dirs plan
      → ScanExceeded f (records_of files) (whole_of files) dirs plan
  went_exceeded f is files fs dirs ds honest =
      exceeded_too told all (whole_of files) (records_of files) f dirs plan (w.reuses files fs)
      (with_err r f (λ fault. WhereKnown a.dirs told plan (λ dirs records. ScanExceeded fault records all dirs plan)) is w.exceeded dirs ds (honest_too told (records_of files) dirs plan (w.reuses files fs).from honest))

  went_fault : (f : UpdateFault) → r ≡ Err f → AfterFault asked now a a' same f
  went_fault f is = record {
    unstored = at_err r f _ is w.unstored;
    left = reused_by a.files a.dirs asked plan (λ dirs p old. Left f (old_records old p) (all_of old p a a') asked.output now dirs p a.held a'.held a.taken a'.taken same.out) w.accepted (λ files dirs fs ds honest. went_left f is files fs dirs ds honest);
    unwritten = told_by a.files a.dirs asked plan _ w.accepted (with_err r f (λ fault. (dirs : Dirs) → a.dirs ≡ Some dirs → fault ≡ WriteFault → get dirs plan.root ≡ None → (a'.held ≡ a.held) × same.out) is w.unwritten);
    begins = (with_err r f (λ fault. IsTrue (is_of_scan fault) × Begins fault a.begins a'.begins) is w.begins).1;
    early = λ early. not_early f (scan_of f is) early;
    empty = λ was. w.empty (is ∙ ap Err was);
    settings_alone = λ early. not_early f (scan_of f is) early;
    settings_read = λ early. not_early f (scan_of f is) early;
    header_alone = λ was. w.header_alone (is ∙ ap Err was);
  }

  went_caused : (f : UpdateFault) → r ≡ Err f → Caused asked a a' f
  went_caused f is = record {
    refused = λ so. not_refused f (scan_of f is) so;
    memory = scan_hides_none f (scan_of f is);
    read_fault = λ file was. not_read f file (scan_of f is) was;
    in_hand = λ was. not_read f Mounts (scan_of f is) was;
    found = λ dirs ds. subst (λ (root : List ℕ). ScanFound f root dirs) w.root (with_err r f (λ fault. (dirs : Dirs) → a.dirs ≡ Some dirs → ScanFound fault plan.root dirs) is w.found dirs ds);
    exceeded = reused_by a.files a.dirs asked plan (λ dirs p old. ScanExceeded f (old_records old p) (all_of old p a a') dirs p) w.accepted (λ files dirs fs ds honest. went_exceeded f is files fs dirs ds honest);
  }

  went_memory : (f : UpdateFault) → r ≡ Err f → (files : Files) → a.files ≡ Some files → (dirs : Dirs) → a.dirs ≡ Some dirs → Honest (Some (records_of files)) dirs plan
      → IsSome (get dirs plan.root) → (f ≡ TooManyNames → ⊥) → length (tried dirs plan.pruned plan.root) ≤ 4294967295 → NothingFailed plan.verbose a a' → f ≡ OutOfMemory
  went_memory f is files fs dirs ds honest there not_wide few none =
      memory_late f dirs plan (records_of files) (whole_of files) plan.verbose a.tree_failed a'.tree_failed a.output_failed a'.output_failed a.writes_failed a'.writes_failed (scan_of f is)
      (with_err r f (λ fault. (dirs : Dirs) → a.dirs ≡ Some dirs → ScanFound fault plan.root dirs) is w.found dirs ds)
      (went_exceeded f is files fs dirs ds honest)
      (subst (λ (q : Result Counts UpdateFault). Failures plan.verbose (IsErrOf q TreeFault) (IsErrOf q WriteFault) a.tree_failed a'.tree_failed a.output_failed a'.output_failed a.writes_failed a'.writes_failed) is w.failures)
      there not_wide few none.trees none.outputs none.writes

  -- no reached directory is too wide
  not_stopped : (f : UpdateFault) → r ≡ Err f → (files : Files) → a.files ≡ Some files → (dirs : Dirs) → a.dirs ≡ Some dirs → Honest (Some (records_of files)) dirs plan → Narrow 16777216 (reached dirs plan.pruned plan.root) → f ≡ TooManyNames → ⊥
  not_stopped f is files fs dirs ds honest narrow was =
      let at = (went_left f is files fs dirs ds honest).stopped scan_faults.TooManyNames was in
      let wide = at.whole_names refl in
      narrow_stops dirs plan 16777216 wide.count w.fits narrow wide.wide

  -- none of those is that no record vouches for, where all were answered from
  not_exceeded : (f : UpdateFault) → r ≡ Err f → (files : Files) → a.files ≡ Some files → (dirs : Dirs) → a.dirs ≡ Some dirs → Honest (Some (records_of files)) dirs plan
      → Narrow 16777216 (unvouched (records_of files) plan (reached dirs plan.pruned plan.root)) → IsTrue (whole_of files) → f ≡ TooManyNames → ⊥
  not_exceeded f is files fs dirs ds honest narrow whole was =
      narrow_not_wide 16777216 (unvouched (records_of files) plan (reached dirs plan.pruned plan.root)) narrow ((went_exceeded f is files fs dirs ds honest scan_faults.TooManyNames was).wide_reached refl whole)

  went_required : Required asked a a' r
  went_required = record {
    refuses = λ files fault fs refused. not_both _ plan fault (w.accepted files fs) refused;
    lacking = told_by a.files a.dirs asked plan _ w.accepted (λ dirs ds gone. lacks_late r (w.lacking dirs ds gone));
    complete = reused_by a.files a.dirs asked plan (λ dirs p old. IsSome (get dirs p.root) → Narrow 16777216 (reached dirs p.pruned p.root) → length (tried dirs p.pruned p.root) ≤ 4294967295 → NothingFailed p.verbose a a' → (Rose a.reads_failed a'.reads_failed → ⊥) → IsOkUnless r OutOfMemory) w.accepted (λ files dirs fs ds honest there narrow few none reads.
        if_err_by r _ (λ f is. went_memory f is files fs dirs ds honest there (not_stopped f is files fs dirs ds honest narrow) few none));
    complete_reused = reused_by a.files a.dirs asked plan (λ dirs p old. IsSome (get dirs p.root) → Narrow 16777216 (unvouched (old_records old p) p (reached dirs p.pruned p.root)) → length (tried dirs p.pruned p.root) ≤ 4294967295 → NothingFailed p.verbose a a' → (Rose a.reads_failed a'.reads_failed → ⊥) → IsTrue (all_of old p a a') → IsOkUnless r OutOfMemory) w.accepted (λ files dirs fs ds honest there narrow few none reads whole.
        if_err_by r _ (λ f is. went_memory f is files fs dirs ds honest there (not_exceeded f is files fs dirs ds honest narrow whole) few none));
    complete_unread = reused_by a.files a.dirs asked plan (λ dirs p old. IsSome (get dirs p.root) → Narrow 16777216 (reached dirs p.pruned p.root) → length (tried dirs p.pruned p.root) ≤ 4294967295 → NothingFailed p.verbose a a' → IfErr r (λ e. (e ≡ OutOfMemory) ⊎ ((e ≡ ReadFault Configuration) ⊎ (e ≡ ReadFault Mounts)))) w.accepted (λ files dirs fs ds honest there narrow few none.
        if_err_by r _ (λ f is. inl (went_memory f is files fs dirs ds honest there (not_stopped f is files fs dirs ds honest narrow) few none)));
  }

  went_bounded : Bounded asked a a' same
  went_bounded = record {
    unready = λ files fault fs refused. not_both _ plan fault (w.accepted files fs) refused;
    quiet = λ quiet. w.quiet (w.verbose ∙ quiet);
    passed_on = passed_by r plan.verbose _ _ _ (on_ok r _ _ (λ e. e.1) w.ended) w.held_back (λ quiet. w.same_held (w.quiet quiet));
    given_most = w.given_most;
    foreign_read = λ files p fs made foreign none. w.foreign_read files fs (subst (λ (x : Plan). IsTrue (is_foreign (old_in files asked) x)) (plan_is p plan _ made (w.accepted files fs)) foreign) none;
    conf_alone = λ files fault fs refused. not_both _ plan fault (w.accepted files fs) (plan_bad_conf files asked fault refused);
    refused_read = λ files fault fs refused. not_both _ plan fault (w.accepted files fs) refused;
    asked_of = reused_by a.files a.dirs asked plan (λ dirs p old. AskedOf (old_records old p) (all_of old p a a') dirs p a.priced a.openings a'.openings a.stats a'.stats) w.accepted (λ files dirs fs ds honest.
        asked_too told all (whole_of files) (records_of files) dirs plan a.priced a.openings a'.openings a.stats a'.stats (w.reuses files fs) (w.asked_of dirs ds (honest_too told (records_of files) dirs plan (w.reuses files fs).from honest)));
    openings = w.openings;
    reads_later = w.reads_later;
  }

  pub went : UpdateDoes asked now a a' same r
  went = record {
    stored = if_ok_by r _ went_stored;
    after_fault = if_err_by r _ went_fault;
    caused = if_err_by r _ went_caused;
    required = went_required;
    failures = subst (λ (verbose : Bool). Failures verbose (IsErrOf r TreeFault) (IsErrOf r WriteFault) a.tree_failed a'.tree_failed a.output_failed a'.output_failed a.writes_failed a'.writes_failed) w.verbose w.failures;
    bounded = went_bounded;
  }
