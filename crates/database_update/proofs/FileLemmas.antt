-- What the settings files give, by what was read of them.
use Rattle.std.proofs.Common.{◌≡◌, ◌≢◌, ◌≤◌, ◌<◌, ◌⊎◌, ℕ, Bool, true, false, List, [], length, sym, ap, subst, ◌∙◌, arith, inl, inr, Option, Some, None, Result, Ok, Err, IfSome, IsSomeAnd, if◌then◌else◌}
use Rattle.std.proofs.lemmas.Bool.Decides.{nat_tests}
use Rattle.std.specs.Prelude.{nat_lt}
use Rattle.std.specs.FinMap.{get}
use Rattle.loc_outside.specs.Files.{Files}
use Rattle.updatedb_conf.specs.declared.changes.Changes.{Changes}
use Rattle.updatedb_conf.specs.declared.fault.ConfFault.{ConfFault}
use Rattle.updatedb_conf.specs.declared.fault.ConfCause.TheVariants as conf_causes
use Rattle.updatedb_conf.specs.Line.{◌>>=◌}
use Rattle.updatedb_conf.specs.Settings.{Settings, changed, conf_of, default_settings, settings_in}
use Rattle.mount_table.specs.declared.fault.MountFault.{MountFault}
use Rattle.mount_table.specs.declared.fault.MountCause.TheVariants as mount_causes
use Rattle.mount_table.specs.Row.{MountRow}
use Rattle.mount_table.specs.Table.{mounts_of}
use Rattle.tool_words.specs.Updatedb.{UpdatedbAsked}
use Rattle.tree_scan.specs.Plan.{Plan}
use Rattle.tree_scan.specs.Plans.{plan_of}
use Rattle.database_update.specs.declared.fault.UpdateFault.{UpdateFault}
use Rattle.database_update.specs.declared.fault.UpdateFault.TheVariants.{BadConf, BadMount}
use Rattle.database_update.specs.declared.settings_file.SettingsFile.TheVariants.{Configuration, Mounts}
use Rattle.database_update.specs.SettingsFiles.{name_of, limit_of, conf_of_file, mounts_of_file}
use Rattle.database_update.specs.Settings.{changes_of, conf_in, conf_or_fault, mounts_in, mounts_or_fault, plan_in, rules_of}

above : (a b : ℕ) → a < b → nat_lt a b ≡ true
above a b h = grind (arith, nat_tests)

within : (a b : ℕ) → b ≤ a → nat_lt a b ≡ false
within a b h = grind (arith, nat_tests)

-- ---- the configuration

pub conf_none : (o : Option (List ℕ)) (conf : Settings) (changes : Changes) → None ≡ o → conf ≡ default_settings → conf_of_file o changes ≡ Ok (changed conf changes)
unfolding conf_of_file
conf_none o conf changes e d = ap (λ (p : Option (List ℕ)). conf_of_file p changes) (sym e) ∙ ap (λ (c : Settings). Ok (changed c changes)) (sym d)

long_conf : (text : List ℕ) (changes : Changes) → limit_of Configuration < length text → conf_of_file (Some text) changes ≡ Err (record { line = 0; cause = conf_causes.LongText })
unfolding conf_of_file
long_conf text changes h = ap (λ (b : Bool). if b then Err (record { line = 0; cause = conf_causes.LongText }) else conf_of text changes) (above 1048576 (length text) h)

pub conf_long : (o : Option (List ℕ)) (changes : Changes) → IsSomeAnd o (λ t. limit_of Configuration < length t) → conf_or_fault (conf_of_file o changes) ≡ Err (BadConf 0 conf_causes.LongText)
conf_long None changes h = absurd h
conf_long (Some text) changes h = ap conf_or_fault (long_conf text changes h)

short_conf : (text : List ℕ) (changes : Changes) → length text ≤ limit_of Configuration → conf_of_file (Some text) changes ≡ conf_of text changes
unfolding conf_of_file
short_conf text changes h = ap (λ (b : Bool). if b then Err (record { line = 0; cause = conf_causes.LongText }) else conf_of text changes) (within 1048576 (length text) h)

pub conf_read : (o found : Option (List ℕ)) (text text' : List ℕ) (changes : Changes) → found ≡ Some text → found ≡ o → IfSome found (λ b. length b ≤ limit_of Configuration) → text' ≡ text
    → conf_of_file o changes ≡ conf_of text' changes
conf_read o found text text' changes f e fits same =
    let h : length text ≤ limit_of Configuration = subst (λ (p : Option (List ℕ)). IfSome p (λ b. length b ≤ limit_of Configuration)) f fits in
    ap (λ (p : Option (List ℕ)). conf_of_file p changes) (sym e ∙ f) ∙ short_conf text changes h ∙ ap (λ (t : List ℕ). conf_of t changes) (sym same)

-- a text that is read well is changed then
pub conf_changed : (text : List ℕ) (changes : Changes) (conf : Settings) → settings_in text ≡ Ok conf → conf_of text changes ≡ Ok (changed conf changes)
conf_changed text changes conf e = ap (λ (r : Result Settings ConfFault). r >>= λ before. Ok (changed before changes)) e

pub conf_refused : (text : List ℕ) (changes : Changes) (fault : ConfFault) (e : UpdateFault) → (settings_in text ≡ Err fault) ⊎ (fault ≡ record { line = 0; cause = conf_causes.OutOfMemory }) → fault.cause ≢ conf_causes.OutOfMemory
    → e ≡ BadConf fault.line fault.cause → conf_or_fault (conf_of text changes) ≡ Err e
conf_refused text changes fault e (inl p) n q = ap (λ (r : Result Settings ConfFault). conf_or_fault (r >>= λ before. Ok (changed before changes))) p ∙ ap (λ f. Err f) (sym q)
conf_refused text changes fault e (inr p) n q = absurd (n (ap (λ (f : ConfFault). f.cause) p))

pub conf_in_err : (files : Files) (asked : UpdatedbAsked) (fault : UpdateFault) → conf_or_fault (conf_of_file (get files (name_of Configuration)) (changes_of asked)) ≡ Err fault → conf_in files asked ≡ Err fault
unfolding conf_in
conf_in_err files asked fault e = e

pub conf_in_ok : (files : Files) (asked : UpdatedbAsked) (before after : Settings) (changes : Changes) → conf_of_file (get files (name_of Configuration)) changes ≡ Ok (changed before changes) → changes ≡ changes_of asked
    → after ≡ changed before changes → conf_in files asked ≡ Ok after
unfolding conf_in
conf_in_ok files asked before after changes e c a =
    ap (λ (d : Changes). conf_or_fault (conf_of_file (get files (name_of Configuration)) d)) (sym c) ∙ ap conf_or_fault e ∙ ap (λ (s : Settings). Ok s) (sym a)

-- ---- the mounts

pub mounts_none : (files : Files) (rows : List MountRow) → None ≡ get files (name_of Mounts) → rows ≡ [] → mounts_in files ≡ Ok rows
unfolding mounts_in mounts_of_file
mounts_none files rows e d = ap (λ (o : Option (List ℕ)). mounts_or_fault (mounts_of_file o)) (sym e) ∙ ap (λ (r : List MountRow). Ok r) (sym d)

long_mounts : (text : List ℕ) → limit_of Mounts < length text → mounts_of_file (Some text) ≡ Err (record { line = 0; cause = mount_causes.LongText })
unfolding mounts_of_file
long_mounts text h = ap (λ (b : Bool). if b then Err (record { line = 0; cause = mount_causes.LongText }) else mounts_of text) (above 16777216 (length text) h)

mounts_long_file : (o : Option (List ℕ)) → IsSomeAnd o (λ t. limit_of Mounts < length t) → mounts_or_fault (mounts_of_file o) ≡ Err (BadMount 0 mount_causes.LongText)
mounts_long_file None h = absurd h
mounts_long_file (Some text) h = ap mounts_or_fault (long_mounts text h)

pub mounts_long : (files : Files) → IsSomeAnd (get files (name_of Mounts)) (λ t. limit_of Mounts < length t) → mounts_in files ≡ Err (BadMount 0 mount_causes.LongText)
unfolding mounts_in
mounts_long files h = mounts_long_file (get files (name_of Mounts)) h

short_mounts : (text : List ℕ) → length text ≤ limit_of Mounts → mounts_of_file (Some text) ≡ mounts_of text
unfolding mounts_of_file
short_mounts text h = ap (λ (b : Bool). if b then Err (record { line = 0; cause = mount_causes.LongText }) else mounts_of text) (within 16777216 (length text) h)

mounts_read : (o found : Option (List ℕ)) (text text' : List ℕ) → found ≡ Some text → found ≡ o → IfSome found (λ b. length b ≤ limit_of Mounts) → text' ≡ text
    → mounts_of_file o ≡ mounts_of text'
mounts_read o found text text' f e fits same =
    let h : length text ≤ limit_of Mounts = subst (λ (p : Option (List ℕ)). IfSome p (λ b. length b ≤ limit_of Mounts)) f fits in
    ap mounts_of_file (sym e ∙ f) ∙ short_mounts text h ∙ ap mounts_of (sym same)

pub mounts_ok : (files : Files) (found : Option (List ℕ)) (text text' : List ℕ) (rows : List MountRow) → found ≡ Some text → found ≡ get files (name_of Mounts)
    → IfSome found (λ b. length b ≤ limit_of Mounts) → text' ≡ text → mounts_of text' ≡ Ok rows → mounts_in files ≡ Ok rows
unfolding mounts_in
mounts_ok files found text text' rows f e fits same r = ap mounts_or_fault (mounts_read (get files (name_of Mounts)) found text text' f e fits same ∙ r)

pub mounts_refused : (files : Files) (found : Option (List ℕ)) (text text' : List ℕ) (fault : MountFault) (a : UpdateFault) → found ≡ Some text → found ≡ get files (name_of Mounts)
    → IfSome found (λ b. length b ≤ limit_of Mounts) → text' ≡ text → mounts_of text' ≡ Err fault → a ≡ BadMount fault.line fault.cause → mounts_in files ≡ Err a
unfolding mounts_in
mounts_refused files found text text' fault a f e fits same r q =
    ap mounts_or_fault (mounts_read (get files (name_of Mounts)) found text text' f e fits same ∙ r) ∙ ap (λ x. Err x) (sym q)

-- ---- the plan

abbrev then_plan : Files → UpdatedbAsked → Settings → Result (List MountRow) UpdateFault → Result Plan UpdateFault
then_plan files asked conf mounts = mounts >>= λ m. Ok (plan_of (rules_of asked conf m))

pub plan_bad_conf : (files : Files) (asked : UpdatedbAsked) (fault : UpdateFault) → conf_in files asked ≡ Err fault → plan_in files asked ≡ Err fault
unfolding plan_in
plan_bad_conf files asked fault e = ap (λ (r : Result Settings UpdateFault). r >>= λ conf. then_plan files asked conf (mounts_in files)) e

pub plan_bad_mounts : (files : Files) (asked : UpdatedbAsked) (conf : Settings) (fault : UpdateFault) → conf_in files asked ≡ Ok conf → mounts_in files ≡ Err fault → plan_in files asked ≡ Err fault
unfolding plan_in
plan_bad_mounts files asked conf fault e m =
    ap (λ (r : Result Settings UpdateFault). r >>= λ c. then_plan files asked c (mounts_in files)) e ∙ ap (then_plan files asked conf) m

pub plan_ok : (files : Files) (asked : UpdatedbAsked) (conf : Settings) (rows : List MountRow) → conf_in files asked ≡ Ok conf → mounts_in files ≡ Ok rows
    → plan_in files asked ≡ Ok (plan_of (rules_of asked conf rows))
unfolding plan_in
plan_ok files asked conf rows e m =
    ap (λ (r : Result Settings UpdateFault). r >>= λ c. then_plan files asked c (mounts_in files)) e ∙ ap (then_plan files asked conf) m
