-- What a reader does to the rest of the file.
use Rattle.std.proofs.Common.{◌≡◌, ℕ, ◌+◌, ◌-◌, ◌<◌, ◌≤◌, Bool, true, false, not, cond, eqb, List, [], ◌∷◌, length, Option, Some, None, Result, Ok, Err, refl, sym, ap, subst, ◌∙◌, length-append, length-take, arith}
use Rattle.std.specs.Prelude.{◌&&◌}
use Rattle.std.proofs.lemmas.Bool.{ne_eqb, eq-eqb}
use Rattle.std.proofs.lemmas.List.{nil_from_length}
use Rattle.byte_feed.specs.declared.damage.DamageCause.TheVariants.{Cut}
use Rattle.byte_feed.specs.declared.damage.Break.{Break}
use Rattle.byte_feed.specs.declared.damage.Break.TheVariants.{ReadFault, TooLarge, Stopped}
use Rattle.byte_feed.specs.declared.damage.DbFault.{DbFault}
use Rattle.byte_feed.specs.declared.damage.DbFault.TheVariants as faults
use Rattle.byte_feed.specs.declared.damage.Stop.{Stop}
use Rattle.byte_feed.specs.declared.damage.Stop.TheVariants.{NotADatabase, Broken}
use Rattle.byte_feed.specs.Field.{◌>>=◌, byte_at}
use Rattle.byte_feed.specs.Front.{limit, Window}
use Rattle.byte_feed.specs.Feed.{FeedState, file, window, so_far, TookKnown, IsAllAhead}
use Rattle.byte_feed.specs.Stream.{is_cut, Fails, Wanting, StreamGives}
use Rattle.byte_feed.specs.Endings.{Ending, end_at, end_by, damage_at, fault_of, fault_at}
use Rattle.byte_feed.specs.Paths.{ToCome, rest_of, after_item, no_items, to_come, after_paths, no_paths, preamble_of, before_base}
use Rattle.byte_feed.specs.Calls.{Moved, MovedKnown, Broke, EndsBy, EndsKnown, PreambleKnown, NoPreambleKnown}
use Rattle.byte_feed.proofs.TakenOff.{file_open, file_shut, window_took, more_took, so_far_took}
use Rattle.byte_feed.proofs.Wants.{wants_byte, all_ahead, looked_fault}
use Rattle.byte_feed.proofs.Steps.{lifted, NotEnd, step_ok, step_err, rest_more, rest_none, item_len, paths_by_items}
use Rattle.byte_feed.proofs.Preambles.{preamble_some, no_preamble, ends_paths}
use Rattle.bigram_db.specs.declared.reader.Stage.{Stage}
use Rattle.bigram_db.specs.declared.reader.Stage.TheVariants as stages
use Rattle.bigram_db.specs.Items.{Item, TableItem, PathItem, State, AtStart, After, text_of, ends, path_with, shared_by, after, table_at, count_at, entry_at, item_at, bigram}
use Rattle.bigram_db.specs.Entries.{BreaksAs, GaveEntry, EntryKnown}
use Rattle.bigram_db.specs.Reader.{ReaderState, is_fresh, is_live, is_done, state_by, state_of, paths_left, path_found}
use Rattle.bigram_db.proofs.EntryLaws.{as_table, bigram_shrinks}
use Rattle.bigram_db.proofs.EntryReads.{entry_after}

-- ---- the table

lift_by : (r : Result (List ℕ × List ℕ) Stop) → (r >>= as_table) ≡ lifted TableItem r
lift_by (Ok x) = refl
lift_by (Err s) = refl

table_lifted : (last : Bool) (bytes : List ℕ) → item_at last AtStart bytes ≡ lifted TableItem (table_at bytes)
table_lifted last bytes = lift_by (table_at bytes)

never_end : (f : FeedState) (l : Option (List ℕ)) → NotEnd bigram AtStart f l
never_end f None = tt
never_end f (Some a) = refl

abbrev here : List ℕ → List ℕ
here table = table

table_moved : (f f' : FeedState) (l l' : Option (List ℕ)) (table : List ℕ) → StreamGives here table_at f l f' l' (Ok table)
    → MovedKnown (rest_of bigram AtStart f.offset) (rest_of bigram (After table [] 0) f'.offset) (after_item bigram (TableItem table)) f l f' l'
table_moved f f' l l' table g = step_ok bigram bigram_shrinks AtStart here TableItem table_at table_lifted f f' l l' table g

table_whole : (f f' : FeedState) (l l' : Option (List ℕ)) (table : List ℕ) → f.offset ≡ 0 → MovedKnown (rest_of bigram AtStart f.offset) (rest_of bigram (After table [] 0) f'.offset) (after_item bigram (TableItem table)) f l f' l'
    → PreambleKnown (preamble_of bigram) f l f'.offset false
table_whole f f' None l' table none m = tt
table_whole f f' (Some a) None table none m = absurd m
table_whole f f' (Some a) (Some b) table none m =
    let len : length table ≡ f'.offset = omega (arith, none, item_len bigram AtStart (After table [] 0) f.offset f'.offset (window f a) (window f' b) (TableItem table) m.whole) in
    let shown : ℕ → Option (ℕ × Bool) = λ n. Some (n, false) in
    preamble_some bigram bigram_shrinks f.offset (window f a) (TableItem table) _ m.whole ∙ ap shown len

table_paths : (f f' : FeedState) (l l' : Option (List ℕ)) (table : List ℕ) → StreamGives here table_at f l f' l' (Ok table)
    → MovedKnown (to_come bigram AtStart f.offset 0) (to_come bigram (After table [] 0) f'.offset 0) (λ t. t) f l f' l'
table_paths f f' l l' table g = paths_by_items bigram AtStart (After table [] 0) f.offset f'.offset 0 (TableItem table) f f' l l' refl (table_moved f f' l l' table g)

table_err : (f f' : FeedState) (l l' : Option (List ℕ)) (e : Break) → StreamGives here table_at f l f' l' (Err e) → EndsKnown (rest_of bigram AtStart f.offset) (no_items bigram f.offset) f l l' (Err (fault_at f.offset e))
table_err f f' l l' e g = step_err bigram bigram_shrinks AtStart here TableItem table_at table_lifted f f' l l' e (never_end f l) g

-- ---- a fresh reader

fresh_is : (s : Stage) → is_fresh s ≡ true → s ≡ stages.Fresh
fresh_is stages.Fresh e = refl
fresh_is stages.Live e = absurd cc
fresh_is stages.Done e = absurd cc

left_is : (r : ReaderState) (s : State) (p : ℕ) → state_of r ≡ s → r.place ≡ p → (λ (w : Window). to_come bigram s p 0 w) ≡ paths_left r
left_is r s p state place = λ i w. to_come bigram (sym state i) (sym place i) 0 w

fresh_state : (r : ReaderState) → is_fresh r.stage ≡ true → state_of r ≡ AtStart
fresh_state r fresh = ap (λ (t : Stage). state_by t r.table r.path r.shared) (fresh_is r.stage fresh)

pub preamble_moves : (r r' : ReaderState) (l l' : Option (List ℕ)) (table : List ℕ) → is_fresh r.stage ≡ true → r.place ≡ r.feed.offset → state_of r' ≡ After table [] 0 → r'.place ≡ r'.feed.offset
    → StreamGives here table_at r.feed l r'.feed l' (Ok table) → MovedKnown (paths_left r) (paths_left r') (λ t. t) r.feed l r'.feed l'
preamble_moves r r' l l' table fresh at state at' g =
    subst (λ (t : Window → ToCome). MovedKnown t (paths_left r') (λ x. x) r.feed l r'.feed l') (left_is r AtStart r.feed.offset (fresh_state r fresh) at)
    (subst (λ (t : Window → ToCome). MovedKnown (to_come bigram AtStart r.feed.offset 0) t (λ x. x) r.feed l r'.feed l') (left_is r' (After table [] 0) r'.feed.offset state at') (table_paths r.feed r'.feed l l' table g))

pub preamble_whole : (r r' : ReaderState) (l l' : Option (List ℕ)) (table : List ℕ) → r.place ≡ r.feed.offset → r.place ≡ 0 → r'.place ≡ r'.feed.offset → StreamGives here table_at r.feed l r'.feed l' (Ok table)
    → PreambleKnown (preamble_of bigram) r.feed l r'.place false
preamble_whole r r' l l' table at none at' g =
    subst (λ (n : ℕ). PreambleKnown (preamble_of bigram) r.feed l n false) (sym at') (table_whole r.feed r'.feed l l' table (sym at ∙ none) (table_moved r.feed r'.feed l l' table g))

pub preamble_lacks : (r r' : ReaderState) (l l' : Option (List ℕ)) (e : Break) → r.place ≡ r.feed.offset → StreamGives here table_at r.feed l r'.feed l' (Err e) → NoPreambleKnown (preamble_of bigram) r.feed l l' (fault_at r.place e)
preamble_lacks r r' l l' e at g =
    subst (λ (n : ℕ). NoPreambleKnown (preamble_of bigram) r.feed l l' (fault_at n e)) (sym at) (no_preamble bigram bigram_shrinks r.feed.offset r.feed.offset r.feed l l' (fault_at r.feed.offset e) (table_err r.feed r'.feed l l' e g))

pub preamble_ends : (r r' : ReaderState) (l l' : Option (List ℕ)) (e : Break) → is_fresh r.stage ≡ true → r.place ≡ r.feed.offset → r.place ≡ 0 → StreamGives here table_at r.feed l r'.feed l' (Err e)
    → EndsKnown (paths_left r) (no_paths 0 0) r.feed l l' (Err (fault_at r.place e))
preamble_ends r r' l l' e fresh at none g =
    let ended : EndsKnown (to_come bigram AtStart r.feed.offset 0) (no_paths r.feed.offset 0) r.feed l l' (Err (fault_at r.feed.offset e)) =
    ends_paths bigram AtStart r.feed.offset r.feed.offset 0 r.feed l l' (Err (fault_at r.feed.offset e)) (table_err r.feed r'.feed l l' e g) in
    let zero : r.feed.offset ≡ 0 = sym at ∙ none in
    subst (λ (t : Window → ToCome). EndsKnown t (no_paths 0 0) r.feed l l' (Err (fault_at r.place e))) (left_is r AtStart r.feed.offset (fresh_state r fresh) at)
    (subst (λ (n : ℕ). EndsKnown (to_come bigram AtStart r.feed.offset 0) (no_paths n 0) r.feed l l' (Err (fault_at r.place e))) zero
    (subst (λ (n : ℕ). EndsKnown (to_come bigram AtStart r.feed.offset 0) (no_paths r.feed.offset 0) r.feed l l' (Err (fault_at n e))) (sym at) ended))

-- ---- an entry

abbrev entry_state : List ℕ → List ℕ → ℕ → State
entry_state table path old = After table path old

-- the entry was given off the rest of the file
entry_moved : (table path path' : List ℕ) (old new : ℕ) (f f' : FeedState) (a b : List ℕ) (g : GaveEntry table path old path' new f a f' b)
    → Moved (rest_of bigram (After table path old) f.offset) (rest_of bigram (after (After table path old) (PathItem g.count g.units)) f'.offset) (after_item bigram (PathItem g.count g.units)) f a f' b
entry_moved table path path' old new f f' a b g =
    let s : State = After table path old in
    let i : Item = PathItem g.count g.units in
    let placed : (w : Window) → after_item bigram i (rest_of bigram (after s i) (f.offset + length g.bytes) w) ≡ after_item bigram i (rest_of bigram (after s i) f'.offset w) =
    λ w. ap (λ (p : ℕ). after_item bigram i (rest_of bigram (after s i) p w)) (sym g.took.offset) in
    record {
      whole =
          let parts = window_took f f' a b g.bytes g.took in
          let same = more_took f f' a b g.bytes g.took in
          let over : ends (not (window f a).more) (window f' b).bytes ≡ true = ap (λ (m : Bool). ends (not m) (window f' b).bytes) (sym same) ∙ g.ended.whole in
          rest_more bigram bigram_shrinks s f.offset (window f a) (window f' b) i g.bytes parts same (ap (entry_at (not (window f a).more) table path old) parts ∙ g.gives (not (window f a).more) (window f' b).bytes over)
          ∙ placed (window f' b);
      goes_on = g.took.goes_on;
      parts = λ going n le.
          let parts = so_far_took f f' a b g.bytes n g.took going le in
          rest_more bigram bigram_shrinks s f.offset (so_far f a n) (so_far f' b n) i g.bytes parts refl (ap (entry_at false table path old) parts ∙ g.gives false (so_far f' b n).bytes (g.ended.parts going n le))
          ∙ placed (so_far f' b n);
    }

abbrev found : List ℕ → ℕ → ToCome → ToCome
found text place t = after_paths (record { text = text; dir_len = before_base text; heads = 0; place = place } ∷ []) t

entry_paths : (table path path' : List ℕ) (old new : ℕ) (f f' : FeedState) (l l' : Option (List ℕ)) → EntryKnown table path old path' f l f' l' (Ok new)
    → MovedKnown (to_come bigram (After table path old) f.offset 0) (to_come bigram (After table path' new) f'.offset 0) (found path' f'.offset) f l f' l'
entry_paths table path path' old new f f' None l' k = tt
entry_paths table path path' old new f f' (Some a) None k = absurd k
entry_paths table path path' old new f f' (Some a) (Some b) g =
    let s : State = After table path old in
    let i : Item = PathItem g.count g.units in
    let made : path_with path (shared_by old g.count) (text_of table g.units) ≡ path' = ap (λ (n : ℕ). path_with path n (text_of table g.units)) g.shares ∙ g.makes in
    let m = paths_by_items bigram s (after s i) f.offset f'.offset 0 i f f' (Some a) (Some b) refl (entry_moved table path path' old new f f' a b g) in
    let at : List ℕ → ℕ → Type 0 = λ text n. MovedKnown (to_come bigram s f.offset 0) (to_come bigram (After table text n) f'.offset 0) (found text f'.offset) f (Some a) f' (Some b) in
    subst (at path') g.shares (subst (λ (t : List ℕ). at t (shared_by old g.count)) made m)

-- ---- where reading breaks off

fails_by : {A : Type 0} (r : Result A Stop) → Fails r → (P : Type 0) → ((s : Stop) → r ≡ Err s → P) → P
fails_by (Ok x) h P go = absurd h
fails_by (Err s) h P go = go s refl

fault_by : (place : ℕ) (more cut : Bool) (s : Stop) → (cut ≡ true → more ≡ false) → cond (cut && more) faults.TooLarge (damage_at place s) ≡ damage_at place s
fault_by place more true s h = ap (λ (b : Bool). cond b faults.TooLarge (damage_at place s)) (h refl)
fault_by place more false s h = refl

ending_is : (s : State) (place : ℕ) (w : Window) (stop : Stop) → (bigram.may_end s && eqb (length w.bytes) 0) ≡ false → item_at (not w.more) s w.bytes ≡ Err stop → end_at bigram place s w.bytes w.more ≡ Err (fault_of place w.more stop)
ending_is s place w stop on e =
    ap (λ (t : Bool). cond t (cond w.more (Err faults.TooLarge) (Ok tt)) (end_by place w.more (item_at (not w.more) s w.bytes))) on ∙ ap (end_by place w.more) e

stops_at : (s : State) (place : ℕ) (w : Window) (stop : Stop) → (bigram.may_end s && eqb (length w.bytes) 0) ≡ false → item_at (not w.more) s w.bytes ≡ Err stop → rest_of bigram s place w ≡ no_items bigram place (Err (fault_of place w.more stop))
stops_at s place w stop on e = rest_none bigram s place w stop e ∙ ap (no_items bigram place) (ending_is s place w stop on e)

wanting : (s : State) (place : ℕ) (f : FeedState) (a : List ℕ) (n : ℕ) → Wanting (item_at false s) f a n → Broke (rest_of bigram s place) (no_items bigram place) f a n
wanting s place f a n g =
    fails_by (item_at false s (so_far f a n).bytes) g.none _ (λ stop none.
    record { goes_on = g.goes_on; fewer = g.fewer; ending = end_at bigram place s (so_far f a n).bytes true; nothing = rest_none bigram s place (so_far f a n) stop none })

breaks_end : (s : State) (place : ℕ) (f : FeedState) (a : List ℕ) (n : ℕ) (e : Break) → (bigram.may_end s && eqb (length (window f a).bytes) 0) ≡ false → BreaksAs (λ last. item_at last s) f a n e
    → EndsBy (rest_of bigram s place) (no_items bigram place) f a n (Err (fault_at place e))
breaks_end s place f a n ReadFault on b = wanting s place f a n b
breaks_end s place f a n TooLarge on b =
    stops_at s place (window f a) (Broken Cut) on (ap (λ (m : Bool). item_at (not m) s (window f a).bytes) b.1 ∙ b.0)
    ∙ ap (λ (m : Bool). no_items bigram place (Err (cond m faults.TooLarge (damage_at place (Broken Cut))))) b.1
breaks_end s place f a n (Stopped NotADatabase) on b = stops_at s place (window f a) NotADatabase on b.0
breaks_end s place f a n (Stopped (Broken c)) on b =
    stops_at s place (window f a) (Broken c) on b.0 ∙ ap (λ (x : DbFault). no_items bigram place (Err x)) (fault_by place (window f a).more (is_cut (Broken c)) (Broken c) b.1)

entry_end : (table path path' : List ℕ) (old : ℕ) (f f' : FeedState) (l l' : Option (List ℕ)) (e : Break) → NotEnd bigram (After table path old) f l → EntryKnown table path old path' f l f' l' (Err e)
    → EndsKnown (rest_of bigram (After table path old) f.offset) (no_items bigram f.offset) f l l' (Err (fault_at f.offset e))
entry_end table path path' old f f' None l' e on k = tt
entry_end table path path' old f f' (Some a) None e on k = absurd k
entry_end table path path' old f f' (Some a) (Some b) e on k = breaks_end (After table path old) f.offset f a (length b) e on k

held_least : (f : FeedState) (b : List ℕ) (e : Bool) → f.ended ≡ e → length f.held ≤ length (file f b)
held_least f b false is = omega (arith, ap length (file_open f b is), length-append f.held b)
held_least f b true is = omega (arith, ap length (file_shut f b is))

not_end : (table path : List ℕ) (old : ℕ) (f f' : FeedState) (l l' : Option (List ℕ)) → TookKnown f l f' l' [] → 0 < length f'.held → f'.offset + length f'.held ≤ limit → NotEnd bigram (After table path old) f l
not_end table path old f f' None l' t some fits = tt
not_end table path old f f' (Some a) None t some fits = absurd t
not_end table path old f f' (Some a) (Some b) t some fits =
    ne_eqb (length (window f a).bytes) 0 (λ none. absurd (omega (arith, none, some, fits, t.offset, ap length t.bytes, length-take (limit - f.offset) (file f a), held_least f' b f'.ended refl)))

-- ---- no byte lies ahead

bare : (last : Bool) (table path : List ℕ) (old : ℕ) → entry_at last table path old [] ≡ Err (Broken Cut)
unfolding entry_at count_at
bare last table path old = refl

abbrev last_ending : Bool → Ending
last_ending more = cond more (Err faults.TooLarge) (Ok tt)

none_at : (table path : List ℕ) (old place : ℕ) (w : Window) → w.bytes ≡ [] → rest_of bigram (After table path old) place w ≡ no_items bigram place (last_ending w.more)
none_at table path old place w none =
    rest_none bigram (After table path old) place w (Broken Cut) (ap (entry_at (not w.more) table path old) none ∙ bare (not w.more) table path old)
    ∙ ap (λ (b : List ℕ). no_items bigram place (end_at bigram place (After table path old) b w.more)) none

at_last : (table path : List ℕ) (old place : ℕ) (f f' : FeedState) (a b : List ℕ) → TookKnown f (Some a) f' (Some b) [] → IsAllAhead f' 0 → f'.offset ≤ limit → rest_of bigram (After table path old) place (window f a) ≡ no_items bigram place (last_ending (eqb f'.offset limit))
at_last table path old place f f' a b t all fits =
    let parts = all_ahead f' b 0 f'.ended refl all (omega (arith, fits, all.held)) in
    let none : f'.held ≡ [] = nil_from_length f'.held all.held in
    let same : f'.offset + 0 ≡ f'.offset = omega arith in
    none_at table path old place (window f a) (window_took f f' a b [] t ∙ parts.0 ∙ none)
    ∙ ap (λ (m : Bool). no_items bigram place (last_ending m)) (sym (more_took f f' a b [] t) ∙ parts.1 ∙ ap (λ (n : ℕ). eqb n limit) same)

byte_fails : (bytes : List ℕ) → Fails (byte_at bytes) → bytes ≡ []
byte_fails [] h = refl
byte_fails (b ∷ bytes) h = absurd h

is_wanting : {A : Type 0} (r : Result A Stop) (s : Stop) → r ≡ Err s → Fails r
is_wanting r s e = rw e tt

fault_end : (table path : List ℕ) (old : ℕ) (f f' : FeedState) (l l' : Option (List ℕ)) → StreamGives {X = ℕ} (λ n. n) byte_at f l f' l' (Err ReadFault)
    → EndsKnown (rest_of bigram (After table path old) f.offset) (no_items bigram f.offset) f l l' (Err faults.ReadFault)
unfolding StreamGives
fault_end table path old f f' None l' g = tt
fault_end table path old f f' (Some a) None g = absurd g
fault_end table path old f f' (Some a) (Some b) g =
    wanting (After table path old) f.offset f a (length b) (record { goes_on = g.goes_on; fewer = g.fewer; none = is_wanting _ (Broken Cut) (ap (entry_at false table path old) (byte_fails (so_far f a (length b)).bytes g.none) ∙ bare false table path old) })

-- ---- a live reader

live_is : (s : Stage) → is_live s ≡ true → s ≡ stages.Live
live_is stages.Fresh e = absurd cc
live_is stages.Live e = refl
live_is stages.Done e = absurd cc

live_state : (r : ReaderState) → is_live r.stage ≡ true → state_of r ≡ After r.table r.path r.shared
live_state r live = ap (λ (t : Stage). state_by t r.table r.path r.shared) (live_is r.stage live)

live_left : (r : ReaderState) → is_live r.stage ≡ true → r.place ≡ r.feed.offset → (λ (w : Window). to_come bigram (After r.table r.path r.shared) r.feed.offset 0 w) ≡ paths_left r
live_left r live at = left_is r (After r.table r.path r.shared) r.feed.offset (live_state r live) at

-- a path was found
pub next_found : (r r' : ReaderState) (f : FeedState) (l l0 l' : Option (List ℕ)) → is_live r.stage ≡ true → r.place ≡ r.feed.offset → r'.stage ≡ stages.Live → r'.place ≡ r'.feed.offset → r'.table ≡ r.table
    → TookKnown r.feed l f l0 [] → EntryKnown r.table r.path r.shared r'.path f l0 r'.feed l' (Ok r'.shared) → MovedKnown (paths_left r) (paths_left r') (after_paths (path_found r' ∷ [])) r.feed l r'.feed l'
next_found r r' f l l0 l' live at live' at' same took k =
    let m = entry_paths r.table r.path r'.path r.shared r'.shared r.feed r'.feed l l' (entry_after r.table r.path r'.path r.shared r.feed f r'.feed l l0 l' (Ok r'.shared) took k) in
    let state : state_of r' ≡ After r.table r'.path r'.shared = λ i. state_by (live' i) (same i) r'.path r'.shared in
    let placed : ℕ → ToCome → ToCome = λ p. found r'.path p in
    subst (λ (t : Window → ToCome). MovedKnown t (paths_left r') (after_paths (path_found r' ∷ [])) r.feed l r'.feed l') (live_left r live at)
    (subst (λ (t : Window → ToCome). MovedKnown (to_come bigram (After r.table r.path r.shared) r.feed.offset 0) t (after_paths (path_found r' ∷ [])) r.feed l r'.feed l') (left_is r' (After r.table r'.path r'.shared) r'.feed.offset state at')
    (subst (λ (p : ℕ). MovedKnown (to_come bigram (After r.table r.path r.shared) r.feed.offset 0) (to_come bigram (After r.table r'.path r'.shared) r'.feed.offset 0) (placed p) r.feed l r'.feed l') (sym at') m))

-- how the paths end where their items do
ends_left : (r : ReaderState) (l l' : Option (List ℕ)) (e : Ending) → is_live r.stage ≡ true → r.place ≡ r.feed.offset → EndsKnown (rest_of bigram (After r.table r.path r.shared) r.feed.offset) (no_items bigram r.feed.offset) r.feed l l' e
    → EndsKnown (paths_left r) (no_paths r.place 0) r.feed l l' e
ends_left r l l' e live at h =
    let ended = ends_paths bigram (After r.table r.path r.shared) r.feed.offset r.feed.offset 0 r.feed l l' e h in
    subst (λ (t : Window → ToCome). EndsKnown t (no_paths r.place 0) r.feed l l' e) (live_left r live at)
    (subst (λ (n : ℕ). EndsKnown (to_come bigram (After r.table r.path r.shared) r.feed.offset 0) (no_paths n 0) r.feed l l' e) (sym at) ended)

-- an entry broke off
pub next_err : (r r' : ReaderState) (f : FeedState) (l l0 l' : Option (List ℕ)) (path : List ℕ) (e : Break) → is_live r.stage ≡ true → r.place ≡ r.feed.offset → TookKnown r.feed l f l0 [] → 0 < length f.held → f.offset + length f.held ≤ limit
    → EntryKnown r.table r.path r.shared path f l0 r'.feed l' (Err e) → EndsKnown (paths_left r) (no_paths r.place 0) r.feed l l' (Err (fault_at r.place e))
next_err r r' f l l0 l' path e live at took some fits k =
    let ended = entry_end r.table r.path path r.shared r.feed r'.feed l l' e (not_end r.table r.path r.shared r.feed f l l0 took some fits) (entry_after r.table r.path path r.shared r.feed f r'.feed l l0 l' (Err e) took k) in
    ends_left r l l' (Err (fault_at r.place e)) live at (subst (λ (n : ℕ). EndsKnown (rest_of bigram (After r.table r.path r.shared) r.feed.offset) (no_items bigram r.feed.offset) r.feed l l' (Err (fault_at n e))) (sym at) ended)

-- the source failed before a byte lay ahead
pub next_fault : (r r' : ReaderState) (l l' : Option (List ℕ)) → is_live r.stage ≡ true → r.place ≡ r.feed.offset → TookKnown r.feed l r'.feed l' [] → r'.feed.ended ≡ false → length r'.feed.held < 1
    → EndsKnown (paths_left r) (no_paths r.place 0) r.feed l l' (Err faults.ReadFault)
next_fault r r' l l' live at took going few =
    ends_left r l l' (Err faults.ReadFault) live at (fault_end r.table r.path r.shared r.feed r'.feed l l' (looked_fault 1 (λ n. n) byte_at wants_byte r.feed r'.feed l l' took going few))

all_end : (table path : List ℕ) (old : ℕ) (f f' : FeedState) (l l' : Option (List ℕ)) (b : Bool) → eqb f'.offset limit ≡ b → TookKnown f l f' l' [] → IsAllAhead f' 0 → f'.offset ≤ limit → EndsKnown (rest_of bigram (After table path old) f.offset) (no_items bigram f.offset) f l l' (last_ending b)
all_end table path old f f' None l' b is t all fits = tt
all_end table path old f f' (Some a) None b is t all fits = absurd t
all_end table path old f f' (Some a) (Some c) true is t all fits = at_last table path old f.offset f f' a c t all fits ∙ ap (λ (m : Bool). no_items bigram f.offset (last_ending m)) is
all_end table path old f f' (Some a) (Some c) false is t all fits = at_last table path old f.offset f f' a c t all fits ∙ ap (λ (m : Bool). no_items bigram f.offset (last_ending m)) is

-- the file ends here
pub next_end : (r : ReaderState) (f : FeedState) (l l' : Option (List ℕ)) → is_live r.stage ≡ true → r.place ≡ r.feed.offset → (r.place ≡ limit → ⊥) → TookKnown r.feed l f l' [] → f.offset ≡ r.feed.offset → IsAllAhead f 0 → f.offset ≤ limit
    → EndsKnown (paths_left r) (no_paths r.place 0) r.feed l l' (Ok tt)
next_end r f l l' live at below took same all fits =
    ends_left r l l' (Ok tt) live at (all_end r.table r.path r.shared r.feed f l l' false (ne_eqb f.offset limit (λ e. absurd (below (at ∙ sym same ∙ e)))) took all fits)

-- the limit is here
pub next_large : (r : ReaderState) (f : FeedState) (l l' : Option (List ℕ)) → is_live r.stage ≡ true → r.place ≡ r.feed.offset → r.place ≡ limit → TookKnown r.feed l f l' [] → f.offset ≡ r.feed.offset → IsAllAhead f 0 → f.offset ≤ limit
    → EndsKnown (paths_left r) (no_paths r.place 0) r.feed l l' (Err faults.TooLarge)
next_large r f l l' live at there took same all fits =
    ends_left r l l' (Err faults.TooLarge) live at (all_end r.table r.path r.shared r.feed f l l' true (eq-eqb f.offset limit (same ∙ sym at ∙ there)) took all fits)

-- ---- stages

pub fresh_not_done : (s : Stage) → is_fresh s ≡ true → is_done s ≡ false
fresh_not_done stages.Fresh e = refl
fresh_not_done stages.Live e = absurd cc
fresh_not_done stages.Done e = absurd cc

pub live_not_done : (s : Stage) → is_live s ≡ true → is_done s ≡ false
live_not_done stages.Fresh e = absurd cc
live_not_done stages.Live e = refl
live_not_done stages.Done e = absurd cc
