-- What a call of a reader does to the rest of the file.
use Rattle.std.proofs.Common.{◌≡◌, ℕ, ◌+◌, ◌<◌, Bool, true, false, cond, All, List, [], ◌∷◌, ◌++◌, length, take, drop, Option, Some, None, Result, Ok, Err, IsTrue, refl, sym, ap, subst, ◌∙◌, length-append, length-take, arith}
use Rattle.std.proofs.lemmas.Bool.{ne_eqb}
use Rattle.std.proofs.lemmas.List.{take-append-drop}
use Rattle.std.proofs.lemmas.List.Elements.{All-append, All-take}
use Rattle.byte_feed.specs.declared.damage.DamageCause.TheVariants.{Cut}
use Rattle.byte_feed.specs.declared.damage.Break.{Break}
use Rattle.byte_feed.specs.declared.damage.Break.TheVariants as breaks
use Rattle.byte_feed.specs.declared.damage.DbFault.TheVariants as faults
use Rattle.byte_feed.specs.declared.damage.Stop.{Stop}
use Rattle.byte_feed.specs.declared.damage.Stop.TheVariants.{Broken}
use Rattle.byte_feed.specs.Field.{◌>>=◌, magic_at, byte_at}
use Rattle.byte_feed.specs.Front.{limit, Window}
use Rattle.byte_feed.specs.Feed.{FeedState, window, TookKnown}
use Rattle.byte_feed.specs.Stream.{StreamGives}
use Rattle.byte_feed.specs.Endings.{Ending, end_at, fault_at}
use Rattle.byte_feed.specs.Paths.{ToCome, IsPath, rest_of, to_come, after_item, no_items, no_paths, after_paths, preamble_of, before_base}
use Rattle.byte_feed.specs.Calls.{MovedKnown, EndsKnown, PreambleKnown, NoPreambleKnown}
use Rattle.byte_feed.proofs.TakenOff.{took_none, window_took}
use Rattle.byte_feed.proofs.Streams.{stream_then, stream_err, byte_some, byte_none, byte_large, byte_fault}
use Rattle.byte_feed.proofs.Steps.{lifted, step_ok, step_err, step_fault, rest_none, item_len, paths_by_items, NotEnd}
use Rattle.byte_feed.proofs.Preambles.{preamble_some, no_preamble, ends_paths}
use Rattle.locate02_db.specs.declared.reader.Stage.{Stage}
use Rattle.locate02_db.specs.declared.reader.Stage.TheVariants as stages
use Rattle.locate02_db.specs.declared.stream.Prefix.{Prefix}
use Rattle.locate02_db.specs.Items.{Item, PreambleItem, State, AtStart, After, magic, shared_by, path_with, entry_from, entry_at, item_at, locate02}
use Rattle.locate02_db.specs.StreamItems.{item_in, Replaces}
use Rattle.locate02_db.specs.Reader.{ReaderState, state_by, state_of, is_fresh, is_live, paths_left, path_found}
use Rattle.locate02_db.proofs.ItemSizes.{locate02_shrinks}

-- ---- readers of the items as the format has them

lift_same : {A : Type 0} (item : A → Item) (r : Result (A × List ℕ) Stop) → (r >>= λ x. Ok (item x.0, x.1)) ≡ lifted item r
lift_same item (Ok x) = refl
lift_same item (Err s) = refl

lift_id : (r : Result (Item × List ℕ) Stop) → r ≡ lifted (λ (i : Item). i) r
lift_id (Ok x) = refl
lift_id (Err s) = refl

preamble_lifted : (last : Bool) (bytes : List ℕ) → item_at AtStart bytes ≡ lifted (λ (u : Unit {0}). PreambleItem) (magic_at magic bytes)
preamble_lifted last bytes = lift_same (λ (u : Unit {0}). PreambleItem) (magic_at magic bytes)

entry_lifted : (path : List ℕ) (old : ℕ) (last : Bool) (bytes : List ℕ) → item_at (After path old) bytes ≡ lifted (λ (i : Item). i) (entry_at path old bytes)
entry_lifted path old last bytes = lift_id (entry_at path old bytes)

-- ---- stages

pub fresh_stage : (s : Stage) → IsTrue (is_fresh s) → s ≡ stages.Fresh
fresh_stage stages.Fresh e = refl
fresh_stage stages.Live e = absurd cc
fresh_stage stages.Done e = absurd cc

pub live_stage : (s : Stage) → IsTrue (is_live s) → s ≡ stages.Live
live_stage stages.Fresh e = absurd cc
live_stage stages.Live e = refl
live_stage stages.Done e = absurd cc

abbrev paths_by : State → ℕ → Window → ToCome
paths_by s place w = to_come locate02 s place 0 w

-- what is left to a reader whose parts are told apart
left_is : (r : ReaderState) (s : State) (place : ℕ) → state_of r ≡ s → r.place ≡ place → paths_by s place ≡ paths_left r
left_is r s place state at = λ i w. paths_by (sym state i) (sym at i) w

fresh_state : (r : ReaderState) → r.stage ≡ stages.Fresh → state_of r ≡ AtStart
fresh_state r stage = ap (λ (s : Stage). state_by s r.path r.shared) stage

live_state : (r : ReaderState) (path : List ℕ) (shared : ℕ) → r.stage ≡ stages.Live → r.path ≡ path → r.shared ≡ shared → state_of r ≡ After path shared
live_state r path shared stage path_is shared_is = λ i. state_by (stage i) (path_is i) (shared_is i)

moved_left : (r r' : ReaderState) (t t' : Window → ToCome) (given : ToCome → ToCome) (l l' : Option (List ℕ)) → t ≡ paths_left r → t' ≡ paths_left r'
    → MovedKnown t t' given r.feed l r'.feed l' → MovedKnown (paths_left r) (paths_left r') given r.feed l r'.feed l'
moved_left r r' t t' given l l' before after m =
    subst (λ (b : Window → ToCome). MovedKnown b (paths_left r') given r.feed l r'.feed l') before
    (subst (λ (a : Window → ToCome). MovedKnown t a given r.feed l r'.feed l') after m)

ends_left : (r : ReaderState) (t : Window → ToCome) (place : ℕ) (l l' : Option (List ℕ)) (e : ℕ → Ending) → t ≡ paths_left r → place ≡ r.place → EndsKnown t (no_paths place 0) r.feed l l' (e place) → EndsKnown (paths_left r) (no_paths r.place 0) r.feed l l' (e r.place)
ends_left r t place l l' e before at m =
    subst (λ (b : Window → ToCome). EndsKnown b (no_paths r.place 0) r.feed l l' (e r.place)) before
    (subst (λ (n : ℕ). EndsKnown t (no_paths n 0) r.feed l l' (e n)) at m)

-- ---- the preamble

preamble_given : (f f' : FeedState) (l l' : Option (List ℕ)) → StreamGives (λ (u : Unit {0}). u) (magic_at magic) f l f' l' (Ok tt)
    → MovedKnown (rest_of locate02 AtStart f.offset) (rest_of locate02 (After [] 0) f'.offset) (after_item locate02 PreambleItem) f l f' l'
preamble_given f f' l l' g = step_ok locate02 locate02_shrinks AtStart (λ (u : Unit {0}). u) (λ (u : Unit {0}). PreambleItem) (magic_at magic) preamble_lifted f f' l l' tt g

preamble_whole_by : (f f' : FeedState) (l l' : Option (List ℕ)) → f.offset ≡ 0
    → MovedKnown (rest_of locate02 AtStart f.offset) (rest_of locate02 (After [] 0) f'.offset) (after_item locate02 PreambleItem) f l f' l' → PreambleKnown (preamble_of locate02) f l f'.offset false
preamble_whole_by f f' None l' none m = tt
preamble_whole_by f f' (Some a) None none m = absurd m
preamble_whole_by f f' (Some a) (Some b) none m =
    let len : length magic ≡ f'.offset = omega (arith, none, item_len locate02 AtStart (After [] 0) f.offset f'.offset _ _ PreambleItem m.whole) in
    preamble_some locate02 locate02_shrinks f.offset _ PreambleItem _ m.whole ∙ ap (λ (n : ℕ). Some (n, false)) len

-- the preamble was read
pub preamble_whole : (r : ReaderState) (f' : FeedState) (place : ℕ) (l l' : Option (List ℕ)) → r.place ≡ r.feed.offset → r.place ≡ 0 → place ≡ f'.offset → StreamGives (λ (u : Unit {0}). u) (magic_at magic) r.feed l f' l' (Ok tt)
    → PreambleKnown (preamble_of locate02) r.feed l place false
preamble_whole r f' place l l' at none at' g =
    subst (λ (n : ℕ). PreambleKnown (preamble_of locate02) r.feed l n false) (sym at')
    (preamble_whole_by r.feed f' l l' (sym at ∙ none) (preamble_given r.feed f' l l' g))

-- the paths to come are the same behind it
pub preamble_moves : (r r' : ReaderState) (l l' : Option (List ℕ)) → r.stage ≡ stages.Fresh → r.place ≡ r.feed.offset → r'.stage ≡ stages.Live → r'.path ≡ [] → r'.shared ≡ 0 → r'.place ≡ r'.feed.offset
    → StreamGives (λ (u : Unit {0}). u) (magic_at magic) r.feed l r'.feed l' (Ok tt) → MovedKnown (paths_left r) (paths_left r') (λ t. t) r.feed l r'.feed l'
preamble_moves r r' l l' stage at stage' path' shared' at' g =
    moved_left r r' _ _ (λ t. t) l l' (left_is r AtStart r.feed.offset (fresh_state r stage) at) (left_is r' (After [] 0) r'.feed.offset (live_state r' [] 0 stage' path' shared') at')
    (paths_by_items locate02 AtStart (After [] 0) r.feed.offset r'.feed.offset 0 PreambleItem r.feed r'.feed l l' refl (preamble_given r.feed r'.feed l l' g))

never_end : (f : FeedState) (l : Option (List ℕ)) → NotEnd locate02 AtStart f l
never_end f None = tt
never_end f (Some a) = refl

preamble_broke : (f f' : FeedState) (l l' : Option (List ℕ)) (e : Break) → StreamGives (λ (u : Unit {0}). u) (magic_at magic) f l f' l' (Err e)
    → EndsKnown (rest_of locate02 AtStart f.offset) (no_items locate02 f.offset) f l l' (Err (fault_at f.offset e))
preamble_broke f f' l l' e g = step_err locate02 locate02_shrinks AtStart (λ (u : Unit {0}). u) (λ (u : Unit {0}). PreambleItem) (magic_at magic) preamble_lifted f f' l l' e (never_end f l) g

-- no preamble stands there
pub preamble_lacks : (r : ReaderState) (f' : FeedState) (l l' : Option (List ℕ)) (e : Break) → r.place ≡ r.feed.offset → StreamGives (λ (u : Unit {0}). u) (magic_at magic) r.feed l f' l' (Err e)
    → NoPreambleKnown (preamble_of locate02) r.feed l l' (fault_at r.place e)
preamble_lacks r f' l l' e at g =
    subst (λ (n : ℕ). NoPreambleKnown (preamble_of locate02) r.feed l l' (fault_at n e)) (sym at)
    (no_preamble locate02 locate02_shrinks r.feed.offset r.feed.offset r.feed l l' (fault_at r.feed.offset e) (preamble_broke r.feed f' l l' e g))

pub preamble_ends : (r : ReaderState) (f' : FeedState) (l l' : Option (List ℕ)) (e : Break) → r.stage ≡ stages.Fresh → r.place ≡ r.feed.offset → r.place ≡ 0 → StreamGives (λ (u : Unit {0}). u) (magic_at magic) r.feed l f' l' (Err e)
    → EndsKnown (paths_left r) (no_paths 0 0) r.feed l l' (Err (fault_at r.place e))
preamble_ends r f' l l' e stage at none g =
    subst (λ (n : ℕ). EndsKnown (paths_left r) (no_paths n 0) r.feed l l' (Err (fault_at r.place e))) none
    (ends_left r _ r.feed.offset l l' (λ p. Err (fault_at p e)) (left_is r AtStart r.feed.offset (fresh_state r stage) at) (sym at)
    (ends_paths locate02 AtStart r.feed.offset r.feed.offset 0 r.feed l l' (Err (fault_at r.feed.offset e)) (preamble_broke r.feed f' l l' e g)))

-- ---- an entry

-- the path that was put in place of another is its shared bytes and the rest
pub replaced : (old : ℕ) (path : List ℕ) (p : Prefix) (path' : List ℕ) → Replaces old path p path' → path_with path p.shared (drop p.shared path') ≡ path'
replaced old path p path' h = ap (λ (t : List ℕ). t ++ drop p.shared path') (sym h.keeps) ∙ take-append-drop p.shared path'

-- it is a path
pub replaced_path : (old : ℕ) (path : List ℕ) (p : Prefix) (path' : List ℕ) → All (λ b. 0 < b) path → Replaces old path p path' → IsPath path'
replaced_path old path p path' plain h =
    let len : length path' ≡ p.shared + length (drop p.shared path') = sym (ap length (replaced old path p path' h)) ∙ length-append (take p.shared path) (drop p.shared path') ∙ omega (arith, length-take p.shared path, h.within) in
    record {
      some = h.some;
      fits = omega (arith, len, h.plain.fits, h.fits);
      plain = subst (All (λ b. 0 < b)) (replaced old path p path' h) (All-append (λ b. 0 < b) (take p.shared path) (drop p.shared path') (All-take (λ b. 0 < b) p.shared path plain) h.plain.plain);
    }

-- an entry, of which the first byte was taken
entry_read : (path : List ℕ) (old : ℕ) (path' : List ℕ) (f0 f1 f2 : FeedState) (l0 l1 l2 : Option (List ℕ)) (first : ℕ) (result : Result Prefix Break) → TookKnown f0 l0 f1 l1 (first ∷ [])
    → StreamGives (item_in path') (entry_from path old first) f1 l1 f2 l2 result → StreamGives (item_in path') (entry_at path old) f0 l0 f2 l2 result
entry_read path old path' f0 f1 f2 l0 l1 l2 first result t g =
    stream_then (λ (b : ℕ). b) byte_at (entry_from path old) (item_in path') f0 f1 f2 l0 l1 l2 first result (byte_some f0 f1 l0 l1 first t) g

state_after : (old : ℕ) (path : List ℕ) (p : Prefix) (path' : List ℕ) → Replaces old path p path' → After path' p.shared ≡ locate02.after (After path old) (item_in path' p)
state_after old path p path' h =
    let text : path' ≡ path_with path (shared_by old p.change) (drop p.shared path') = sym (replaced old path p path' h) ∙ ap (λ (n : ℕ). path_with path n (drop p.shared path')) h.shared in
    λ i. After (text i) (h.shared i)

abbrev here : ℕ → List ℕ → ToCome → ToCome
here place text = after_paths (record { text = text; dir_len = before_base text; heads = 0; place = place } ∷ [])

-- the path of an entry was found
pub entry_found : (r r' : ReaderState) (f1 : FeedState) (l0 l1 l2 : Option (List ℕ)) (first : ℕ) (p : Prefix) → r.stage ≡ stages.Live → r.place ≡ r.feed.offset → r'.stage ≡ stages.Live → r'.shared ≡ p.shared → r'.place ≡ r'.feed.offset
    → Replaces r.shared r.path p r'.path → TookKnown r.feed l0 f1 l1 (first ∷ []) → StreamGives (item_in r'.path) (entry_from r.path r.shared first) f1 l1 r'.feed l2 (Ok p)
    → MovedKnown (paths_left r) (paths_left r') (after_paths (path_found r' ∷ [])) r.feed l0 r'.feed l2
entry_found r r' f1 l0 l1 l2 first p stage at stage' shared' at' h t g =
    let s : State = After r.path r.shared in
    let s' : State = After r'.path p.shared in
    let i : Item = item_in r'.path p in
    let items = step_ok locate02 locate02_shrinks s (item_in r'.path) (λ (j : Item). j) (entry_at r.path r.shared) (entry_lifted r.path r.shared) r.feed r'.feed l0 l2 p (entry_read r.path r.shared r'.path r.feed f1 r'.feed l0 l1 l2 first (Ok p) t g) in
    let after = state_after r.shared r.path p r'.path h in
    let moved : MovedKnown (rest_of locate02 s r.feed.offset) (rest_of locate02 s' r'.feed.offset) (after_item locate02 i) r.feed l0 r'.feed l2 =
    subst (λ (z : State). MovedKnown (rest_of locate02 s r.feed.offset) (rest_of locate02 z r'.feed.offset) (after_item locate02 i) r.feed l0 r'.feed l2) (sym after) items in
    let text : path_with r.path (shared_by r.shared p.change) (drop p.shared r'.path) ≡ r'.path = ap (λ (n : ℕ). path_with r.path n (drop p.shared r'.path)) (sym h.shared) ∙ replaced r.shared r.path p r'.path h in
    let paths = paths_by_items locate02 s s' r.feed.offset r'.feed.offset 0 i r.feed r'.feed l0 l2 after moved in
    let found : MovedKnown (paths_by s r.feed.offset) (paths_by s' r'.feed.offset) (here r'.place r'.path) r.feed l0 r'.feed l2 =
    subst (λ (n : ℕ). MovedKnown (paths_by s r.feed.offset) (paths_by s' r'.feed.offset) (here n r'.path) r.feed l0 r'.feed l2) (sym at')
    (subst (λ (x : List ℕ). MovedKnown (paths_by s r.feed.offset) (paths_by s' r'.feed.offset) (here r'.feed.offset x) r.feed l0 r'.feed l2) text paths) in
    moved_left r r' _ _ (after_paths (path_found r' ∷ [])) l0 l2 (left_is r s r.feed.offset (live_state r r.path r.shared stage refl refl) at) (left_is r' s' r'.feed.offset (live_state r' r'.path p.shared stage' refl shared') at') found

-- a byte was taken, so the file does not end before it
byte_follows : (path : List ℕ) (old : ℕ) (f f' : FeedState) (l l' : Option (List ℕ)) (first : ℕ) → TookKnown f l f' l' (first ∷ []) → NotEnd locate02 (After path old) f l
byte_follows path old f f' None l' first t = tt
byte_follows path old f f' (Some a) None first t = absurd t
byte_follows path old f f' (Some a) (Some b) first t =
    let bytes = ap length (window_took f f' a b (first ∷ []) t) in
    ne_eqb (length (window f a).bytes) 0 (λ none. absurd (omega (arith, none, bytes)))

-- no whole entry stands there
pub entry_broken : (r : ReaderState) (path' : List ℕ) (f1 f2 : FeedState) (l0 l1 l2 : Option (List ℕ)) (first : ℕ) (e : Break) → r.stage ≡ stages.Live → r.place ≡ r.feed.offset → TookKnown r.feed l0 f1 l1 (first ∷ [])
    → StreamGives (item_in path') (entry_from r.path r.shared first) f1 l1 f2 l2 (Err e) → EndsKnown (paths_left r) (no_paths r.place 0) r.feed l0 l2 (Err (fault_at r.place e))
entry_broken r path' f1 f2 l0 l1 l2 first e stage at t g =
    let s : State = After r.path r.shared in
    ends_left r _ r.feed.offset l0 l2 (λ p. Err (fault_at p e)) (left_is r s r.feed.offset (live_state r r.path r.shared stage refl refl) at) (sym at)
    (ends_paths locate02 s r.feed.offset r.feed.offset 0 r.feed l0 l2 (Err (fault_at r.feed.offset e))
    (step_err locate02 locate02_shrinks s (item_in path') (λ (j : Item). j) (entry_at r.path r.shared) (entry_lifted r.path r.shared) r.feed f2 l0 l2 e (byte_follows r.path r.shared r.feed f1 l0 l1 first t)
    (entry_read r.path r.shared path' r.feed f1 f2 l0 l1 l2 first (Err e) t g)))

-- ---- the end

abbrev last_ending : Bool → Ending
last_ending more = cond more (Err faults.TooLarge) (Ok tt)

-- no byte is left
none_left : (path : List ℕ) (old place : ℕ) (w : Window) (more : Bool) → w.bytes ≡ [] → w.more ≡ more → rest_of locate02 (After path old) place w ≡ no_items locate02 place (last_ending more)
none_left path old place w more none is =
    rest_none locate02 (After path old) place w (Broken Cut) (ap (item_at (After path old)) none)
    ∙ ap (λ (b : List ℕ). no_items locate02 place (end_at locate02 place (After path old) b w.more)) none
    ∙ ap (λ (m : Bool). no_items locate02 place (last_ending m)) is

byte_cut : (bytes : List ℕ) → byte_at bytes ≡ Err (Broken Cut) → bytes ≡ []
byte_cut [] e = refl
byte_cut (b ∷ bytes) e = absurd cc

-- the file ends before an entry
end_known : (path : List ℕ) (old place : ℕ) (f f' : FeedState) (l l' : Option (List ℕ)) → StreamGives {X = ℕ} (λ n. n) byte_at f l f' l' (Err (breaks.Stopped (Broken Cut)))
    → EndsKnown (rest_of locate02 (After path old) place) (no_items locate02 place) f l l' (Ok tt)
unfolding StreamGives
end_known path old place f f' None l' g = tt
end_known path old place f f' (Some a) None g = absurd g
end_known path old place f f' (Some a) (Some b) g = none_left path old place (window f a) false (byte_cut (window f a).bytes g.0) (g.1 refl)

-- or it goes on past the limit
large_known : (path : List ℕ) (old place : ℕ) (f f' : FeedState) (l l' : Option (List ℕ)) → StreamGives {X = ℕ} (λ n. n) byte_at f l f' l' (Err breaks.TooLarge)
    → EndsKnown (rest_of locate02 (After path old) place) (no_items locate02 place) f l l' (Err faults.TooLarge)
unfolding StreamGives
large_known path old place f f' None l' g = tt
large_known path old place f f' (Some a) None g = absurd g
large_known path old place f f' (Some a) (Some b) g = none_left path old place (window f a) true (byte_cut (window f a).bytes g.0) g.1

as_left : (r : ReaderState) (l l' : Option (List ℕ)) (e : Ending) → r.stage ≡ stages.Live → EndsKnown (rest_of locate02 (After r.path r.shared) r.place) (no_items locate02 r.place) r.feed l l' e → EndsKnown (paths_left r) (no_paths r.place 0) r.feed l l' e
as_left r l l' e stage m =
    ends_left r _ r.place l l' (λ p. e) (left_is r (After r.path r.shared) r.place (live_state r r.path r.shared stage refl refl) refl) refl
    (ends_paths locate02 (After r.path r.shared) r.place r.place 0 r.feed l l' e m)

pub ended_whole : (r : ReaderState) (f' : FeedState) (l l' : Option (List ℕ)) → r.stage ≡ stages.Live → TookKnown r.feed l f' l' [] → f'.held ≡ [] → f'.ended ≡ true → r.feed.offset < limit
    → EndsKnown (paths_left r) (no_paths r.place 0) r.feed l l' (Ok tt)
ended_whole r f' l l' stage t none shut below = as_left r l l' (Ok tt) stage (end_known r.path r.shared r.place r.feed f' l l' (byte_none r.feed f' l l' t none shut below))

pub ended_large : (r : ReaderState) (l l' : Option (List ℕ)) → r.stage ≡ stages.Live → l' ≡ l → r.feed.offset ≡ limit → EndsKnown (paths_left r) (no_paths r.place 0) r.feed l l' (Err faults.TooLarge)
ended_large r l l' stage left at =
    subst (λ (m : Option (List ℕ)). EndsKnown (paths_left r) (no_paths r.place 0) r.feed l m (Err faults.TooLarge)) (sym left)
    (as_left r l l (Err faults.TooLarge) stage (large_known r.path r.shared r.place r.feed r.feed l l (byte_large r.feed r.feed l l (took_none r.feed l) at)))

pub ended_fault : (r : ReaderState) (l l' : Option (List ℕ)) → r.stage ≡ stages.Live → r.place ≡ r.feed.offset → l' ≡ l → r.feed.held ≡ [] → r.feed.ended ≡ false → EndsKnown (paths_left r) (no_paths r.place 0) r.feed l l' (Err faults.ReadFault)
ended_fault r l l' stage at left none going =
    let s : State = After r.path r.shared in
    let byte = byte_fault r.feed r.feed l l (took_none r.feed l) none going in
    let entry = stream_err (λ (n : ℕ). n) byte_at (entry_from r.path r.shared) (item_in []) r.feed r.feed l l breaks.ReadFault byte in
    subst (λ (m : Option (List ℕ)). EndsKnown (paths_left r) (no_paths r.place 0) r.feed l m (Err faults.ReadFault)) (sym left)
    (ends_left r _ r.feed.offset l l (λ p. Err faults.ReadFault) (left_is r s r.feed.offset (live_state r r.path r.shared stage refl refl) at) (sym at)
    (ends_paths locate02 s r.feed.offset r.feed.offset 0 r.feed l l (Err faults.ReadFault)
    (step_fault locate02 locate02_shrinks s (item_in []) (λ (j : Item). j) (entry_at r.path r.shared) (entry_lifted r.path r.shared) r.feed r.feed l l entry)))
