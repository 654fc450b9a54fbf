-- What a step of a reader does to the rest of the file.
use Rattle.std.proofs.Common.{◌≡◌, ℕ, ◌+◌, ◌-◌, ◌<◌, ◌≤◌, Bool, true, false, cond, eqb, List, [], ◌∷◌, ◌++◌, length, drop, Option, Some, None, Ok, Err, refl, sym, ap, subst, ◌∙◌, length-append, length-take, arith, All}
use Rattle.std.proofs.lemmas.Bool.{ne_eqb, eq-eqb}
use Rattle.std.proofs.lemmas.List.{nil_from_length, take_all}
use Rattle.std.proofs.lemmas.List.Elements.{All-push, All-append}
use Rattle.path_order.specs.Path.{is_root}
use Rattle.path_order.specs.declared.kind.Kind.{Kind}
use Rattle.byte_feed.specs.declared.damage.DamageCause.TheVariants.{Cut}
use Rattle.byte_feed.specs.declared.damage.Break.{Break}
use Rattle.byte_feed.specs.declared.damage.Break.TheVariants as breaks
use Rattle.byte_feed.specs.declared.damage.Stop.TheVariants.{Broken}
use Rattle.byte_feed.specs.declared.damage.DbFault.TheVariants as faults
use Rattle.byte_feed.specs.Field.{IsText}
use Rattle.byte_feed.specs.Front.{limit, Window}
use Rattle.byte_feed.specs.Feed.{FeedState, file, window, TookKnown, IsAllAhead}
use Rattle.byte_feed.specs.Stream.{StreamGives}
use Rattle.byte_feed.specs.Endings.{Ending, end_at, fault_at}
use Rattle.byte_feed.specs.Paths.{Rest, rest_of, after_item, no_items}
use Rattle.byte_feed.specs.Calls.{MovedKnown, EndsKnown}
use Rattle.byte_feed.proofs.TakenOff.{file_open, file_shut, window_took, more_took}
use Rattle.byte_feed.proofs.Wants.{all_ahead, looked_fault}
use Rattle.byte_feed.proofs.Steps.{step_ok, step_err, step_fault, rest_none, NotEnd}
use Rattle.byte_feed.proofs.Streams.{stream_same, stream_err}
use Rattle.mlocate_db.specs.declared.db_reader.Stage.{Stage}
use Rattle.mlocate_db.specs.declared.db_reader.Stage.TheVariants as stages
use Rattle.mlocate_db.specs.declared.db_reader.Step.TheVariants as steps
use Rattle.mlocate_db.specs.declared.item.Listed.{Listed}
use Rattle.mlocate_db.specs.declared.item.Listed.TheVariants as listeds
use Rattle.mlocate_db.specs.declared.item.Numbers.{Numbers}
use Rattle.mlocate_db.specs.Items.{Head, Item, HeadItem, EntryItem, Between, Inside, in_directory, room_in, numbers_at, as_head, head_at, entry_at, item_at, mlocate}
use Rattle.mlocate_db.specs.StreamItems.{listed_item, item_in, ListedAt}
use Rattle.mlocate_db.specs.Reader.{ReaderState, state_by, dir_of, items_left, StepGives}
use Rattle.mlocate_db.proofs.ItemSizes.{mlocate_shrinks}
use Rattle.mlocate_db.proofs.ItemSteps.{head_lifted, entry_lifted, numbers_want, path_then, head_parts}

-- ---- a reader whose parts are told apart

abbrev items_by : Stage → ℕ → List ℕ → ℕ → Window → Rest mlocate
items_by s v dir p w = rest_of mlocate (state_by s v dir) p w

pub left_is : (r : ReaderState) (s : Stage) (v : ℕ) (dir : List ℕ) (p : ℕ) → r.stage ≡ s → r.version ≡ v → dir_of r ≡ dir → r.place ≡ p → (λ (w : Window). rest_of mlocate (state_by s v dir) p w) ≡ items_left r
left_is r s v dir p stage version dir_is place =
    λ i. items_by (sym stage i) (sym version i) (sym dir_is i) (sym place i)

pub moved_left : (r r' : ReaderState) (t t' : Window → Rest mlocate) (i j : Item) (l l' : Option (List ℕ)) → t ≡ items_left r → t' ≡ items_left r' → i ≡ j
    → MovedKnown t t' (after_item mlocate i) r.feed l r'.feed l' → MovedKnown (items_left r) (items_left r') (after_item mlocate j) r.feed l r'.feed l'
moved_left r r' t t' i j l l' before after same m =
    subst (λ (b : Window → Rest mlocate). MovedKnown b (items_left r') (after_item mlocate j) r.feed l r'.feed l') before
    (subst (λ (a : Window → Rest mlocate). MovedKnown t a (after_item mlocate j) r.feed l r'.feed l') after
    (subst (λ (x : Item). MovedKnown t t' (after_item mlocate x) r.feed l r'.feed l') same m))

pub ends_left : (r : ReaderState) (t : Window → Rest mlocate) (p : ℕ) (l l' : Option (List ℕ)) (e : ℕ → Ending) → t ≡ items_left r → p ≡ r.place → EndsKnown t (no_items mlocate p) r.feed l l' (e p) → EndsKnown (items_left r) (no_items mlocate r.place) r.feed l l' (e r.place)
ends_left r t p l l' e before place m =
    subst (λ (b : Window → Rest mlocate). EndsKnown b (no_items mlocate r.place) r.feed l l' (e r.place)) before
    (subst (λ (n : ℕ). EndsKnown t (no_items mlocate n) r.feed l l' (e n)) place m)

-- ---- inside a directory

pub inside_entry : (r r' : ReaderState) (l l' : Option (List ℕ)) (kind : Kind) → r.stage ≡ stages.Inside → r'.stage ≡ stages.Inside → r.place ≡ r.feed.offset → r'.place ≡ r'.feed.offset → r'.version ≡ r.version → dir_of r' ≡ dir_of r
    → StreamGives (item_in (dir_of r) r'.path) (entry_at (room_in (dir_of r))) r.feed l r'.feed l' (Ok (listeds.Entry kind)) → StepGives (Ok (steps.Entry kind)) r l r' l'
inside_entry r r' l l' kind stage stage' at at' version dir g =
    let d : List ℕ = dir_of r in
    moved_left r r' _ _ _ _ l l' (left_is r stages.Inside r.version d r.feed.offset stage refl refl at) (left_is r' stages.Inside r.version d r'.feed.offset stage' version dir at')
    (ap (λ (x : List ℕ). EntryItem kind (drop (length (in_directory x)) r'.path)) (sym dir))
    (step_ok mlocate mlocate_shrinks (Inside r.version d) (item_in d r'.path) (λ (i : Item). i) (entry_at (room_in d)) (entry_lifted r.version d) r.feed r'.feed l l' (listeds.Entry kind) g)

pub inside_end : (r r' : ReaderState) (l l' : Option (List ℕ)) → r.stage ≡ stages.Inside → r'.stage ≡ stages.Between → r.place ≡ r.feed.offset → r'.place ≡ r'.feed.offset → r'.version ≡ r.version
    → StreamGives (item_in (dir_of r) r'.path) (entry_at (room_in (dir_of r))) r.feed l r'.feed l' (Ok listeds.End) → StepGives (Ok steps.EndDirectory) r l r' l'
inside_end r r' l l' stage stage' at at' version g =
    let d : List ℕ = dir_of r in
    moved_left r r' _ _ _ _ l l' (left_is r stages.Inside r.version d r.feed.offset stage refl refl at) (left_is r' stages.Between r.version (dir_of r') r'.feed.offset stage' version refl at') refl
    (step_ok mlocate mlocate_shrinks (Inside r.version d) (item_in d r'.path) (λ (i : Item). i) (entry_at (room_in d)) (entry_lifted r.version d) r.feed r'.feed l l' listeds.End g)

never_end : (v : ℕ) (d : List ℕ) (f : FeedState) (l : Option (List ℕ)) → NotEnd mlocate (Inside v d) f l
never_end v d f None = tt
never_end v d f (Some a) = refl

pub inside_err : (r r' : ReaderState) (l l' : Option (List ℕ)) (path : List ℕ) (e : Break) → r.stage ≡ stages.Inside → r.place ≡ r.feed.offset
    → StreamGives (λ x. listed_item x path) (entry_at (room_in (dir_of r))) r.feed l r'.feed l' (Err e) → StepGives (Err (fault_at r.place e)) r l r' l'
inside_err r r' l l' path e stage at g =
    let d : List ℕ = dir_of r in
    ends_left r _ r.feed.offset l l' (λ p. Err (fault_at p e)) (left_is r stages.Inside r.version d r.feed.offset stage refl refl at) (sym at)
    (step_err mlocate mlocate_shrinks (Inside r.version d) (λ (x : Listed). listed_item x path) (λ (i : Item). i) (entry_at (room_in d)) (entry_lifted r.version d) r.feed r'.feed l l' e (never_end r.version d r.feed l) g)

-- ---- between directories

abbrev head_shown : ReaderState → Head
head_shown r = record { seconds = r.stamp.seconds; nanos = r.stamp.nanos; device = r.device; path = r.path }

head_same : (n : Numbers) (r : ReaderState) → n.seconds ≡ r.stamp.seconds → n.nanos ≡ r.stamp.nanos → n.device ≡ r.device → as_head n r.path ≡ head_shown r
head_same n r seconds nanos device = λ i. record { seconds = seconds i; nanos = nanos i; device = device i; path = r.path }

pub between_head : (r r' : ReaderState) (l l' : Option (List ℕ)) (n : Numbers) → r.stage ≡ stages.Between → r'.stage ≡ stages.Inside → r.place ≡ r.feed.offset → r'.place ≡ r'.feed.offset → r'.version ≡ r.version → r'.dir_len ≡ length r'.path
    → n.seconds ≡ r'.stamp.seconds → n.nanos ≡ r'.stamp.nanos → n.device ≡ r'.device
    → StreamGives (λ m. as_head m r'.path) head_at r.feed l r'.feed l' (Ok n) → StepGives (Ok steps.Directory) r l r' l'
between_head r r' l l' n stage stage' at at' version len seconds nanos device g =
    moved_left r r' _ _ _ _ l l' (left_is r stages.Between r.version (dir_of r) r.feed.offset stage refl refl at) (left_is r' stages.Inside r.version r'.path r'.feed.offset stage' version (take_all r'.dir_len r'.path (omega (arith, len))) at')
    (ap HeadItem (head_same n r' seconds nanos device))
    (step_ok mlocate mlocate_shrinks (Between r.version) (λ (m : Numbers). as_head m r'.path) HeadItem head_at (head_lifted r.version) r.feed r'.feed l l' n g)

held_least : (f : FeedState) (b : List ℕ) (e : Bool) → f.ended ≡ e → length f.held ≤ length (file f b)
held_least f b false is = omega (arith, ap length (file_open f b is), length-append f.held b)
held_least f b true is = omega (arith, ap length (file_shut f b is))

pub not_end : (v : ℕ) (f f' : FeedState) (l l' : Option (List ℕ)) → TookKnown f l f' l' [] → 0 < length f'.held → f'.offset + length f'.held ≤ limit → NotEnd mlocate (Between v) f l
not_end v f f' None l' t some fits = tt
not_end v f f' (Some a) None t some fits = absurd t
not_end v f f' (Some a) (Some b) t some fits =
    ne_eqb (length (window f a).bytes) 0 (λ none. absurd (omega (arith, none, some, fits, t.offset, ap length t.bytes, length-take (limit - f.offset) (file f a), held_least f' b f'.ended refl)))

pub between_err : (r r' : ReaderState) (l l' : Option (List ℕ)) (path : List ℕ) (e : Break) → r.stage ≡ stages.Between → r.place ≡ r.feed.offset
    → NotEnd mlocate (Between r.version) r.feed l → StreamGives (λ m. as_head m path) head_at r.feed l r'.feed l' (Err e) → StepGives (Err (fault_at r.place e)) r l r' l'
between_err r r' l l' path e stage at on g =
    ends_left r _ r.feed.offset l l' (λ p. Err (fault_at p e)) (left_is r stages.Between r.version (dir_of r) r.feed.offset stage refl refl at) (sym at)
    (step_err mlocate mlocate_shrinks (Between r.version) (λ (m : Numbers). as_head m path) HeadItem head_at (head_lifted r.version) r.feed r'.feed l l' e on g)

-- the source failed before a byte lay ahead
pub head_wanting : (r r' : ReaderState) (l l' : Option (List ℕ)) → r.stage ≡ stages.Between → r.place ≡ r.feed.offset
    → TookKnown r.feed l r'.feed l' [] → r'.feed.ended ≡ false → length r'.feed.held < 1 → StepGives (Err faults.ReadFault) r l r' l'
head_wanting r r' l l' stage at t going few =
    let numbers_none = looked_fault 16 (λ (n : Numbers). n) numbers_at numbers_want r.feed r'.feed l l' t going (omega (arith, few)) in
    let none = stream_same (λ (m : Numbers). as_head m []) _ head_at r.feed r'.feed l l' _ head_parts (stream_err (λ (n : Numbers). n) numbers_at path_then (λ (m : Numbers). as_head m []) r.feed r'.feed l l' breaks.ReadFault numbers_none) in
    ends_left r _ r.feed.offset l l' (λ p. Err faults.ReadFault) (left_is r stages.Between r.version (dir_of r) r.feed.offset stage refl refl at) (sym at)
    (step_fault mlocate mlocate_shrinks (Between r.version) (λ (m : Numbers). as_head m []) HeadItem head_at (head_lifted r.version) r.feed r'.feed l l' none)

-- no byte lies ahead: the file ends here, or goes on past the limit
abbrev last_ending : Bool → Ending
last_ending more = cond more (Err faults.TooLarge) (Ok tt)

none_at : (v place : ℕ) (w : Window) → w.bytes ≡ [] → rest_of mlocate (Between v) place w ≡ no_items mlocate place (last_ending w.more)
unfolding head_at numbers_at
none_at v place w none =
    rest_none mlocate (Between v) place w (Broken Cut) (ap (item_at (Between v)) none)
    ∙ ap (λ (b : List ℕ). no_items mlocate place (end_at mlocate place (Between v) b w.more)) none

at_last : (v place : ℕ) (f f' : FeedState) (a b : List ℕ) → TookKnown f (Some a) f' (Some b) [] → IsAllAhead f' 0 → f'.offset ≤ limit → rest_of mlocate (Between v) place (window f a) ≡ no_items mlocate place (last_ending (eqb f'.offset limit))
at_last v place f f' a b t all fits =
    let parts = all_ahead f' b 0 f'.ended refl all (omega (arith, fits, all.held)) in
    let none : f'.held ≡ [] = nil_from_length f'.held all.held in
    let same : f'.offset + 0 ≡ f'.offset = omega arith in
    none_at v place (window f a) (window_took f f' a b [] t ∙ parts.0 ∙ none)
    ∙ ap (λ (m : Bool). no_items mlocate place (last_ending m)) (sym (more_took f f' a b [] t) ∙ parts.1 ∙ ap (λ (n : ℕ). eqb n limit) same)

-- how the file ends where no byte lies ahead below the limit, and at it
pub between_end : (r r' : ReaderState) (f : FeedState) (l l' : Option (List ℕ)) → r.stage ≡ stages.Between → r.place ≡ r.feed.offset → (r.place ≡ limit → ⊥)
    → TookKnown r.feed l f l' [] → f.offset ≡ r.feed.offset → IsAllAhead f 0 → f.offset ≤ limit → StepGives (Ok steps.End) r l r' l'
between_end r r' f None l' stage at below t same all fits = tt
between_end r r' f (Some a) None stage at below t same all fits = absurd t
between_end r r' f (Some a) (Some b) stage at below t same all fits =
    ends_left r _ r.place (Some a) (Some b) (λ p. Ok tt) (left_is r stages.Between r.version (dir_of r) r.place stage refl refl refl) refl
    (at_last r.version r.place r.feed f a b t all fits ∙ ap (λ (m : Bool). no_items mlocate r.place (last_ending m)) (ne_eqb f.offset limit (λ e. absurd (below (at ∙ sym same ∙ e)))))

pub between_large : (r r' : ReaderState) (f : FeedState) (l l' : Option (List ℕ)) → r.stage ≡ stages.Between → r.place ≡ r.feed.offset → r.place ≡ limit
    → TookKnown r.feed l f l' [] → f.offset ≡ r.feed.offset → IsAllAhead f 0 → f.offset ≤ limit → StepGives (Err faults.TooLarge) r l r' l'
between_large r r' f None l' stage at there t same all fits = tt
between_large r r' f (Some a) None stage at there t same all fits = absurd t
between_large r r' f (Some a) (Some b) stage at there t same all fits =
    ends_left r _ r.place (Some a) (Some b) (λ p. Err faults.TooLarge) (left_is r stages.Between r.version (dir_of r) r.place stage refl refl refl) refl
    (at_last r.version r.place r.feed f a b t all fits ∙ ap (λ (m : Bool). no_items mlocate r.place (last_ending m)) (eq-eqb f.offset limit (same ∙ sym at ∙ there)))

-- ---- the path of an entry

plain_slash : (dir : List ℕ) (b : Bool) → All (λ c. 0 < c) dir → All (λ c. 0 < c) (cond b dir (dir ++ 47 ∷ []))
plain_slash dir true plain = plain
plain_slash dir false plain = All-push (λ c. 0 < c) dir 47 plain (omega arith)

longer_by : (dir : List ℕ) (b : Bool) → length dir ≤ length (cond b dir (dir ++ 47 ∷ []))
longer_by dir true = omega arith
longer_by dir false = omega (arith, length-append dir (47 ∷ []))

pub entry_longer : (dir path : List ℕ) (kind : Kind) → ListedAt (listeds.Entry kind) dir path → length dir < length path
entry_longer dir path kind listed =
    let name : List ℕ = drop (length (in_directory dir)) path in
    omega (arith, longer_by dir (is_root dir), ap length listed.0, length-append (in_directory dir) name, listed.1.some)

pub entry_path : (dir path : List ℕ) (kind : Kind) → IsText 4096 dir → ListedAt (listeds.Entry kind) dir path → IsText 4096 path
entry_path dir path kind text listed =
    let name : List ℕ = drop (length (in_directory dir)) path in
    let len : length path ≡ length (in_directory dir) + length name = ap length listed.0 ∙ length-append (in_directory dir) name in
    record {
      some = omega (arith, len, listed.1.some);
      fits = omega (arith, len, listed.1.fits, listed.1.some);
      plain = subst (All (λ c. 0 < c)) (sym listed.0) (All-append (λ c. 0 < c) (in_directory dir) name (plain_slash dir (is_root dir) text.plain) listed.1.plain);
    }
