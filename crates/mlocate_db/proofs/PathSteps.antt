-- Steps as paths.
use Rattle.std.proofs.Common.{◌≡◌, ℕ, ◌+◌, List, [], ◌∷◌, ◌++◌, length, take, drop, ◌≤◌, Option, Ok, refl, sym, ap, subst, ◌∙◌, length-take, arith}
use Rattle.std.proofs.lemmas.List.{take-take, take_all}
use Rattle.path_order.specs.Path.{joined}
use Rattle.path_order.specs.declared.kind.Kind.{Kind}
use Rattle.byte_feed.specs.Endings.{Ending}
use Rattle.byte_feed.specs.Paths.{ToCome, rest_of, to_come, after_item, after_paths, path_here, no_items, no_paths}
use Rattle.byte_feed.specs.Calls.{MovedKnown, EndsKnown, Shares}
use Rattle.byte_feed.proofs.Steps.{paths_by_items}
use Rattle.byte_feed.proofs.Preambles.{ends_paths}
use Rattle.mlocate_db.specs.declared.db_reader.Stage.{Stage}
use Rattle.mlocate_db.specs.declared.db_reader.Stage.TheVariants as stages
use Rattle.mlocate_db.specs.declared.db_reader.Step.TheVariants as steps
use Rattle.mlocate_db.specs.Items.{Item, HeadItem, EntryItem, EndItem, State, Between, Inside, in_directory, mlocate}
use Rattle.mlocate_db.specs.Reader.{ReaderState, state_by, state_of, dir_of, items_left, paths_left, path_found, StepGives, ShowsHead, ShowsEntry, ShowsEnd}
use Rattle.mlocate_db.proofs.ItemSteps.{joined_is}

abbrev here : State → Item → ReaderState → ReaderState → ToCome → ToCome
here s i r r' z = after_paths (path_here r'.place r.heads (mlocate.path_of s i)) z

-- items are given as paths, where the states are told apart
by_states : (s s' : State) (i : Item) (r r' : ReaderState) (l l' : Option (List ℕ)) (given : ToCome → ToCome) → state_of r ≡ s → state_of r' ≡ s' → s' ≡ mlocate.after s i → r.heads + mlocate.head_of i ≡ r'.heads
    → here s i r r' ≡ given → MovedKnown (items_left r) (items_left r') (after_item mlocate i) r.feed l r'.feed l' → MovedKnown (paths_left r) (paths_left r') given r.feed l r'.feed l'
by_states s s' i r r' l l' given is is' after heads same m =
    let told : MovedKnown (rest_of mlocate s r.place) (rest_of mlocate s' r'.place) (after_item mlocate i) r.feed l r'.feed l' =
    subst (λ (t : State). MovedKnown (rest_of mlocate t r.place) (rest_of mlocate s' r'.place) (after_item mlocate i) r.feed l r'.feed l') is
    (subst (λ (t : State). MovedKnown (rest_of mlocate (state_of r) r.place) (rest_of mlocate t r'.place) (after_item mlocate i) r.feed l r'.feed l') is' m) in
    let paths : MovedKnown (to_come mlocate s r.place r.heads) (to_come mlocate s' r'.place (r.heads + mlocate.head_of i)) (here s i r r') r.feed l r'.feed l' =
    paths_by_items mlocate s s' r.place r'.place r.heads i r.feed r'.feed l l' after told in
    subst (λ (t : State). MovedKnown (to_come mlocate t r.place r.heads) (paths_left r') given r.feed l r'.feed l') (sym is)
    (subst (λ (t : State). MovedKnown (to_come mlocate s r.place r.heads) (to_come mlocate t r'.place r'.heads) given r.feed l r'.feed l') (sym is')
    (subst (λ (n : ℕ). MovedKnown (to_come mlocate s r.place r.heads) (to_come mlocate s' r'.place n) given r.feed l r'.feed l') heads
    (subst (λ (h : ToCome → ToCome). MovedKnown (to_come mlocate s r.place r.heads) (to_come mlocate s' r'.place (r.heads + mlocate.head_of i)) h r.feed l r'.feed l') same paths)))

state_is : (r : ReaderState) (s : Stage) (v : ℕ) (dir : List ℕ) → r.stage ≡ s → r.version ≡ v → dir_of r ≡ dir → state_of r ≡ state_by s v dir
state_is r s v dir stage version dir_is = λ i. state_by (stage i) (version i) (dir_is i)

-- a directory's head gives no path
pub head_paths : (r r' : ReaderState) (l l' : Option (List ℕ)) → r'.version ≡ r.version → ShowsHead r r' → StepGives (Ok steps.Directory) r l r' l' → MovedKnown (paths_left r) (paths_left r') (λ t. t) r.feed l r'.feed l'
head_paths r r' l l' version shows m =
    let i : Item = HeadItem (record { seconds = r'.stamp.seconds; nanos = r'.stamp.nanos; device = r'.device; path = r'.path }) in
    by_states (Between r.version) (Inside r.version r'.path) i r r' l l' (λ t. t)
    (state_is r stages.Between r.version (dir_of r) shows.before refl refl) (state_is r' stages.Inside r.version r'.path shows.after version (take_all r'.dir_len r'.path (omega (arith, shows.whole)))) refl (sym shows.heads) refl m

-- neither does a directory's end
pub end_paths : (r r' : ReaderState) (l l' : Option (List ℕ)) → r'.version ≡ r.version → ShowsEnd r r' → StepGives (Ok steps.EndDirectory) r l r' l' → MovedKnown (paths_left r) (paths_left r') (λ t. t) r.feed l r'.feed l'
end_paths r r' l l' version shows m =
    let same : r.heads + 0 ≡ r'.heads = omega (arith, shows.heads) in
    by_states (Inside r.version (dir_of r)) (Between r.version) EndItem r r' l l' (λ t. t)
    (state_is r stages.Inside r.version (dir_of r) shows.before refl refl) (state_is r' stages.Between r.version (dir_of r') shows.after version refl) refl same refl m

abbrev found : List ℕ → ℕ → ℕ → ℕ → ToCome → ToCome
found text dir_len heads place = after_paths (record { text = text; dir_len = dir_len; heads = heads; place = place } ∷ [])

-- an entry gives its path
pub entry_paths : (r r' : ReaderState) (l l' : Option (List ℕ)) (kind : Kind) → r'.version ≡ r.version → ShowsEntry r r' → StepGives (Ok (steps.Entry kind)) r l r' l' → MovedKnown (paths_left r) (paths_left r') (after_paths (path_found r' ∷ [])) r.feed l r'.feed l'
entry_paths r r' l l' kind version shows m =
    let d : List ℕ = dir_of r in
    let name : List ℕ = drop (length (in_directory (dir_of r'))) r'.path in
    let same : r.heads + 0 ≡ r'.heads = omega (arith, shows.heads) in
    let name_is : name ≡ drop (length (in_directory d)) r'.path = ap (λ (x : List ℕ). drop (length (in_directory x)) r'.path) shows.dir in
    let text : joined d name ≡ r'.path = joined_is d name ∙ ap (λ (x : List ℕ). in_directory d ++ x) name_is ∙ sym shows.joined in
    let len : length d ≡ r'.dir_len = ap length (sym shows.dir) ∙ omega (arith, length-take r'.dir_len r'.path, shows.below) in
    by_states (Inside r.version d) (Inside r.version d) (EntryItem kind name) r r' l l' (after_paths (path_found r' ∷ []))
    (state_is r stages.Inside r.version d shows.before refl refl) (state_is r' stages.Inside r.version d shows.after version shows.dir) refl same
    (λ i. found (text i) (len i) (sym shows.heads i) r'.place) m

-- the end, as that of paths
pub step_ends : (r : ReaderState) (l l' : Option (List ℕ)) (e : Ending) (place heads : ℕ) → place ≡ r.place → heads ≡ r.heads → EndsKnown (items_left r) (no_items mlocate r.place) r.feed l l' e → EndsKnown (paths_left r) (no_paths place heads) r.feed l l' e
step_ends r l l' e place heads at count h =
    subst (λ (n : ℕ). EndsKnown (paths_left r) (no_paths n heads) r.feed l l' e) (sym at)
    (subst (λ (n : ℕ). EndsKnown (paths_left r) (no_paths r.place n) r.feed l l' e) (sym count)
    (ends_paths mlocate (state_of r) r.place r.place r.heads r.feed l l' e h))

-- Where a reader goes on in a directory, the next path has its first bytes, too.
pub entry_shares : (n : ℕ) (before : List ℕ) (r r' : ReaderState) → Shares n before r.path → n ≤ r.dir_len → ShowsEntry r r' → Shares n before r'.path
entry_shares n before r r' shares within shows =
    let fits : n ≤ r'.dir_len = omega (arith, within, shows.dir_len) in
    record {
      within = omega (arith, fits, shows.below);
      same = sym (take-take n r'.dir_len r'.path fits) ∙ ap (take n) shows.dir ∙ take-take n r.dir_len r.path within ∙ shares.same;
    }
