-- What reading the header does to the rest of the file.
use Rattle.std.proofs.Common.{◌≡◌, ℕ, ◌+◌, Bool, true, false, List, [], ◌++◌, length, Option, Some, None, Result, Ok, Err, refl, sym, ap, subst, ◌∙◌, arith, ◌↔◌, IsTrue, OnOk, OnErr, IfErr}
use Rattle.byte_feed.specs.declared.damage.DamageCause.TheVariants.{EmptyPath}
use Rattle.byte_feed.specs.declared.damage.Break.{Break}
use Rattle.byte_feed.specs.declared.damage.DbFault.{DbFault}
use Rattle.byte_feed.specs.Field.{bytes_at, text_at, max_path}
use Rattle.byte_feed.specs.Feed.{FeedState}
use Rattle.byte_feed.specs.Front.{Window}
use Rattle.byte_feed.specs.Stream.{StreamGives, MatchesKnown}
use Rattle.byte_feed.specs.Endings.{fault_at}
use Rattle.byte_feed.specs.Paths.{Rest, rest_of, no_items, preamble_of, to_come, after_paths, path_here, no_paths}
use Rattle.byte_feed.specs.Calls.{MovedKnown, EndsKnown, PreambleKnown, NoPreambleKnown}
use Rattle.byte_feed.proofs.Streams.{stream_then, stream_err, stream_ok, stream_same}
use Rattle.byte_feed.proofs.Steps.{step_ok, step_err, NotEnd, item_len, paths_by_items}
use Rattle.byte_feed.proofs.Preambles.{preamble_some, no_preamble, ends_paths}
use Rattle.byte_feed.proofs.Takes.{bytes_again}
use Rattle.mlocate_db.specs.declared.item.Fixed.{Fixed}
use Rattle.mlocate_db.specs.declared.db_reader.Stage.{Stage}
use Rattle.mlocate_db.specs.declared.db_reader.Stage.TheVariants as stages
use Rattle.mlocate_db.specs.Items.{Header, HeaderItem, State, AtStart, Between, fixed_at, as_header, header_at, path_of, mlocate}
use Rattle.mlocate_db.specs.StreamItems.{HeaderKnown}
use Rattle.mlocate_db.specs.Reader.{ReaderState, state_by, state_of, dir_of, is_fresh, items_left, paths_left, HeaderGives, StartKnown}
use Rattle.mlocate_db.proofs.ItemSizes.{mlocate_shrinks}
use Rattle.mlocate_db.proofs.ItemSteps.{root_then, block_then, header_parts, header_lifted, header_broken}
use Rattle.mlocate_db.proofs.ReaderSteps.{left_is, moved_left, ends_left}

-- ---- the header's parts

-- the fixed part broke off
pub fixed_broken : (expected root : List ℕ) (f f' : FeedState) (l l' : Option (List ℕ)) (e : Break) → StreamGives (λ (x : Fixed). x) fixed_at f l f' l' (Err e) → HeaderKnown expected root f l f' l' (Err e)
fixed_broken expected root f f' l l' e g =
    let u : Fixed → Header = λ x. as_header x [] [] in
    header_broken u expected root f f' l l' e (stream_same u _ header_at f f' l l' (Err e) header_parts (stream_err (λ (x : Fixed). x) fixed_at root_then u f f' l l' e g))

-- the root broke off
pub root_broken : (fixed : Fixed) (expected root path : List ℕ) (f0 f1 f2 : FeedState) (l0 l1 l2 : Option (List ℕ)) (e : Break) → StreamGives (λ (x : Fixed). x) fixed_at f0 l0 f1 l1 (Ok fixed)
    → StreamGives {X = Unit {0}} (λ _. path) (text_at EmptyPath max_path) f1 l1 f2 l2 (Err e) → HeaderKnown expected root f0 l0 f2 l2 (Err e)
root_broken fixed expected root path f0 f1 f2 l0 l1 l2 e first g =
    let u : Unit {0} → Header = λ _. as_header fixed path [] in
    header_broken u expected root f0 f2 l0 l2 e (stream_same u _ header_at f0 f2 l0 l2 (Err e) header_parts
    (stream_then (λ (x : Fixed). x) fixed_at root_then u f0 f1 f2 l0 l1 l2 fixed (Err e) first
    (stream_err (λ (_ : Unit {0}). path) (text_at EmptyPath max_path) (block_then fixed) u f1 f2 l1 l2 e g)))

-- the bytes of the block, as what was read
block_err : (count : ℕ) (expected : List ℕ) (f f' : FeedState) (l l' : Option (List ℕ)) (e : Break) → MatchesKnown count expected f l f' l' (Err e) → StreamGives {X = Unit {0}} (λ _. []) (bytes_at count) f l f' l' (Err e)
unfolding StreamGives
block_err count expected f f' None l' e m = tt
block_err count expected f f' (Some a) None e m = absurd m
block_err count expected f f' (Some a) (Some b) e m = m

-- the block broke off
pub block_broken : (fixed : Fixed) (expected root : List ℕ) (f0 f1 f2 f3 : FeedState) (l0 l1 l2 l3 : Option (List ℕ)) (e : Break) → StreamGives (λ (x : Fixed). x) fixed_at f0 l0 f1 l1 (Ok fixed)
    → StreamGives {X = Unit {0}} (λ _. root) (text_at EmptyPath max_path) f1 l1 f2 l2 (Ok tt) → MatchesKnown fixed.size expected f2 l2 f3 l3 (Err e) → HeaderKnown expected root f0 l0 f3 l3 (Err e)
block_broken fixed expected root f0 f1 f2 f3 l0 l1 l2 l3 e first second m =
    let u : Unit {0} → Header = λ _. as_header fixed root [] in
    header_broken u expected root f0 f3 l0 l3 e (stream_same u _ header_at f0 f3 l0 l3 (Err e) header_parts
    (stream_then (λ (x : Fixed). x) fixed_at root_then u f0 f1 f3 l0 l1 l3 fixed (Err e) first
    (stream_then (λ (_ : Unit {0}). root) (text_at EmptyPath max_path) (block_then fixed) u f1 f2 f3 l1 l2 l3 tt (Err e) second
    (stream_err (λ (_ : Unit {0}). []) (bytes_at fixed.size) (λ t rest. Ok (as_header fixed root t, rest)) u f2 f3 l2 l3 e (block_err fixed.size expected f2 f3 l2 l3 e m)))))

block_again : (count : ℕ) (text rest : List ℕ) → length text ≡ count → bytes_at count (text ++ rest) ≡ Ok (text, rest)
block_again count text rest len = bytes_again count text rest len

-- the whole header was read
pub header_read : (fixed : Fixed) (expected root : List ℕ) (f0 f1 f2 f3 : FeedState) (l0 l1 l2 l3 : Option (List ℕ)) (same : Bool) → StreamGives (λ (x : Fixed). x) fixed_at f0 l0 f1 l1 (Ok fixed)
    → StreamGives {X = Unit {0}} (λ _. root) (text_at EmptyPath max_path) f1 l1 f2 l2 (Ok tt) → MatchesKnown fixed.size expected f2 l2 f3 l3 (Ok same) → HeaderKnown expected root f0 l0 f3 l3 (Ok (fixed, same))
unfolding StreamGives
header_read fixed expected root f0 f1 f2 f3 None l1 l2 l3 same first second m = tt
header_read fixed expected root f0 f1 f2 f3 (Some a) None l2 l3 same first second m = absurd first
header_read fixed expected root f0 f1 f2 f3 (Some a) (Some b) None l3 same first second m = absurd second
header_read fixed expected root f0 f1 f2 f3 (Some a) (Some b) (Some c) None same first second m = absurd m
header_read fixed expected root f0 f1 f2 f3 (Some a) (Some b) (Some c) (Some d) same first second m =
    let u : Unit {0} → Header = λ _. as_header fixed root m.text in
    let block : StreamGives {X = Unit {0}} (λ _. m.text) (bytes_at fixed.size) f2 (Some c) f3 (Some d) (Ok tt) = record { text = m.text; took = m.took; gives = λ rest. block_again fixed.size m.text rest m.len } in
    record {
      block = m.text;
      gave = stream_same u _ header_at f0 f3 (Some a) (Some d) (Ok tt) header_parts
          (stream_then (λ (x : Fixed). x) fixed_at root_then u f0 f1 f3 (Some a) (Some b) (Some d) fixed (Ok tt) first
          (stream_then (λ (_ : Unit {0}). root) (text_at EmptyPath max_path) (block_then fixed) u f1 f2 f3 (Some b) (Some c) (Some d) tt (Ok tt) second
          (stream_then (λ (_ : Unit {0}). m.text) (bytes_at fixed.size) (λ t rest. Ok (as_header fixed root t, rest)) u f2 f3 f3 (Some c) (Some d) (Some d) tt (Ok tt) block (stream_ok u tt f3 (Some d)))));
      is_same = m.is_same;
    }

-- ---- the reader

never_end : (f : FeedState) (l : Option (List ℕ)) → NotEnd mlocate AtStart f l
never_end f None = tt
never_end f (Some a) = refl

-- the header was read
pub started : (r r' : ReaderState) (l l' : Option (List ℕ)) (fixed : Fixed) (root block : List ℕ) (same answer : Bool) → r.stage ≡ stages.Fresh → r'.stage ≡ stages.Between → r.place ≡ r.feed.offset → r'.place ≡ r'.feed.offset
    → r'.version ≡ fixed.version → r'.flag ≡ fixed.flag → ((answer ≡ true) ↔ ((same ≡ true) × (r'.path ≡ root))) → HeaderKnown block r'.path r.feed l r'.feed l' (Ok (fixed, same)) → StartKnown (Ok answer) r l r' l' root block
unfolding StreamGives
started r r' None l' fixed root block same answer stage stage' at at' version flag told h = tt
started r r' (Some a) None fixed root block same answer stage stage' at at' version flag told h = absurd h
started r r' (Some a) (Some b) fixed root block same answer stage stage' at at' version flag told h =
    let header : Header = as_header fixed r'.path h.block in
    let gave : StreamGives {X = Unit {0}} (λ _. header) header_at r.feed (Some a) r'.feed (Some b) (Ok tt) = h.gave in
    record {
      begins = record {
        header = header;
        moved = moved_left r r' _ _ (HeaderItem header) (HeaderItem header) (Some a) (Some b) (left_is r stages.Fresh r.version (dir_of r) r.feed.offset stage refl refl at) (left_is r' stages.Between fixed.version (dir_of r') r'.feed.offset stage' version refl at') refl
            (step_ok mlocate mlocate_shrinks AtStart (λ (_ : Unit {0}). header) HeaderItem header_at header_lifted r.feed r'.feed (Some a) (Some b) tt gave);
        between = stage';
        version = version;
        flag = flag;
        root = refl;
      };
      is_same = (λ e. let both = told.0 e in (both.1, h.is_same.0 both.0), λ p. told.1 (h.is_same.1 p.1, p.0));
    }

header_err : (expected root : List ℕ) (f f' : FeedState) (l l' : Option (List ℕ)) (e : Break) → HeaderKnown expected root f l f' l' (Err e) → StreamGives {X = Unit {0}} (λ _. record { version = 0; flag = false; padding = 0; root = []; block = [] }) header_at f l f' l' (Err e)
unfolding StreamGives
header_err expected root f f' None l' e h = tt
header_err expected root f f' (Some a) None e h = absurd h
header_err expected root f f' (Some a) (Some b) e h = h

-- no whole header stands there
pub not_started : (r r' : ReaderState) (l l' : Option (List ℕ)) (expected root : List ℕ) (e : Break) → r.stage ≡ stages.Fresh → r.place ≡ r.feed.offset → HeaderKnown expected root r.feed l r'.feed l' (Err e)
    → EndsKnown (items_left r) (no_items mlocate r.place) r.feed l l' (Err (fault_at r.place e))
not_started r r' l l' expected root e stage at h =
    ends_left r _ r.feed.offset l l' (λ p. Err (fault_at p e)) (left_is r stages.Fresh r.version (dir_of r) r.feed.offset stage refl refl at) (sym at)
    (step_err mlocate mlocate_shrinks AtStart (λ (_ : Unit {0}). record { version = 0; flag = false; padding = 0; root = []; block = [] }) HeaderItem header_at header_lifted r.feed r'.feed l l' e (never_end r.feed l) (header_err expected root r.feed r'.feed l l' e h))

-- the answer of one is the other's
pub header_given : (r r' : ReaderState) (l l' : Option (List ℕ)) (root block : List ℕ) (same : Bool) (u : Unit {0}) → StartKnown (Ok same) r l r' l' root block → HeaderGives (Ok u) r l r' l'
header_given r r' None l' root block same u s = tt
header_given r r' (Some a) None root block same u s = absurd s
header_given r r' (Some a) (Some b) root block same u s = s.begins

-- ---- as paths

fresh_left : (r : ReaderState) (w : Window) → r.stage ≡ stages.Fresh → items_left r w ≡ rest_of mlocate AtStart r.place w
fresh_left r w stage = ap (λ (t : Stage). rest_of mlocate (state_by t r.version (dir_of r)) r.place w) stage

pub preamble_whole : (r r' : ReaderState) (l l' : Option (List ℕ)) (u : Unit {0}) → r.stage ≡ stages.Fresh → r.place ≡ 0 → HeaderGives (Ok u) r l r' l' → PreambleKnown (preamble_of mlocate) r.feed l r'.place r'.flag
preamble_whole r r' None l' u stage none h = tt
preamble_whole r r' (Some a) None u stage none h = absurd h
preamble_whole r r' (Some a) (Some b) u stage none h =
    let whole = sym (fresh_left r _ stage) ∙ h.moved.whole in
    let len : length (mlocate.spell (HeaderItem h.header)) ≡ r'.place = omega (arith, none, item_len mlocate AtStart (state_of r') r.place r'.place _ _ (HeaderItem h.header) whole) in
    let shown : ℕ → Bool → Option (ℕ × Bool) = λ n g. Some (n, g) in
    preamble_some mlocate mlocate_shrinks r.place _ (HeaderItem h.header) _ whole ∙ ap (λ (n : ℕ). shown n h.header.flag) len ∙ ap (λ (g : Bool). shown r'.place g) (sym h.flag)

left_fresh : (r : ReaderState) → r.stage ≡ stages.Fresh → items_left r ≡ (λ (w : Window). rest_of mlocate AtStart r.place w)
left_fresh r stage = λ i w. rest_of mlocate (state_by (stage i) r.version (dir_of r)) r.place w

fresh_state : (r : ReaderState) → r.stage ≡ stages.Fresh → AtStart ≡ state_of r
fresh_state r stage = ap (λ (t : Stage). state_by t r.version (dir_of r)) (sym stage)

between_state : (r : ReaderState) (v : ℕ) → r.stage ≡ stages.Between → r.version ≡ v → state_of r ≡ Between v
between_state r v stage version = ap (λ (t : Stage). state_by t r.version (dir_of r)) stage ∙ ap Between version

-- a header gives no path
bare : (r r' : ReaderState) (a b : List ℕ) (header : Header) → r.stage ≡ stages.Fresh
    → MovedKnown (paths_left r) (to_come mlocate (state_of r') r'.place (r.heads + 0)) (after_paths (path_here r'.place r.heads (path_of (state_of r) (HeaderItem header)))) r.feed (Some a) r'.feed (Some b)
    → MovedKnown (paths_left r) (to_come mlocate (state_of r') r'.place (r.heads + 0)) (λ t. t) r.feed (Some a) r'.feed (Some b)
bare r r' a b header stage m =
    subst (λ (s : State). MovedKnown (paths_left r) (to_come mlocate (state_of r') r'.place (r.heads + 0)) (after_paths (path_here r'.place r.heads (path_of s (HeaderItem header)))) r.feed (Some a) r'.feed (Some b)) (sym (fresh_state r stage)) m

-- the paths to come are the same behind the header
pub preamble_moves : (r r' : ReaderState) (l l' : Option (List ℕ)) (u : Unit {0}) → r.stage ≡ stages.Fresh → r'.heads ≡ r.heads → HeaderGives (Ok u) r l r' l' → MovedKnown (paths_left r) (paths_left r') (λ t. t) r.feed l r'.feed l'
preamble_moves r r' None l' u stage heads h = tt
preamble_moves r r' (Some a) None u stage heads h = absurd h
preamble_moves r r' (Some a) (Some b) u stage heads h =
    let same : r.heads + 0 ≡ r'.heads = omega (arith, heads) in
    let m = paths_by_items mlocate (state_of r) (state_of r') r.place r'.place r.heads (HeaderItem h.header) r.feed r'.feed (Some a) (Some b) (between_state r' h.header.version h.between h.version) h.moved in
    subst (λ (n : ℕ). MovedKnown (paths_left r) (to_come mlocate (state_of r') r'.place n) (λ t. t) r.feed (Some a) r'.feed (Some b)) same (bare r r' a b h.header stage m)

pub preamble_lacks : (r : ReaderState) (l l' : Option (List ℕ)) (e : DbFault) → r.stage ≡ stages.Fresh → EndsKnown (items_left r) (no_items mlocate r.place) r.feed l l' (Err e) → NoPreambleKnown (preamble_of mlocate) r.feed l l' e
preamble_lacks r l l' e stage h = no_preamble mlocate mlocate_shrinks r.place r.place r.feed l l' e (subst (λ (t : Window → Rest mlocate). EndsKnown t (no_items mlocate r.place) r.feed l l' (Err e)) (left_fresh r stage) h)

pub preamble_ends : (r : ReaderState) (l l' : Option (List ℕ)) (e : DbFault) → r.place ≡ 0 → r.heads ≡ 0 → EndsKnown (items_left r) (no_items mlocate r.place) r.feed l l' (Err e) → EndsKnown (paths_left r) (no_paths 0 0) r.feed l l' (Err e)
preamble_ends r l l' e place heads h =
    let m = ends_paths mlocate (state_of r) r.place r.place r.heads r.feed l l' (Err e) h in
    subst (λ (n : ℕ). EndsKnown (paths_left r) (no_paths 0 n) r.feed l l' (Err e)) heads (subst (λ (n : ℕ). EndsKnown (paths_left r) (no_paths n r.heads) r.feed l l' (Err e)) place m)

-- ---- by the answer

fresh_is : (s : Stage) → is_fresh s ≡ true → s ≡ stages.Fresh
fresh_is stages.Fresh e = refl
fresh_is stages.Between e = absurd cc
fresh_is stages.Inside e = absurd cc
fresh_is stages.Done e = absurd cc

pub fresh_stage : (s : Stage) → IsTrue (is_fresh s) → s ≡ stages.Fresh
fresh_stage s e = fresh_is s e

pub preamble_whole_by : (r r' : ReaderState) (l l' : Option (List ℕ)) (result : Result (Unit {0}) DbFault) → IsTrue (is_fresh r.stage) → r.place ≡ 0 → HeaderGives result r l r' l' → OnOk result (PreambleKnown (preamble_of mlocate) r.feed l r'.place r'.flag)
preamble_whole_by r r' l l' (Ok u) fresh place h = preamble_whole r r' l l' u (fresh_is r.stage fresh) place h
preamble_whole_by r r' l l' (Err e) fresh place h = tt

pub moved_by : (r r' : ReaderState) (l l' : Option (List ℕ)) (result : Result (Unit {0}) DbFault) → IsTrue (is_fresh r.stage) → r'.heads ≡ r.heads → HeaderGives result r l r' l' → OnOk result (MovedKnown (paths_left r) (paths_left r') (λ t. t) r.feed l r'.feed l')
moved_by r r' l l' (Ok u) fresh heads h = preamble_moves r r' l l' u (fresh_is r.stage fresh) heads h
moved_by r r' l l' (Err e) fresh heads h = tt

pub preamble_lacks_by : (r r' : ReaderState) (l l' : Option (List ℕ)) (result : Result (Unit {0}) DbFault) → IsTrue (is_fresh r.stage) → HeaderGives result r l r' l' → IfErr result (λ e. NoPreambleKnown (preamble_of mlocate) r.feed l l' e)
preamble_lacks_by r r' l l' (Ok u) fresh h = tt
preamble_lacks_by r r' l l' (Err e) fresh h = preamble_lacks r l l' e (fresh_is r.stage fresh) h

pub ended_by : (r r' : ReaderState) (l l' : Option (List ℕ)) (result : Result (Unit {0}) DbFault) → r.place ≡ 0 → r.heads ≡ 0 → HeaderGives result r l r' l' → IfErr result (λ e. EndsKnown (paths_left r) (no_paths 0 0) r.feed l l' (Err e))
ended_by r r' l l' (Ok u) place heads h = tt
ended_by r r' l l' (Err e) place heads h = preamble_ends r l l' e place heads h

pub stays_by : (r r' : ReaderState) (result : Result (Unit {0}) DbFault) → r.place ≡ 0 → OnErr result (r'.place ≡ r.place) → OnErr result (r'.place ≡ 0)
stays_by r r' (Ok u) place h = tt
stays_by r r' (Err e) place h = h ∙ place
