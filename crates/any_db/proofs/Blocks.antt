-- The directory heads before the paths of a file, and the directories that those paths are in.
use Rattle.std.proofs.Common.{◌≡◌, ℕ, ◌+◌, ◌<◌, ◌≤◌, Bool, true, false, not, cond, All, List, [], ◌∷◌, ◌++◌, length, take, Option, Some, None, Result, Ok, Err, refl, sym, subst, ◌∙◌, arith}
use Rattle.std.specs.Prelude.{unwrap_or}
use Rattle.std.proofs.lemmas.List.{take_at}
use Rattle.std.proofs.lemmas.List.Elements.{All-nil, All-cons, All-head, All-tail, All-append}
use Rattle.path_order.specs.Path.{is_root, joined}
use Rattle.byte_feed.specs.declared.damage.Stop.{Stop}
use Rattle.byte_feed.specs.Front.{Format, Window, on_ok}
use Rattle.byte_feed.specs.Paths.{PathAt, rest_of, path_here, paths_of}
use Rattle.mlocate_db.specs.Items.{Item, HeaderItem, HeadItem, EntryItem, EndItem, State, AtStart, Between, Inside, after, mlocate}
use Rattle.locate02_db.specs.Items.{locate02}
use Rattle.bigram_db.specs.Items.{bigram}
use Rattle.any_db.specs.declared.format.DatabaseFormat.{DatabaseFormat}
use Rattle.any_db.specs.declared.format.DatabaseFormat.TheVariants as formats
use Rattle.any_db.specs.Formats.{format_of, read_as, to_come_by, to_come_in, preamble_by, preamble_in, asks_gate, directory_of, HasHeads}

-- ---- each of some paths, and each two of them

each_so : (P Q : PathAt → Type 0) (ps : List PathAt) → ((p : PathAt) → P p → Q p) → All P ps → All Q ps
each_so P Q ps so h k d lt = so _ (h k d lt)

-- Each path is so related to each later one.
abbrev EachTwo : (PathAt → PathAt → Type 0) → List PathAt → Type 0
EachTwo R [] = Unit {0}
EachTwo R (p ∷ ps) = All (R p) ps × EachTwo R ps

one_of : (P : PathAt → Type 0) (before behind : List PathAt) (p : PathAt) → All P (before ++ p ∷ behind) → P p
one_of P [] behind p h = All-head P p behind h
one_of P (q ∷ before) behind p h = one_of P before behind p (All-tail P q (before ++ p ∷ behind) h)

two_in : (R : PathAt → PathAt → Type 0) (before between behind : List PathAt) (p q : PathAt) → EachTwo R (before ++ p ∷ (between ++ q ∷ behind)) → R p q
two_in R [] between behind p q h = one_of (R p) between behind q h.0
two_in R (o ∷ before) between behind p q h = two_in R before between behind p q h.1

two_of : (R : PathAt → PathAt → Type 0) (ps before between behind : List PathAt) (p q : PathAt) → ps ≡ before ++ p ∷ (between ++ q ∷ behind) → EachTwo R ps → R p q
two_of R ps before between behind p q e h = two_in R before between behind p q (subst (EachTwo R) e h)

-- ---- a database of mlocate

-- what is known of a path behind items that leave this state and have so many heads
abbrev Behind : State → ℕ → PathAt → Type 0
Behind AtStart heads p = heads < p.heads
Behind (Between version) heads p = heads < p.heads
Behind (Inside version path) heads p = (heads ≤ p.heads) × (p.heads ≡ heads → directory_of p ≡ path)

dir_by : (dir name : List ℕ) (b : Bool) → take (length dir) (cond b (dir ++ name) (dir ++ 47 ∷ name)) ≡ dir
dir_by dir name true = take_at dir name (length dir) refl
dir_by dir name false = take_at dir (47 ∷ name) (length dir) refl

-- a path that is joined to its directory's begins with that
joined_dir : (dir name : List ℕ) → take (length dir) (joined dir name) ≡ dir
joined_dir dir name = dir_by dir name (is_root dir)

-- an item that gives no path
passed : (s : State) (i : Item) (heads : ℕ) (p : PathAt) → Behind (after s i) (heads + mlocate.head_of i) p → Behind s heads p
passed AtStart (HeaderItem h) heads p b = omega (arith, b)
passed AtStart (HeadItem h) heads p b = omega (arith, b.0)
passed AtStart (EntryItem kind name) heads p b = omega (arith, b)
passed AtStart EndItem heads p b = omega (arith, b)
passed (Between version) (HeaderItem h) heads p b = omega (arith, b)
passed (Between version) (HeadItem h) heads p b = omega (arith, b.0)
passed (Between version) (EntryItem kind name) heads p b = omega (arith, b)
passed (Between version) EndItem heads p b = omega (arith, b)
passed (Inside version path) (HeaderItem h) heads p b = (omega (arith, b), λ e. absurd (omega (arith, e, b)))
passed (Inside version path) (HeadItem h) heads p b = (omega (arith, b.0), λ e. absurd (omega (arith, e, b.0)))
passed (Inside version path) (EntryItem kind name) heads p b = (omega (arith, b.0), λ e. b.1 (omega (arith, e)))
passed (Inside version path) EndItem heads p b = (omega (arith, b), λ e. absurd (omega (arith, e, b)))

-- ---- one item after the other

abbrev InOneBlock : PathAt → PathAt → Type 0
InOneBlock p q = (p.heads ≤ q.heads) × (p.heads ≡ q.heads → directory_of p ≡ directory_of q)

abbrev here : State → ℕ → ℕ → Item → List PathAt
here s place heads i = path_here place heads (mlocate.path_of s i)

here_behind : (s : State) (place heads : ℕ) (i : Item) → All (Behind s heads) (here s place heads i)
here_behind AtStart place heads (HeaderItem h) = All-nil (Behind AtStart heads)
here_behind AtStart place heads (HeadItem h) = All-nil (Behind AtStart heads)
here_behind AtStart place heads (EntryItem kind name) = All-nil (Behind AtStart heads)
here_behind AtStart place heads EndItem = All-nil (Behind AtStart heads)
here_behind (Between version) place heads (HeaderItem h) = All-nil (Behind (Between version) heads)
here_behind (Between version) place heads (HeadItem h) = All-nil (Behind (Between version) heads)
here_behind (Between version) place heads (EntryItem kind name) = All-nil (Behind (Between version) heads)
here_behind (Between version) place heads EndItem = All-nil (Behind (Between version) heads)
here_behind (Inside version path) place heads (HeaderItem h) = All-nil (Behind (Inside version path) heads)
here_behind (Inside version path) place heads (HeadItem h) = All-nil (Behind (Inside version path) heads)
here_behind (Inside version path) place heads (EntryItem kind name) = All-cons (Behind (Inside version path) heads) _ [] (omega arith, λ e. joined_dir path name) (All-nil (Behind (Inside version path) heads))
here_behind (Inside version path) place heads EndItem = All-nil (Behind (Inside version path) heads)

paths_behind : (items : List Item) (s : State) (place heads : ℕ) → All (Behind s heads) (paths_of mlocate s place heads items)
paths_behind [] s place heads = All-nil (Behind s heads)
paths_behind (i ∷ is) s place heads =
    let next : ℕ = place + length (mlocate.spell i) in
    let count : ℕ = heads + mlocate.head_of i in
    All-append (Behind s heads) (here s next heads i) (paths_of mlocate (after s i) next count is) (here_behind s next heads i)
    (each_so (Behind (after s i) count) (Behind s heads) (paths_of mlocate (after s i) next count is) (passed s i heads) (paths_behind is (after s i) next count))

in_block : (version : ℕ) (path name : List ℕ) (heads place : ℕ) (q : PathAt) → Behind (Inside version path) (heads + 0) q → InOneBlock (record { text = joined path name; dir_len = length path; heads = heads; place = place }) q
in_block version path name heads place q b = (omega (arith, b.0), λ e. joined_dir path name ∙ sym (b.1 (omega (arith, e))))

-- two paths of a database of mlocate
paths_in_blocks : (items : List Item) (s : State) (place heads : ℕ) → EachTwo InOneBlock (paths_of mlocate s place heads items)
paths_in_blocks [] s place heads = tt
paths_in_blocks (HeaderItem h ∷ is) AtStart place heads = paths_in_blocks is _ _ _
paths_in_blocks (HeadItem h ∷ is) AtStart place heads = paths_in_blocks is _ _ _
paths_in_blocks (EntryItem kind name ∷ is) AtStart place heads = paths_in_blocks is _ _ _
paths_in_blocks (EndItem ∷ is) AtStart place heads = paths_in_blocks is _ _ _
paths_in_blocks (HeaderItem h ∷ is) (Between version) place heads = paths_in_blocks is _ _ _
paths_in_blocks (HeadItem h ∷ is) (Between version) place heads = paths_in_blocks is _ _ _
paths_in_blocks (EntryItem kind name ∷ is) (Between version) place heads = paths_in_blocks is _ _ _
paths_in_blocks (EndItem ∷ is) (Between version) place heads = paths_in_blocks is _ _ _
paths_in_blocks (HeaderItem h ∷ is) (Inside version path) place heads = paths_in_blocks is _ _ _
paths_in_blocks (HeadItem h ∷ is) (Inside version path) place heads = paths_in_blocks is _ _ _
paths_in_blocks (EntryItem kind name ∷ is) (Inside version path) place heads =
    let next : ℕ = place + length (mlocate.spell (EntryItem kind name)) in
    let later : List PathAt = paths_of mlocate (Inside version path) next (heads + 0) is in (
      each_so (Behind (Inside version path) (heads + 0)) (InOneBlock (record { text = joined path name; dir_len = length path; heads = heads; place = next })) later
          (in_block version path name heads next) (paths_behind is (Inside version path) next (heads + 0)),
      paths_in_blocks is (Inside version path) next (heads + 0),
    )
paths_in_blocks (EndItem ∷ is) (Inside version path) place heads = paths_in_blocks is _ _ _

-- ---- the formats without directories

heads_here : (P : ℕ → Type 0) (place heads : ℕ) (o : Option (List ℕ × ℕ)) → P heads → All (λ (p : PathAt). P p.heads) (path_here place heads o)
heads_here P place heads None h = All-nil (λ (p : PathAt). P p.heads)
heads_here P place heads (Some x) h = All-cons (λ (p : PathAt). P p.heads) _ [] h (All-nil (λ (p : PathAt). P p.heads))

no_heads : (f : Format) → ((i : f.Item) → f.head_of i ≡ 0) → (items : List f.Item) (s : f.State) (place heads : ℕ) → heads ≡ 0 → All (λ (p : PathAt). p.heads ≡ 0) (paths_of f s place heads items)
no_heads f none [] s place heads e = All-nil (λ (p : PathAt). p.heads ≡ 0)
no_heads f none (i ∷ is) s place heads e =
    let next : ℕ = place + length (f.spell i) in
    All-append (λ (p : PathAt). p.heads ≡ 0) (path_here next heads (f.path_of s i)) (paths_of f (f.after s i) next (heads + f.head_of i) is)
    (heads_here (λ (n : ℕ). n ≡ 0) next heads (f.path_of s i) e) (no_heads f none is (f.after s i) next (heads + f.head_of i) (omega (arith, e, none i)))

level : (ps before between behind : List PathAt) (p q : PathAt) → ps ≡ before ++ p ∷ (between ++ q ∷ behind) → All (λ (r : PathAt). r.heads ≡ 0) ps → p.heads ≤ q.heads
level ps before between behind p q e h =
    omega (arith, one_of (λ (r : PathAt). r.heads ≡ 0) before (between ++ q ∷ behind) p (subst (All (λ (r : PathAt). r.heads ≡ 0)) e h))

no_gate : {A : Type 0} (len : A → ℕ) (r : Result A Stop) → asks_gate (on_ok None (λ (x : A). Some (len x, false)) r) ≡ true → ⊥
no_gate len (Ok x) e = absurd cc
no_gate len (Err s) e = absurd cc

-- ---- the paths of a file

directory_by : (d : DatabaseFormat) (w : Window) → asks_gate (preamble_by d w) ≡ true → (p q : PathAt) (before between behind : List PathAt)
    → (to_come_by d w).paths ≡ before ++ p ∷ (between ++ q ∷ behind) → p.heads ≡ q.heads → directory_of p ≡ directory_of q
directory_by formats.Mlocate w gate p q before between behind e =
    (two_of InOneBlock _ before between behind p q e (paths_in_blocks (rest_of mlocate AtStart 0 w).items AtStart 0 0)).1
directory_by formats.Locate02 w gate p q before between behind e = absurd (no_gate _ (locate02.item_at (not w.more) locate02.begin w.bytes) gate)
directory_by formats.Bigram w gate p q before between behind e = absurd (no_gate _ (bigram.item_at (not w.more) bigram.begin w.bytes) gate)

pub one_directory_a_block : (w : Window) → asks_gate (preamble_in w) ≡ true → (p q : PathAt) (before between behind : List PathAt)
    → (to_come_in w).paths ≡ before ++ p ∷ (between ++ q ∷ behind) → p.heads ≡ q.heads → directory_of p ≡ directory_of q
unfolding to_come_in preamble_in
one_directory_a_block w gate p q before between behind e = directory_by (read_as w.bytes) w gate p q before between behind e

rise_by : (d : DatabaseFormat) (w : Window) (p q : PathAt) (before between behind : List PathAt) → (to_come_by d w).paths ≡ before ++ p ∷ (between ++ q ∷ behind) → p.heads ≤ q.heads
rise_by formats.Mlocate w p q before between behind e =
    (two_of InOneBlock _ before between behind p q e (paths_in_blocks (rest_of mlocate AtStart 0 w).items AtStart 0 0)).0
rise_by formats.Locate02 w p q before between behind e = level _ before between behind p q e (no_heads locate02 (λ i. refl) (rest_of locate02 locate02.begin 0 w).items locate02.begin 0 0 refl)
rise_by formats.Bigram w p q before between behind e = level _ before between behind p q e (no_heads bigram (λ i. refl) (rest_of bigram bigram.begin 0 w).items bigram.begin 0 0 refl)

pub heads_rise : (w : Window) (p q : PathAt) (before between behind : List PathAt) → (to_come_in w).paths ≡ before ++ p ∷ (between ++ q ∷ behind) → p.heads ≤ q.heads
unfolding to_come_in
heads_rise w p q before between behind e = rise_by (read_as w.bytes) w p q before between behind e

heads_by : (d : DatabaseFormat) (w : Window) → All (λ (p : PathAt). HasHeads d p.heads) (to_come_by d w).paths
heads_by formats.Mlocate w = paths_behind (rest_of mlocate AtStart 0 w).items AtStart 0 0
heads_by formats.Locate02 w = no_heads locate02 (λ i. refl) (rest_of locate02 locate02.begin 0 w).items locate02.begin 0 0 refl
heads_by formats.Bigram w = no_heads bigram (λ i. refl) (rest_of bigram bigram.begin 0 w).items bigram.begin 0 0 refl

pub has_heads : (w : Window) (d : DatabaseFormat) → format_of w.bytes ≡ Some d → All (λ (p : PathAt). HasHeads d p.heads) (to_come_in w).paths
unfolding to_come_in
has_heads w d e = subst (λ (o : Option DatabaseFormat). All (λ (p : PathAt). HasHeads d p.heads) (to_come_by (unwrap_or o formats.Bigram) w).paths) (sym e) (heads_by d w)
