-- What a tree that tells its directories has answered.
use Rattle.std.proofs.Common.{◌≡◌, ℕ, zero, suc, ◌+◌, ◌≤◌, Bool, true, false, not, cond, ◌&&◌, IsTrue, MatchBool, List, [], ◌∷◌, ◌++◌, map, length, take, drop, filter, slice_get, refl, sym, ◌∙◌, ap, subst, arith, Option, Some, None, Ok, Err, true≢false, append_assoc, length-append, if◌then◌else◌, is_some, IsPermutation, IsSomeAnd, All, IsErrOf, Result}
use Rattle.std.proofs.lemmas.List.{length-map}
use Rattle.std.proofs.lemmas.List.Elements.{All-cons, All-append}
use Rattle.std.specs.Option.{option_map, option_map_or}
use Rattle.std.specs.FinMap.{get, entries}
use Rattle.path_order.specs.declared.kind.Kind.{Kind}
use Rattle.path_order.specs.declared.kind.Kind.TheVariants.{File, Directory}
use Rattle.path_order.specs.NameList.{Listed}
use Rattle.path_order.specs.Path.{is_root, joined}
use Rattle.loc_outside.specs.Trees.{Dir, Dirs, StatsAs, ListsAs, GivesFirst}
use Rattle.loc_outside.specs.declared.traits.bytes.Failed.{Failed}
use Rattle.loc_outside.specs.declared.traits.tree.Times.{Times}
use Rattle.loc_outside.specs.declared.traits.tree.Listing.{Listing}
use Rattle.loc_outside.specs.declared.traits.tree.Listing.TheVariants.{Shown, Hidden, Missing}
use Rattle.tree_scan.specs.Admitted.{is_directory, fits_in, admitted, paths_in}
use Rattle.tree_scan.specs.Reach.{is_open, is_tried}
use Rattle.tree_scan.specs.Steps.{here, next}
use Rattle.tree_scan.specs.Walks.{is_whole_after}
use Rattle.tree_scan.specs.declared.rules.ScanFault.{ScanFault}

-- a directory that was found
pub record WasFound (dirs : Dirs) (path : List ℕ) (times : Times) : Type 0 where
  pub dir : Dir
  pub is : get dirs path ≡ Some dir
  pub times_are : times ≡ dir.times

pub not_none : {A : Type 0} (x : A) → Some x ≡ None → ⊥
not_none x e = true≢false (ap is_some e)

pub some_is : {A : Type 0} (x y : A) → Some x ≡ Some y → x ≡ y
some_is x y e = ap (λ (o : Option _). option_map_or (λ z. z) o x) e

found_by : (dirs : Dirs) (path : List ℕ) (times : Times) (found : Option Dir) → get dirs path ≡ found → Some times ≡ option_map (λ (dir : Dir). dir.times) found → WasFound dirs path times
found_by dirs path times None e h = absurd (not_none times h)
found_by dirs path times (Some dir) e h = record { dir = dir; is = e; times_are = some_is times dir.times h }

pub stat_found : (told : Option Dirs) (dirs : Dirs) (path : List ℕ) (answer : Option Times) (times : Times) → told ≡ Some dirs → answer ≡ Some times → StatsAs told path (Ok answer) → WasFound dirs path times
stat_found told dirs path answer times e a h =
    let h' : StatsAs (Some dirs) path (Ok answer) = subst (λ (o : Option Dirs). StatsAs o path (Ok answer)) e h in
    found_by dirs path times (get dirs path) refl (sym a ∙ h')

none_by : (found : Option Dir) → None ≡ option_map (λ (dir : Dir). dir.times) found → found ≡ None
none_by None h = refl
none_by (Some dir) h = absurd (not_none dir.times (sym h))

pub stat_none : (told : Option Dirs) (dirs : Dirs) (path : List ℕ) (answer : Option Times) → told ≡ Some dirs → answer ≡ None → StatsAs told path (Ok answer) → get dirs path ≡ None
stat_none told dirs path answer e a h =
    let h' : StatsAs (Some dirs) path (Ok answer) = subst (λ (o : Option Dirs). StatsAs o path (Ok answer)) e h in
    none_by (get dirs path) (sym a ∙ h')

abbrev pub one : List ℕ → Dir → List (List ℕ × Dir)
one path dir = (path, dir) ∷ []

-- one step, where the directory is there and not pruned
pub here_open : (dirs : Dirs) (pruned : List ℕ → Bool) (path : List ℕ) (dir : Dir) → get dirs path ≡ Some dir → pruned path ≡ false → here dirs (is_open pruned) path ≡ cond dir.hidden [] (one path dir)
here_open dirs pruned path dir e p =
    ap (λ (o : Option Dir). option_map_or (λ d. cond (not (pruned path) && not d.hidden) (one path d) []) o []) e
    ∙ ap (λ (b : Bool). cond (not b && not dir.hidden) (one path dir) []) p ∙ by dir.hidden
  where
    by : (b : Bool) → cond (not b) (one path dir) [] ≡ cond b [] (one path dir)
    by true = refl
    by false = refl

pub next_open : (dirs : Dirs) (pruned : List ℕ → Bool) (path : List ℕ) (dir : Dir) → get dirs path ≡ Some dir → pruned path ≡ false → next dirs pruned path ≡ cond dir.hidden [] (paths_in path (admitted path dir))
next_open dirs pruned path dir e p =
    ap (λ (o : Option Dir). option_map_or (λ d. cond (not (pruned path) && not d.hidden) (paths_in path (admitted path d)) []) o []) e
    ∙ ap (λ (b : Bool). cond (not b && not dir.hidden) (paths_in path (admitted path dir)) []) p ∙ by dir.hidden
  where
    by : (b : Bool) → cond (not b) (paths_in path (admitted path dir)) [] ≡ cond b [] (paths_in path (admitted path dir))
    by true = refl
    by false = refl

pub here_tried : (dirs : Dirs) (pruned : List ℕ → Bool) (path : List ℕ) (dir : Dir) → get dirs path ≡ Some dir → pruned path ≡ false → here dirs (is_tried pruned) path ≡ one path dir
here_tried dirs pruned path dir e p =
    ap (λ (o : Option Dir). option_map_or (λ d. cond (not (pruned path)) (one path d) []) o []) e
    ∙ ap (λ (b : Bool). cond (not b) (one path dir) []) p

-- nothing is done where the directory is not there, or pruned
pub record Nothing (dirs : Dirs) (pruned : List ℕ → Bool) (path : List ℕ) : Type 0 where
  pub shown : here dirs (is_open pruned) path ≡ []
  pub tried : here dirs (is_tried pruned) path ≡ []
  pub next : next dirs pruned path ≡ []

pub nothing_missing : (dirs : Dirs) (pruned : List ℕ → Bool) (path : List ℕ) → get dirs path ≡ None → Nothing dirs pruned path
nothing_missing dirs pruned path e = record {
  shown = ap (λ (o : Option Dir). option_map_or (λ d. cond (is_open pruned path d) (one path d) []) o []) e;
  tried = ap (λ (o : Option Dir). option_map_or (λ d. cond (is_tried pruned path d) (one path d) []) o []) e;
  next = ap (λ (o : Option Dir). option_map_or (λ d. cond (is_open pruned path d) (paths_in path (admitted path d)) []) o []) e;
}

pub nothing_pruned : (dirs : Dirs) (pruned : List ℕ → Bool) (path : List ℕ) → pruned path ≡ true → Nothing dirs pruned path
nothing_pruned dirs pruned path e = by (get dirs path) refl
  where
    by : (o : Option Dir) → get dirs path ≡ o → Nothing dirs pruned path
    by None f = nothing_missing dirs pruned path f
    by (Some dir) f = record {
      shown = ap (λ (o : Option Dir). option_map_or (λ d. cond (is_open pruned path d) (one path d) []) o []) f ∙ ap (λ (b : Bool). cond (not b && not dir.hidden) (one path dir) []) e;
      tried = ap (λ (o : Option Dir). option_map_or (λ d. cond (is_tried pruned path d) (one path d) []) o []) f ∙ ap (λ (b : Bool). cond (not b) (one path dir) []) e;
      next = ap (λ (o : Option Dir). option_map_or (λ d. cond (is_open pruned path d) (paths_in path (admitted path d)) []) o []) f ∙ ap (λ (b : Bool). cond (not b && not dir.hidden) (paths_in path (admitted path dir)) []) e;
    }

pub when_true : (b : Bool) (P Q : Type 0) → b ≡ true → MatchBool b P Q → P
when_true true P Q e m = m
when_true false P Q e m = absurd (true≢false (sym e))

pub when_false : (b : Bool) (P Q : Type 0) → b ≡ false → MatchBool b P Q → Q
when_false true P Q e m = absurd (true≢false e)
when_false false P Q e m = m

pub filter_short : {A : Type 0} (p : A → Bool) (xs : List A) → length (filter p xs) ≤ length xs
filter_short p [] = omega arith
filter_short p (x ∷ xs) = by (p x) (filter_short p xs)
  where
    by : (b : Bool) → length (filter p xs) ≤ length xs → length (cond b (x ∷ filter p xs) (filter p xs)) ≤ suc (length xs)
    by true h = omega (arith, h)
    by false h = omega (arith, h)

paths_short : (path : List ℕ) (names : Listed) → length (paths_in path names) ≤ length names
paths_short path names =
    let same : length (paths_in path names) ≡ length (filter (λ (e : List ℕ × Kind). is_directory e.1) names) = length-map (filter (λ (e : List ℕ × Kind). is_directory e.1) names) (λ (e : List ℕ × Kind). joined path e.0) in
    omega (arith, same, filter_short (λ (e : List ℕ × Kind). is_directory e.1) names)

pub pushed_short : (path : List ℕ) (names : Listed) (old new : List (List ℕ)) (n : ℕ) → new ≡ paths_in path names ++ old → length names ≤ n → length new ≤ length old + n
pushed_short path names old new n e h =
    let same : length new ≡ length (paths_in path names ++ old) = ap length e in
    omega (arith, same, length-append (paths_in path names) old, paths_short path names, h)

-- the entry at a place
drop_at : {A : Type 0} (xs : List A) (i : ℕ) (x : A) → slice_get xs i ≡ Some x → drop i xs ≡ x ∷ drop (suc i) xs
drop_at [] i x e = absurd (not_none x (sym e))
drop_at (y ∷ ys) zero x e = ap (λ (z : _). z ∷ ys) (some_is y x e)
drop_at (y ∷ ys) (suc i) x e = drop_at ys i x e

paths_directory : (path : List ℕ) (names : Listed) (i : ℕ) (n : List ℕ) → slice_get names i ≡ Some (n, Directory) → paths_in path (drop i names) ≡ joined path n ∷ paths_in path (drop (suc i) names)
paths_directory path names i n e = ap (paths_in path) (drop_at {A = List ℕ × Kind} names i (n, Directory) e)

paths_file : (path : List ℕ) (names : Listed) (i : ℕ) (n : List ℕ) (k : Kind) → slice_get names i ≡ Some (n, k) → is_directory k ≡ false → paths_in path (drop i names) ≡ paths_in path (drop (suc i) names)
paths_file path names i n k e d =
    ap (paths_in path) (drop_at {A = List ℕ × Kind} names i (n, k) e)
    ∙ ap (λ (b : Bool). map (λ (f : List ℕ × Kind). joined path f.0) (cond b ((n, k) ∷ filter (λ (f : List ℕ × Kind). is_directory f.1) (drop (suc i) names)) (filter (λ (f : List ℕ × Kind). is_directory f.1) (drop (suc i) names)))) d

take_front : (a b : List ℕ) → take (length a) (a ++ b) ≡ a
take_front [] b = refl
take_front (x ∷ a) b = ap (λ (l : List ℕ). x ∷ l) (take_front a b)

cut_joined : (path n : List ℕ) (len : ℕ) → len ≡ length path → take len (joined path n) ≡ path
cut_joined path n len e = ap (λ (k : ℕ). take k (joined path n)) e ∙ by (is_root path)
  where
    by : (b : Bool) → take (length path) (if b then path ++ n else path ++ 47 ∷ n) ≡ path
    by true = take_front path n
    by false = take_front path (47 ∷ n)

pub seen_true : (b : Bool) (path : List ℕ) (names : Listed) (dir : Dir) → b ≡ true → MatchBool b ((dir.hidden ≡ false) × (names ≡ admitted path dir)) (IsTrue dir.hidden) → (dir.hidden ≡ false) × (names ≡ admitted path dir)
seen_true true path names dir e m = m
seen_true false path names dir e m = absurd (true≢false (sym e))

pub seen_false : (b : Bool) (path : List ℕ) (names : Listed) (dir : Dir) → b ≡ false → MatchBool b ((dir.hidden ≡ false) × (names ≡ admitted path dir)) (IsTrue dir.hidden) → dir.hidden ≡ true
seen_false true path names dir e m = absurd (true≢false e)
seen_false false path names dir e m = m

-- the name and the kind at a place, taken by two calls
kind_is : (o : Option (List ℕ × Kind)) (k : Kind) → IsSomeAnd o (λ e. k ≡ e.1) → (e : List ℕ × Kind) × (o ≡ Some e) × (k ≡ e.1)
kind_is None k h = absurd h
kind_is (Some e) k h = (e, refl, h)

-- the step of a loop that makes directories pending from the last to the first
pub push_directory : (path n : List ℕ) (names : Listed) (at i : ℕ) (k : Kind) (old start new : List (List ℕ)) (text joined_path : List ℕ)
    → suc i ≡ at → slice_get names i ≡ Some (n, k) → k ≡ Directory → old ≡ paths_in path (drop at names) ++ start
    → text ≡ joined_path → joined_path ≡ joined path n → new ≡ text ∷ old → new ≡ paths_in path (drop i names) ++ start
push_directory path n names at i k old start new text joined_path next here is was same join_is pushed =
    let entry : slice_get names i ≡ Some (n, Directory) = here ∙ ap (λ (d : Kind). let e : List ℕ × Kind = (n, d) in Some e) is in
    pushed
    ∙ (λ x. (same ∙ join_is) x ∷ was x)
    ∙ ap (λ (a : ℕ). joined path n ∷ (paths_in path (drop a names) ++ start)) (sym next)
    ∙ ap (λ (l : List (List ℕ)). l ++ start) (sym (paths_directory path names i n entry))

pub push_file : (path : List ℕ) (names : Listed) (at i : ℕ) (k : Kind) (old start : List (List ℕ)) → suc i ≡ at → IsSomeAnd (slice_get names i) (λ e. k ≡ e.1) → k ≡ File
    → old ≡ paths_in path (drop at names) ++ start → old ≡ paths_in path (drop i names) ++ start
push_file path names at i k old start next here is was =
    let e = kind_is (slice_get names i) k here in
    was ∙ ap (λ (a : ℕ). paths_in path (drop a names) ++ start) (sym next) ∙ ap (λ (l : List (List ℕ)). l ++ start) (sym (paths_file path names i e.0.0 e.0.1 e.1 (ap is_directory (sym e.2 ∙ is))))

pub cut_path : (path n joined_path start : List ℕ) (len : ℕ) → len ≡ length start → path ≡ start → joined_path ≡ joined path n → take len joined_path ≡ start
cut_path path n joined_path start len e same j = ap (take len) (j ∙ ap (λ (p : List ℕ). joined p n) same) ∙ cut_joined start n len e

-- a listing, name by name
pub record Gave (told rest : Option Listed) (name : List ℕ) (kind : Kind) (before : Listed) : Type 0 where
  pub after : Listed
  pub left : rest ≡ Some after
  pub is : before ≡ (name, kind) ∷ after

pub gives_some : (told rest : Option Listed) (answer : Option Kind) (kind : Kind) (name : List ℕ) (before : Listed) → told ≡ Some before → answer ≡ Some kind → GivesFirst {E = Failed} told rest (Ok answer) name → Gave told rest name kind before
gives_some told rest answer kind name before e a h =
    by rest refl (subst (λ (o : Option Listed). GivesFirst {E = Failed} o rest (Ok (Some kind)) name) e (subst (λ (r : Option Kind). GivesFirst {E = Failed} told rest (Ok r) name) a h))
  where
    by : (r : Option Listed) → rest ≡ r → GivesFirst {E = Failed} (Some before) rest (Ok (Some kind)) name → Gave told rest name kind before
    by None q g = absurd (subst (λ (o : Option Listed). GivesFirst {E = Failed} (Some before) o (Ok (Some kind)) name) q g)
    by (Some after) q g = record { after = after; left = q; is = subst (λ (o : Option Listed). GivesFirst {E = Failed} (Some before) o (Ok (Some kind)) name) q g }

pub filter_append : {A : Type 0} (p : A → Bool) (xs ys : List A) → filter p (xs ++ ys) ≡ filter p xs ++ filter p ys
filter_append p [] ys = refl
filter_append p (x ∷ xs) ys = by (p x) (filter_append p xs ys)
  where
    by : (b : Bool) → filter p (xs ++ ys) ≡ filter p xs ++ filter p ys → cond b (x ∷ filter p (xs ++ ys)) (filter p (xs ++ ys)) ≡ cond b (x ∷ filter p xs) (filter p xs) ++ filter p ys
    by true h = ap (λ (l : List _). x ∷ l) h
    by false h = h

-- what a listing that was opened has to give
pub record IsShown (dir : Dir) (rest : Option Listed) : Type 0 where
  pub shown : dir.hidden ≡ false
  pub listed : Listed
  pub told : rest ≡ Some listed
  pub perm : IsPermutation listed (entries dir.names)

pub shown_listing : (told : Option Dirs) (dirs : Dirs) (path : List ℕ) (dir : Dir) (answer : Listing) (rest : Option Listed) → told ≡ Some dirs → get dirs path ≡ Some dir → answer ≡ Shown → ListsAs told path (Ok answer) rest → IsShown dir rest
shown_listing told dirs path dir answer rest e found a h =
    let h1 : ListsAs (Some dirs) path (Ok answer) rest = subst (λ (o : Option Dirs). ListsAs o path (Ok answer) rest) e h in
    let h2 : IsSomeAnd (get dirs path) (λ d. (d.hidden ≡ false) × IsSomeAnd rest (λ names. IsPermutation names (entries d.names))) = subst (λ (l : Listing). ListsAs (Some dirs) path (Ok l) rest) a h1 in
    let h3 : IsSomeAnd (Some dir) (λ d. (d.hidden ≡ false) × IsSomeAnd rest (λ names. IsPermutation names (entries d.names))) = subst (λ (o : Option Dir). IsSomeAnd o (λ d. (d.hidden ≡ false) × IsSomeAnd rest (λ names. IsPermutation names (entries d.names)))) found h2 in
    by rest refl h3.0 h3.1
  where
    by : (r : Option Listed) → rest ≡ r → dir.hidden ≡ false → IsSomeAnd rest (λ names. IsPermutation names (entries dir.names)) → IsShown dir rest
    by None q s p = absurd (subst (λ (o : Option Listed). IsSomeAnd o (λ names. IsPermutation names (entries dir.names))) q p)
    by (Some listed) q s p = record { shown = s; listed = listed; told = q; perm = subst (λ (o : Option Listed). IsSomeAnd o (λ names. IsPermutation names (entries dir.names))) q p }

-- a directory that is there and was not shown is hidden
pub hidden_listing : (told : Option Dirs) (dirs : Dirs) (path : List ℕ) (dir : Dir) (answer : Listing) (rest : Option Listed) → told ≡ Some dirs → get dirs path ≡ Some dir → (answer ≡ Shown → ⊥) → ListsAs told path (Ok answer) rest → dir.hidden ≡ true
hidden_listing told dirs path dir answer rest e found a h =
    by answer a (subst (λ (o : Option Dirs). ListsAs o path (Ok answer) rest) e h)
  where
    by : (l : Listing) → (l ≡ Shown → ⊥) → ListsAs (Some dirs) path (Ok l) rest → dir.hidden ≡ true
    by Shown n k = absurd (n refl)
    by Hidden n k = subst (λ (o : Option Dir). IsSomeAnd o (λ d. d.hidden ≡ true)) found k
    by Missing n k = absurd (not_none dir (sym found ∙ k))

-- one more name of a listing
pub name_more : (path : List ℕ) (listed front before after : Listed) (rest : Option Listed) (name bytes : List ℕ) (kind : Kind) (given : ℕ) (old new : Listed)
    → listed ≡ front ++ before → length front ≡ given → old ≡ filter (λ e. fits_in path e.0) front → rest ≡ Some after → before ≡ (name, kind) ∷ after → bytes ≡ name → new ≡ old ++ filter (λ e. fits_in path e.0) ((bytes, kind) ∷ [])
    → (x x' : Listed) × (rest ≡ Some x') × (listed ≡ x ++ x') × (length x ≡ given + 1) × (new ≡ filter (λ e. fits_in path e.0) x)
name_more path listed front before after rest name bytes kind given old new whole size are left is same pushed = (
  front ++ (name, kind) ∷ [],
  after,
  left,
  whole ∙ ap (λ (l : Listed). front ++ l) is ∙ sym (append_assoc front ((name, kind) ∷ []) after),
  length-append front ((name, kind) ∷ []) ∙ ap (λ (n : ℕ). n + 1) size,
  pushed ∙ (λ i. are i ++ filter (λ (e : List ℕ × Kind). fits_in path e.0) ((same i, kind) ∷ [])) ∙ sym (filter_append (λ (e : List ℕ × Kind). fits_in path e.0) front ((name, kind) ∷ [])),
)

pub few_more : (path : List ℕ) (old new : Listed) (bytes : List ℕ) (kind : Kind) (given : ℕ) → length old ≤ given → new ≡ old ++ filter (λ e. fits_in path e.0) ((bytes, kind) ∷ []) → length new ≤ given + 1
few_more path old new bytes kind given h e =
    let same : length new ≡ length (old ++ filter (λ (f : List ℕ × Kind). fits_in path f.0) ((bytes, kind) ∷ [])) = ap length e in
    omega (arith, h, same, length-append old (filter (λ (f : List ℕ × Kind). fits_in path f.0) ((bytes, kind) ∷ [])), filter_short (λ (f : List ℕ × Kind). fits_in path f.0) ((bytes, kind) ∷ []))

one_fits : (path bytes : List ℕ) (kind : Kind) → All (λ (e : List ℕ × Kind). IsTrue (fits_in path e.0)) (filter (λ e. fits_in path e.0) ((bytes, kind) ∷ []))
one_fits path bytes kind = by (fits_in path bytes) refl
  where
    by : (b : Bool) → fits_in path bytes ≡ b → All (λ (e : List ℕ × Kind). IsTrue (fits_in path e.0)) (cond b ((bytes, kind) ∷ []) [])
    by true e = All-cons (λ (f : List ℕ × Kind). IsTrue (fits_in path f.0)) (bytes, kind) [] e (λ k d h. absurd (omega (arith, h)))
    by false e = λ k d h. absurd (omega (arith, h))

pub fit_more : (path : List ℕ) (old new : Listed) (bytes : List ℕ) (kind : Kind) → All (λ (e : List ℕ × Kind). IsTrue (fits_in path e.0)) old → new ≡ old ++ filter (λ e. fits_in path e.0) ((bytes, kind) ∷ []) → All (λ (e : List ℕ × Kind). IsTrue (fits_in path e.0)) new
fit_more path old new bytes kind h e =
    subst (λ (l : Listed). All (λ (f : List ℕ × Kind). IsTrue (fits_in path f.0)) l) (sym e) (All-append (λ (f : List ℕ × Kind). IsTrue (fits_in path f.0)) old _ h (one_fits path bytes kind))

fault_or : ScanFault → Result (Unit {0}) ScanFault → ScanFault
fault_or e (Ok t) = e
fault_or e (Err x) = x

pub whole_by : (e x : ScanFault) → IsErrOf {T = Unit {0}} (Err e) x → IsTrue (is_whole_after x) → IsTrue (is_whole_after e)
unfolding fault_or
whole_by e x h t = ap (λ (r : Result (Unit {0}) ScanFault). is_whole_after (fault_or e r)) h ∙ t

pub fault_is : (e x : ScanFault) → IsErrOf {T = Unit {0}} (Err e) x → e ≡ x
unfolding fault_or
fault_is e x h = ap (λ (r : Result (Unit {0}) ScanFault). fault_or e r) h
