-- The loop of the walk: what is done, and what is still to come.
use Rattle.std.proofs.Common.{◌≡◌, ℕ, ◌≤◌, ◌<◌, ◌+◌, ◌^◌, Bool, true, false, not, cond, ◌&&◌, IsTrue, List, [], ◌∷◌, ◌++◌, length, filter, flat_map, refl, sym, ◌∙◌, ap, subst, arith, append_assoc, append-nil, length-append, suc, Contains, Some, Option, inl, inr, take, None, IsSomeAnd, slice_get}
use Rattle.std.proofs.lemmas.List.Concat.{flat_map-append}
use Rattle.std.proofs.lemmas.List.Elements.{All-append}
use Rattle.std.specs.Option.{option_map_or}
use Rattle.std.specs.FinMap.{get, entries}
use Rattle.std.specs.Io.KnownBytes.{Appends}
use Rattle.std.proofs.KnownBytes.{Appends-nil, Appends-trans}
use Rattle.path_order.specs.Stamp.{Moment}
use Rattle.loc_outside.specs.Causes.{raised}
use Rattle.loc_outside.specs.Outside.{AppendsPart}
use Rattle.loc_outside.proofs.PartTaken.{part_first, part_second, part_none}
use Rattle.loc_outside.specs.Trees.{Dir, Dirs}
use Rattle.tree_scan.specs.Admitted.{admitted, paths_in}
use Rattle.tree_scan.specs.Blocks.{block, entries_of, header, lines, pieces, time_of, scan_pieces}
use Rattle.tree_scan.specs.Plan.{Plan}
use Rattle.tree_scan.specs.Reach.{is_open, is_tried, tried, reached}
use Rattle.tree_scan.specs.Records.{Record, Honest, Relied, bears, is_vouched, unvouched}
use Rattle.tree_scan.specs.Steps.{here, next, child_paths, weight, subtree}
use Rattle.tree_scan.specs.declared.rules.Limits.{Limits}
use Rattle.tree_scan.specs.Scans.{WrotePart}
use Rattle.tree_scan.specs.Stops.{LinesFollow, NamesMore, Narrow, StopsAtWide, Whole, WroteBlocks, shown_of, taken}
use Rattle.tree_scan.specs.Walks.{AddsChildren, Breaks, Passes, Standing, opens}
use Rattle.tree_scan.proofs.Asking.{Fewer, Keeps, under_itself, same_vouched}
use Rattle.tree_scan.proofs.Follows.{Pieces, follows_none, follows_part, follows_after, follows_more, written_blocks, echoed_blocks}
use Rattle.tree_scan.proofs.Lists.{Each, Has, Rises, each_more, each_append, has_left, has_right}
pub use Rattle.tree_scan.proofs.Past.{Found}
use Rattle.tree_scan.proofs.Past.{Past, past_more}
use Rattle.tree_scan.proofs.Same.{walk_is_led}
use Rattle.tree_scan.proofs.TreeAnswers.{here_tried, filter_append, filter_short, one}
use Rattle.tree_scan.proofs.Sorted.{Apart, Under}
use Rattle.tree_scan.proofs.WalkRecursion.{subtree_is}

-- the reached and the tried directories, split into those done and those that the pending paths will give
pub record Split (dirs : Dirs) (pruned : List ℕ → Bool) (root : List ℕ) (pending : List (List ℕ)) (Written : Found → Found → Type 0) : Type 0 where
  pub done : Found
  pub went : Found
  pub written : Written done went
  pub whole : done ++ flat_map (subtree dirs pruned (is_open pruned)) pending ≡ reached dirs pruned root
  pub all : went ++ flat_map (subtree dirs pruned (is_tried pruned)) pending ≡ tried dirs pruned root

regroup : {A : Type 0} (done at below rest : List A) → done ++ ((at ++ below) ++ rest) ≡ (done ++ at) ++ (below ++ rest)
regroup done at below rest = ap (λ (l : List _). done ++ l) (append_assoc at below rest) ∙ sym (append_assoc done at (below ++ rest))

-- one step keeps what is done and what is to come
moved : (dirs : Dirs) (pruned : List ℕ → Bool) (last : List ℕ → Dir → Bool) (all done : Found) (path : List ℕ) (rest old new : List (List ℕ)) → length path ≤ 4096
    → old ≡ path ∷ rest → new ≡ next dirs pruned path ++ rest → done ++ flat_map (subtree dirs pruned last) old ≡ all → (done ++ here dirs last path) ++ flat_map (subtree dirs pruned last) new ≡ all
moved dirs pruned last all done path rest old new fits is_old is_new whole =
    let F = subtree dirs pruned last in
    ap (λ (l : List (List ℕ)). (done ++ here dirs last path) ++ flat_map F l) is_new
    ∙ ap (λ (l : Found). (done ++ here dirs last path) ++ l) (flat_map-append F (next dirs pruned path) rest)
    ∙ sym (regroup done (here dirs last path) (flat_map F (next dirs pruned path)) (flat_map F rest))
    ∙ ap (λ (l : Found). done ++ (l ++ flat_map F rest)) (sym (subtree_is dirs pruned last path fits))
    ∙ ap (λ (l : List (List ℕ)). done ++ flat_map F l) (sym is_old) ∙ whole

pub split_step : (dirs : Dirs) (pruned : List ℕ → Bool) (root path : List ℕ) (rest old new : List (List ℕ)) (Written Written' : Found → Found → Type 0)
    → length path ≤ 4096 → old ≡ path ∷ rest → new ≡ next dirs pruned path ++ rest
    → ((done went : Found) → Written done went → Written' (done ++ here dirs (is_open pruned) path) (went ++ here dirs (is_tried pruned) path))
    → Split dirs pruned root old Written → Split dirs pruned root new Written'
split_step dirs pruned root path rest old new Written Written' fits is_old is_new writes s = record {
  done = s.done ++ here dirs (is_open pruned) path;
  went = s.went ++ here dirs (is_tried pruned) path;
  written = writes s.done s.went s.written;
  whole = moved dirs pruned (is_open pruned) (reached dirs pruned root) s.done path rest old new fits is_old is_new s.whole;
  all = moved dirs pruned (is_tried pruned) (tried dirs pruned root) s.went path rest old new fits is_old is_new s.all;
}

-- before the first step
pub split_begin : (dirs : Dirs) (pruned : List ℕ → Bool) (root : List ℕ) (Written : Found → Found → Type 0) → length root ≤ 4096 → Written [] [] → Split dirs pruned root (root ∷ []) Written
split_begin dirs pruned root Written fits w = record {
  done = [];
  went = [];
  written = w;
  whole = append-nil (subtree dirs pruned (is_open pruned) root) ∙ walk_is_led dirs pruned (is_open pruned) root fits;
  all = append-nil (subtree dirs pruned (is_tried pruned) root) ∙ walk_is_led dirs pruned (is_tried pruned) root fits;
}

-- after the last
pub split_end : (dirs : Dirs) (pruned : List ℕ → Bool) (root : List ℕ) (pending : List (List ℕ)) (Written : Found → Found → Type 0) → pending ≡ [] → Split dirs pruned root pending Written
    → Written (reached dirs pruned root) (tried dirs pruned root)
split_end dirs pruned root pending Written none s =
    let whole : s.done ≡ reached dirs pruned root = sym (append-nil s.done) ∙ ap (λ (l : List (List ℕ)). s.done ++ flat_map (subtree dirs pruned (is_open pruned)) l) (sym none) ∙ s.whole in
    let all : s.went ≡ tried dirs pruned root = sym (append-nil s.went) ∙ ap (λ (l : List (List ℕ)). s.went ++ flat_map (subtree dirs pruned (is_tried pruned)) l) (sym none) ∙ s.all in
    subst (λ (d : Found). Written d (tried dirs pruned root)) whole (subst (λ (w : Found). Written s.done w) all s.written)

pub contains_has : (x : List ℕ × Dir) (xs : Found) → Has x xs → Contains xs x
contains_has x [] h = absurd h
contains_has x (y ∷ ys) (inl e) = (0, omega arith, sym e)
contains_has x (y ∷ ys) (inr h) = let r = contains_has x ys h in (suc r.0, omega (arith, r.1), r.2)

-- how the tried ones go on at the path in hand
pub all_here : (dirs : Dirs) (pruned : List ℕ → Bool) (last : List ℕ → Dir → Bool) (path : List ℕ) (rest old : List (List ℕ)) (went all : Found) → length path ≤ 4096 → old ≡ path ∷ rest → went ++ flat_map (subtree dirs pruned last) old ≡ all
    → (went ++ here dirs last path) ++ (flat_map (subtree dirs pruned last) (next dirs pruned path) ++ flat_map (subtree dirs pruned last) rest) ≡ all
all_here dirs pruned last path rest old went all fits is_old whole =
    let F = subtree dirs pruned last in
    sym (regroup went (here dirs last path) (flat_map F (next dirs pruned path)) (flat_map F rest))
    ∙ ap (λ (l : Found). went ++ (l ++ flat_map F rest)) (sym (subtree_is dirs pruned last path fits)) ∙ ap (λ (l : List (List ℕ)). went ++ flat_map F l) (sym is_old) ∙ whole

-- the directory in hand is one that is tried
pub first_tried : (dirs : Dirs) (pruned : List ℕ → Bool) (root path : List ℕ) (rest old : List (List ℕ)) (dir : Dir) (Written : Found → Found → Type 0) → length path ≤ 4096 → old ≡ path ∷ rest
    → get dirs path ≡ Some dir → pruned path ≡ false → Split dirs pruned root old Written → Contains (tried dirs pruned root) (path, dir)
first_tried dirs pruned root path rest old dir Written fits is_old found p s =
    contains_has (path, dir) (tried dirs pruned root)
    (subst (λ (l : Found). Has {A = List ℕ × Dir} (path, dir) l) (all_here dirs pruned (is_tried pruned) path rest old s.went (tried dirs pruned root) fits is_old s.all)
    (has_left (path, dir) (s.went ++ here dirs (is_tried pruned) path) _ (has_right (path, dir) s.went (here dirs (is_tried pruned) path)
    (subst (λ (l : Found). Has {A = List ℕ × Dir} (path, dir) l) (sym (here_tried dirs pruned path dir found p)) (inl refl)))))

pub relied_by : (now entry : Option (List Record)) (dirs : Dirs) (plan : Plan) (path : List ℕ) (dir : Dir) → Fewer entry now → Honest entry dirs plan → Contains (tried dirs plan.pruned plan.root) (path, dir) → Relied now (plan.device_of path) path dir
relied_by now None dirs plan path dir fewer honest there = absurd honest
relied_by None (Some e) dirs plan path dir fewer honest there = absurd fewer
relied_by (Some n) (Some e) dirs plan path dir fewer honest there = λ names v.
    let at : v.known.path ≡ path = v.at in
    let h = honest v.known dir (fewer v.known v.there) (subst (λ (p : List ℕ). Contains (tried dirs plan.pruned plan.root) (p, dir)) (sym at) there)
    (subst (λ (p : List ℕ). bears v.known (time_of dir.times) (plan.device_of p) ≡ true) (sym at) v.bearing) in
    (h.0, ap (λ (p : List ℕ). admitted p dir) (sym at) ∙ h.1 ∙ v.has)

-- there is room for the directory in hand among those that are tried
pub tried_room : (dirs : Dirs) (pruned : List ℕ → Bool) (root path : List ℕ) (rest old : List (List ℕ)) (Written : Found → Found → Type 0) → length path ≤ 4096 → old ≡ path ∷ rest
    → (s : Split dirs pruned root old Written) → length s.went + length (here dirs (is_tried pruned) path) ≤ length (tried dirs pruned root)
tried_room dirs pruned root path rest old Written fits is_old s =
    let size = ap length (all_here dirs pruned (is_tried pruned) path rest old s.went (tried dirs pruned root) fits is_old s.all) in
    let F = subtree dirs pruned (is_tried pruned) in
    omega (arith, size, length-append (s.went ++ here dirs (is_tried pruned) path) (flat_map F (next dirs pruned path) ++ flat_map F rest), length-append s.went (here dirs (is_tried pruned) path))

pub count_room : (dirs : Dirs) (pruned : List ℕ → Bool) (root : List ℕ) (old : List (List ℕ)) (Written : Found → Found → Type 0) → (s : Split dirs pruned root old Written) → length s.went ≤ length (tried dirs pruned root)
count_room dirs pruned root old Written s =
    let size = ap length s.all in
    omega (arith, size, length-append s.went (flat_map (subtree dirs pruned (is_tried pruned)) old))

-- those of the tried that no record vouches for
unvouched_append : (records : List Record) (plan : Plan) (xs ys : Found) → length (unvouched records plan (xs ++ ys)) ≡ length (unvouched records plan xs) + length (unvouched records plan ys)
unvouched_append records plan xs ys =
    let p : List ℕ × Dir → Bool = λ e. not (is_vouched records e.0 (time_of e.1.times) (plan.device_of e.0)) in
    ap length (filter_append p xs ys) ∙ length-append (filter p xs) (filter p ys)

pub unvouched_room : (dirs : Dirs) (plan : Plan) (path : List ℕ) (rest old : List (List ℕ)) (records : List Record) (Written : Found → Found → Type 0) → length path ≤ 4096 → old ≡ path ∷ rest
    → (s : Split dirs plan.pruned plan.root old Written) → length (unvouched records plan s.went) + opens records dirs plan path ≤ length (unvouched records plan (tried dirs plan.pruned plan.root))
unvouched_room dirs plan path rest old records Written fits is_old s =
    let F = subtree dirs plan.pruned (is_tried plan.pruned) in
    let size = ap (λ (l : Found). length (unvouched records plan l)) (all_here dirs plan.pruned (is_tried plan.pruned) path rest old s.went (tried dirs plan.pruned plan.root) fits is_old s.all) in
    omega (arith, size, unvouched_append records plan (s.went ++ here dirs (is_tried plan.pruned) path) (flat_map F (next dirs plan.pruned path) ++ flat_map F rest), unvouched_append records plan s.went (here dirs (is_tried plan.pruned) path))

-- weights of paths
pub weight_append : (pruned priced : List ℕ → Bool) (xs ys : List (List ℕ)) → weight pruned priced (xs ++ ys) ≡ weight pruned priced xs + weight pruned priced ys
weight_append pruned priced xs ys =
    ap length (filter_append (λ (p : List ℕ). not (pruned p) && priced p) xs ys) ∙ length-append (filter (λ p. not (pruned p) && priced p) xs) (filter (λ p. not (pruned p) && priced p) ys)

-- what a step makes pending are the children of what it has reached
pub child_here : (dirs : Dirs) (pruned : List ℕ → Bool) (path : List ℕ) → child_paths (here dirs (is_open pruned) path) ≡ next dirs pruned path
child_here dirs pruned path = by (get dirs path)
  where
    inner : (dir : Dir) (b : Bool) → child_paths (cond b (one path dir) []) ≡ cond b (paths_in path (admitted path dir)) []
    inner dir true = append-nil (paths_in path (admitted path dir))
    inner dir false = refl

    by : (o : Option Dir) → child_paths (option_map_or (λ d. cond (is_open pruned path d) (one path d) []) o []) ≡ option_map_or (λ d. cond (is_open pruned path d) (paths_in path (admitted path d)) []) o []
    by None = refl
    by (Some dir) = inner dir (is_open pruned path dir)

pub children_append : (pruned priced : List ℕ → Bool) (xs ys : Found) → weight pruned priced (child_paths (xs ++ ys)) ≡ weight pruned priced (child_paths xs) + weight pruned priced (child_paths ys)
children_append pruned priced xs ys =
    ap (weight pruned priced) (flat_map-append (λ (e : List ℕ × Dir). paths_in e.0 (admitted e.0 e.1)) xs ys) ∙ weight_append pruned priced (child_paths xs) (child_paths ys)

-- the open ones are the tried ones that show their names
here_shown : (dirs : Dirs) (pruned : List ℕ → Bool) (path : List ℕ) → here dirs (is_open pruned) path ≡ filter (λ e. not e.1.hidden) (here dirs (is_tried pruned) path)
here_shown dirs pruned path = by (get dirs path)
  where
    inner : (dir : Dir) (a : Bool) → cond (not a && not dir.hidden) (one path dir) [] ≡ filter (λ e. not e.1.hidden) (cond (not a) (one path dir) [])
    inner dir true = refl
    inner dir false = refl

    by : (o : Option Dir) → option_map_or (λ d. cond (is_open pruned path d) (one path d) []) o [] ≡ filter (λ e. not e.1.hidden) (option_map_or (λ d. cond (is_tried pruned path d) (one path d) []) o [])
    by None = refl
    by (Some dir) = inner dir (pruned path)

here_few : (dirs : Dirs) (last : List ℕ → Dir → Bool) (path : List ℕ) → length (here dirs last path) ≤ 1
here_few dirs last path = by (get dirs path)
  where
    inner : (dir : Dir) (b : Bool) → length (cond b (one path dir) []) ≤ 1
    inner dir true = omega arith
    inner dir false = omega arith

    by : (o : Option Dir) → length (option_map_or (λ d. cond (last path d) (one path d) []) o []) ≤ 1
    by None = omega arith
    by (Some dir) = inner dir (last path dir)

-- what stood at the start, beside what the standing shows: the look-ups with that of the root, the openings, the records, which paths are priced, and the limits
pub record Start : Type 0 where
  pub taken : Option (List ℕ)
  pub echoed : Option (List ℕ)
  pub stats : ℕ
  pub openings : ℕ
  pub records : List Record
  pub priced : List ℕ → Bool
  pub limits : Limits

pub record Now : Type 0 where
  pub standing : Standing
  pub stats : ℕ
  pub openings : ℕ
  pub whole : Bool

-- how a walk stands after it has done some directories
pub record Stands (plan : Plan) (now : Moment) (start : Start) (at : Now) (done went : Found) : Type 0 where
  pub taken : Appends start.taken at.standing.taken (header plan ++ flat_map (block plan now) done)
  pub echoed : Appends start.echoed at.standing.echoed (flat_map (lines plan) done)
  pub blocks : at.standing.progress.counts.directories ≡ length done
  pub entries : at.standing.progress.counts.entries ≡ length (entries_of done)
  pub tried : at.standing.progress.tried ≡ length went
  pub shown : done ≡ filter (λ e. not e.1.hidden) went
  pub past : Past at.standing.progress.pending went
  pub named : Each (λ p. Has p (child_paths done)) at.standing.progress.pending
  pub narrow : Narrow start.limits.names (unvouched start.records plan done)
  pub asked : at.stats + weight plan.pruned start.priced at.standing.progress.pending ≤ start.stats + weight plan.pruned start.priced (child_paths done)
  pub opened : IsTrue at.whole → at.openings ≤ start.openings + length (unvouched start.records plan went)
  pub exact : IsTrue at.whole → start.openings ≤ 2 ^ 63 → at.openings ≡ start.openings + length (unvouched start.records plan went)

more : (u v w : Option (List ℕ)) (f : List ℕ × Dir → List ℕ) (front : List ℕ) (done at : Found) → Appends u v (front ++ flat_map f done) → Appends v w (flat_map f at) → Appends u w (front ++ flat_map f (done ++ at))
more u v w f front done at first then_ =
    subst (λ (l : List ℕ). Appends u w l) (append_assoc front (flat_map f done) (flat_map f at) ∙ ap (λ (l : List ℕ). front ++ l) (sym (flat_map-append f done at))) (Appends-trans u v w _ _ first then_)

-- what one step does to the numbers and to what is pending
pub record Counts (dirs : Dirs) (plan : Plan) (start : Start) (path : List ℕ) (old new : Now) : Type 0 where
  pub mark : IsTrue new.whole → IsTrue old.whole
  pub opened : IsTrue new.whole → new.openings ≡ raised old.openings (opens start.records dirs plan path)
  pub few : new.standing.progress.tried ≤ 4294967295
  pub adds : AddsChildren path old.standing.progress.pending new.standing.progress.pending
  pub narrow : Narrow start.limits.names (unvouched start.records plan (here dirs (is_open plan.pruned) path))

raised_to : (a b n : ℕ) → a + n < 2 ^ 64 → b ≡ raised a n → b ≡ a + n
raised_to a b n small e = omega (arith, small, e)

raised_most : (a b n : ℕ) → b ≡ raised a n → b ≤ a + n
raised_most a b n e = omega (arith, e)

sum_small : (a n b m k t r : ℕ) → a ≡ b + m → b ≤ 2 ^ 63 → k ≡ m + n → k ≤ t → r ≡ t → r ≤ 4294967295 → a + n < 2 ^ 64
sum_small a n b m k t r e half sizes few same most = omega (arith, e, half, sizes, few, same, most)

each_self : {A : Type 0} (xs : List A) → Each (λ x. Has x xs) xs
each_self [] = tt
each_self (x ∷ xs) = (inl refl, each_more _ _ (λ y h. inr h) xs (each_self xs))

-- all that is pending is named by what was reached
named_step : (dirs : Dirs) (pruned : List ℕ → Bool) (path : List ℕ) (rest new : List (List ℕ)) (done : Found) → new ≡ next dirs pruned path ++ rest → Each (λ p. Has p (child_paths done)) rest
    → Each (λ p. Has p (child_paths (done ++ here dirs (is_open pruned) path))) new
named_step dirs pruned path rest new done is_new named =
    let both : child_paths (done ++ here dirs (is_open pruned) path) ≡ child_paths done ++ next dirs pruned path =
    flat_map-append (λ (e : List ℕ × Dir). paths_in e.0 (admitted e.0 e.1)) done (here dirs (is_open pruned) path) ∙ ap (λ (l : List (List ℕ)). child_paths done ++ l) (child_here dirs pruned path) in
    subst (λ (l : List (List ℕ)). Each (λ p. Has p (child_paths (done ++ here dirs (is_open pruned) path))) l) (sym is_new)
    (subst (λ (l : List (List ℕ)). Each (λ p. Has p l) (next dirs pruned path ++ rest)) (sym both)
    (each_append (λ (p : List ℕ). Has p (child_paths done ++ next dirs pruned path)) (next dirs pruned path) rest
    (each_more _ _ (λ p h. has_right p (child_paths done) (next dirs pruned path) h) _ (each_self (next dirs pruned path)))
    (each_more _ _ (λ p h. has_left p (child_paths done) (next dirs pruned path) h) rest named)))

narrow_append : (limit : ℕ) (records : List Record) (plan : Plan) (xs ys : Found) → Narrow limit (unvouched records plan xs) → Narrow limit (unvouched records plan ys) → Narrow limit (unvouched records plan (xs ++ ys))
narrow_append limit records plan xs ys h k =
    subst (Narrow limit) (sym (filter_append (λ (e : List ℕ × Dir). not (is_vouched records e.0 (time_of e.1.times) (plan.device_of e.0))) xs ys))
    (All-append (λ (e : List ℕ × Dir). length (entries e.1.names) ≤ limit) (unvouched records plan xs) (unvouched records plan ys) h k)

-- One step. Its old standing is that of the walk without the path in hand.
pub stands_step : (dirs : Dirs) (plan : Plan) (now : Moment) (start : Start) (path : List ℕ) (rest : List (List ℕ)) (old new : Now) (done went : Found)
    → old.standing.progress.pending ≡ rest → Rises Apart (path ∷ rest) → Passes dirs plan now path old.standing new.standing → Counts dirs plan start path old new
    → Stands plan now start (record { standing = record { taken = old.standing.taken; echoed = old.standing.echoed; progress = record { pending = path ∷ rest; tried = old.standing.progress.tried; counts = old.standing.progress.counts } }; stats = old.stats; openings = old.openings; whole = old.whole }) done went
    → new.stats ≤ old.stats + weight plan.pruned start.priced (path ∷ [])
    → Stands plan now start new (done ++ here dirs (is_open plan.pruned) path) (went ++ here dirs (is_tried plan.pruned) path)
stands_step dirs plan now start path rest old new done went is_old rise p c s looks =
    let open_here = here dirs (is_open plan.pruned) path in
    let tried_here = here dirs (is_tried plan.pruned) path in
    let sizes : length (unvouched start.records plan (went ++ tried_here)) ≡ length (unvouched start.records plan went) + opens start.records dirs plan path = unvouched_append start.records plan went tried_here in
    let tried_all : new.standing.progress.tried ≡ length (went ++ tried_here) = p.tried ∙ ap (λ (n : ℕ). n + length tried_here) s.tried ∙ sym (length-append went tried_here) in
    let few : length (unvouched start.records plan (went ++ tried_here)) ≤ length (went ++ tried_here) = filter_short (λ (e : List ℕ × Dir). not (is_vouched start.records e.0 (time_of e.1.times) (plan.device_of e.0))) (went ++ tried_here) in
    let pending : weight plan.pruned start.priced new.standing.progress.pending ≡ weight plan.pruned start.priced (next dirs plan.pruned path) + weight plan.pruned start.priced rest =
    ap (weight plan.pruned start.priced) (p.pending ∙ ap (λ (l : List (List ℕ)). next dirs plan.pruned path ++ l) is_old) ∙ weight_append plan.pruned start.priced (next dirs plan.pruned path) rest in
    let before : weight plan.pruned start.priced (path ∷ rest) ≡ weight plan.pruned start.priced (path ∷ []) + weight plan.pruned start.priced rest = weight_append plan.pruned start.priced (path ∷ []) rest in
    let children : weight plan.pruned start.priced (child_paths (done ++ open_here)) ≡ weight plan.pruned start.priced (child_paths done) + weight plan.pruned start.priced (next dirs plan.pruned path) =
    children_append plan.pruned start.priced done open_here ∙ ap (λ (l : List (List ℕ)). weight plan.pruned start.priced (child_paths done) + weight plan.pruned start.priced l) (child_here dirs plan.pruned path) in
    record {
      taken = more _ _ _ (block plan now) (header plan) done open_here s.taken p.taken;
      echoed = more _ _ _ (lines plan) [] done open_here s.echoed p.echoed;
      blocks = p.blocks ∙ ap (λ (n : ℕ). n + length open_here) s.blocks ∙ sym (length-append done open_here);
      entries = p.entries ∙ ap (λ (n : ℕ). n + length (entries_of open_here)) s.entries ∙ sym (ap length (flat_map-append (λ (e : List ℕ × Dir). admitted e.0 e.1) done open_here) ∙ length-append (entries_of done) (entries_of open_here));
      tried = tried_all;
      past = past_more dirs (is_tried plan.pruned) path rest new.standing.progress.pending went (subst (λ (l : List (List ℕ)). AddsChildren path l new.standing.progress.pending) is_old c.adds) rise s.past;
      named = named_step dirs plan.pruned path rest new.standing.progress.pending done (p.pending ∙ ap (λ (l : List (List ℕ)). next dirs plan.pruned path ++ l) is_old) s.named.1;
      narrow = narrow_append start.limits.names start.records plan done open_here s.narrow c.narrow;
      shown = (λ i. s.shown i ++ here_shown dirs plan.pruned path i) ∙ sym (filter_append (λ (e : List ℕ × Dir). not e.1.hidden) went tried_here);
      asked = omega (arith, s.asked, looks, pending, before, children);
      opened = λ w. let m = raised_most old.openings new.openings (opens start.records dirs plan path) (c.opened w) in omega (arith, m, s.opened (c.mark w), sizes);
      exact = λ w half.
          let e : old.openings ≡ start.openings + length (unvouched start.records plan went) = s.exact (c.mark w) half in
          let small : old.openings + opens start.records dirs plan path < 2 ^ 64 = sum_small old.openings (opens start.records dirs plan path) start.openings (length (unvouched start.records plan went)) (length (unvouched start.records plan (went ++ tried_here))) (length (went ++ tried_here)) new.standing.progress.tried e half sizes few tried_all c.few in
          raised_to old.openings new.openings (opens start.records dirs plan path) small (c.opened w) ∙ ap (λ (n : ℕ). n + opens start.records dirs plan path) e ∙ omega (arith, sizes);
    }

-- whether records vouch for the path in hand has not changed while the voucher is whole
pub opens_same : (dirs : Dirs) (plan : Plan) (path : List ℕ) (rest : List (List ℕ)) (now entry : List Record) (whole : Bool) → ((r : Record) → Contains now r → Contains entry r) → IsTrue whole → Keeps entry now whole (path ∷ rest)
    → opens now dirs plan path ≡ opens entry dirs plan path
opens_same dirs plan path rest now entry whole fewer w keeps = by (get dirs path)
  where
    test : (time : Moment) → is_vouched now path time (plan.device_of path) ≡ is_vouched entry path time (plan.device_of path)
    test time = same_vouched now entry path time (plan.device_of path) fewer (λ r there at. keeps w r there path (inl refl) (subst (λ (q : List ℕ). Under path q) (sym at) (under_itself path)))

    inner : (dir : Dir) (b : Bool) → length (unvouched now plan (cond b (one path dir) [])) ≡ length (unvouched entry plan (cond b (one path dir) []))
    inner dir true = ap (λ (t : Bool). length (cond (not t) (one path dir) [])) (test (time_of dir.times))
    inner dir false = refl

    by : (o : Option Dir) → length (unvouched now plan (option_map_or (λ d. cond (is_tried plan.pruned path d) (one path d) []) o [])) ≡ length (unvouched entry plan (option_map_or (λ d. cond (is_tried plan.pruned path d) (one path d) []) o []))
    by None = refl
    by (Some dir) = inner dir (is_tried plan.pruned path dir)

-- a first part of the scan, where a first part of the step in hand was written
part_of : (u v w : Option (List ℕ)) (f : List ℕ × Dir → List ℕ) (front : List ℕ) (done at rest all : Found) → (done ++ at) ++ rest ≡ all → Appends u v (front ++ flat_map f done) → AppendsPart v w (flat_map f at) → AppendsPart u w (front ++ flat_map f all)
part_of u v w f front done at rest all is first piece =
    let text : (front ++ flat_map f done) ++ flat_map f at ++ flat_map f rest ≡ front ++ flat_map f all =
    ap (λ (l : List ℕ). l ++ flat_map f rest) (append_assoc front (flat_map f done) (flat_map f at)) ∙ append_assoc front (flat_map f done ++ flat_map f at) (flat_map f rest)
    ∙ ap (λ (l : List ℕ). front ++ l) (ap (λ (l : List ℕ). l ++ flat_map f rest) (sym (flat_map-append f done at)) ∙ sym (flat_map-append f (done ++ at) rest) ∙ ap (flat_map f) is) in
    subst (λ (l : List ℕ). AppendsPart u w l) text (part_first u w ((front ++ flat_map f done) ++ flat_map f at) (flat_map f rest) (part_second u v w (front ++ flat_map f done) (flat_map f at) first piece))

pub split_map : (dirs : Dirs) (pruned : List ℕ → Bool) (root : List ℕ) (pending : List (List ℕ)) (Written Written' : Found → Found → Type 0) → ((done went : Found) → Written done went → Written' done went) → Split dirs pruned root pending Written → Split dirs pruned root pending Written'
split_map dirs pruned root pending Written Written' f s = record { done = s.done; went = s.went; written = f s.done s.went s.written; whole = s.whole; all = s.all }

pub wrote_of : (plan : Plan) (now : Moment) (start : Start) (at : Now) (done went : Found) → Stands plan now start at done went → WroteBlocks plan now done (taken start.taken start.echoed) (taken at.standing.taken at.standing.echoed)
wrote_of plan now start at done went s = record { blocks = s.taken; lined = s.echoed }

-- the pieces of whole blocks, and then those of the one in hand
follows_of : (dirs : Dirs) (plan : Plan) (now : Moment) (u v w e f g : Option (List ℕ)) (done at rest : Found) → (done ++ at) ++ rest ≡ reached dirs plan.pruned plan.root → WroteBlocks plan now done (taken u e) (taken v f) → LinesFollow (flat_map (pieces plan now) at) (taken v f) (taken w g)
    → LinesFollow (scan_pieces dirs plan now) (taken u e) (taken w g)
follows_of dirs plan now u v w e f g done at rest is wrote h =
    let P = pieces plan now in
    let all : ((header plan, []) ∷ flat_map P done) ++ (flat_map P at ++ flat_map P rest) ≡ scan_pieces dirs plan now =
    ap (λ (l : Pieces). (header plan, []) ∷ l) (sym (append_assoc (flat_map P done) (flat_map P at) (flat_map P rest)) ∙ ap (λ (l : Pieces). l ++ flat_map P rest) (sym (flat_map-append P done at)) ∙ sym (flat_map-append P (done ++ at) rest) ∙ ap (flat_map P) is) in
    subst (λ (l : Pieces). LinesFollow l (taken u e) (taken w g)) all
    (follows_after ((header plan, []) ∷ flat_map P done) (flat_map P at ++ flat_map P rest) u v w e f g
    (subst (λ (l : List ℕ). Appends u v (header plan ++ l)) (sym (written_blocks plan now done)) wrote.blocks) (subst (λ (l : List ℕ). Appends e f l) (sym (echoed_blocks plan now done)) wrote.lined)
    (follows_more (flat_map P at) (flat_map P rest) v w f g h))

pub breaks_off : (dirs : Dirs) (plan : Plan) (now : Moment) (u v v' e f f' : Option (List ℕ)) (path : List ℕ) (rest pending : List (List ℕ)) → length path ≤ 4096 → pending ≡ path ∷ rest
    → Split dirs plan.pruned plan.root pending (λ done went. WroteBlocks plan now done (taken u e) (taken v f)) → Breaks dirs plan now path (taken v f) (taken v' f') → WrotePart dirs plan now (taken u e) (taken v' f')
breaks_off dirs plan now u v v' e f f' path rest pending fits is_old s b =
    let all = all_here dirs plan.pruned (is_open plan.pruned) path rest pending s.done (reached dirs plan.pruned plan.root) fits is_old s.whole in
    record {
      text = part_of u v v' (block plan now) (header plan) s.done (here dirs (is_open plan.pruned) path) _ (reached dirs plan.pruned plan.root) all s.written.blocks b.written;
      lines_part = part_of e f f' (lines plan) [] s.done (here dirs (is_open plan.pruned) path) _ (reached dirs plan.pruned plan.root) all s.written.lined b.lined;
      follows = follows_of dirs plan now u v v' e f f' s.done (here dirs (is_open plan.pruned) path) _ all s.written b.follows;
    }

take_whole : {A : Type 0} (xs ys : List A) → take (length xs) (xs ++ ys) ≡ xs
take_whole [] ys = refl
take_whole (x ∷ xs) ys = ap (λ (l : List _). x ∷ l) (take_whole xs ys)

-- what was written is the header and whole blocks
pub whole_blocks : (dirs : Dirs) (plan : Plan) (now : Moment) (u v v' e f f' : Option (List ℕ)) (pending : List (List ℕ)) → (v' ≡ v) × (f' ≡ f)
    → Split dirs plan.pruned plan.root pending (λ done went. WroteBlocks plan now done (taken u e) (taken v f)) → Whole dirs plan now (taken u e) (taken v' f')
whole_blocks dirs plan now u v v' e f f' pending same s =
    let begin : take (length s.done) (reached dirs plan.pruned plan.root) ≡ s.done = ap (take (length s.done)) (sym s.whole) ∙ take_whole s.done (flat_map (subtree dirs plan.pruned (is_open plan.pruned)) pending) in
    inr (
      length s.done,
      record {
        blocks = subst (λ (o : Option (List ℕ)). Appends u o (header plan ++ flat_map (block plan now) (take (length s.done) (reached dirs plan.pruned plan.root)))) (sym same.0)
            (subst (λ (l : Found). Appends u v (header plan ++ flat_map (block plan now) l)) (sym begin) s.written.blocks);
        lined = subst (λ (o : Option (List ℕ)). Appends e o (flat_map (lines plan) (take (length s.done) (reached dirs plan.pruned plan.root)))) (sym same.1)
            (subst (λ (l : Found). Appends e f (flat_map (lines plan) l)) (sym begin) s.written.lined);
      },
    )

-- nothing was written
pub whole_none : (dirs : Dirs) (plan : Plan) (now : Moment) (u e : Option (List ℕ)) → Whole dirs plan now (taken u e) (taken u e)
whole_none dirs plan now u e = inl (record { blocks = Appends-nil u; lined = Appends-nil e })

pub parts_none : (dirs : Dirs) (plan : Plan) (now : Moment) (u e : Option (List ℕ)) → WrotePart dirs plan now (taken u e) (taken u e)
parts_none dirs plan now u e = record { text = part_none u _; lines_part = part_none e _; follows = follows_none _ u e }

-- a first part of the header
pub parts_header : (dirs : Dirs) (plan : Plan) (now : Moment) (u v e : Option (List ℕ)) → AppendsPart u v (header plan) → WrotePart dirs plan now (taken u e) (taken v e)
parts_header dirs plan now u v e h = record { text = part_first u v (header plan) (flat_map (block plan now) (reached dirs plan.pruned plan.root)) h; lines_part = part_none e _; follows = follows_part _ u v e (header plan) h }

-- the header, before the first directory
pub wrote_header : (plan : Plan) (now : Moment) (u v e : Option (List ℕ)) → Appends u v (header plan) → WroteBlocks plan now [] (taken u e) (taken v e)
wrote_header plan now u v e h = record { blocks = subst (λ (l : List ℕ). Appends u v l) (sym (append-nil (header plan))) h; lined = Appends-nil e }

-- the records of the path in hand can be relied on
pub step_relied : (dirs : Dirs) (plan : Plan) (path : List ℕ) (rest old : List (List ℕ)) (now entry : Option (List Record)) (Written : Found → Found → Type 0) → Fewer entry now → Honest entry dirs plan → length path ≤ 4096 → old ≡ path ∷ rest
    → Split dirs plan.pruned plan.root old Written → (dir : Dir) → get dirs path ≡ Some dir → plan.pruned path ≡ false → Relied now (plan.device_of path) path dir
step_relied dirs plan path rest old now entry Written fewer honest fits is_old s dir found open_ =
    relied_by now entry dirs plan path dir fewer honest (first_tried dirs plan.pruned plan.root path rest old dir Written fits is_old found open_ s)

pub root_split : (dirs : Dirs) (plan : Plan) (path : List ℕ) (Written : Found → Found → Type 0) → path ≡ plan.root → length plan.root ≤ 4096 → Written [] [] → Split dirs plan.pruned plan.root (path ∷ []) Written
root_split dirs plan path Written is fits w = subst (λ (p : List ℕ). Split dirs plan.pruned plan.root (p ∷ []) Written) (sym is) (split_begin dirs plan.pruned plan.root Written fits w)

-- after the root
root_stands : (dirs : Dirs) (plan : Plan) (now : Moment) (start : Start) (path : List ℕ) (old new : Now)
    → Appends start.taken old.standing.taken (header plan) → old.standing.echoed ≡ start.echoed → old.standing.progress.pending ≡ [] → old.standing.progress.tried ≡ 0 → old.standing.progress.counts.directories ≡ 0 → old.standing.progress.counts.entries ≡ 0 → old.openings ≡ start.openings
    → Passes dirs plan now path old.standing new.standing → Counts dirs plan start path old new → new.stats ≤ start.stats
    → Stands plan now start new (here dirs (is_open plan.pruned) path) (here dirs (is_tried plan.pruned) path)
root_stands dirs plan now start path old new head quiet none tried_0 blocks_0 entries_0 opened_0 p c looks =
    let open_here = here dirs (is_open plan.pruned) path in
    let tried_here = here dirs (is_tried plan.pruned) path in
    let few : opens start.records dirs plan path ≤ length tried_here = filter_short (λ (e : List ℕ × Dir). not (is_vouched start.records e.0 (time_of e.1.times) (plan.device_of e.0))) tried_here in
    let tried_is : new.standing.progress.tried ≡ length tried_here = omega (arith, p.tried, tried_0) in
    let pending : weight plan.pruned start.priced new.standing.progress.pending ≡ weight plan.pruned start.priced (child_paths open_here) =
    ap (weight plan.pruned start.priced) (p.pending ∙ ap (λ (l : List (List ℕ)). next dirs plan.pruned path ++ l) none ∙ append-nil (next dirs plan.pruned path) ∙ sym (child_here dirs plan.pruned path)) in
    record {
      taken = Appends-trans _ _ _ _ _ head p.taken;
      echoed = subst (λ (o : Option (List ℕ)). Appends o new.standing.echoed (flat_map (lines plan) open_here)) quiet p.echoed;
      blocks = omega (arith, p.blocks, blocks_0);
      entries = omega (arith, p.entries, entries_0);
      tried = tried_is;
      past = past_more dirs (is_tried plan.pruned) path [] new.standing.progress.pending [] (subst (λ (l : List (List ℕ)). AddsChildren path l new.standing.progress.pending) none c.adds) (tt, tt) tt;
      named = named_step dirs plan.pruned path [] new.standing.progress.pending [] (p.pending ∙ ap (λ (l : List (List ℕ)). next dirs plan.pruned path ++ l) none) tt;
      narrow = c.narrow;
      shown = here_shown dirs plan.pruned path;
      asked = omega (arith, looks, pending);
      opened = λ w. let m = raised_most old.openings new.openings (opens start.records dirs plan path) (c.opened w) in omega (arith, m, opened_0);
      exact = λ w half. root_exact old.openings new.openings start.openings (opens start.records dirs plan path) (length tried_here) new.standing.progress.tried (c.opened w) opened_0 half few tried_is c.few;
    }
  where
    root_exact : (a b s n k t : ℕ) → b ≡ raised a n → a ≡ s → s ≤ 2 ^ 63 → n ≤ k → t ≡ k → t ≤ 4294967295 → b ≡ s + n
    root_exact a b s n k t e same half few is most = raised_to a b n (omega (arith, same, half, few, is, most)) e ∙ ap (λ (m : ℕ). m + n) same

pub stands_root : (dirs : Dirs) (plan : Plan) (now : Moment) (start : Start) (path : List ℕ) (old new : Now) → path ≡ plan.root → length plan.root ≤ 4096
    → Appends start.taken old.standing.taken (header plan) → old.standing.echoed ≡ start.echoed → old.standing.progress.pending ≡ [] → old.standing.progress.tried ≡ 0 → old.standing.progress.counts.directories ≡ 0 → old.standing.progress.counts.entries ≡ 0 → old.openings ≡ start.openings
    → Passes dirs plan now path old.standing new.standing → Counts dirs plan start path old new → new.stats ≤ start.stats
    → Split dirs plan.pruned plan.root new.standing.progress.pending (Stands plan now start new)
stands_root dirs plan now start path old new is fits head quiet none tried_0 blocks_0 entries_0 opened_0 p c looks =
    let stands = root_stands dirs plan now start path old new head quiet none tried_0 blocks_0 entries_0 opened_0 p c looks in
    split_step dirs plan.pruned plan.root path [] (path ∷ []) new.standing.progress.pending (λ done went. (done ≡ []) × (went ≡ [])) (Stands plan now start new)
    (subst (λ (q : List ℕ). length q ≤ 4096) (sym is) fits) refl (p.pending ∙ ap (λ (l : List (List ℕ)). next dirs plan.pruned path ++ l) none)
    (λ done went e. subst (λ (d : Found). Stands plan now start new (d ++ here dirs (is_open plan.pruned) path) (went ++ here dirs (is_tried plan.pruned) path)) (sym e.0) (subst (λ (w : Found). Stands plan now start new (here dirs (is_open plan.pruned) path) (w ++ here dirs (is_tried plan.pruned) path)) (sym e.1) stands))
    (root_split dirs plan path (λ done went. (done ≡ []) × (went ≡ [])) is fits (refl, refl))

-- the look-ups so far, and that of the path in hand, are among the candidates
pub asked_room : (dirs : Dirs) (plan : Plan) (now : Moment) (start : Start) (at : Now) (path : List ℕ) (rest pending : List (List ℕ)) (stats' : ℕ) → at.standing.progress.pending ≡ path ∷ rest → stats' ≤ at.stats + weight plan.pruned start.priced (path ∷ [])
    → Split dirs plan.pruned plan.root pending (Stands plan now start at) → stats' ≤ start.stats + weight plan.pruned start.priced (child_paths (reached dirs plan.pruned plan.root))
asked_room dirs plan now start at path rest pending stats' is_old looks s =
    let before : weight plan.pruned start.priced at.standing.progress.pending ≡ weight plan.pruned start.priced (path ∷ []) + weight plan.pruned start.priced rest = ap (weight plan.pruned start.priced) is_old ∙ weight_append plan.pruned start.priced (path ∷ []) rest in
    let all : weight plan.pruned start.priced (child_paths (s.done ++ flat_map (subtree dirs plan.pruned (is_open plan.pruned)) pending)) ≡ weight plan.pruned start.priced (child_paths (reached dirs plan.pruned plan.root)) = ap (λ (l : Found). weight plan.pruned start.priced (child_paths l)) s.whole in
    omega (arith, looks, s.written.asked, before, all, children_append plan.pruned start.priced s.done (flat_map (subtree dirs plan.pruned (is_open plan.pruned)) pending))

-- what was written is that of the first tried directories
pub wrote_first : (dirs : Dirs) (plan : Plan) (now : Moment) (u v v' e f f' : Option (List ℕ)) (done went below : Found) (count : ℕ) → count ≡ length went → went ++ below ≡ tried dirs plan.pruned plan.root → done ≡ filter (λ d. not d.1.hidden) went
    → (v' ≡ v) × (f' ≡ f) → WroteBlocks plan now done (taken u e) (taken v f) → WroteBlocks plan now (shown_of (take count (tried dirs plan.pruned plan.root))) (taken u e) (taken v' f')
wrote_first dirs plan now u v v' e f f' done went below count counted all shown same w =
    let first : take count (tried dirs plan.pruned plan.root) ≡ went = (λ i. take (counted i) (sym all i)) ∙ take_whole went below in
    let is : done ≡ filter (λ d. not d.1.hidden) (take count (tried dirs plan.pruned plan.root)) = shown ∙ ap (filter (λ d. not d.1.hidden)) (sym first) in
    record {
      blocks = subst (λ (o : Option (List ℕ)). Appends u o (header plan ++ flat_map (block plan now) (filter (λ d. not d.1.hidden) (take count (tried dirs plan.pruned plan.root))))) (sym same.0) (subst (λ (l : Found). Appends u v (header plan ++ flat_map (block plan now) l)) is w.blocks);
      lined = subst (λ (o : Option (List ℕ)). Appends e o (flat_map (lines plan) (filter (λ d. not d.1.hidden) (take count (tried dirs plan.pruned plan.root))))) (sym same.1) (subst (λ (l : Found). Appends e f (flat_map (lines plan) l)) is w.lined);
    }

-- that and no more, where the limit on directories is passed
pub stops_full : (dirs : Dirs) (plan : Plan) (now : Moment) (start : Start) (at : Now) (path : List ℕ) (pending : List (List ℕ)) (limit : ℕ) (v' f' : Option (List ℕ)) → at.standing.progress.tried ≤ limit → limit < at.standing.progress.tried + length (here dirs (is_tried plan.pruned) path)
    → (v' ≡ at.standing.taken) × (f' ≡ at.standing.echoed) → Split dirs plan.pruned plan.root pending (Stands plan now start at) → WroteBlocks plan now (shown_of (take limit (tried dirs plan.pruned plan.root))) (taken start.taken start.echoed) (taken v' f')
stops_full dirs plan now start at path pending limit v' f' most over same s =
    let few = here_few dirs (is_tried plan.pruned) path in
    let count : limit ≡ length s.went = omega (arith, most, over, few, s.written.tried) in
    wrote_first dirs plan now start.taken at.standing.taken v' start.echoed at.standing.echoed f' s.done s.went (flat_map (subtree dirs plan.pruned (is_tried plan.pruned)) pending) limit count s.all s.written.shown same (wrote_of plan now start at s.done s.went s.written)

-- the same at the root
pub root_full : (dirs : Dirs) (plan : Plan) (now : Moment) (u v v' e f' : Option (List ℕ)) (path : List ℕ) (limit : ℕ) → path ≡ plan.root → length plan.root ≤ 4096 → limit < 0 + length (here dirs (is_tried plan.pruned) path)
    → (v' ≡ v) × (f' ≡ e) → Appends u v (header plan) → WroteBlocks plan now (shown_of (take limit (tried dirs plan.pruned plan.root))) (taken u e) (taken v' f')
root_full dirs plan now u v v' e f' path limit is fits over same h =
    let few = here_few dirs (is_tried plan.pruned) path in
    let zero_ : limit ≡ 0 = omega (arith, over, few) in
    wrote_first dirs plan now u v v' e e f' [] [] (tried dirs plan.pruned plan.root) limit zero_ refl refl same (wrote_header plan now u v e h)

after_some : {A : Type 0} (xs ys : List A) (x : A) (P : A → Type 0) → P x → IsSomeAnd (slice_get (xs ++ x ∷ ys) (length xs)) P
after_some [] ys x P p = p
after_some (y ∷ xs) ys x P p = after_some xs ys x P p

abbrev Wide : ℕ → List ℕ × Dir → Type 0
Wide limit e = (e.1.hidden ≡ false) × (limit < length (entries e.1.names))

-- the tried directory after those that are done is the one in hand
hand_wide : (dirs : Dirs) (plan : Plan) (path : List ℕ) (rest pending : List (List ℕ)) (went : Found) (limit : ℕ) → length path ≤ 4096 → pending ≡ path ∷ rest → went ++ flat_map (subtree dirs plan.pruned (is_tried plan.pruned)) pending ≡ tried dirs plan.pruned plan.root
    → NamesMore dirs plan.pruned limit path → IsSomeAnd (slice_get (tried dirs plan.pruned plan.root) (length went)) (Wide limit)
hand_wide dirs plan path rest pending went limit fits is_old whole n =
    let F = subtree dirs plan.pruned (is_tried plan.pruned) in
    let below = flat_map F (next dirs plan.pruned path) ++ flat_map F rest in
    let text : went ++ ((path, n.dir) ∷ below) ≡ tried dirs plan.pruned plan.root =
    sym (append_assoc went (one path n.dir) below) ∙ ap (λ (l : Found). (went ++ l) ++ below) (sym (here_tried dirs plan.pruned path n.dir n.there n.unpruned)) ∙ all_here dirs plan.pruned (is_tried plan.pruned) path rest pending went (tried dirs plan.pruned plan.root) fits is_old whole in
    subst (λ (l : Found). IsSomeAnd (slice_get l (length went)) (Wide limit)) text (after_some {A = List ℕ × Dir} went below (path, n.dir) (Wide limit) (n.shown, n.longer))

pub stops_wide : (dirs : Dirs) (plan : Plan) (now : Moment) (start : Start) (at : Now) (path : List ℕ) (rest pending : List (List ℕ)) (limit : ℕ) (v' f' : Option (List ℕ)) → length path ≤ 4096 → pending ≡ path ∷ rest → NamesMore dirs plan.pruned limit path
    → (v' ≡ at.standing.taken) × (f' ≡ at.standing.echoed) → Split dirs plan.pruned plan.root pending (Stands plan now start at) → StopsAtWide dirs plan now limit (taken start.taken start.echoed) (taken v' f')
stops_wide dirs plan now start at path rest pending limit v' f' fits is_old n same s = record {
  count = length s.went;
  wrote = wrote_first dirs plan now start.taken at.standing.taken v' start.echoed at.standing.echoed f' s.done s.went (flat_map (subtree dirs plan.pruned (is_tried plan.pruned)) pending) (length s.went) refl s.all s.written.shown same (wrote_of plan now start at s.done s.went s.written);
  wide = hand_wide dirs plan path rest pending s.went limit fits is_old s.all n;
}

pub root_wide : (dirs : Dirs) (plan : Plan) (now : Moment) (u v v' e f' : Option (List ℕ)) (path : List ℕ) (limit : ℕ) → path ≡ plan.root → length plan.root ≤ 4096 → NamesMore dirs plan.pruned limit path
    → (v' ≡ v) × (f' ≡ e) → Appends u v (header plan) → StopsAtWide dirs plan now limit (taken u e) (taken v' f')
root_wide dirs plan now u v v' e f' path limit is fits n same h =
    let all : flat_map (subtree dirs plan.pruned (is_tried plan.pruned)) (path ∷ []) ≡ tried dirs plan.pruned plan.root =
    append-nil (subtree dirs plan.pruned (is_tried plan.pruned) path) ∙ ap (subtree dirs plan.pruned (is_tried plan.pruned)) is ∙ walk_is_led dirs plan.pruned (is_tried plan.pruned) plan.root fits in
    record {
      count = 0;
      wrote = wrote_first dirs plan now u v v' e e f' [] [] (tried dirs plan.pruned plan.root) 0 refl refl refl same (wrote_header plan now u v e h);
      wide = hand_wide dirs plan path [] (path ∷ []) [] limit (subst (λ (p : List ℕ). length p ≤ 4096) (sym is) fits) refl all n;
    }
