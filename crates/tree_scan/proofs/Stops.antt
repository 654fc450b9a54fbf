-- Where a walk has stopped.
use Rattle.std.proofs.Common.{◌≡◌, ℕ, suc, arith, true≢false, ◌≤◌, Bool, true, false, not, cond, List, [], ◌∷◌, ◌++◌, length, filter, flat_map, refl, sym, ◌∙◌, ap, subst, Option, Some, None, Contains, IsTrue, is_lt, append-nil, inl, inr}
use Rattle.std.proofs.lemmas.Cmp.{tied_itself}
use Rattle.std.specs.Ordering.{ordering_reverse}
use Rattle.std.specs.Option.{option_map_or}
use Rattle.std.specs.FinMap.{get}
use Rattle.std.specs.Io.KnownBytes.{Appends}
use Rattle.std.proofs.lemmas.List.Concat.{flat_map-append}
use Rattle.path_order.specs.Stamp.{Moment}
use Rattle.path_order.specs.Order.{path_cmp}
use Rattle.path_order.specs.Path.{is_root}
use Rattle.loc_outside.specs.Trees.{Dir, Dirs}
use Rattle.tree_scan.specs.declared.rules.Limits.{Limits}
use Rattle.tree_scan.specs.Admitted.{admitted, paths_in}
use Rattle.tree_scan.specs.Blocks.{block, header, lines, time_of}
use Rattle.tree_scan.specs.Plan.{Plan}
use Rattle.tree_scan.specs.Reach.{Test, is_open, is_tried, reached, tried}
use Rattle.tree_scan.specs.Records.{Record, is_vouched, unvouched}
use Rattle.tree_scan.specs.Steps.{child_paths, here, next}
unfoldable use Rattle.tree_scan.specs.Steps.{walk, subtree}
use Rattle.tree_scan.specs.Stops.{CameTo, HasWide, IsCandidate, NamesMore, Narrow, WroteBlocks, before, taken}
use Rattle.tree_scan.proofs.Asking.{Keeps, fewer_vouched, same_vouched, under_itself}
use Rattle.tree_scan.proofs.Lists.{Each, Has, Rises, each_more, each_append, each_filter, each_flat_map, has_left, has_right}
use Rattle.tree_scan.proofs.Loop.{Found, Split, Stands, Start, Now, all_here, contains_has}
use Rattle.tree_scan.proofs.Order.{Before, path_total}
use Rattle.tree_scan.proofs.Past.{Past}
use Rattle.tree_scan.proofs.Same.{walk_is_led}
use Rattle.tree_scan.proofs.Sorted.{Apart, Under, before_child, here_by, joined_no_root, next_children, walk_under}
use Rattle.tree_scan.proofs.TreeAnswers.{filter_append, here_open, one}
use Rattle.tree_scan.proofs.WalkRecursion.{subtree_is}

abbrev Later : List ℕ → List ℕ × Dir → Type 0
Later path e = is_lt (path_cmp e.0 path) ≡ false

abbrev Earlier : List ℕ → List ℕ × Dir → Type 0
Earlier path e = Before e.0 path

not_before : (a b : List ℕ) → Before a b → is_lt (path_cmp b a) ≡ false
not_before a b h = ap is_lt (path_total.antisymm b a ∙ ap ordering_reverse h)

not_itself : (a : List ℕ) → is_lt (path_cmp a a) ≡ false
not_itself a = ap is_lt (tied_itself path_total a)

-- nothing that a path gives comes before it
subtree_later : (dirs : Dirs) (pruned : List ℕ → Bool) (last : Test) (path : List ℕ) → length path ≤ 4096 → Each (Later path) (subtree dirs pruned last path)
unfolding subtree
subtree_later dirs pruned last path fits =
    subst (Each (Later path)) (sym (subtree_is dirs pruned last path fits))
    (each_append (Later path) (here dirs last path) (flat_map (subtree dirs pruned last) (next dirs pruned path))
    (here_by (Each (Later path)) tt last path (get dirs path) (λ dir f t. (not_itself path, tt)))
    (each_flat_map (Later path) (subtree dirs pruned last) (next dirs pruned path)
    (each_more _ _
    (λ c h. each_more _ _ (λ x u. not_before path x.0 (before_child path h.name x.0 h.good (subst (λ (d : List ℕ). Under d x.0) h.is u))) _ (walk_under dirs pruned last 4097 c (ap is_root h.is ∙ joined_no_root path h.name h.good.long)))
    _ (next_children dirs pruned path))))

rest_later : (dirs : Dirs) (pruned : List ℕ → Bool) (last : Test) (path : List ℕ) (rest : List (List ℕ)) → Each (Apart path) rest → Each (Later path) (flat_map (subtree dirs pruned last) rest)
unfolding subtree
rest_later dirs pruned last path rest apart =
    each_flat_map (Later path) (subtree dirs pruned last) rest
    (each_more _ _ (λ p a. each_more _ _ (λ x u. not_before path x.0 (a.before path x.0 (under_itself path) u)) _ (walk_under dirs pruned last 4097 p a.second)) rest apart)

keeps_all : (p : List ℕ × Dir → Bool) (xs : Found) → Each (λ x. p x ≡ true) xs → filter p xs ≡ xs
keeps_all p [] h = refl
keeps_all p (x ∷ xs) h = ap (λ (b : Bool). cond b (x ∷ filter p xs) (filter p xs)) h.0 ∙ ap (λ (l : Found). x ∷ l) (keeps_all p xs h.1)

keeps_none : (p : List ℕ × Dir → Bool) (xs : Found) → Each (λ x. p x ≡ false) xs → filter p xs ≡ []
keeps_none p [] h = refl
keeps_none p (x ∷ xs) h = ap (λ (b : Bool). cond b (x ∷ filter p xs) (filter p xs)) h.0 ∙ keeps_none p xs h.1

-- those before the path in hand are those that are done
before_hand : (dirs : Dirs) (pruned : List ℕ → Bool) (last : Test) (path : List ℕ) (rest pending : List (List ℕ)) (done all : Found) → length path ≤ 4096 → pending ≡ path ∷ rest → Each (Apart path) rest → Each (Earlier path) done
    → done ++ flat_map (subtree dirs pruned last) pending ≡ all → before path all ≡ done
before_hand dirs pruned last path rest pending done all fits is_old apart earlier whole =
    let F = subtree dirs pruned last in
    let p : List ℕ × Dir → Bool = λ e. is_lt (path_cmp e.0 path) in
    ap (filter p) (sym whole ∙ ap (λ (l : List (List ℕ)). done ++ flat_map F l) is_old) ∙ filter_append p done (F path ++ flat_map F rest)
    ∙ (λ i. keeps_all p done (each_more _ _ (λ x h. ap is_lt h) done earlier) i
    ++ keeps_none p (F path ++ flat_map F rest) (each_append (Later path) (F path) (flat_map F rest) (subtree_later dirs pruned last path fits) (rest_later dirs pruned last path rest apart)) i)
    ∙ append-nil done

contains_path : (x : List ℕ) (xs : List (List ℕ)) → Has x xs → Contains xs x
contains_path x [] h = absurd h
contains_path x (y ∷ ys) (inl e) = (0, omega arith, sym e)
contains_path x (y ∷ ys) (inr h) = let r = contains_path x ys h in (suc r.0, omega (arith, r.1), r.2)

-- what was written is that before the path in hand
came : (records : List Record) (limits : Limits) (dirs : Dirs) (plan : Plan) (now : Moment) (u v v' e f f' : Option (List ℕ)) (path : List ℕ) (done went : Found) → before path (reached dirs plan.pruned plan.root) ≡ done
    → before path (tried dirs plan.pruned plan.root) ≡ went → IsCandidate dirs plan.pruned plan.root path → Narrow limits.names (unvouched records plan done) → length went ≤ limits.directories
    → (v' ≡ v) × (f' ≡ f) → WroteBlocks plan now done (taken u e) (taken v f) → CameTo records limits dirs plan now path (taken u e) (taken v' f')
came records limits dirs plan now u v v' e f f' path done went is all candidate narrow few same w = record {
  candidate = candidate;
  wrote = record {
    blocks = subst (λ (o : Option (List ℕ)). Appends u o (header plan ++ flat_map (block plan now) (before path (reached dirs plan.pruned plan.root)))) (sym same.0) (subst (λ (l : Found). Appends u v (header plan ++ flat_map (block plan now) l)) (sym is) w.blocks);
    lined = subst (λ (o : Option (List ℕ)). Appends e o (flat_map (lines plan) (before path (reached dirs plan.pruned plan.root)))) (sym same.1) (subst (λ (l : Found). Appends e f (flat_map (lines plan) l)) (sym is) w.lined);
  };
  narrow = subst (λ (l : Found). Narrow limits.names (unvouched records plan l)) (sym is) narrow;
  few = subst (λ (l : Found). length l ≤ limits.directories) (sym all) few;
}

pub came_to : (dirs : Dirs) (plan : Plan) (now : Moment) (start : Start) (at : Now) (path : List ℕ) (rest : List (List ℕ)) (v' f' : Option (List ℕ)) → length path ≤ 4096 → at.standing.progress.pending ≡ path ∷ rest → Rises Apart (path ∷ rest) → plan.pruned path ≡ false
    → at.standing.progress.tried ≤ start.limits.directories → (v' ≡ at.standing.taken) × (f' ≡ at.standing.echoed) → Split dirs plan.pruned plan.root at.standing.progress.pending (Stands plan now start at)
    → CameTo start.records start.limits dirs plan now path (taken start.taken start.echoed) (taken v' f')
came_to dirs plan now start at path rest v' f' fits is_old rise open_ most same s =
    let past = subst (λ (l : List (List ℕ)). Past l s.went) is_old s.written.past in
    let earlier : Each (Earlier path) s.went = each_more _ _ (λ x h. h.0) s.went past in
    let earlier_done : Each (Earlier path) s.done = subst (Each (Earlier path)) (sym s.written.shown) (each_filter (Earlier path) (λ e. not e.1.hidden) s.went earlier) in
    let named = subst (λ (l : List (List ℕ)). Each (λ p. Has p (child_paths s.done)) l) is_old s.written.named in
    let below = flat_map (subtree dirs plan.pruned (is_open plan.pruned)) at.standing.progress.pending in
    let children : child_paths s.done ++ child_paths below ≡ child_paths (reached dirs plan.pruned plan.root) = sym (flat_map-append (λ (e : List ℕ × Dir). paths_in e.0 (admitted e.0 e.1)) s.done below) ∙ ap child_paths s.whole in
    let candidate : Contains (child_paths (reached dirs plan.pruned plan.root)) path × (plan.pruned path ≡ false) =
    (contains_path path (child_paths (reached dirs plan.pruned plan.root)) (subst (λ (l : List (List ℕ)). Has path l) children (has_left path (child_paths s.done) (child_paths below) named.0)), open_) in
    came start.records start.limits dirs plan now start.taken at.standing.taken v' start.echoed at.standing.echoed f' path s.done s.went
    (before_hand dirs plan.pruned (is_open plan.pruned) path rest at.standing.progress.pending s.done (reached dirs plan.pruned plan.root) fits is_old rise.0 earlier_done s.whole)
    (before_hand dirs plan.pruned (is_tried plan.pruned) path rest at.standing.progress.pending s.went (tried dirs plan.pruned plan.root) fits is_old rise.0 earlier s.all) (inr candidate) s.written.narrow
    (omega (arith, most, s.written.tried)) same (record { blocks = s.written.taken; lined = s.written.echoed })

-- the same at the root
pub came_to_root : (records : List Record) (limits : Limits) (dirs : Dirs) (plan : Plan) (now : Moment) (u v v' e f' : Option (List ℕ)) (path : List ℕ) → path ≡ plan.root → length plan.root ≤ 4096 → (v' ≡ v) × (f' ≡ e) → WroteBlocks plan now [] (taken u e) (taken v e)
    → CameTo records limits dirs plan now path (taken u e) (taken v' f')
came_to_root records limits dirs plan now u v v' e f' path is fits same w =
    let path_fits = subst (λ (p : List ℕ). length p ≤ 4096) (sym is) fits in
    let whole : flat_map (subtree dirs plan.pruned (is_open plan.pruned)) (path ∷ []) ≡ reached dirs plan.pruned plan.root =
    append-nil (subtree dirs plan.pruned (is_open plan.pruned) path) ∙ ap (subtree dirs plan.pruned (is_open plan.pruned)) is ∙ walk_is_led dirs plan.pruned (is_open plan.pruned) plan.root fits in
    let all : flat_map (subtree dirs plan.pruned (is_tried plan.pruned)) (path ∷ []) ≡ tried dirs plan.pruned plan.root =
    append-nil (subtree dirs plan.pruned (is_tried plan.pruned) path) ∙ ap (subtree dirs plan.pruned (is_tried plan.pruned)) is ∙ walk_is_led dirs plan.pruned (is_tried plan.pruned) plan.root fits in
    came records limits dirs plan now u v v' e e f' path [] [] (before_hand dirs plan.pruned (is_open plan.pruned) path [] (path ∷ []) [] (reached dirs plan.pruned plan.root) path_fits refl tt tt whole)
    (before_hand dirs plan.pruned (is_tried plan.pruned) path [] (path ∷ []) [] (tried dirs plan.pruned plan.root) path_fits refl tt tt all) (inl is) (λ k d l. absurd (omega (arith, l))) (omega arith) same w

-- while the voucher is whole, what was not vouched for by the records that are left was not by those at the entry
pub unvouched_entry : (now entry : List Record) (whole : Bool) (path : List ℕ) (rest : List (List ℕ)) (time : Moment) (device : ℕ) → ((r : Record) → Contains now r → Contains entry r) → IsTrue whole → Keeps entry now whole (path ∷ rest)
    → is_vouched now path time device ≡ false → is_vouched entry path time device ≡ false
unvouched_entry now entry whole path rest time device fewer w keeps e =
    sym (same_vouched now entry path time device fewer (λ r there at. keeps w r there path (inl refl) (subst (λ (q : List ℕ). Under path q) (sym at) (under_itself path)))) ∙ e

-- and fewer records vouch for fewer
pub narrow_entry : (limit : ℕ) (now entry : List Record) (dirs : Dirs) (plan : Plan) (path : List ℕ) → ((r : Record) → Contains now r → Contains entry r) → Narrow limit (unvouched now plan (here dirs (is_open plan.pruned) path))
    → Narrow limit (unvouched entry plan (here dirs (is_open plan.pruned) path))
narrow_entry limit now entry dirs plan path fewer = by (get dirs path)
  where
    test : (dir : Dir) (a b : Bool) → (a ≡ true → b ≡ true) → Narrow limit (cond (not a) (one path dir) []) → Narrow limit (cond (not b) (one path dir) [])
    test dir a true f h = λ k d l. absurd (omega (arith, l))
    test dir true false f h = absurd (true≢false (sym (f refl)))
    test dir false false f h = h

    inner : (dir : Dir) (b : Bool) → Narrow limit (unvouched now plan (cond b (one path dir) [])) → Narrow limit (unvouched entry plan (cond b (one path dir) []))
    inner dir true h = test dir (is_vouched now path (time_of dir.times) (plan.device_of path)) (is_vouched entry path (time_of dir.times) (plan.device_of path)) (fewer_vouched now entry path (time_of dir.times) (plan.device_of path) fewer) h
    inner dir false h = h

    by : (o : Option Dir) → Narrow limit (unvouched now plan (option_map_or (λ d. cond (is_open plan.pruned path d) (one path d) []) o [])) → Narrow limit (unvouched entry plan (option_map_or (λ d. cond (is_open plan.pruned path d) (one path d) []) o []))
    by None h = h
    by (Some dir) h = inner dir (is_open plan.pruned path dir) h

has_filter : (p : List ℕ × Dir → Bool) (x : List ℕ × Dir) (xs : Found) → p x ≡ true → Has x xs → Has x (filter p xs)
has_filter p x [] e h = absurd h
has_filter p x (y ∷ ys) e (inl q) = subst (λ (b : Bool). Has x (cond b (y ∷ filter p ys) (filter p ys))) (sym (ap p (sym q) ∙ e)) (inl q)
has_filter p x (y ∷ ys) e (inr h) = by (p y) (has_filter p x ys e h)
  where
    by : (b : Bool) → Has x (filter p ys) → Has x (cond b (y ∷ filter p ys) (filter p ys))
    by true k = inr k
    by false k = k

-- the directory in hand is one that is reached, lists more names than the limit, and is not vouched for
pub wide_hand : (dirs : Dirs) (plan : Plan) (path : List ℕ) (rest pending : List (List ℕ)) (records : List Record) (limit : ℕ) (Written : Found → Found → Type 0) → length path ≤ 4096 → pending ≡ path ∷ rest → (n : NamesMore dirs plan.pruned limit path)
    → is_vouched records path (time_of n.dir.times) (plan.device_of path) ≡ false → Split dirs plan.pruned plan.root pending Written → HasWide limit (unvouched records plan (reached dirs plan.pruned plan.root))
wide_hand dirs plan path rest pending records limit Written fits is_old n unvouched_here s =
    let open_here = here dirs (is_open plan.pruned) path in
    let here_is : open_here ≡ one path n.dir = here_open dirs plan.pruned path n.dir n.there n.unpruned ∙ ap (λ (b : Bool). cond b [] (one path n.dir)) n.shown in
    let p : List ℕ × Dir → Bool = λ e. not (is_vouched records e.0 (time_of e.1.times) (plan.device_of e.0)) in
    let inside : Has {A = List ℕ × Dir} (path, n.dir) (reached dirs plan.pruned plan.root) =
    subst (λ (l : Found). Has {A = List ℕ × Dir} (path, n.dir) l) (all_here dirs plan.pruned (is_open plan.pruned) path rest pending s.done (reached dirs plan.pruned plan.root) fits is_old s.whole)
    (has_left (path, n.dir) (s.done ++ open_here) _ (has_right (path, n.dir) s.done open_here (subst (λ (l : Found). Has {A = List ℕ × Dir} (path, n.dir) l) (sym here_is) (inl refl)))) in
    record {
      path = path;
      dir = n.dir;
      there = contains_has (path, n.dir) (unvouched records plan (reached dirs plan.pruned plan.root)) (has_filter p (path, n.dir) (reached dirs plan.pruned plan.root) (ap not unvouched_here) inside);
      longer = n.longer;
    }
