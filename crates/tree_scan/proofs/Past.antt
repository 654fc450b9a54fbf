-- What the walk has come past: it rises, and it is in the map.
use Rattle.std.proofs.Common.{◌≡◌, ℕ, suc, ◌+◌, ◌<◌, ◌≤◌, Bool, List, [], ◌∷◌, ◌++◌, length, refl, sym, ◌∙◌, ap, subst, arith, Some, is_eq, length-append, true≢false, inl, inr}
use Rattle.std.proofs.lemmas.Cmp.{tied_itself}
use Rattle.std.specs.FinMap.{get, entries, get-entries}
use Rattle.path_order.specs.Order.{path_cmp}
use Rattle.loc_outside.specs.Trees.{Dir, Dirs}
use Rattle.tree_scan.specs.Admitted.{paths_in}
use Rattle.tree_scan.specs.Steps.{here}
use Rattle.tree_scan.specs.Walks.{AddsChildren}
use Rattle.tree_scan.proofs.Asking.{after_child, children, under_itself}
use Rattle.tree_scan.proofs.Lists.{Each, Has, Rises, each_more, each_append, rises_append}
use Rattle.tree_scan.proofs.Order.{Before, path_total, before_trans}
use Rattle.tree_scan.proofs.Same.{found_has, same_find}
use Rattle.tree_scan.proofs.Sorted.{Apart, ByPath, here_by}

abbrev pub Found : Type 0
Found = List (List ℕ × Dir)

-- these directories come before all that is pending
abbrev pub Past : List (List ℕ) → Found → Type 0
Past pending seen = Each (λ e. Each (Before e.0) pending) seen

-- what comes before the path in hand and the rest comes before the children of the path, too
pub past_step : (path : List ℕ) (rest new : List (List ℕ)) (seen : Found) → AddsChildren path rest new → Past (path ∷ rest) seen → Past new seen
past_step path rest new seen a past =
    each_more _ _
    (λ e h. subst (Each (Before e.0)) (sym a.are) (each_append (Before e.0) (paths_in path a.names) rest (each_more _ _ (λ c k. before_trans e.0 path c h.0 (after_child path c c k (under_itself c))) _ (children path a.names a.fitting)) h.1))
    seen past

-- and so does the path in hand
pub past_hand : (path : List ℕ) (rest new : List (List ℕ)) → AddsChildren path rest new → Rises Apart (path ∷ rest) → Each (Before path) new
past_hand path rest new a rise =
    subst (Each (Before path)) (sym a.are)
    (each_append (Before path) (paths_in path a.names) rest (each_more _ _ (λ c k. after_child path c c k (under_itself c)) _ (children path a.names a.fitting))
    (each_more (Apart path) (Before path) (λ p k. k.before path p (under_itself path) (under_itself p)) rest rise.0))

pub past_more : (dirs : Dirs) (last : List ℕ → Dir → Bool) (path : List ℕ) (rest new : List (List ℕ)) (seen : Found) → AddsChildren path rest new → Rises Apart (path ∷ rest) → Past (path ∷ rest) seen → Past new (seen ++ here dirs last path)
past_more dirs last path rest new seen a rise past =
    each_append (λ (e : List ℕ × Dir). Each (Before e.0) new) seen (here dirs last path) (past_step path rest new seen a past)
    (here_by (Each (λ e. Each (Before e.0) new)) tt last path (get dirs path) (λ dir f t. (past_hand path rest new a rise, tt)))

-- The directories that were counted as tried, whatever the records say: they rise, are in the map, and come before all
-- that is pending.
pub record Visited (dirs : Dirs) (pending : List (List ℕ)) (tried : ℕ) : Type 0 where
  pub seen : Found
  pub rise : Rises ByPath seen
  pub there : Each (λ e. get dirs e.0 ≡ Some e.1) seen
  pub past : Past pending seen
  pub count : tried ≤ length seen

pub visited_begin : (dirs : Dirs) (root : List ℕ) (tried : ℕ) → tried ≡ 0 → Visited dirs (root ∷ []) tried
visited_begin dirs root tried e = record { seen = []; rise = tt; there = tt; past = tt; count = omega (arith, e) }

-- those seen, with the one in hand
rise_hand : (dirs : Dirs) (last : List ℕ → Dir → Bool) (path : List ℕ) (rest : List (List ℕ)) (seen : Found) → Rises ByPath seen → Past (path ∷ rest) seen → Rises ByPath (seen ++ here dirs last path)
rise_hand dirs last path rest seen rise past =
    rises_append ByPath seen (here dirs last path) rise (here_by (Rises ByPath) tt last path (get dirs path) (λ dir f t. (tt, tt)))
    (each_more _ _ (λ e h. here_by (Each (ByPath e)) tt last path (get dirs path) (λ dir f t. (h.0, tt))) seen past)

there_hand : (dirs : Dirs) (last : List ℕ → Dir → Bool) (path : List ℕ) (seen : Found) → Each (λ e. get dirs e.0 ≡ Some e.1) seen → Each (λ e. get dirs e.0 ≡ Some e.1) (seen ++ here dirs last path)
there_hand dirs last path seen there =
    each_append (λ (e : List ℕ × Dir). get dirs e.0 ≡ Some e.1) seen (here dirs last path) there (here_by (Each (λ e. get dirs e.0 ≡ Some e.1)) tt last path (get dirs path) (λ dir f t. (f, tt)))

pub visited_step : (dirs : Dirs) (last : List ℕ → Dir → Bool) (path : List ℕ) (rest new : List (List ℕ)) (tried tried' : ℕ) → AddsChildren path rest new → Rises Apart (path ∷ rest) → tried' ≤ tried + length (here dirs last path)
    → Visited dirs (path ∷ rest) tried → Visited dirs new tried'
visited_step dirs last path rest new tried tried' a rise most v = record {
  seen = v.seen ++ here dirs last path;
  rise = rise_hand dirs last path rest v.seen v.rise v.past;
  there = there_hand dirs last path v.seen v.there;
  past = past_more dirs last path rest new v.seen a rise v.past;
  count = omega (arith, most, v.count, length-append v.seen (here dirs last path));
}

-- a list without one of its elements
record Without (x : List ℕ × Dir) (ys : Found) : Type 0 where
  rest : Found
  size : length ys ≡ suc (length rest)
  others : (y : List ℕ × Dir) → (y ≡ x → ⊥) → Has y ys → Has y rest

without : (x : List ℕ × Dir) (ys : Found) → Has x ys → Without x ys
without x [] h = absurd h
without x (z ∷ ys) (inl e) = record { rest = ys; size = refl; others = others }
  where
    others : (y : List ℕ × Dir) → (y ≡ x → ⊥) → Has y (z ∷ ys) → Has y ys
    others y n (inl f) = absurd (n (f ∙ sym e))
    others y n (inr h) = h
without x (z ∷ ys) (inr h) = more (without x ys h)
  where
    others : (w : Without x ys) (y : List ℕ × Dir) → (y ≡ x → ⊥) → Has y (z ∷ ys) → Has y (z ∷ w.rest)
    others w y n (inl f) = inl f
    others w y n (inr k) = inr (w.others y n k)

    more : Without x ys → Without x (z ∷ ys)
    more w = record { rest = z ∷ w.rest; size = ap suc w.size; others = others w }

other : (x y : List ℕ × Dir) → ByPath x y → y ≡ x → ⊥
other x y less e =
    true≢false (sym (ap is_eq (tied_itself path_total x.0)) ∙ ap (λ (z : List ℕ × Dir). is_eq (path_cmp x.0 z.0)) (sym e) ∙ ap is_eq less)

-- a list that rises has no more elements than one that has them all
room : (xs ys : Found) → Rises ByPath xs → Each (λ x. Has x ys) xs → length xs ≤ length ys
room [] ys rise all = omega arith
room (x ∷ xs) ys rise all =
    let w = without x ys all.0 in
    let fewer = room xs w.rest rise.1 (below xs rise.0 all.1) in
    omega (arith, w.size, fewer)
  where
    below : (zs : Found) → Each (ByPath x) zs → Each (λ z. Has z ys) zs → Each (λ z. Has z (without x ys all.0).rest) zs
    below [] h k = tt
    below (z ∷ zs) h k = ((without x ys all.0).others z (other x z h.0) k.0, below zs h.1 k.1)

in_map : (dirs : Dirs) (e : List ℕ × Dir) → get dirs e.0 ≡ Some e.1 → Has e (entries dirs)
in_map dirs e f = found_has e.0 e.1 (entries dirs) (same_find e.0 (entries dirs) ∙ sym (get-entries dirs e.0) ∙ f)

-- there are more directories in the map than the limit
pub visited_full : (dirs : Dirs) (last : List ℕ → Dir → Bool) (path : List ℕ) (rest : List (List ℕ)) (tried limit : ℕ) → limit < tried + length (here dirs last path) → Visited dirs (path ∷ rest) tried → limit < length (entries dirs)
visited_full dirs last path rest tried limit over v =
    let all = v.seen ++ here dirs last path in
    let most = room all (entries dirs) (rise_hand dirs last path rest v.seen v.rise v.past) (each_more _ _ (λ e f. in_map dirs e f) all (there_hand dirs last path v.seen v.there)) in
    omega (arith, over, v.count, length-append v.seen (here dirs last path), most)
