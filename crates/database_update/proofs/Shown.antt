-- The tried directories that show their names are the reached ones.
use Rattle.std.specs.Prelude.{IsSomeAnd, slice_get, not, ◌&&◌}
use Rattle.std.proofs.Common.{Bool, true, false, ◌≡◌, ℕ, zero, suc, ◌≤◌, ◌<◌, List, [], ◌∷◌, ◌++◌, length, filter, flat_map, cond, refl, sym, ap, subst, ◌∙◌, Option, Some, None, arith}
use Rattle.std.proofs.lemmas.List.Elements.{All-head, All-tail}
use Rattle.std.specs.FinMap.{entries, get}
use Rattle.std.specs.Option.{option_map_or}
use Rattle.loc_outside.specs.Trees.{Dir, Dirs}
use Rattle.tree_scan.specs.Plan.{Plan}
use Rattle.tree_scan.specs.Reach.{is_open, is_tried, reached, tried}
use Rattle.tree_scan.specs.Steps.{here, next, subtree, walk}
use Rattle.tree_scan.specs.Stops.{Narrow}
use Rattle.tree_scan.proofs.Same.{walk_is_led}
use Rattle.tree_scan.proofs.TreeAnswers.{filter_append, one}

abbrev Found : Type 0
Found = List (List ℕ × Dir)

abbrev shows : List ℕ × Dir → Bool
shows e = not e.1.hidden

here_shown : (dirs : Dirs) (pruned : List ℕ → Bool) (path : List ℕ) → here dirs (is_open pruned) path ≡ filter shows (here dirs (is_tried pruned) path)
here_shown dirs pruned path = by (get dirs path)
  where
    inner : (dir : Dir) (a : Bool) → cond (not a && not dir.hidden) (one path dir) [] ≡ filter shows (cond (not a) (one path dir) [])
    inner dir true = refl
    inner dir false = refl

    by : (o : Option Dir) → option_map_or (λ d. cond (is_open pruned path d) (one path d) []) o [] ≡ filter shows (option_map_or (λ d. cond (is_tried pruned path d) (one path d) []) o [])
    by None = refl
    by (Some dir) = inner dir (pruned path)

filter_flat : (f g : List ℕ → Found) → ((path : List ℕ) → f path ≡ filter shows (g path)) → (paths : List (List ℕ)) → flat_map f paths ≡ filter shows (flat_map g paths)
filter_flat f g same [] = refl
filter_flat f g same (path ∷ paths) = (λ i. same path i ++ filter_flat f g same paths i) ∙ sym (filter_append shows (g path) (flat_map g paths))

walk_shown : (dirs : Dirs) (pruned : List ℕ → Bool) (k : ℕ) (path : List ℕ) → walk dirs pruned (is_open pruned) k path ≡ filter shows (walk dirs pruned (is_tried pruned) k path)
unfolding walk
walk_shown dirs pruned zero path = refl
walk_shown dirs pruned (suc k) path =
    (λ i. here_shown dirs pruned path i ++ filter_flat (walk dirs pruned (is_open pruned) k) (walk dirs pruned (is_tried pruned) k) (walk_shown dirs pruned k) (next dirs pruned path) i)
    ∙ sym (filter_append shows (here dirs (is_tried pruned) path) (flat_map (walk dirs pruned (is_tried pruned) k) (next dirs pruned path)))

subtree_shown : (dirs : Dirs) (pruned : List ℕ → Bool) (path : List ℕ) → subtree dirs pruned (is_open pruned) path ≡ filter shows (subtree dirs pruned (is_tried pruned) path)
unfolding subtree
subtree_shown dirs pruned path = walk_shown dirs pruned 4097 path

reached_shown : (dirs : Dirs) (pruned : List ℕ → Bool) (root : List ℕ) → length root ≤ 4096 → reached dirs pruned root ≡ filter shows (tried dirs pruned root)
reached_shown dirs pruned root fits =
    sym (walk_is_led dirs pruned (is_open pruned) root fits) ∙ subtree_shown dirs pruned root ∙ ap (filter shows) (walk_is_led dirs pruned (is_tried pruned) root fits)

none_wide : (limit count : ℕ) (es : Found) → Narrow limit (filter shows es) → IsSomeAnd (slice_get es count) (λ e. (e.1.hidden ≡ false) × (limit < length (entries e.1.names))) → ⊥
none_wide limit count [] n wide = absurd wide
none_wide limit zero (e ∷ es) n wide =
    let few : length (entries e.1.names) ≤ limit = small e.1.hidden wide.0 n in
    let more : limit < length (entries e.1.names) = wide.1 in
    omega arith
  where
    small : (b : Bool) → b ≡ false → Narrow limit (cond (not b) (e ∷ filter shows es) (filter shows es)) → length (entries e.1.names) ≤ limit
    small true is h = absurd cc
    small false is h = All-head (λ (x : List ℕ × Dir). length (entries x.1.names) ≤ limit) e (filter shows es) h
none_wide limit (suc count) (e ∷ es) n wide = none_wide limit count es (rest e.1.hidden n) wide
  where
    rest : (b : Bool) → Narrow limit (cond (not b) (e ∷ filter shows es) (filter shows es)) → Narrow limit (filter shows es)
    rest true h = h
    rest false h = All-tail (λ (x : List ℕ × Dir). length (entries x.1.names) ≤ limit) e (filter shows es) h

-- where each reached directory has few names, no tried one that shows its names has many
pub narrow_stops : (dirs : Dirs) (plan : Plan) (limit count : ℕ) → length plan.root ≤ 4096 → Narrow limit (reached dirs plan.pruned plan.root)
    → IsSomeAnd (slice_get (tried dirs plan.pruned plan.root) count) (λ e. (e.1.hidden ≡ false) × (limit < length (entries e.1.names))) → ⊥
narrow_stops dirs plan limit count fits narrow wide =
    none_wide limit count (tried dirs plan.pruned plan.root) (subst (Narrow limit) (reached_shown dirs plan.pruned plan.root fits) narrow) wide
