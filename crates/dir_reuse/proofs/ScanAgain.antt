-- Which directories of a scan its records vouch for while the tree stays the same: those whose time was written.
use Rattle.std.proofs.Common.{◌≡◌, ℕ, Bool, true, false, cond, eqb, not, ◌&&◌, ◌||◌, List, [], ◌∷◌, map, filter, Some, None, refl, sym, ap, ◌∙◌, subst, inl, inr, ◌⊎◌}
use Rattle.std.specs.List.{list_any}
use Rattle.std.specs.Option.{option_map_or}
use Rattle.std.specs.Str.{bytes_eq}
use Rattle.std.specs.Cmp.Lexicographic.{bytes_decides}
use Rattle.std.specs.FinMap.{get}
use Rattle.std.proofs.lemmas.Bool.{and_from, and_parts, eq-eqb, eqb-true, or_cases}
use Rattle.path_order.specs.Stamp.{Moment, is_recent}
use Rattle.loc_outside.specs.Trees.{Dir, Dirs}
use Rattle.tree_scan.specs.Blocks.{scan_text, time_of, zero_moment}
use Rattle.tree_scan.specs.Plan.{Plan}
use Rattle.tree_scan.specs.Reach.{is_open, reached}
use Rattle.tree_scan.specs.Records.{Record, bears, is_moment, is_vouched, is_zero, unvouched}
use Rattle.tree_scan.proofs.Lists.{Each, Has, each_both, each_more}
use Rattle.dir_reuse.specs.Scanned.{scanned, stamp_in, IsWholeScan, HaveFewNames}
use Rattle.dir_reuse.specs.Usable.{records}
use Rattle.dir_reuse.proofs.Reached.{IsFound, led_found}
use Rattle.dir_reuse.proofs.ScanRecords.{scan_records}

-- ---- what a record bears

either_way : (a b : Bool) → (a ≡ true → b ≡ true) → (b ≡ true → a ≡ true) → a ≡ b
either_way true b f g = sym (f refl)
either_way false true f g = g refl
either_way false false f g = refl

not_both : (a b : Bool) → a ≡ b → (a && not b) ≡ false
not_both true b e = ap not (sym e)
not_both false b e = refl

turned : (n : ℕ) → eqb 0 n ≡ eqb n 0
turned n = either_way _ _ (λ e. eq-eqb n 0 (sym (eqb-true 0 n e))) (λ e. eq-eqb 0 n (sym (eqb-true n 0 e)))

-- a zero time bears no time
zero_bears_none : (t : Moment) (on : Bool) → (is_moment zero_moment t && not (is_zero t) && on) ≡ false
zero_bears_none t on = ap (λ (b : Bool). b && on) (not_both (is_moment zero_moment t) (is_zero t) (λ i. turned t.seconds i && turned t.nanos i))

own_moment : (t : Moment) → is_moment t t ≡ true
own_moment t = and_from _ _ (eq-eqb t.seconds t.seconds refl) (eq-eqb t.nanos t.nanos refl)

bears_by : (recent : Bool) (t : Moment) (on : Bool) → on ≡ true → (is_moment (cond recent zero_moment t) t && not (is_zero t) && on) ≡ not (is_zero (cond recent zero_moment t))
bears_by true t on e = zero_bears_none t on
bears_by false t on e = rw (own_moment t, e) (by (not (is_zero t)))
  where
    by : (b : Bool) → (true && b && true) ≡ b
    by true = refl
    by false = refl

same_device : (one : Bool) (device : ℕ) → option_map_or (λ d. eqb d device) (cond one (Some device) None) true ≡ true
same_device true device = eq-eqb device device refl
same_device false device = refl

own_bears : (plan : Plan) (now : Moment) (e : List ℕ × Dir) → bears (scanned plan now e) (time_of e.1.times) (plan.device_of e.0) ≡ not (is_zero (stamp_in plan now e))
own_bears plan now e = bears_by (is_recent (time_of e.1.times) now plan.margin) (time_of e.1.times) _ (same_device (eqb plan.version 1) (plan.device_of e.0))

-- ---- the one of a path

some_is : {A : Type 0} (x y : A) → Some x ≡ Some y → x ≡ y
some_is x y e = cc

one_path : (dirs : Dirs) (pruned : List ℕ → Bool) (x e : List ℕ × Dir) → IsFound dirs (is_open pruned) x → IsFound dirs (is_open pruned) e → x.0 ≡ e.0 → x ≡ e
one_path dirs pruned x e f g same =
    let dir : x.1 ≡ e.1 = some_is x.1 e.1 (sym f.found ∙ ap (get dirs) same ∙ g.found) in
    λ i. (same i, dir i)

abbrev Passes : Plan → Moment → List ℕ × Dir → Record → Bool
Passes plan now e r = bytes_eq r.path e.0 && bears r (time_of e.1.times) (plan.device_of e.0)

any_bears : (plan : Plan) (now : Moment) (e : List ℕ × Dir) (xs : List (List ℕ × Dir)) → Each (λ (x : List ℕ × Dir). x.0 ≡ e.0 → x ≡ e) xs → list_any (Passes plan now e) (map (scanned plan now) xs) ≡ true
    → bears (scanned plan now e) (time_of e.1.times) (plan.device_of e.0) ≡ true
any_bears plan now e [] one t = absurd cc
any_bears plan now e (x ∷ xs) one t = by (or_cases (Passes plan now e (scanned plan now x)) _ t) (λ later. any_bears plan now e xs one.1 later)
  where
    by : (Passes plan now e (scanned plan now x) ≡ true) ⊎ (list_any (Passes plan now e) (map (scanned plan now) xs) ≡ true)
        → (list_any (Passes plan now e) (map (scanned plan now) xs) ≡ true → bears (scanned plan now e) (time_of e.1.times) (plan.device_of e.0) ≡ true) → bears (scanned plan now e) (time_of e.1.times) (plan.device_of e.0) ≡ true
    by (inl here) others =
        let p = and_parts (bytes_eq x.0 e.0) _ here in
        subst (λ (y : List ℕ × Dir). bears (scanned plan now y) (time_of e.1.times) (plan.device_of e.0) ≡ true) (one.0 ((bytes_decides x.0 e.0).0 p.0)) p.1
    by (inr later) others = others later

or_first : (a b : Bool) → a ≡ true → (a || b) ≡ true
or_first true b e = refl
or_first false b e = absurd cc

or_second : (a b : Bool) → b ≡ true → (a || b) ≡ true
or_second true b e = refl
or_second false b e = e

has_bears : (plan : Plan) (now : Moment) (e : List ℕ × Dir) (xs : List (List ℕ × Dir)) → Has e xs → bears (scanned plan now e) (time_of e.1.times) (plan.device_of e.0) ≡ true → list_any (Passes plan now e) (map (scanned plan now) xs) ≡ true
has_bears plan now e [] h t = absurd h
has_bears plan now e (x ∷ xs) (inl same) t =
    or_first _ _ (subst (λ (y : List ℕ × Dir). Passes plan now e (scanned plan now y) ≡ true) same (and_from (bytes_eq e.0 e.0) _ ((bytes_decides e.0 e.0).1 refl) t))
has_bears plan now e (x ∷ xs) (inr h) t = or_second (Passes plan now e (scanned plan now x)) _ (has_bears plan now e xs h t)

vouched_is : (dirs : Dirs) (plan : Plan) (now : Moment) (all : List (List ℕ × Dir)) (e : List ℕ × Dir) → Each (IsFound dirs (is_open plan.pruned)) all → Has e all → IsFound dirs (is_open plan.pruned) e
    → is_vouched (map (scanned plan now) all) e.0 (time_of e.1.times) (plan.device_of e.0) ≡ not (is_zero (stamp_in plan now e))
vouched_is dirs plan now all e found there f =
    either_way (list_any (Passes plan now e) (map (scanned plan now) all)) _
    (any_bears plan now e all (each_more (IsFound dirs (is_open plan.pruned)) (λ (x : List ℕ × Dir). x.0 ≡ e.0 → x ≡ e) (λ x g same. one_path dirs plan.pruned x e g f same) all found))
    (has_bears plan now e all there)
    ∙ own_bears plan now e

-- ---- all

members : {A : Type 0} (xs : List A) → Each (λ x. Has x xs) xs
members [] = tt
members {A = A} (x ∷ xs) = (inl refl, each_more (λ y. Has y xs) (λ y. Has y (x ∷ xs)) (λ y h. inr h) xs (members xs))

filter_same : {A : Type 0} (p q : A → Bool) (xs : List A) → Each (λ x. p x ≡ q x) xs → filter p xs ≡ filter q xs
filter_same p q [] h = refl
filter_same p q (x ∷ xs) h = λ i. cond (h.0 i) (x ∷ filter_same p q xs h.1 i) (filter_same p q xs h.1 i)

not_twice : (b : Bool) → not (not b) ≡ b
not_twice true = refl
not_twice false = refl

pub scan_unvouched : (dirs : Dirs) (plan : Plan) (now : Moment) → IsWholeScan dirs plan now → HaveFewNames (reached dirs plan.pruned plan.root)
    → unvouched (records plan.root plan.block (scan_text dirs plan now)) plan (reached dirs plan.pruned plan.root) ≡ filter (λ e. is_zero (stamp_in plan now e)) (reached dirs plan.pruned plan.root)
scan_unvouched dirs plan now w few =
    let all = reached dirs plan.pruned plan.root in
    let found = led_found dirs plan.pruned (is_open plan.pruned) plan.root w.planned.root in
    ap (λ (rs : List Record). unvouched rs plan all) (scan_records dirs plan now w few)
    ∙ filter_same (λ (e : List ℕ × Dir). not (is_vouched (map (scanned plan now) all) e.0 (time_of e.1.times) (plan.device_of e.0))) (λ (e : List ℕ × Dir). is_zero (stamp_in plan now e)) all
    (each_more (λ (e : List ℕ × Dir). Has e all × IsFound dirs (is_open plan.pruned) e) _ (λ e h. ap not (vouched_is dirs plan now all e found h.0 h.1) ∙ not_twice (is_zero (stamp_in plan now e))) all
    (each_both (λ (e : List ℕ × Dir). Has e all) (IsFound dirs (is_open plan.pruned)) all (members all) found))
