-- How large a sample is.
use Rattle.std.proofs.Common.{◌≡◌, ℕ, zero, suc, ◌+◌, ◌*◌, ◌-◌, ◌<◌, ◌≤◌, min, inl, inr, Bool, true, false, cond, eqb, List, [], ◌∷◌, length, length-append, refl, sym, ◌∙◌, ap, subst, arith, Option, Some, None, IsSome}
use Rattle.std.specs.Prelude.{is_some}
use Rattle.std.specs.Cmp.Lexicographic.{slice_cmp, nat_list_cmp_total}
use Rattle.std.specs.FinMap.{empty, get, get-empty, insert, len, len-empty, len-entries, len-insert, len-remove, remove}
use Rattle.std.specs.Ordering.{nat_cmp}
use Rattle.std.specs.Option.{option_map_or}
use Rattle.std.proofs.lemmas.List.FromFn.{length-map-range_with_len}
use Rattle.path_order.specs.declared.kind.Kind.{Kind}
use Rattle.path_order.specs.declared.kind.Kind.TheVariants.{File, Directory}
use Rattle.path_order.specs.NameList.{Listed}
use Rattle.loc_outside.specs.Edits.{changed_at}
use Rattle.loc_outside.specs.Trees.{Dir, Dirs, Names}
use Rattle.sample_trees.specs.FirstTree.{dirs_below, first_dir, first_dirs, first_names, with_listed}
use Rattle.sample_trees.specs.Naming.{directory_path, numbered, numbered_from}
use Rattle.sample_trees.specs.Numbers.{drawn, given_by}
use Rattle.sample_trees.specs.Rounds.{Edit, after_edits, after_round, dirs_after, edited, edits_drawn, first_file, names_after, without_first_file}
use Rattle.sample_trees.specs.Sizes.{IsSmall}
use Rattle.sample_trees.proofs.DirEdits.{dirs_more, get_inserted}
use Rattle.sample_trees.proofs.Paths.{path_of_root}
use Rattle.sample_trees.proofs.Stamps.{by_change, by_insert, same_dir}

-- ---- names

insert_adds : (names : Names) (name : List ℕ) (kind : Kind) → len (insert names name kind) ≤ len names + 1
insert_adds names name kind = by _ (len-insert nat_list_cmp_total names name kind)
  where
    by : (there : Bool) → len (insert names name kind) ≡ cond there (len names) (len names + 1) → len (insert names name kind) ≤ len names + 1
    by true e = omega (arith, e)
    by false e = omega (arith, e)

remove_takes : (names : Names) (name : List ℕ) → len (remove names name) ≤ len names
remove_takes names name = by _ (len-remove nat_list_cmp_total names name)
  where
    by : (there : Bool) → len (remove names name) ≡ cond there (len names - 1) (len names) → len (remove names name) ≤ len names
    by true e = omega (arith, e)
    by false e = omega (arith, e)

listed_adds : (listed : Listed) (names : Names) → len (with_listed listed names) ≤ len names + length listed
listed_adds [] names = omega arith
listed_adds (n ∷ listed) names =
    let rest = listed_adds listed (insert names n.0 n.1) in
    let one = insert_adds names n.0 n.1 in
    omega (arith, rest, one)

no_names : len (empty {X = Kind} {R = slice_cmp nat_cmp}) ≡ 0
no_names = len-empty (slice_cmp nat_cmp) Kind

first_few : (number files : ℕ) → files < 8 → length (first_names number files) ≤ 15
first_few number files h =
    let all : length (first_names number files) ≡ length (numbered_from 102 File 0 files) + length (numbered_from 100 Directory (8 * number + 1) (min 8 (2000 - 8 * number))) =
    length-append (numbered_from 102 File 0 files) (numbered_from 100 Directory (8 * number + 1) (min 8 (2000 - 8 * number))) in
    let a : length (numbered_from 102 File 0 files) ≡ files = length-map-range_with_len (λ (n : ℕ). (numbered 102 n, File)) 0 files in
    let b : length (numbered_from 100 Directory (8 * number + 1) (min 8 (2000 - 8 * number))) ≡ min 8 (2000 - 8 * number) = length-map-range_with_len (λ (n : ℕ). (numbered 100 n, Directory)) (8 * number + 1) (min 8 (2000 - 8 * number)) in
    omega (arith, all, a, b, h)

drawn_less : (seed number : ℕ) → drawn seed number 8 < 8
unfolding drawn given_by
drawn_less seed number = omega arith

first_names_few : (seed number : ℕ) → len (first_dir number (drawn seed number 8)).names ≤ 15
first_names_few seed number =
    let listed = listed_adds (first_names number (drawn seed number 8)) empty in
    let few = first_few number (drawn seed number 8) (drawn_less seed number) in
    let none = no_names in
    omega (arith, listed, few, none)

first_file_taken : (names : Names) → len (without_first_file names) ≤ len names
first_file_taken names = by (first_file names)
  where
    by : (first : Option (List ℕ)) → len (option_map_or (remove names) first names) ≤ len names
    by None = omega arith
    by (Some name) = remove_takes names name

change_adds : (change : ℕ) (added : List ℕ) (names : Names) → len (names_after change added names) ≤ len names + 1
change_adds change added names = by (eqb change 0) (eqb change 1)
  where
    by : (a b : Bool) → len (cond a (insert names added File) (cond b (without_first_file names) names)) ≤ len names + 1
    by true b = insert_adds names added File
    by false true = let k = first_file_taken names in omega (arith, k)
    by false false = omega arith

-- ---- directories

-- no directory has more names
abbrev Narrow : ℕ → Dirs → Type 0
Narrow names dirs = (path : List ℕ) (dir : Dir) → get dirs path ≡ Some dir → len dir.names ≤ names

narrow_insert : (names : ℕ) (dirs : Dirs) (key : List ℕ) (new : Dir) → Narrow names dirs → len new.names ≤ names → Narrow names (insert dirs key new)
narrow_insert names dirs key new before few path dir here =
    elim (by_insert dirs key new path) [
      | inl e ↦ subst (λ (d : Dir). len d.names ≤ names) (same_dir new dir (sym e ∙ here)) few
      | inr e ↦ before path dir (sym e ∙ here)
    ]

narrow_from : (few many : ℕ) (dirs : Dirs) → few ≤ many → Narrow few dirs → Narrow many dirs
narrow_from few many dirs h before path dir here = let k = before path dir here in omega (arith, k, h)

there_still : (dirs : Dirs) (key : List ℕ) (new : Dir) (path : List ℕ) → IsSome (get dirs path) → IsSome (get (insert dirs key new) path)
there_still dirs key new path there =
    elim (by_insert dirs key new path) [
      | inl e ↦ subst (λ (o : Option Dir). IsSome o) (sym e) refl
      | inr e ↦ subst (λ (o : Option Dir). IsSome o) (sym e) there
    ]

count_adds : (dirs : Dirs) (key : List ℕ) (new : Dir) → len (insert dirs key new) ≤ len dirs + 1
count_adds dirs key new = by _ (len-insert nat_list_cmp_total dirs key new)
  where
    by : (there : Bool) → len (insert dirs key new) ≡ cond there (len dirs) (len dirs + 1) → len (insert dirs key new) ≤ len dirs + 1
    by true e = omega (arith, e)
    by false e = omega (arith, e)

count_stays : (dirs : Dirs) (key : List ℕ) (old new : Dir) → get dirs key ≡ Some old → len (insert dirs key new) ≡ len dirs
count_stays dirs key old new there = by (get dirs key) there (len-insert nat_list_cmp_total dirs key new)
  where
    by : (o : Option Dir) → o ≡ Some old → len (insert dirs key new) ≡ cond (is_some o) (len dirs) (len dirs + 1) → len (insert dirs key new) ≡ len dirs
    by None e k = absurd cc
    by (Some d) e k = k

record Small (names count : ℕ) (dirs : Dirs) : Type 0 where
  root : IsSome (get dirs (47 ∷ []))
  few : len dirs ≤ count
  narrow : Narrow names dirs

-- ---- before any edit

below_narrow : (seed count : ℕ) → Narrow 15 (dirs_below seed count)
below_narrow seed zero = λ path dir here. absurd (let none : None ≡ Some dir = sym (get-empty (slice_cmp nat_cmp) path) ∙ here in cc)
below_narrow seed (suc count) =
    let e : count + 1 ≡ suc count = omega arith in
    subst (λ (d : Dirs). Narrow 15 d) (dirs_more seed count ∙ ap (dirs_below seed) e)
    (narrow_insert 15 (dirs_below seed count) (directory_path count) (first_dir count (drawn seed count 8)) (below_narrow seed count) (first_names_few seed count))

no_dirs : len (empty {X = Dir} {R = slice_cmp nat_cmp}) ≡ 0
no_dirs = len-empty (slice_cmp nat_cmp) Dir

below_few : (seed count : ℕ) → len (dirs_below seed count) ≤ count
below_few seed zero = let k = no_dirs in omega (arith, k)
below_few seed (suc count) =
    let e : count + 1 ≡ suc count = omega arith in
    let rest = below_few seed count in
    let one = count_adds (dirs_below seed count) (directory_path count) (first_dir count (drawn seed count 8)) in
    let same : len (insert (dirs_below seed count) (directory_path count) (first_dir count (drawn seed count 8))) ≡ len (dirs_below seed (suc count)) = ap len (dirs_more seed count ∙ ap (dirs_below seed) e) in
    omega (arith, rest, one, same)

below_root : (seed count : ℕ) → IsSome (get (dirs_below seed (suc count)) (47 ∷ []))
below_root seed zero =
    let e : 0 + 1 ≡ suc zero = omega arith in
    let first = first_dir 0 (drawn seed 0 8) in
    let put = insert (dirs_below seed 0) (directory_path 0) first in
    let found : get put (47 ∷ []) ≡ Some first = ap (get put) (sym (path_of_root 0 refl)) ∙ get_inserted (dirs_below seed 0) (directory_path 0) first in
    subst (λ (d : Dirs). IsSome (get d (47 ∷ []))) (dirs_more seed 0 ∙ ap (dirs_below seed) e) (subst (λ (o : Option Dir). IsSome o) (sym found) refl)
below_root seed (suc count) =
    let e : suc count + 1 ≡ suc (suc count) = omega arith in
    subst (λ (d : Dirs). IsSome (get d (47 ∷ []))) (dirs_more seed (suc count) ∙ ap (dirs_below seed) e)
    (there_still (dirs_below seed (suc count)) (directory_path (suc count)) (first_dir (suc count) (drawn seed (suc count) 8)) (47 ∷ []) (below_root seed count))

-- ---- edits

small_edit : (names count : ℕ) (dirs : Dirs) (edit : Edit) → Small names count dirs → Small (names + 1) count (changed_at dirs edit.path (edited edit))
small_edit names count dirs edit before =
    by_change dirs edit.path (edited edit) (Small (names + 1) count) (record { root = before.root; few = before.few; narrow = narrow_from names (names + 1) dirs (omega arith) before.narrow })
    (λ dir there. record {
      root = there_still dirs edit.path (edited edit dir) (47 ∷ []) before.root;
      few = (let k = before.few in let e = count_stays dirs edit.path dir (edited edit dir) there in omega (arith, k, e));
      narrow = narrow_insert (names + 1) dirs edit.path (edited edit dir) (narrow_from names (names + 1) dirs (omega arith) before.narrow)
          (let k = change_adds edit.change edit.added dir.names in let n = before.narrow edit.path dir there in omega (arith, k, n));
    })

small_edits : (names count : ℕ) (edits : List Edit) (dirs : Dirs) → Small names count dirs → Small (names + length edits) count (after_edits edits dirs)
small_edits names count [] dirs before = subst (λ (n : ℕ). Small n count dirs) (omega arith) before
small_edits names count (edit ∷ edits) dirs before =
    subst (λ (n : ℕ). Small n count (after_edits (edit ∷ edits) dirs)) (omega arith)
    (small_edits (names + 1) count edits (changed_at dirs edit.path (edited edit)) (small_edit names count dirs edit before))

small_round : (names seed before round : ℕ) (dirs : Dirs) → Small names 2001 dirs → Small (names + 10) 2001 (after_round seed before round dirs)
unfolding after_round
small_round names seed before round dirs small =
    let ten : length (edits_drawn seed before round 10) ≡ 10 = refl in
    subst (λ (n : ℕ). Small (names + n) 2001 (after_edits (edits_drawn seed before round 10) dirs)) ten (small_edits names 2001 (edits_drawn seed before round 10) dirs small)

small_after : (seed rounds : ℕ) → Small (15 + 10 * rounds) 2001 (dirs_after seed rounds)
unfolding dirs_after first_dirs
small_after seed zero = record { root = below_root seed 2000; few = below_few seed 2001; narrow = below_narrow seed 2001 }
small_after seed (suc rounds) =
    subst (λ (n : ℕ). Small n 2001 (after_round seed (2001 + 30 * rounds) (suc rounds) (dirs_after seed rounds))) (omega arith)
    (small_round (15 + 10 * rounds) seed (2001 + 30 * rounds) (suc rounds) (dirs_after seed rounds) (small_after seed rounds))

pub is_small : (seed rounds : ℕ) → IsSmall (15 + 10 * rounds) (dirs_after seed rounds)
is_small seed rounds =
    let small = small_after seed rounds in
    record {
      root_there = small.root;
      few = subst (λ (n : ℕ). n ≤ 2001) (len-entries (dirs_after seed rounds)) small.few;
      narrow = λ path dir here. subst (λ (n : ℕ). n ≤ 15 + 10 * rounds) (len-entries dir.names) (small.narrow path dir here);
    }
