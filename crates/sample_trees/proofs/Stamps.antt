-- The times of a sample's directories from round to round.
use Rattle.std.proofs.Common.{◌≡◌, ℕ, zero, suc, ◌+◌, ◌*◌, ◌-◌, ◌≤◌, ◌⊎◌, inl, inr, Bool, true, false, cond, List, [], ◌∷◌, map, refl, sym, ◌∙◌, ap, subst, arith, Option, Some, None, unwrap_or}
use Rattle.std.specs.Prelude.{nat_lt}
use Rattle.std.specs.Ordering.{eq_by_cmp, nat_cmp}
use Rattle.std.specs.Cmp.Lexicographic.{slice_cmp, nat_list_cmp_total}
use Rattle.std.specs.FinMap.{get, insert, get-empty, get-insert}
use Rattle.std.specs.List.{range_with_len}
use Rattle.std.specs.Option.{option_map_or}
use Rattle.path_order.specs.Stamp.{Moment, later_of, nanoseconds}
use Rattle.loc_outside.specs.declared.traits.tree.Times.{Times}
use Rattle.loc_outside.specs.Edits.{changed_at}
use Rattle.loc_outside.specs.Trees.{Dir, Dirs}
use Rattle.sample_trees.specs.FirstTree.{times_at, first_dirs, dirs_below, first_dir}
use Rattle.sample_trees.specs.Kept.{AllShown, changed_last, SameWhereTimesAgree}
use Rattle.sample_trees.specs.Naming.{directory_path}
use Rattle.sample_trees.specs.Numbers.{drawn, given_by}
use Rattle.sample_trees.specs.Rounds.{Edit, edited, after_edits, edit_drawn, seconds_of, after_round, dirs_after}
use Rattle.sample_trees.proofs.DirEdits.{dirs_more}

-- both times of a directory are these seconds
abbrev pub At : ℕ → Dir → Type 0
At seconds dir = dir.times ≡ times_at seconds

-- a directory that shows its names, with a time of at most these seconds
pub record Early (seconds : ℕ) (dir : Dir) : Type 0 where
  pub at : ℕ
  pub bound : at ≤ seconds
  pub times : At at dir
  pub shown : dir.hidden ≡ false

-- all directories are such
abbrev pub Until : ℕ → Dirs → Type 0
Until seconds dirs = (path : List ℕ) (dir : Dir) → get dirs path ≡ Some dir → Early seconds dir

-- a directory with a time of at least these seconds
record Late (seconds : ℕ) (there : Option Dir) : Type 0 where
  dir : Dir
  is : there ≡ Some dir
  at : ℕ
  bound : seconds ≤ at
  times : At at dir

-- each directory is as it was, or has such a time
abbrev Later : ℕ → Dirs → Dirs → Type 0
Later seconds before after = (path : List ℕ) → (get after path ≡ get before path) ⊎ Late seconds (get after path)

pub same_dir : (a b : Dir) → Some a ≡ Some b → a ≡ b
same_dir a b e = ap (λ (o : Option Dir). unwrap_or o a) e

-- what is found after a directory was put
pub by_insert : (dirs : Dirs) (key : List ℕ) (new : Dir) (path : List ℕ) → (get (insert dirs key new) path ≡ Some new) ⊎ (get (insert dirs key new) path ≡ get dirs path)
by_insert dirs key new path = by_answer (eq_by_cmp (slice_cmp nat_cmp) path key) (get-insert nat_list_cmp_total dirs key new path)
  where
    by_answer : (t : Bool) → get (insert dirs key new) path ≡ cond t (Some new) (get dirs path) → (get (insert dirs key new) path ≡ Some new) ⊎ (get (insert dirs key new) path ≡ get dirs path)
    by_answer true e = inl e
    by_answer false e = inr e

until_insert : (seconds : ℕ) (dirs : Dirs) (key : List ℕ) (new : Dir) → Until seconds dirs → Early seconds new → Until seconds (insert dirs key new)
until_insert seconds dirs key new before early path dir here =
    elim (by_insert dirs key new path) [
      | inl e ↦ subst (λ (d : Dir). Early seconds d) (same_dir new dir (sym e ∙ here)) early
      | inr e ↦ before path dir (sym e ∙ here)
    ]

-- an edit, by what is there
pub by_change : (dirs : Dirs) (path : List ℕ) (f : Dir → Dir) (P : Dirs → Type 0) → P dirs → ((dir : Dir) → get dirs path ≡ Some dir → P (insert dirs path (f dir))) → P (changed_at dirs path f)
by_change dirs path f P none some = by_answer (get dirs path) refl
  where
    by_answer : (o : Option Dir) → get dirs path ≡ o → P (option_map_or (λ dir. insert dirs path (f dir)) o dirs)
    by_answer None e = none
    by_answer (Some dir) e = some dir e

until_edit : (seconds : ℕ) (dirs : Dirs) (edit : Edit) → edit.seconds ≤ seconds → Until seconds dirs → Until seconds (changed_at dirs edit.path (edited edit))
until_edit seconds dirs edit bound before =
    by_change dirs edit.path (edited edit) (Until seconds) before
    (λ dir here. until_insert seconds dirs edit.path (edited edit dir) before (record { at = edit.seconds; bound = bound; times = refl; shown = (before edit.path dir here).shown }))

later_edit : (seconds : ℕ) (dirs : Dirs) (edit : Edit) → seconds ≤ edit.seconds → Later seconds dirs (changed_at dirs edit.path (edited edit))
later_edit seconds dirs edit bound =
    by_change dirs edit.path (edited edit) (Later seconds dirs) (λ path. inl refl)
    (λ dir here path. elim (by_insert dirs edit.path (edited edit dir) path) [
      | inl e ↦ inr (record { dir = edited edit dir; is = e; at = edit.seconds; bound = bound; times = refl })
      | inr e ↦ inl e
    ])

later_on : (seconds : ℕ) (a b c : Dirs) → Later seconds a b → Later seconds b c → Later seconds a c
later_on seconds a b c first then path =
    elim (then path) [
      | inr late ↦ inr late
      | inl e ↦ elim (first path) [
        | inl d ↦ inl (e ∙ d)
        | inr late ↦ inr (record { dir = late.dir; is = e ∙ late.is; at = late.at; bound = late.bound; times = late.times })
      ]
    ]

later_from : (low seconds : ℕ) (a b : Dirs) → low ≤ seconds → Later seconds a b → Later low a b
later_from low seconds a b h later path =
    elim (later path) [
      | inl e ↦ inl e
      | inr late ↦ inr (record { dir = late.dir; is = late.is; at = late.at; bound = (let k = late.bound in omega arith); times = late.times })
    ]

-- a round's edits, each with a time between these seconds
module _ (low high : ℕ) (edit : ℕ → Edit) (from_low : (place : ℕ) → low ≤ (edit place).seconds) (to_high : (place : ℕ) → (edit place).seconds ≤ high) where
  until_edits : (from count : ℕ) (dirs : Dirs) → Until high dirs → Until high (after_edits (map edit (range_with_len from count)) dirs)
  until_edits from zero dirs before = before
  until_edits from (suc count) dirs before = until_edits (from + 1) count (changed_at dirs (edit from).path (edited (edit from))) (until_edit high dirs (edit from) (to_high from) before)

  later_edits : (from count : ℕ) (dirs : Dirs) → Later low dirs (after_edits (map edit (range_with_len from count)) dirs)
  later_edits from zero dirs = λ path. inl refl
  later_edits from (suc count) dirs =
      let next = changed_at dirs (edit from).path (edited (edit from)) in
      later_on low dirs next _ (later_edit low dirs (edit from) (from_low from)) (later_edits (from + 1) count next)

-- a draw below 8 is at most 7
drawn-below : (seed before : ℕ) → drawn seed before 8 ≤ 7
unfolding drawn given_by
drawn-below seed before = omega arith

edit_from : (seed before round place : ℕ) → seconds_of round - 7 ≤ (edit_drawn seed before round place).seconds
unfolding edit_drawn
edit_from seed before round place = let d = drawn-below seed (before + 2) in omega arith

edit_to : (seed before round place : ℕ) → (edit_drawn seed before round place).seconds ≤ seconds_of round
unfolding edit_drawn
edit_to seed before round place = omega arith

until_round : (seed before round : ℕ) (dirs : Dirs) → Until (seconds_of round) dirs → Until (seconds_of round) (after_round seed before round dirs)
unfolding after_round
until_round seed before round dirs until =
    until_edits (seconds_of round - 7) (seconds_of round) (λ place. edit_drawn seed (before + 3 * place) round place)
    (λ place. edit_from seed (before + 3 * place) round place) (λ place. edit_to seed (before + 3 * place) round place) 0 10 dirs until

later_round : (seed before round : ℕ) (dirs : Dirs) → Later (seconds_of round - 7) dirs (after_round seed before round dirs)
unfolding after_round
later_round seed before round dirs =
    later_edits (seconds_of round - 7) (seconds_of round) (λ place. edit_drawn seed (before + 3 * place) round place)
    (λ place. edit_from seed (before + 3 * place) round place) (λ place. edit_to seed (before + 3 * place) round place) 0 10 dirs

-- the first directories all have the same time
until_below : (seed count : ℕ) → Until 1000000 (dirs_below seed count)
until_below seed zero = λ path dir here. absurd (none_is (sym (get-empty (slice_cmp nat_cmp) path) ∙ here))
  where
    none_is : {dir : Dir} → None ≡ Some dir → ⊥
    none_is e = cc
until_below seed (suc count) =
    let e : suc count ≡ count + 1 = omega arith in
    subst (λ (d : Dirs). Until 1000000 d) (dirs_more seed count ∙ ap (dirs_below seed) (sym e))
    (until_insert 1000000 (dirs_below seed count) (directory_path count) (first_dir count (drawn seed count 8)) (until_below seed count) (record { at = 1000000; bound = omega arith; times = refl; shown = refl }))

until_from : (low high : ℕ) (dirs : Dirs) → low ≤ high → Until low dirs → Until high dirs
until_from low high dirs h until path dir here =
    let early = until path dir here in
    record { at = early.at; bound = (let k = early.bound in omega arith); times = early.times; shown = early.shown }

pub until_after : (seed rounds : ℕ) → Until (seconds_of rounds) (dirs_after seed rounds)
unfolding dirs_after first_dirs seconds_of
until_after seed zero = until_from 1000000 (seconds_of zero) (dirs_below seed 2001) (omega arith) (until_below seed 2001)
until_after seed (suc rounds) =
    until_round seed (2001 + 30 * rounds) (suc rounds) (dirs_after seed rounds)
    (until_from (seconds_of rounds) (seconds_of (suc rounds)) (dirs_after seed rounds) (omega arith) (until_after seed rounds))

-- no directory is ever hidden
pub all_shown : (seed rounds : ℕ) → AllShown (dirs_after seed rounds)
all_shown seed rounds path dir here = (until_after seed rounds path dir here).shown

-- an edit hides nothing
pub shown_edit : (edit : Edit) (dirs : Dirs) → AllShown dirs → AllShown (after_edits (edit ∷ []) dirs)
shown_edit edit dirs before =
    by_change dirs edit.path (edited edit) AllShown before
    (λ there here path dir found. elim (by_insert dirs edit.path (edited edit there) path) [
      | inl e ↦ ap (λ (d : Dir). d.hidden) (sym (same_dir (edited edit there) dir (sym e ∙ found))) ∙ before edit.path there here
      | inr e ↦ before path dir (sym e ∙ found)
    ])

-- what changes in later rounds has a time later than all before
later_after : (seed rounds more : ℕ) → Later (seconds_of rounds + 93) (dirs_after seed rounds) (dirs_after seed (rounds + more))
unfolding dirs_after seconds_of
later_after seed rounds zero =
    let e : rounds ≡ rounds + zero = omega arith in
    λ path. inl (ap (λ (n : ℕ). get (dirs_after seed n) path) (sym e))
later_after seed rounds (suc more) =
    let e : suc (rounds + more) ≡ rounds + suc more = omega arith in
    subst (λ (n : ℕ). Later (seconds_of rounds + 93) (dirs_after seed rounds) (dirs_after seed n)) e
    (later_on (seconds_of rounds + 93) (dirs_after seed rounds) (dirs_after seed (rounds + more)) (dirs_after seed (suc (rounds + more))) (later_after seed rounds more)
    (later_from (seconds_of rounds + 93) (seconds_of (suc (rounds + more)) - 7) (dirs_after seed (rounds + more)) (dirs_after seed (suc (rounds + more))) (omega arith)
    (later_round seed (2001 + 30 * (rounds + more)) (suc (rounds + more)) (dirs_after seed (rounds + more)))))

-- the later of two equal times
pub later_same : (m : Moment) → later_of m m ≡ m
later_same m = elim (nat_lt (nanoseconds m) (nanoseconds m)) as (λ b. cond b m m ≡ m) [ true ↦ refl | false ↦ refl ]

last_at : (seconds : ℕ) (dir : Dir) → At seconds dir → (changed_last dir).seconds ≡ seconds
last_at seconds dir at =
    ap (λ (t : Times). (later_of t.modified t.changed).seconds) at ∙ ap (λ (m : Moment). m.seconds) (later_same (record { seconds = seconds; nanos = 0 }))

pub same_where_times_agree : (seed earlier later : ℕ) → earlier ≤ later → SameWhereTimesAgree (dirs_after seed earlier) (dirs_after seed later)
same_where_times_agree seed earlier later h path old new was is times =
    let e : earlier + (later - earlier) ≡ later = omega arith in
    let moved = subst (λ (n : ℕ). Later (seconds_of earlier + 93) (dirs_after seed earlier) (dirs_after seed n)) e (later_after seed earlier (later - earlier)) in
    let before = until_after seed earlier path old was in
    elim (moved path) [
      | inl same ↦ same_dir old new (sym was ∙ sym same ∙ is)
      | inr late ↦
          let at : before.at ≡ late.at =
          sym (last_at before.at old before.times) ∙ ap (λ (m : Moment). m.seconds) times ∙ ap (λ (d : Dir). (changed_last d).seconds) (same_dir new late.dir (sym is ∙ late.is)) ∙ last_at late.at late.dir late.times in
          absurd (apart before.at late.at (seconds_of earlier) before.bound late.bound at)
    ]
  where
    apart : (a b c : ℕ) → a ≤ c → c + 93 ≤ b → a ≡ b → ⊥
    apart a b c low high e = omega arith
