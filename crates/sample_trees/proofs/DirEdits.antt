-- Edits of directories, one after another.
use Rattle.std.proofs.Common.{◌≡◌, ℕ, zero, suc, ◌+◌, ◌-◌, ◌*◌, ◌==◌, ◌<◌, ◌≤◌, ◌^◌, Bool, true, false, cond, List, [], ◌∷◌, ◌++◌, map, refl, sym, ◌∙◌, ap, subst, arith, Option, Some, None, is_some, Ok}
use Rattle.std.specs.Prelude.{fold, MatchBool}
use Rattle.std.specs.Ordering.{eq_by_cmp, is_eq, nat_cmp}
use Rattle.std.specs.Cmp.{tied_itself}
use Rattle.std.specs.Cmp.Lexicographic.{slice_cmp, nat_list_cmp_total}
use Rattle.std.specs.declared.cmp.Ordering.TheVariants.{Less, Equal, Greater}
use Rattle.std.specs.declared.cmp.Ordering.{Ordering}
use Rattle.std.specs.FinMap.{FinMap, entries, len-entries, len-empty, get, insert, remove, empty, contains_key, get_tied, get-empty, get-insert, same_map, slice_cmp-IsAntisymmetric, nat_cmp-IsAntisymmetric}
use Rattle.std.specs.List.{range_with_len}
use Rattle.std.specs.Option.{option_map_or}
use Rattle.std.proofs.lemmas.Bool.Decides.{nat_tests}
use Rattle.std.proofs.lemmas.List.{nil_from_length}
use Rattle.std.proofs.lemmas.List.FromFn.{map-range_with_len_more}
use Rattle.std.proofs.lemmas.List.Sums.{fold-append}
use Rattle.path_order.specs.declared.kind.Kind.{Kind}
use Rattle.path_order.specs.declared.kind.Kind.TheVariants.{File}
use Rattle.path_order.specs.NameList.{Listed}
use Rattle.loc_outside.specs.declared.traits.tree.Times.{Times}
use Rattle.loc_outside.specs.Edits.{changed_at, with_dir, with_name, with_times, without_name, names_at}
use Rattle.loc_outside.specs.Memory.{TreeState, with_dirs}
use Rattle.loc_outside.specs.declared.traits.tree.Listing.{Listing}
use Rattle.loc_outside.specs.declared.traits.tree.Listing.TheVariants.{Missing}
use Rattle.loc_outside.specs.Trees.{Names, Dir, Dirs, ListsBy}
use Rattle.sample_trees.specs.FirstTree.{times_at, with_listed, with_more, first_dir, first_entry, dirs_below}
use Rattle.sample_trees.specs.Naming.{numbered, added_name, numbered_from, directory_path}
use Rattle.sample_trees.specs.Numbers.{state_after, drawn}
use Rattle.sample_trees.specs.Rounds.{Edit, seconds_of, first_in, first_file, without_first_file, names_after, with_change, edited, edit_drawn, edits_drawn, after_edits, after_round, dirs_after}
use Rattle.sample_trees.proofs.Draws.{drawn-state_after}
use Rattle.sample_trees.proofs.Paths.{directory_path_injective}

tie : (r : Ordering) → is_eq r ≡ true → r ≡ Equal
tie Less e = cc
tie Equal e = refl
tie Greater e = cc

-- two texts that tie are one
pub texts_apart : (a b : List ℕ) → (a ≡ b → ⊥) → eq_by_cmp (slice_cmp nat_cmp) a b ≡ false
texts_apart a b apart = by_answer (eq_by_cmp (slice_cmp nat_cmp) a b) refl
  where
    by_answer : (t : Bool) → eq_by_cmp (slice_cmp nat_cmp) a b ≡ t → t ≡ false
    by_answer true e = absurd (apart (slice_cmp-IsAntisymmetric nat_cmp-IsAntisymmetric a b (tie (slice_cmp nat_cmp a b) e)))
    by_answer false e = refl

pub text_ties : (a : List ℕ) → eq_by_cmp (slice_cmp nat_cmp) a a ≡ true
text_ties a = ap is_eq (tied_itself nat_list_cmp_total a)

-- a second value at a key takes the place of the first
pub insert_twice : {X : Type 0} (m : FinMap (slice_cmp nat_cmp) X) (k : List ℕ) (v w : X) → insert (insert m k v) k w ≡ insert m k w
insert_twice m k v w = same_map nat_list_cmp_total (slice_cmp-IsAntisymmetric nat_cmp-IsAntisymmetric) _ _
    (λ q. get-insert nat_list_cmp_total _ k w q ∙ ap (cond (eq_by_cmp (slice_cmp nat_cmp) q k) (Some w)) (get-insert nat_list_cmp_total m k v q) ∙ shadowed (eq_by_cmp (slice_cmp nat_cmp) q k) _ _ _ ∙ sym (get-insert nat_list_cmp_total m k w q))
  where
    shadowed : {A : Type 0} (b : Bool) (x y z : A) → cond b x (cond b y z) ≡ cond b x z
    shadowed true x y z = refl
    shadowed false x y z = refl

pub get_inserted : {X : Type 0} (m : FinMap (slice_cmp nat_cmp) X) (k : List ℕ) (v : X) → get (insert m k v) k ≡ Some v
get_inserted m k v = get-insert nat_list_cmp_total m k v k ∙ ap (λ (b : Bool). cond b (Some v) (get m k)) (text_ties k)

-- what is there may be put once more
pub insert_same : {X : Type 0} (m : FinMap (slice_cmp nat_cmp) X) (k : List ℕ) (v : X) → get m k ≡ Some v → insert m k v ≡ m
insert_same {X} m k v e = same_map nat_list_cmp_total (slice_cmp-IsAntisymmetric nat_cmp-IsAntisymmetric) _ _ (λ q. get-insert nat_list_cmp_total m k v q ∙ by_answer q (eq_by_cmp (slice_cmp nat_cmp) q k) refl)
  where
    by_answer : (q : List ℕ) (t : Bool) → eq_by_cmp (slice_cmp nat_cmp) q k ≡ t → cond t (Some v) (get m q) ≡ get m q
    by_answer q true is = sym e ∙ get_tied nat_list_cmp_total m q k (tie (slice_cmp nat_cmp q k) is)
    by_answer q false is = refl

module _ (dirs : Dirs) (path : List ℕ) where
  -- an edit by what is there
  by_there : (f : Dir → Dir) (o : Option Dir) → get dirs path ≡ o → changed_at dirs path f ≡ option_map_or (λ dir. insert dirs path (f dir)) o dirs
  by_there f o e = ap (λ (o : Option Dir). option_map_or (λ dir. insert dirs path (f dir)) o dirs) e

  -- an edit of a directory that was just put
  pub changed_inserted : (dir : Dir) (f : Dir → Dir) → changed_at (insert dirs path dir) path f ≡ insert dirs path (f dir)
  changed_inserted dir f =
      ap (λ (o : Option Dir). option_map_or (λ there. insert (insert dirs path dir) path (f there)) o (insert dirs path dir)) (get_inserted dirs path dir)
      ∙ insert_twice dirs path dir (f dir)

  -- an edit that leaves the directory as it is
  pub changed_none : changed_at dirs path (λ dir. dir) ≡ dirs
  changed_none = by_answer (get dirs path) refl
    where
      by_answer : (o : Option Dir) → get dirs path ≡ o → changed_at dirs path (λ dir. dir) ≡ dirs
      by_answer None e = by_there (λ dir. dir) None e
      by_answer (Some dir) e = by_there (λ dir. dir) (Some dir) e ∙ insert_same dirs path dir e

  -- two edits of one directory are one
  pub changed_twice : (f g : Dir → Dir) → changed_at (changed_at dirs path f) path g ≡ changed_at dirs path (λ dir. g (f dir))
  changed_twice f g = by_answer (get dirs path) refl
    where
      by_answer : (o : Option Dir) → get dirs path ≡ o → changed_at (changed_at dirs path f) path g ≡ changed_at dirs path (λ dir. g (f dir))
      by_answer None e = ap (λ (d : Dirs). changed_at d path g) (by_there f None e) ∙ by_there g None e ∙ sym (by_there (λ dir. g (f dir)) None e)
      by_answer (Some dir) e = ap (λ (d : Dirs). changed_at d path g) (by_there f (Some dir) e) ∙ changed_inserted (f dir) g ∙ sym (by_there (λ dir. g (f dir)) (Some dir) e)

  -- edits that do the same to the directory that is there
  pub changed_alike : (f g : Dir → Dir) → ((dir : Dir) → get dirs path ≡ Some dir → f dir ≡ g dir) → changed_at dirs path f ≡ changed_at dirs path g
  changed_alike f g alike = by_answer (get dirs path) refl
    where
      by_answer : (o : Option Dir) → get dirs path ≡ o → changed_at dirs path f ≡ changed_at dirs path g
      by_answer None e = by_there f None e ∙ sym (by_there g None e)
      by_answer (Some dir) e = by_there f (Some dir) e ∙ ap (insert dirs path) (alike dir e) ∙ sym (by_there g (Some dir) e)

  -- where there is none, nothing changes
  pub changed_nothing : (f : Dir → Dir) → contains_key dirs path ≡ false → dirs ≡ changed_at dirs path f
  changed_nothing f e = by_answer (get dirs path) refl e
    where
      by_answer : (o : Option Dir) → get dirs path ≡ o → is_some o ≡ false → dirs ≡ changed_at dirs path f
      by_answer None is absent = sym (by_there f None is)
      by_answer (Some dir) is absent = cc

-- what a tree holds after an edit that answers whether the directory is there
pub record Changed (old new : TreeState) (path : List ℕ) (f : Dir → Dir) : Type 0 where
  pub dirs : new.dirs ≡ changed_at old.dirs path f
  pub failures : new.failures ≡ old.failures

pub changed_state : (there : Bool) (old new : TreeState) (path : List ℕ) (f : Dir → Dir) → there ≡ contains_key old.dirs path → MatchBool there (new ≡ with_dirs (changed_at old.dirs path f) old) (new ≡ old) → Changed old new path f
changed_state true old new path f is e = record { dirs = ap (λ (t : TreeState). t.dirs) e; failures = ap (λ (t : TreeState). t.failures) e }
changed_state false old new path f is e = record { dirs = ap (λ (t : TreeState). t.dirs) e ∙ changed_nothing old.dirs path f (sym is); failures = ap (λ (t : TreeState). t.failures) e }

-- one name more
pub listed_more : (letter : ℕ) (kind : Kind) (from place : ℕ) (names : Names) → insert (with_listed (numbered_from letter kind from place) names) (numbered letter (from + place)) kind ≡ with_listed (numbered_from letter kind from (place + 1)) names
listed_more letter kind from place names =
    sym (ap (λ (l : Listed). with_listed l names) (map-range_with_len_more (λ number. (numbered letter number, kind)) from place (from + place) refl)
    ∙ fold-append (λ (into : Names) (entry : List ℕ × Kind). insert into entry.0 entry.1) names (numbered_from letter kind from place) ((numbered letter (from + place), kind) ∷ []))

pub put_more : (dirs : Dirs) (path : List ℕ) (letter : ℕ) (kind : Kind) (from place : ℕ) → changed_at (changed_at dirs path (with_more (numbered_from letter kind from place))) path (with_name (numbered letter (from + place)) kind) ≡ changed_at dirs path (with_more (numbered_from letter kind from (place + 1)))
put_more dirs path letter kind from place =
    changed_twice dirs path (with_more (numbered_from letter kind from place)) (with_name (numbered letter (from + place)) kind)
    ∙ changed_alike dirs path _ (with_more (numbered_from letter kind from (place + 1))) (λ dir here. ap (λ (n : Names). record { times = dir.times; hidden = dir.hidden; names = n }) (listed_more letter kind from place dir.names))

-- a directory that is put, and its names in two parts
pub directory_put : (dirs : Dirs) (path : List ℕ) (times : Times) (a b : Listed) → get dirs path ≡ None → changed_at (changed_at (with_dir dirs path times false) path (with_more a)) path (with_more b) ≡ insert dirs path (record { times = times; hidden = false; names = with_listed (a ++ b) empty })
directory_put dirs path times a b absent =
    let bare : Names → Dir = λ n. record { times = times; hidden = false; names = n } in
    ap (λ (o : Option Dir). changed_at (changed_at (insert dirs path (bare (option_map_or (λ dir. dir.names) o empty))) path (with_more a)) path (with_more b)) absent
    ∙ ap (λ (d : Dirs). changed_at d path (with_more b)) (changed_inserted dirs path (bare empty) (with_more a))
    ∙ changed_inserted dirs path (bare (with_listed a empty)) (with_more b)
    ∙ ap (λ (n : Names). insert dirs path (bare n)) (sym (fold-append (λ (into : Names) (entry : List ℕ × Kind). insert into entry.0 entry.1) empty a b))

abbrev Into : Dirs → List ℕ × Dir → Dirs
Into into entry = insert into entry.0 entry.1

-- one directory more
pub dirs_more : (seed count : ℕ) → insert (dirs_below seed count) (directory_path count) (first_dir count (drawn seed count 8)) ≡ dirs_below seed (count + 1)
dirs_more seed count =
    sym (ap (λ (l : List (List ℕ × Dir)). fold Into empty l) (map-range_with_len_more (first_entry seed) 0 count count (omega arith))
    ∙ fold-append Into empty (map (first_entry seed) (range_with_len 0 count)) (first_entry seed count ∷ []))

-- a directory comes after those of lower numbers
pub dirs_below-lacks : (seed count number : ℕ) → count ≤ number → number < 2 ^ 64 → get (dirs_below seed count) (directory_path number) ≡ None
dirs_below-lacks seed zero number h small = get-empty (slice_cmp nat_cmp) (directory_path number)
dirs_below-lacks seed (suc count) number h small =
    let e : suc count ≡ count + 1 = omega arith in
    let apart : directory_path number ≡ directory_path count → ⊥ = λ same. absurd_number (directory_path_injective number count small (omega arith) same) in
    ap (λ (n : ℕ). get (dirs_below seed n) (directory_path number)) e
    ∙ ap (λ (d : Dirs). get d (directory_path number)) (sym (dirs_more seed count))
    ∙ get-insert nat_list_cmp_total (dirs_below seed count) (directory_path count) (first_dir count (drawn seed count 8)) (directory_path number)
    ∙ ap (λ (b : Bool). cond b (Some (first_dir count (drawn seed count 8))) (get (dirs_below seed count) (directory_path number))) (texts_apart (directory_path number) (directory_path count) apart)
    ∙ dirs_below-lacks seed count number (omega arith) small
  where
    absurd_number : number ≡ count → ⊥
    absurd_number e = omega arith

-- the changes of an edit, one by one
with_names : Dir → Names → Dir
with_names dir n = record { times = dir.times; hidden = dir.hidden; names = n }

pub adds : (dirs : Dirs) (path : List ℕ) (change : ℕ) (added : List ℕ) → change ≡ 0 → changed_at dirs path (with_name added File) ≡ changed_at dirs path (with_change change added)
unfolding with_names
adds dirs path change added e = changed_alike dirs path (with_name added File) (with_change change added) (λ dir here. ap (λ (n : ℕ). with_change n added dir) (sym e))

pub changes_nothing : (dirs : Dirs) (path : List ℕ) (change : ℕ) (added : List ℕ) → (change ≡ 0 → ⊥) → (change ≡ 1 → ⊥) → dirs ≡ changed_at dirs path (with_change change added)
unfolding with_names
changes_nothing dirs path change added not_zero not_one =
    sym (changed_none dirs path) ∙ changed_alike dirs path (λ dir. dir) (with_change change added) (λ dir here. ap (with_names dir) (sym (by_tests change added dir.names (not_equal change 0 not_zero) (not_equal change 1 not_one))))
  where
    not_equal : (a b : ℕ) → (a ≡ b → ⊥) → (a == b) ≡ false
    not_equal a b h = grind (arith, nat_tests)

    by_tests : (change : ℕ) (added : List ℕ) (names : Names) → (change == 0) ≡ false → (change == 1) ≡ false → names_after change added names ≡ names
    by_tests change added names e f = ap (λ (b : Bool). cond b (insert names added File) (cond (change == 1) (without_first_file names) names)) e ∙ ap (λ (b : Bool). cond b (without_first_file names) names) f

-- the names of a directory that is there
there_are : (dirs : Dirs) (path : List ℕ) (dir : Dir) → get dirs path ≡ Some dir → names_at dirs path ≡ dir.names
there_are dirs path dir e = ap (λ (o : Option Dir). option_map_or (λ d. d.names) o empty) e

takes_by : (names : Names) (first : Option (List ℕ)) → first_file names ≡ first → without_first_file names ≡ option_map_or (remove names) first names
takes_by names first e = ap (λ (o : Option (List ℕ)). option_map_or (remove names) o names) e

pub finds_none : (dirs : Dirs) (path : List ℕ) (change : ℕ) (added : List ℕ) → change ≡ 1 → first_file (names_at dirs path) ≡ None → dirs ≡ changed_at dirs path (with_change change added)
unfolding with_names
finds_none dirs path change added e none =
    sym (changed_none dirs path) ∙ changed_alike dirs path (λ dir. dir) (with_change change added)
    (λ dir here. sym (ap (λ (n : ℕ). with_change n added dir) e ∙ ap (with_names dir) (takes_by dir.names None (ap first_file (sym (there_are dirs path dir here)) ∙ none))))

pub takes : (dirs : Dirs) (path : List ℕ) (change : ℕ) (added name : List ℕ) → change ≡ 1 → first_file (names_at dirs path) ≡ Some name → changed_at dirs path (without_name name) ≡ changed_at dirs path (with_change change added)
unfolding with_names
takes dirs path change added name e first =
    changed_alike dirs path (without_name name) (with_change change added)
    (λ dir here. sym (ap (λ (n : ℕ). with_change n added dir) e ∙ ap (with_names dir) (takes_by dir.names (Some name) (ap first_file (sym (there_are dirs path dir here)) ∙ first))))

-- a round's edits, one more
pub edits_more : (seed before round count : ℕ) (dirs : Dirs) → after_edits (edit_drawn seed (before + 3 * count) round count ∷ []) (after_edits (edits_drawn seed before round count) dirs) ≡ after_edits (edits_drawn seed before round (count + 1)) dirs
edits_more seed before round count dirs =
    sym (ap (λ (l : List Edit). after_edits l dirs) (map-range_with_len_more (λ place. edit_drawn seed (before + 3 * place) round place) 0 count count (omega arith))
    ∙ fold-append (λ (now : Dirs) (edit : Edit). changed_at now edit.path (edited edit)) dirs (edits_drawn seed before round count) (edit_drawn seed (before + 3 * count) round count ∷ []))

-- a round that begins after other draws
pub edit_from_state : (seed before more round place : ℕ) → edit_drawn (state_after seed before) more round place ≡ edit_drawn seed (before + more) round place
unfolding edit_drawn
edit_from_state seed before more round place =
    let d = drawn-state_after seed before more 2001 in
    let c = drawn-state_after seed before (more + 1) 3 in
    let t = drawn-state_after seed before (more + 2) 8 in
    let c-at : before + (more + 1) ≡ before + more + 1 = omega arith in
    let t-at : before + (more + 2) ≡ before + more + 2 = omega arith in
    λ i. record {
      path = directory_path (d i);
      change = (c ∙ ap (λ (n : ℕ). drawn seed n 3) c-at) i;
      added = added_name round place;
      seconds = seconds_of round - (t ∙ ap (λ (n : ℕ). drawn seed n 8) t-at) i;
    }

edits_from_state : (seed before round from count : ℕ) (dirs : Dirs) →
    after_edits (map (λ place. edit_drawn (state_after seed before) (0 + 3 * place) round place) (range_with_len from count)) dirs
    ≡ after_edits (map (λ place. edit_drawn seed (before + 3 * place) round place) (range_with_len from count)) dirs
edits_from_state seed before round from zero dirs = refl
edits_from_state seed before round from (suc count) dirs =
    let e : before + (0 + 3 * from) ≡ before + 3 * from = omega arith in
    let same = edit_from_state seed before (0 + 3 * from) round from ∙ ap (λ (n : ℕ). edit_drawn seed n round from) e in
    ap (λ (edit : Edit). after_edits (map (λ place. edit_drawn (state_after seed before) (0 + 3 * place) round place) (range_with_len (from + 1) count)) (changed_at dirs edit.path (edited edit))) same
    ∙ edits_from_state seed before round (from + 1) count (changed_at dirs (edit_drawn seed (before + 3 * from) round from).path (edited (edit_drawn seed (before + 3 * from) round from)))

pub round_from_state : (seed before round : ℕ) (dirs : Dirs) → after_round (state_after seed before) 0 round dirs ≡ after_round seed before round dirs
unfolding after_round
round_from_state seed before round dirs = edits_from_state seed before round 0 10 dirs

-- an edit is a change of names, and then of times
pub edit_in_two : (dirs : Dirs) (edit : Edit) → changed_at (changed_at dirs edit.path (with_change edit.change edit.added)) edit.path (with_times (times_at edit.seconds)) ≡ after_edits (edit ∷ []) dirs
edit_in_two dirs edit = changed_twice dirs edit.path (with_change edit.change edit.added) (with_times (times_at edit.seconds))

-- an edit by what was drawn for it
pub edit_made : (dirs mid new : Dirs) (edit : Edit) (path path' added : List ℕ) (change : ℕ) (times : Times) → path ≡ edit.path → path' ≡ edit.path → added ≡ edit.added → change ≡ edit.change → times ≡ times_at edit.seconds → mid ≡ changed_at dirs path (with_change change added) → new ≡ changed_at mid path' (with_times times) → new ≡ after_edits (edit ∷ []) dirs
edit_made dirs mid new edit path path' added change times p p' a c t m n =
    n ∙ (λ i. changed_at (m i) (p' i) (with_times (t i)))
    ∙ (λ i. changed_at (changed_at dirs (p i) (with_change (c i) (a i))) edit.path (with_times (times_at edit.seconds)))
    ∙ edit_in_two dirs edit

pub edits_step : (seed round place state : ℕ) (dirs now : Dirs) → state ≡ state_after seed (3 * place) → now ≡ after_edits (edits_drawn seed 0 round place) dirs → after_edits (edit_drawn state 0 round place ∷ []) now ≡ after_edits (edits_drawn seed 0 round (place + 1)) dirs
edits_step seed round place state dirs now s d =
    let at : 3 * place + 0 ≡ 0 + 3 * place = omega arith in
    let same : edit_drawn state 0 round place ≡ edit_drawn seed (0 + 3 * place) round place =
    ap (λ (x : ℕ). edit_drawn x 0 round place) s ∙ edit_from_state seed (3 * place) 0 round place ∙ ap (λ (n : ℕ). edit_drawn seed n round place) at in
    (λ i. after_edits (same i ∷ []) (d i)) ∙ edits_more seed 0 round place dirs

-- a round more
pub round_more : (seed rounds state : ℕ) (dirs : Dirs) → state ≡ state_after seed (2001 + 30 * rounds) → dirs ≡ dirs_after seed rounds → after_round state 0 (rounds + 1) dirs ≡ dirs_after seed (rounds + 1)
unfolding dirs_after
round_more seed rounds state dirs s d =
    let next : rounds + 1 ≡ suc rounds = omega arith in
    (λ i. after_round (s i) 0 (next i) (d i)) ∙ round_from_state seed (2001 + 30 * rounds) (suc rounds) (dirs_after seed rounds) ∙ ap (dirs_after seed) (sym next)

-- where there is no directory, there is no file
pub missing_has_none : (dirs : Dirs) (path : List ℕ) → get dirs path ≡ None → first_file (names_at dirs path) ≡ None
missing_has_none dirs path e =
    let nothing : entries (empty {X = Kind} {R = slice_cmp nat_cmp}) ≡ [] =
    nil_from_length (entries (empty {X = Kind} {R = slice_cmp nat_cmp})) (sym (len-entries {R = slice_cmp nat_cmp} (empty {X = Kind})) ∙ len-empty (slice_cmp nat_cmp) Kind) in
    ap (λ (o : Option Dir). first_file (option_map_or (λ d. d.names) o empty)) e ∙ ap first_in nothing

-- and `open_dir` says that there is none
pub missing_listed : (dirs : Dirs) (path : List ℕ) (answer : Listing) (rest : Option Listed) → answer ≡ Missing → ListsBy (λ names all. names ≡ all) dirs path (Ok answer) rest → first_file (names_at dirs path) ≡ None
missing_listed dirs path answer rest is found =
    missing_has_none dirs path (subst (λ (l : Listing). ListsBy (λ names all. names ≡ all) dirs path (Ok l) rest) is found)
