-- Look-ups and edits of directories in a list.
use Rattle.std.proofs.Common.{◌≡◌, ℕ, zero, suc, ◌+◌, ◌<◌, ◌≤◌, drop, true, false, List, [], ◌∷◌, length, get_or, slice_get, refl, sym, ◌∙◌, ap, subst, arith, Option, Some, None, is_some, IsSomeAnd, nat_cmp}
use Rattle.std.proofs.Math.ListN.{set}
use Rattle.std.specs.Cmp.Lexicographic.{slice_cmp}
use Rattle.std.specs.FinMap as fin
use Rattle.std.specs.List.{insert}
use Rattle.std.specs.Option.{option_map, option_map_or}
use Rattle.path_order.specs.declared.kind.Kind.{Kind}
use Rattle.path_order.specs.NameList.{Listed}
use Rattle.loc_outside.specs.declared.memory.dir_map.TreeDir.{TreeDir}
use Rattle.loc_outside.specs.declared.memory.keyed.Keyed.{Keyed}
use Rattle.loc_outside.specs.DirMap.{dir_of, dirs_of, dir_at, rest_of}
use Rattle.loc_outside.specs.Edits.{with_dir, changed_at}
use Rattle.loc_outside.specs.Keyed.{pairs_by, KeysRise, IsAt, IsGap}
use Rattle.loc_outside.specs.Trees.{Names, Dir, Dirs}
use Rattle.loc_outside.proofs.KeyedLemmas.{gap_apart, find_at, find_apart, put_at, put_gap}
use Rattle.loc_outside.proofs.KeyedMaps.{entries_are, get_is, get_pair, put_rises, map_put}

-- a list of directories, and the same list lent, with the map that a contract sees
pub record Seen (items lent : List (Keyed TreeDir)) (dirs : Dirs) : Type 0 where
  pub view : dirs_of items ≡ dirs
  pub rise : KeysRise items
  pub same : lent ≡ items

module _ (items lent : List (Keyed TreeDir)) (dirs : Dirs) (seen : Seen items lent dirs) (path : List ℕ) (place : ℕ) where
  abbrev Here : Type 0
  Here = IsAt items path place

  pub here_of : IsAt lent path place → Here
  here_of here = subst (λ (l : List (Keyed TreeDir)). IsAt l path place) seen.same here

  pub get_none : IsGap lent path place → fin.get dirs path ≡ None
  get_none gap =
      ap (λ (m : Dirs). fin.get m path) (sym seen.view) ∙ get_is dir_of items path seen.rise
      ∙ find_apart dir_of items path (gap_apart items path place (subst (λ (l : List (Keyed TreeDir)). IsGap l path place) seen.same gap))

  pub get_some : IsAt lent path place → (item : Keyed TreeDir) → item ≡ get_or items place item → fin.get dirs path ≡ Some (dir_of item.value)
  get_some here item is =
      ap (λ (m : Dirs). fin.get m path) (sym seen.view) ∙ get_is dir_of items path seen.rise ∙ find_at dir_of items place item path seen.rise (here_of here) is

  -- the directory at the place after an edit
  pub put_here : IsAt lent path place → (item new : Keyed TreeDir) → item ≡ get_or items place item → new.key.items ≡ item.key.items → pairs_by dir_of (set items place new) ≡ fin.put (slice_cmp nat_cmp) path (dir_of new.value) (pairs_by dir_of items)
  put_here here item new is key =
      put_at dir_of items place new path seen.rise (here_of here) (key ∙ ap (λ (k : Keyed TreeDir). k.key.items) is ∙ (here_of here).1 item)

  pub edited_rises : IsAt lent path place → (item new : Keyed TreeDir) → item ≡ get_or items place item → new.key.items ≡ item.key.items → KeysRise (set items place new)
  edited_rises here item new is key = put_rises dir_of items (set items place new) path (dir_of new.value) seen.rise (put_here here item new is key)

  pub edited : IsAt lent path place → (item new : Keyed TreeDir) → item ≡ get_or items place item → new.key.items ≡ item.key.items → dirs_of (set items place new) ≡ fin.insert dirs path (dir_of new.value)
  edited here item new is key =
      map_put dir_of items (set items place new) path (dir_of new.value) seen.rise (put_here here item new is key) ∙ ap (λ (m : Dirs). fin.insert m path (dir_of new.value)) seen.view

  pub changed_here : IsAt lent path place → (item new : Keyed TreeDir) → item ≡ get_or items place item → new.key.items ≡ item.key.items → (change : Dir → Dir) → dir_of new.value ≡ change (dir_of item.value) → dirs_of (set items place new) ≡ changed_at dirs path change
  changed_here here item new is key change to =
      edited here item new is key ∙ ap (fin.insert dirs path) to
      ∙ sym (ap (λ (o : Option Dir). option_map_or (λ dir. fin.insert dirs path (change dir)) o dirs) (get_some here item is))

  pub changed_nowhere : IsGap lent path place → (change : Dir → Dir) → dirs ≡ changed_at dirs path change
  changed_nowhere gap change = sym (ap (λ (o : Option Dir). option_map_or (λ dir. fin.insert dirs path (change dir)) o dirs) (get_none gap))

  pub is_there : IsAt lent path place → (item : Keyed TreeDir) → item ≡ get_or items place item → true ≡ fin.contains_key dirs path
  is_there here item is = sym (ap is_some (get_some here item is))

  pub not_there : IsGap lent path place → false ≡ fin.contains_key dirs path
  not_there gap = sym (ap is_some (get_none gap))

  -- a directory that is put where one is keeps the names
  pub put_over : IsAt lent path place → (item new : Keyed TreeDir) → item ≡ get_or items place item → new.key.items ≡ item.key.items → new.value.names ≡ item.value.names → dirs_of (set items place new) ≡ with_dir dirs path new.value.times new.value.hidden
  put_over here item new is key names =
      edited here item new is key
      ∙ ap (λ (n : Names). fin.insert dirs path (record { times = new.value.times; hidden = new.value.hidden; names = n })) (names ∙ sym (ap (λ (o : Option Dir). option_map_or (λ dir. dir.names) o fin.empty) (get_some here item is)))

  -- and has none where none is
  abbrev PutIn : List (Keyed TreeDir) → Keyed TreeDir → Type 0
  PutIn new item = new ≡ insert items place item

  pub put_in : IsGap lent path place → (new : List (Keyed TreeDir)) (item : Keyed TreeDir) → PutIn new item → item.key.items ≡ path → pairs_by dir_of new ≡ fin.put (slice_cmp nat_cmp) path (dir_of item.value) (pairs_by dir_of items)
  put_in gap new item is key = ap (pairs_by dir_of) is ∙ put_gap dir_of items place item path (subst (λ (l : List (Keyed TreeDir)). IsGap l path place) seen.same gap) key

  pub put_in_rises : IsGap lent path place → (new : List (Keyed TreeDir)) (item : Keyed TreeDir) → PutIn new item → item.key.items ≡ path → KeysRise new
  put_in_rises gap new item is key = put_rises dir_of items new path (dir_of item.value) seen.rise (put_in gap new item is key)

  pub put_new : IsGap lent path place → (new : List (Keyed TreeDir)) (item : Keyed TreeDir) → PutIn new item → item.key.items ≡ path → item.value.names ≡ fin.empty → dirs_of new ≡ with_dir dirs path item.value.times item.value.hidden
  put_new gap new item is key names =
      map_put dir_of items new path (dir_of item.value) seen.rise (put_in gap new item is key)
      ∙ (λ i. fin.insert (seen.view i) path (record { times = item.value.times; hidden = item.value.hidden; names = names i }))
      ∙ ap (λ (n : Names). fin.insert dirs path (record { times = item.value.times; hidden = item.value.hidden; names = n })) (sym (ap (λ (o : Option Dir). option_map_or (λ dir. dir.names) o fin.empty) (get_none gap)))

-- there is an item at each place
item_at : (items : List (Keyed TreeDir)) (i : ℕ) → i < length items → (item : Keyed TreeDir) × (item ≡ get_or items i item)
item_at [] i lt = absurd (omega arith)
item_at (x ∷ items) zero lt = (x, refl)
item_at (x ∷ items) (suc i) lt = item_at items i (omega arith)

-- the entry of the map at a place
pub entry_at : (items : List (Keyed TreeDir)) (dirs : Dirs) → dirs_of items ≡ dirs → KeysRise items → (i : ℕ) (item : Keyed TreeDir) → i < length items → item ≡ get_or items i item → slice_get (fin.entries dirs) i ≡ Some (item.key.items, dir_of item.value)
entry_at items dirs view rise i item lt is =
    ap (λ (m : Dirs). slice_get (fin.entries m) i) (sym view) ∙ ap (λ (l : List (List ℕ × Dir)). slice_get l i) (entries_are dir_of items rise) ∙ get_pair dir_of items i item lt is

-- what a place tells of the map
pub placed : (items lent : List (Keyed TreeDir)) (dirs : Dirs) → Seen items lent dirs → (path : List ℕ) (place : ℕ) → IsAt lent path place → IsSomeAnd (dir_at dirs place) (λ dir. fin.get dirs path ≡ Some dir)
placed items lent dirs seen path place here =
    let lt = (here_of items lent dirs seen path place here).0 in
    let found = item_at items place lt in
    subst (λ (o : Option (List ℕ × Dir)). IsSomeAnd (option_map (λ entry. entry.1) o) (λ dir. fin.get dirs path ≡ Some dir)) (sym (entry_at items dirs seen.view seen.rise place found.0 lt found.1)) (get_some items lent dirs seen path place here found.0 found.1)

-- no entry stands past the end
pub no_entry : (items : List (Keyed TreeDir)) (dirs : Dirs) → dirs_of items ≡ dirs → KeysRise items → (i : ℕ) → length items ≤ i → slice_get (fin.entries dirs) i ≡ None
no_entry items dirs view rise i past =
    ap (λ (m : Dirs). slice_get (fin.entries m) i) (sym view) ∙ ap (λ (l : List (List ℕ × Dir)). slice_get l i) (entries_are dir_of items rise) ∙ none items i past
  where
    none : (items : List (Keyed TreeDir)) (i : ℕ) → length items ≤ i → slice_get (pairs_by dir_of items) i ≡ None
    none [] i past = refl
    none (x ∷ items) zero past = absurd (omega arith)
    none (x ∷ items) (suc i) past = none items i (omega arith)

-- the first of the names that are left of a directory at a place
pub next_of : (dirs : Dirs) (place given : ℕ) (dir : Dir) (name : List ℕ) (kind : Kind) → Some dir ≡ dir_at dirs place → slice_get (fin.entries dir.names) given ≡ Some (name, kind) → rest_of dirs (Some place) given ≡ (name, kind) ∷ rest_of dirs (Some place) (given + 1)
next_of dirs place given dir name kind here first =
    subst (λ (o : Option Dir). drop given (option_map_or (λ d. fin.entries d.names) o []) ≡ (name, kind) ∷ drop (given + 1) (option_map_or (λ d. fin.entries d.names) o [])) here
    (step (fin.entries dir.names) given first)
  where
    step : (es : Listed) (i : ℕ) → slice_get es i ≡ Some (name, kind) → drop i es ≡ (name, kind) ∷ drop (i + 1) es
    step [] i e = cc
    step (x ∷ es) zero e = ap (λ (o : Option (List ℕ × Kind)). option_map_or (λ y. y) o x ∷ es) e
    step (x ∷ es) (suc i) e = let next : suc (i + 1) ≡ suc i + 1 = omega arith in step es i e ∙ ap (λ (n : ℕ). (name, kind) ∷ drop n (x ∷ es)) next
