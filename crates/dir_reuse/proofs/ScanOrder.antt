-- The heads of a scan rise, also where it is cut off.
use Rattle.std.proofs.Common.{◌≡◌, ℕ, Bool, true, false, ◌||◌, List, [], ◌∷◌, ◌++◌, map, refl, sym, ap, ◌∙◌, append_assoc, is_lt}
use Rattle.std.specs.List.{flat_map, list_all}
use Rattle.std.proofs.lemmas.Bool.{and_from, and_parts}
use Rattle.std.proofs.lemmas.List.Folds.{list_all-append}
use Rattle.path_order.specs.NameList.{Listed}
use Rattle.path_order.specs.Order.{path_cmp}
use Rattle.path_order.specs.Stamp.{Moment}
use Rattle.loc_outside.specs.Trees.{Dir, Dirs}
use Rattle.byte_feed.specs.Front.{front}
use Rattle.mlocate_db.specs.Items.{HeaderItem, HeadItem, EntryItem, EndItem, Item, mlocate}
use Rattle.tree_scan.specs.Admitted.{admitted}
use Rattle.tree_scan.specs.Blocks.{scan_text}
use Rattle.tree_scan.specs.Plan.{Plan}
use Rattle.tree_scan.specs.Reach.{is_open, reached}
use Rattle.tree_scan.proofs.Lists.{Each, Rises}
use Rattle.tree_scan.proofs.Order.{Before}
use Rattle.tree_scan.proofs.Sorted.{ByPath}
use Rattle.dir_reuse.specs.Naming.{entries_of}
use Rattle.dir_reuse.specs.Scanned.{block_items, scan_items, IsPlan}
use Rattle.dir_reuse.specs.Usable.{head_paths, is_empty, is_ordered, paths_rise, records}
use Rattle.dir_reuse.proofs.Reached.{led_rises}
use Rattle.dir_reuse.proofs.ScanParts.{Alike, SameItem, scan_alike}

-- ---- heads

record BeginsAs (xs ys : List (List ℕ)) : Type 0 where
  more : List (List ℕ)
  is : ys ≡ xs ++ more

heads_first : (j : Item) (js : List Item) → head_paths (j ∷ js) ≡ head_paths (j ∷ []) ++ head_paths js
heads_first (HeaderItem h) js = refl
heads_first (HeadItem h) js = refl
heads_first (EntryItem kind name) js = refl
heads_first EndItem js = refl

same_heads : (j i : Item) → SameItem j i → head_paths (j ∷ []) ≡ head_paths (i ∷ [])
same_heads (HeadItem h) (HeadItem k) e = ap (λ (p : List ℕ). p ∷ []) e
same_heads (HeadItem h) (HeaderItem k) e = absurd cc
same_heads (HeadItem h) (EntryItem kind name) e = absurd cc
same_heads (HeadItem h) EndItem e = absurd cc
same_heads (HeaderItem h) i e = ap (λ (x : Item). head_paths (x ∷ [])) e
same_heads (EntryItem kind name) i e = ap (λ (x : Item). head_paths (x ∷ [])) e
same_heads EndItem i e = ap (λ (x : Item). head_paths (x ∷ [])) e

alike_heads : (js is : List Item) → Alike js is → BeginsAs (head_paths js) (head_paths is)
alike_heads [] is a = record { more = head_paths is; is = refl }
alike_heads (j ∷ js) [] a = absurd a
alike_heads (j ∷ js) (i ∷ is) a =
    let rest = alike_heads js is a.1 in
    record {
      more = rest.more;
      is =
          heads_first i is ∙ (λ k. sym (same_heads j i a.0) k ++ rest.is k) ∙ sym (append_assoc (head_paths (j ∷ [])) (head_paths js) rest.more)
          ∙ ap (λ (l : List (List ℕ)). l ++ rest.more) (sym (heads_first j js));
    }

entries_heads : (names : Listed) (items : List Item) → head_paths ((entries_of names ++ EndItem ∷ []) ++ items) ≡ head_paths items
entries_heads [] items = refl
entries_heads (n ∷ names) items = entries_heads names items

blocks_heads : (plan : Plan) (now : Moment) (dirs : List (List ℕ × Dir)) → head_paths (flat_map (block_items plan now) dirs) ≡ map (λ (e : List ℕ × Dir). e.0) dirs
blocks_heads plan now [] = refl
blocks_heads plan now (e ∷ dirs) = ap (λ (l : List (List ℕ)). e.0 ∷ l) (entries_heads (admitted e.0 e.1) (flat_map (block_items plan now) dirs) ∙ blocks_heads plan now dirs)

-- ---- their order

later_all : (path : List ℕ) (dirs : List (List ℕ × Dir)) → Each (λ (e : List ℕ × Dir). Before path e.0) dirs → list_all (λ later. is_lt (path_cmp path later)) (map (λ (e : List ℕ × Dir). e.0) dirs) ≡ true
later_all path [] h = refl
later_all path (e ∷ dirs) h = and_from _ _ (ap is_lt h.0) (later_all path dirs h.1)

paths_of_rise : (dirs : List (List ℕ × Dir)) → Rises ByPath dirs → paths_rise (map (λ (e : List ℕ × Dir). e.0) dirs) ≡ true
paths_of_rise [] h = refl
paths_of_rise (e ∷ dirs) h = and_from _ _ (later_all e.0 dirs h.0) (paths_of_rise dirs h.1)

rise_first : (xs more : List (List ℕ)) → paths_rise (xs ++ more) ≡ true → paths_rise xs ≡ true
rise_first [] more h = refl
rise_first (x ∷ xs) more h =
    let p = and_parts (list_all (λ later. is_lt (path_cmp x later)) (xs ++ more)) (paths_rise (xs ++ more)) h in
    and_from _ _ (and_parts _ _ (sym (list_all-append (λ later. is_lt (path_cmp x later)) xs more) ∙ p.0)).0 (rise_first xs more p.1)

or_second : (a b : Bool) → b ≡ true → (a || b) ≡ true
or_second true b e = refl
or_second false b e = e

pub scan_ordered : (dirs : Dirs) (plan : Plan) (now : Moment) → IsPlan plan → is_ordered plan.root plan.block (scan_text dirs plan now) ≡ true
scan_ordered dirs plan now p =
    let file : List ℕ = scan_text dirs plan now in
    let all = reached dirs plan.pruned plan.root in
    let begun = alike_heads (front mlocate file) (scan_items dirs plan now) (scan_alike dirs plan now p) in
    let rise : paths_rise (head_paths (scan_items dirs plan now)) ≡ true = ap paths_rise (blocks_heads plan now all) ∙ paths_of_rise all (led_rises dirs plan.pruned (is_open plan.pruned) plan.root p.root) in
    or_second (is_empty (records plan.root plan.block file)) _ (rise_first (head_paths (front mlocate file)) begun.more (ap paths_rise (sym begun.is) ∙ rise))
