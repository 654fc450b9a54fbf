-- What is read of a first part of a scan whose times and devices fit: the first of its items.
use Rattle.std.proofs.Common.{◌≡◌, ℕ, ◌+◌, ◌<◌, ◌^◌, Bool, true, false, cond, not, List, [], ◌∷◌, ◌++◌, length, take, drop, Result, Ok, Err, refl, sym, ap, ◌∙◌, subst, arith, length-append}
use Rattle.std.specs.List.{flat_map}
use Rattle.std.proofs.lemmas.List.{take-append-drop}
use Rattle.path_order.specs.declared.kind.Kind.{Kind}
use Rattle.path_order.specs.NameList.{Listed}
use Rattle.path_order.specs.Stamp.{Moment, is_recent}
use Rattle.loc_outside.specs.Trees.{Dir, Dirs}
use Rattle.byte_feed.specs.declared.damage.Stop.{Stop}
use Rattle.byte_feed.specs.Field.{IsText}
use Rattle.byte_feed.specs.Front.{front, items_of, limit, readable, spelling}
use Rattle.byte_feed.proofs.Fields.{ok_is}
use Rattle.byte_feed.proofs.Fronts.{items_more, items_none}
use Rattle.mlocate_db.specs.Items.{HeadItem, EndItem, Item, State, AtStart, Between, Inside, after, allowed, item_at, mlocate, room_in}
use Rattle.mlocate_db.proofs.ItemLaws.{mlocate_laws}
use Rattle.mlocate_db.proofs.ItemSizes.{mlocate_shrinks}
use Rattle.mlocate_db.proofs.ItemSteady.{item_steady}
use Rattle.tree_scan.specs.Admitted.{admitted}
use Rattle.tree_scan.specs.Blocks.{scan_text, time_of, zero_moment}
use Rattle.tree_scan.specs.Plan.{Plan}
use Rattle.tree_scan.specs.Reach.{reached}
use Rattle.tree_scan.proofs.Lists.{Each}
use Rattle.dir_reuse.specs.Naming.{entries_of}
use Rattle.dir_reuse.specs.Scanned.{FitsHead, IsPlan, block_items, head_in, scan_items}
use Rattle.dir_reuse.proofs.ScanItems.{HasTexts, header_allowed, reached_texts, spelled_scan}

-- these are the first of those items
abbrev pub First : List Item → List Item → Type 0
First [] is = Unit {0}
First (j ∷ js) [] = ⊥
First (j ∷ js) (i ∷ is) = (j ≡ i) × First js is

abbrev Allowed : State → List Item → Type 0
Allowed s [] = Unit {0}
Allowed s (i ∷ is) = allowed s i × Allowed (after s i) is

first_read : (is : List Item) (last : Bool) (s : State) (bytes more : List ℕ) → Allowed s is → bytes ++ more ≡ spelling mlocate is → First (items_of mlocate last s bytes) is
first_read [] last s bytes more known e = by (item_at s bytes) refl
  where
    by : (r : Result (Item × List ℕ) Stop) → item_at s bytes ≡ r → First (items_of mlocate last s bytes) []
    by (Err stop) k = subst (λ (l : List Item). First l []) (sym (items_none mlocate last s bytes stop k)) tt
    by (Ok x) k = absurd (let none : length bytes + length more ≡ 0 = sym (length-append bytes more) ∙ ap length e in omega (arith, none, mlocate_shrinks.shorter last s bytes x.0 x.1 k))
first_read (i ∷ is) last s bytes more known e = by (item_at s bytes) refl (λ t rest reads spells. first_read is last t rest more reads spells)
  where
    by : (r : Result (Item × List ℕ) Stop) → item_at s bytes ≡ r → ((t : State) (rest : List ℕ) → Allowed t is → rest ++ more ≡ spelling mlocate is → First (items_of mlocate last t rest) is) → First (items_of mlocate last s bytes) (i ∷ is)
    by (Err stop) k others = subst (λ (l : List Item). First l (i ∷ is)) (sym (items_none mlocate last s bytes stop k)) tt
    by (Ok x) k others =
        let reads : (x.0, x.1 ++ more) ≡ (i, spelling mlocate is) =
        ok_is (x.0, x.1 ++ more) (i, spelling mlocate is) (sym (ap (item_at s) (sym e) ∙ (item_steady s).goes_on bytes more x.0 x.1 k) ∙ mlocate_laws.again true s i (spelling mlocate is) known.0) in
        let one : x.0 ≡ i = ap (λ (p : Item × List ℕ). p.0) reads in
        let rest = others (after s x.0) x.1 (subst (λ (j : Item). Allowed (after s j) is) (sym one) known.1) (ap (λ (p : Item × List ℕ). p.1) reads) in
        subst (λ (l : List Item). First l (i ∷ is)) (sym (items_more mlocate mlocate_shrinks last s bytes x.0 x.1 k)) (one, rest)

-- ---- the scan

entries_allowed : (version : ℕ) (path : List ℕ) (names : Listed) (items : List Item) → Each (λ (n : List ℕ × Kind). IsText (room_in path) n.0) names → Allowed (Between version) items
    → Allowed (Inside version path) ((entries_of names ++ EndItem ∷ []) ++ items)
entries_allowed version path [] items h k = (tt, k)
entries_allowed version path (n ∷ names) items h k = (h.0, entries_allowed version path names items h.1 k)

seconds_fit : (b : Bool) (time : Moment) → time.seconds < 2 ^ 64 → (cond b zero_moment time).seconds < 2 ^ 64
seconds_fit true time h = omega arith
seconds_fit false time h = h

nanos_fit : (b : Bool) (time : Moment) → time.nanos < 1000000000 → (cond b zero_moment time).nanos < 1000000000
nanos_fit true time h = omega arith
nanos_fit false time h = h

head_allowed : (plan : Plan) (now : Moment) (e : List ℕ × Dir) → HasTexts e → FitsHead plan e → allowed (Between plan.version) (HeadItem (head_in plan now e))
head_allowed plan now e t f = record {
  numbers = record {
    seconds = seconds_fit (is_recent (time_of e.1.times) now plan.margin) (time_of e.1.times) f.seconds;
    nanos = nanos_fit (is_recent (time_of e.1.times) now plan.margin) (time_of e.1.times) f.nanos;
    device = f.device;
  };
  path = t.path;
}

blocks_allowed : (plan : Plan) (now : Moment) (dirs : List (List ℕ × Dir)) → Each HasTexts dirs → Each (FitsHead plan) dirs → Allowed (Between plan.version) (flat_map (block_items plan now) dirs)
blocks_allowed plan now [] h k = tt
blocks_allowed plan now (e ∷ dirs) h k =
    (head_allowed plan now e h.0 k.0, entries_allowed plan.version e.0 (admitted e.0 e.1) (flat_map (block_items plan now) dirs) h.0.names (blocks_allowed plan now dirs h.1 k.1))

pub scan_first : (dirs : Dirs) (plan : Plan) (now : Moment) → IsPlan plan → Each (FitsHead plan) (reached dirs plan.pruned plan.root) → First (front mlocate (scan_text dirs plan now)) (scan_items dirs plan now)
scan_first dirs plan now p fit =
    let file : List ℕ = scan_text dirs plan now in
    let all = reached dirs plan.pruned plan.root in
    first_read (scan_items dirs plan now) (not (readable file).more) AtStart (take limit file) (drop limit file)
    (header_allowed plan p, blocks_allowed plan now all (reached_texts dirs plan.pruned plan.root p.root) fit)
    (take-append-drop limit file ∙ sym (spelled_scan dirs plan now))
