-- The items of a scan: how they are spelled, and that they may follow one another.
use Rattle.std.proofs.Common.{◌≡◌, ℕ, ◌+◌, ◌<◌, ◌^◌, Bool, true, false, cond, All, List, [], ◌∷◌, ◌++◌, length, refl, sym, ap, ◌∙◌, subst, arith, append_assoc, length-append}
use Rattle.std.proofs.lemmas.Grind.{flat_map-append}
use Rattle.std.proofs.lemmas.List.Elements.{All-head, All-tail}
use Rattle.std.specs.List.{flat_map}
use Rattle.path_order.specs.declared.kind.Kind.{Kind}
use Rattle.path_order.specs.NameList.{Listed}
use Rattle.path_order.specs.Path.{is_normal, joined}
use Rattle.path_order.specs.Stamp.{Moment, is_recent}
use Rattle.loc_outside.specs.Trees.{Dir, Dirs}
use Rattle.byte_feed.specs.Field.{IsText, max_path}
use Rattle.byte_feed.specs.Front.{Follow, IsDatabase, left_by, limit, spelling}
use Rattle.mlocate_db.specs.Items.{Item, HeadItem, EntryItem, EndItem, AtStart, Between, Inside, allowed, in_directory, mlocate, room_in, spell}
use Rattle.tree_scan.specs.Admitted.{admitted, fits_in}
use Rattle.tree_scan.specs.Blocks.{block, entry_text, header, head_text, scan_text, time_of, zero_moment}
use Rattle.tree_scan.specs.Plan.{Plan}
use Rattle.tree_scan.specs.Reach.{is_open, reached}
use Rattle.tree_scan.proofs.Lists.{Each, each_more}
use Rattle.tree_scan.proofs.Texts.{joined_fits, name_text, normal_text}
use Rattle.tree_scan.proofs.WalkRecursion.{joined_is}
use Rattle.dir_reuse.specs.Naming.{entries_of}
use Rattle.dir_reuse.specs.Scanned.{header_item, head_in, block_items, scan_items, IsPlan, FitsHead, IsWholeScan}
use Rattle.dir_reuse.proofs.Reached.{admitted_fits, led_found}

pub each_of : {A : Type 0} (P : A → Type 0) (xs : List A) → All P xs → Each P xs
each_of P [] h = tt
each_of P (x ∷ xs) h = (All-head P x xs h, each_of P xs (All-tail P x xs h))

-- ---- how they are spelled

spelled_entries : (names : Listed) → spelling mlocate (entries_of names) ≡ flat_map entry_text names
spelled_entries [] = refl
spelled_entries (n ∷ names) = ap (λ (l : List ℕ). spell (EntryItem n.1 n.0) ++ l) (spelled_entries names)

spelled_block : (plan : Plan) (now : Moment) (e : List ℕ × Dir) → spelling mlocate (block_items plan now e) ≡ block plan now e
unfolding head_text
spelled_block plan now e =
    ap (λ (l : List ℕ). spell (HeadItem (head_in plan now e)) ++ l)
    (flat_map-append spell (entries_of (admitted e.0 e.1)) (EndItem ∷ []) ∙ ap (λ (l : List ℕ). l ++ spell EndItem) (spelled_entries (admitted e.0 e.1)))
    ∙ sym (append_assoc (spell (HeadItem (head_in plan now e))) (flat_map entry_text (admitted e.0 e.1)) (spell EndItem))

spelled_blocks : (plan : Plan) (now : Moment) (dirs : List (List ℕ × Dir)) → spelling mlocate (flat_map (block_items plan now) dirs) ≡ flat_map (block plan now) dirs
spelled_blocks plan now [] = refl
spelled_blocks plan now (e ∷ dirs) = flat_map-append spell (block_items plan now e) (flat_map (block_items plan now) dirs) ∙ (λ i. spelled_block plan now e i ++ spelled_blocks plan now dirs i)

pub spelled_scan : (dirs : Dirs) (plan : Plan) (now : Moment) → spelling mlocate (scan_items dirs plan now) ≡ scan_text dirs plan now
unfolding header
spelled_scan dirs plan now = ap (λ (l : List ℕ). spell (header_item plan) ++ l) (spelled_blocks plan now (reached dirs plan.pruned plan.root))

-- ---- texts

-- a directory whose path and names are texts of a database
pub record HasTexts (e : List ℕ × Dir) : Type 0 where
  pub path : IsText max_path e.0
  pub names : Each (λ (n : List ℕ × Kind). IsText (room_in e.0) n.0) (admitted e.0 e.1)

room : (path name : List ℕ) → fits_in path name ≡ true → IsText (room_in path) name
room path name e =
    let t = name_text path name e in
    let all : length (joined path name) ≡ length (in_directory path) + length name = ap length (joined_is path name) ∙ length-append (in_directory path) name in
    record { some = t.some; fits = omega (arith, all, joined_fits path name e); plain = t.plain }

has_texts : (e : List ℕ × Dir) → is_normal e.0 ≡ true → HasTexts e
has_texts e h = record { path = normal_text e.0 h; names = each_more _ _ (λ n fits. room e.0 n.0 fits) _ (admitted_fits e.0 e.1) }

pub reached_texts : (dirs : Dirs) (pruned : List ℕ → Bool) (root : List ℕ) → is_normal root ≡ true → Each HasTexts (reached dirs pruned root)
reached_texts dirs pruned root h = each_more _ _ (λ e f. has_texts e f.normal) _ (led_found dirs pruned (is_open pruned) root h)

pub header_allowed : (plan : Plan) → IsPlan plan → allowed AtStart (header_item plan)
header_allowed plan p = record {
  fixed = record { size = p.block; version = p.version; padding = omega arith };
  root = normal_text plan.root p.root;
}

-- ---- one after another

pub entries_follow : (version : ℕ) (path : List ℕ) (names : Listed) (items : List Item) → Each (λ (n : List ℕ × Kind). IsText (room_in path) n.0) names → Follow mlocate (Between version) items true []
    → Follow mlocate (Inside version path) ((entries_of names ++ EndItem ∷ []) ++ items) true []
entries_follow version path [] items h k = (tt, k)
entries_follow version path (n ∷ names) items h k = (h.0, entries_follow version path names items h.1 k)

entries_left : (version : ℕ) (path : List ℕ) (names : Listed) (items : List Item) → left_by mlocate (Inside version path) ((entries_of names ++ EndItem ∷ []) ++ items) ≡ left_by mlocate (Between version) items
entries_left version path [] items = refl
entries_left version path (n ∷ names) items = entries_left version path names items

seconds_fit : (b : Bool) (time : Moment) → time.seconds < 2 ^ 64 → (cond b zero_moment time).seconds < 2 ^ 64
seconds_fit true time h = omega arith
seconds_fit false time h = h

nanos_fit : (b : Bool) (time : Moment) → time.nanos < 1000000000 → (cond b zero_moment time).nanos < 1000000000
nanos_fit true time h = omega arith
nanos_fit false time h = h

head_allowed : (plan : Plan) (now : Moment) (e : List ℕ × Dir) → HasTexts e → FitsHead plan e → allowed (Between plan.version) (HeadItem (head_in plan now e))
head_allowed plan now e t f = record {
  numbers = record {
    seconds = seconds_fit (is_recent (time_of e.1.times) now plan.margin) (time_of e.1.times) f.seconds;
    nanos = nanos_fit (is_recent (time_of e.1.times) now plan.margin) (time_of e.1.times) f.nanos;
    device = f.device;
  };
  path = t.path;
}

blocks_follow : (plan : Plan) (now : Moment) (dirs : List (List ℕ × Dir)) → Each HasTexts dirs → Each (FitsHead plan) dirs → Follow mlocate (Between plan.version) (flat_map (block_items plan now) dirs) true []
blocks_follow plan now [] h k = tt
blocks_follow plan now (e ∷ dirs) h k =
    (head_allowed plan now e h.0 k.0, entries_follow plan.version e.0 (admitted e.0 e.1) (flat_map (block_items plan now) dirs) h.0.names (blocks_follow plan now dirs h.1 k.1))

blocks_left : (plan : Plan) (now : Moment) (dirs : List (List ℕ × Dir)) → left_by mlocate (Between plan.version) (flat_map (block_items plan now) dirs) ≡ Between plan.version
blocks_left plan now [] = refl
blocks_left plan now (e ∷ dirs) = entries_left plan.version e.0 (admitted e.0 e.1) (flat_map (block_items plan now) dirs) ∙ blocks_left plan now dirs

-- a whole scan is a whole database
pub scan_whole : (dirs : Dirs) (plan : Plan) (now : Moment) → IsWholeScan dirs plan now → IsDatabase mlocate (scan_items dirs plan now)
scan_whole dirs plan now w =
    let all = reached dirs plan.pruned plan.root in
    record {
      rules = (header_allowed plan w.planned, blocks_follow plan now all (reached_texts dirs plan.pruned plan.root w.planned.root) (each_of (FitsHead plan) all w.heads));
      may_end = ap mlocate.may_end (blocks_left plan now all);
      below = subst (λ (l : List ℕ). length l < limit) (sym (spelled_scan dirs plan now)) w.below;
    }
