-- The items that are written for a list of paths are a whole database of mlocate, and give its paths by their directories.
use Rattle.std.proofs.Common.{◌≡◌, ℕ, ◌+◌, ◌<◌, ◌≤◌, ◌^◌, Bool, true, false, cond, All, List, [], ◌∷◌, ◌++◌, map, length, refl, sym, ap, subst, ◌∙◌, append_assoc, length-append, arith}
use Rattle.std.specs.Prelude.{filter}
use Rattle.std.specs.FinMap.{empty}
use Rattle.std.specs.Cmp.Lexicographic.{nat_list_cmp_total}
use Rattle.std.proofs.lemmas.Bool.{and_parts, ltb-true}
use Rattle.std.proofs.lemmas.List.{take_at, drop_at}
use Rattle.std.proofs.lemmas.List.Elements.{All-nil, All-cons, All-take, All-drop}
use Rattle.std.proofs.lemmas.Slice.Eq.{bytes_eq-Decides}
use Rattle.std.specs.List.{flat_map}
use Rattle.std.specs.Str.{bytes_eq}
use Rattle.path_order.specs.Names.{is_name}
use Rattle.path_order.specs.Path.{is_root, joined, parent_of, base_of, begins_at_root}
use Rattle.path_order.specs.Order.{path_cmp}
use Rattle.path_order.proofs.ParentLemmas.{HasParent}
use Rattle.path_order.proofs.OrderLemmas.{path_total}
use Rattle.byte_feed.specs.Field.{IsText, max_path}
use Rattle.byte_feed.specs.Front.{Follow, IsDatabase, left_by, limit, front}
use Rattle.byte_feed.specs.Paths.{PathAt, ToCome, IsPath, paths_of, contents, GivesWhole, given_by}
use Rattle.byte_feed.proofs.ReadBack.{database_front, database_given}
use Rattle.mlocate_db.specs.Items.{Header, Item, HeaderItem, HeadItem, EndItem, AtStart, Between, Inside, in_directory, room_in, allowed, mlocate, spell}
use Rattle.mlocate_db.proofs.ItemLaws.{mlocate_laws}
use Rattle.mlocate_db.proofs.ItemSizes.{mlocate_shrinks}
use Rattle.updatedb_conf.specs.Block.{block}
use Rattle.updatedb_conf.specs.Settings.{default_settings}
use Rattle.updatedb_conf.proofs.BlockRooms.{length_block}
use Rattle.updatedb_conf.proofs.Rooms.{room-empty}
use Rattle.db_convert.specs.Blocks.{parents, names_in, header, header_item, entry_item, block_items, database_items, encode_mlocate, byte_cmp}
use Rattle.db_convert.proofs.Sets.{Each, each_map, each_more, each_filter, sorted_unique_each}

abbrev texts : List PathAt → List (List ℕ)
texts paths = map (λ (p : PathAt). p.text) paths

-- ---- blocks

entries_follow : (paths : List (List ℕ)) (dir : List ℕ) (names : List (List ℕ)) (items : List Item) → Each (IsText (room_in dir)) names → Follow mlocate (Between 0) items true []
    → Follow mlocate (Inside 0 dir) ((map (entry_item paths dir) names ++ EndItem ∷ []) ++ items) true []
entries_follow paths dir [] items h k = (tt, k)
entries_follow paths dir (name ∷ names) items h k = (h.0, entries_follow paths dir names items h.1 k)

entries_left : (paths : List (List ℕ)) (dir : List ℕ) (names : List (List ℕ)) (items : List Item) → left_by mlocate (Inside 0 dir) ((map (entry_item paths dir) names ++ EndItem ∷ []) ++ items) ≡ left_by mlocate (Between 0) items
entries_left paths dir [] items = refl
entries_left paths dir (name ∷ names) items = entries_left paths dir names items

entries_texts : (paths : List (List ℕ)) (dir : List ℕ) (names : List (List ℕ)) (items : List Item) (more : List (List ℕ)) → ((place heads : ℕ) → texts (paths_of mlocate (Between 0) place heads items) ≡ more)
    → (place heads : ℕ) → texts (paths_of mlocate (Inside 0 dir) place heads ((map (entry_item paths dir) names ++ EndItem ∷ []) ++ items)) ≡ map (joined dir) names ++ more
entries_texts paths dir [] items more h place heads = h (place + 1) (heads + 0)
entries_texts paths dir (name ∷ names) items more h place heads =
    ap (λ (l : List (List ℕ)). joined dir name ∷ l) (entries_texts paths dir names items more h (place + length (spell (entry_item paths dir name))) (heads + 0))

-- a directory whose block can be written
record IsBlock (paths : List (List ℕ)) (dir : List ℕ) : Type 0 where
  text : IsText max_path dir
  names : Each (IsText (room_in dir)) (names_in paths dir)

blocks_follow : (paths dirs : List (List ℕ)) → Each (IsBlock paths) dirs → Follow mlocate (Between 0) (flat_map (block_items paths) dirs) true []
blocks_follow paths [] h = tt
blocks_follow paths (dir ∷ dirs) h = (
  record { numbers = record { seconds = omega arith; nanos = omega arith; device = omega arith }; path = h.0.text },
  entries_follow paths dir (names_in paths dir) (flat_map (block_items paths) dirs) h.0.names (blocks_follow paths dirs h.1),
)

blocks_left : (paths dirs : List (List ℕ)) → left_by mlocate (Between 0) (flat_map (block_items paths) dirs) ≡ Between 0
blocks_left paths [] = refl
blocks_left paths (dir ∷ dirs) = entries_left paths dir (names_in paths dir) (flat_map (block_items paths) dirs) ∙ blocks_left paths dirs

-- the paths of the names of these directories
abbrev pub block_paths : List (List ℕ) → List (List ℕ) → List (List ℕ)
block_paths paths dirs = flat_map (λ dir. map (joined dir) (names_in paths dir)) dirs

blocks_texts : (paths dirs : List (List ℕ)) (place heads : ℕ) → texts (paths_of mlocate (Between 0) place heads (flat_map (block_items paths) dirs)) ≡ block_paths paths dirs
blocks_texts paths [] place heads = refl
blocks_texts paths (dir ∷ dirs) place heads =
    entries_texts paths dir (names_in paths dir) (flat_map (block_items paths) dirs) (block_paths paths dirs) (blocks_texts paths dirs) (place + length (spell (HeadItem (record { seconds = 0; nanos = 0; device = 0; path = dir })))) (heads + 1)

-- ---- what a path is made of

-- the directory and the name of a path, as they are written
pub record Parts (dir name : List ℕ) : Type 0 where
  pub text : IsText max_path dir
  pub named : IsText (room_in dir) name

all_front : (P : ℕ → Type 0) (xs ys : List ℕ) → All P (xs ++ ys) → All P xs
all_front P xs ys h = subst (All P) (take_at xs ys (length xs) refl) (All-take P (length xs) (xs ++ ys) h)

all_back : (P : ℕ → Type 0) (xs ys : List ℕ) → All P (xs ++ ys) → All P ys
all_back P xs ys h = subst (All P) (drop_at xs ys (length xs) refl) (All-drop P (length xs) (xs ++ ys) h)

joined_by : (dir name : List ℕ) (b : Bool) → cond b (dir ++ name) (dir ++ 47 ∷ name) ≡ cond b dir (dir ++ 47 ∷ []) ++ name
joined_by dir name true = refl
joined_by dir name false = sym (append_assoc dir (47 ∷ []) name)

joined_in : (dir name : List ℕ) → joined dir name ≡ in_directory dir ++ name
joined_in dir name = joined_by dir name (is_root dir)

inside_by : (P : ℕ → Type 0) (dir : List ℕ) (b : Bool) → All P (cond b dir (dir ++ 47 ∷ [])) → All P dir
inside_by P dir true h = h
inside_by P dir false h = all_front P dir (47 ∷ []) h

longer_by : (dir : List ℕ) (b : Bool) → length dir ≤ length (cond b dir (dir ++ 47 ∷ []))
longer_by dir true = omega arith
longer_by dir false = omega (arith, length-append dir (47 ∷ []))

begun : (dir : List ℕ) → begins_at_root dir ≡ true → 0 < length dir
begun [] e = absurd cc
begun (b ∷ dir) e = omega arith

name_some : (name : List ℕ) → is_name name ≡ true → 0 < length name
name_some name e = ltb-true 0 (length name) (and_parts _ _ (and_parts _ _ (and_parts _ _ (and_parts _ _ e).0).0).0).0

pub parts_of : (path : List ℕ) → IsPath path → HasParent path → Parts (parent_of path) (base_of path)
parts_of path h p =
    let dir = parent_of path in
    let name = base_of path in
    let whole : in_directory dir ++ name ≡ path = sym (joined_in dir name) ∙ p.joined_again in
    let len : length (in_directory dir) + length name ≡ length path = sym (length-append (in_directory dir) name) ∙ ap length whole in
    let plain : All (λ b. 0 < b) (in_directory dir ++ name) = subst (All (λ b. 0 < b)) (sym whole) h.plain in
    record {
      text = record {
        some = begun dir (and_parts _ _ (and_parts _ _ p.parent_is_normal).0).1;
        fits = omega (arith, len, h.fits, longer_by dir (is_root dir));
        plain = inside_by (λ b. 0 < b) dir (is_root dir) (all_front (λ b. 0 < b) (in_directory dir) name plain);
      };
      named = record {
        some = name_some name p.base_is_name;
        fits = omega (arith, len, h.fits);
        plain = all_back (λ b. 0 < b) (in_directory dir) name plain;
      };
    }

abbrev pub Good : List ℕ → Type 0
Good path = Parts (parent_of path) (base_of path)

names_good : (paths : List (List ℕ)) (dir : List ℕ) → Each Good paths → Each (IsText (room_in dir)) (names_in paths dir)
names_good paths dir h =
    sorted_unique_each byte_cmp nat_list_cmp_total (IsText (room_in dir)) (map base_of (filter (λ path. bytes_eq (parent_of path) dir) paths))
    (each_map (IsText (room_in dir)) base_of (filter (λ path. bytes_eq (parent_of path) dir) paths)
    (each_filter Good (λ path. IsText (room_in dir) (base_of path)) (λ path. bytes_eq (parent_of path) dir)
    (λ path e good. subst (λ (d : List ℕ). IsText (room_in d) (base_of path)) ((bytes_eq-Decides (parent_of path) dir).0 e) good.named) paths h))

blocks_good : (paths : List (List ℕ)) → Each Good paths → Each (IsBlock paths) (parents paths)
blocks_good paths h =
    sorted_unique_each path_cmp path_total (IsBlock paths) (map parent_of paths)
    (each_map (IsBlock paths) parent_of paths (each_more Good (λ path. IsBlock paths (parent_of path)) (λ path good. record { text = good.text; names = names_good paths (parent_of path) h }) paths h))

-- ---- the database

pub small_block : length (block default_settings) < 2 ^ 32
small_block = omega (arith, length_block default_settings (omega arith), room-empty empty refl)

pub header_good : allowed AtStart header_item
header_good = record {
  fixed = record { size = small_block; version = omega arith; padding = omega arith };
  root = record { some = omega arith; fits = omega arith; plain = All-cons (λ b. 0 < b) 47 [] (omega arith) (All-nil (λ b. 0 < b)) };
}

database_whole : (paths : List (List ℕ)) → Each Good paths → length (encode_mlocate paths) < limit → IsDatabase mlocate (database_items paths)
database_whole paths h below = record {
  rules = (header_good, blocks_follow paths (parents paths) (blocks_good paths h));
  may_end = ap (mlocate.may_end) (blocks_left paths (parents paths));
  below = below;
}

pub items_back : (paths : List (List ℕ)) → Each Good paths → length (encode_mlocate paths) < limit → front mlocate (encode_mlocate paths) ≡ database_items paths
items_back paths h below = database_front mlocate mlocate_shrinks mlocate_laws (database_items paths) (database_whole paths h below)

header_texts : (h : Header) (items : List Item) (more : List (List ℕ)) → ((place heads : ℕ) → texts (paths_of mlocate (Between h.version) place heads items) ≡ more) → texts (paths_of mlocate AtStart 0 0 (HeaderItem h ∷ items)) ≡ more
header_texts h items more k = k (0 + length (spell (HeaderItem h))) (0 + 0)

whole_from : (given : ToCome) (items : List Item) (paths : List (List ℕ)) → given ≡ given_by mlocate items → texts (paths_of mlocate AtStart 0 0 items) ≡ paths → GivesWhole given paths
whole_from given items paths e h = record { texts = ap (λ (t : ToCome). texts t.paths) e ∙ h; ends = ap (λ (t : ToCome). t.ending) e }

pub database_back : (paths : List (List ℕ)) → Each Good paths → length (encode_mlocate paths) < limit → GivesWhole (contents mlocate (encode_mlocate paths)) (block_paths paths (parents paths))
database_back paths h below =
    whole_from (contents mlocate (encode_mlocate paths)) (database_items paths) (block_paths paths (parents paths))
    (database_given mlocate mlocate_shrinks mlocate_laws (database_items paths) (database_whole paths h below))
    (header_texts header (flat_map (block_items paths) (parents paths)) (block_paths paths (parents paths)) (blocks_texts paths (parents paths)))
