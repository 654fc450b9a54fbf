-- What a stream gives of mlocate's items, part by part.
use Rattle.std.proofs.Common.{◌≡◌, ℕ, zero, suc, ◌-◌, ◌<◌, ◌≤◌, Bool, true, false, cond, eqb, ltb, List, [], ◌∷◌, ◌++◌, length, take, drop, Option, Some, None, Result, Ok, Err, refl, sym, ap, subst, ◌∙◌, append_assoc, length-take, arith}
use Rattle.std.proofs.lemmas.List.{take_at, take-append-drop}
use Rattle.path_order.specs.declared.kind.Kind.{Kind}
use Rattle.path_order.specs.Path.{is_root, joined}
use Rattle.byte_feed.specs.declared.damage.DamageCause.TheVariants.{BadVersion, BadFlag, BadNanos, BadKind, EmptyPath, EmptyName}
use Rattle.byte_feed.specs.declared.damage.Break.{Break}
use Rattle.byte_feed.specs.declared.damage.Stop.{Stop}
use Rattle.byte_feed.specs.declared.damage.Stop.TheVariants.{Broken}
use Rattle.byte_feed.specs.Field.{Reads, ◌>>=◌, magic_at, byte_at, bytes_at, number_at, text_at, demand, IsText, max_path}
use Rattle.byte_feed.specs.Feed.{FeedState}
use Rattle.byte_feed.specs.Stream.{StreamGives}
use Rattle.byte_feed.proofs.Streams.{stream_then, stream_err, stream_ok}
use Rattle.byte_feed.proofs.Steps.{lifted}
use Rattle.byte_feed.proofs.Wants.{Wants, wants_ok, wants_demand, wants_then, wants_byte, wants_number, wants_magic}
use Rattle.mlocate_db.specs.declared.item.Fixed.{Fixed}
use Rattle.mlocate_db.specs.declared.item.Numbers.{Numbers}
use Rattle.mlocate_db.specs.declared.item.Listed.{Listed}
use Rattle.mlocate_db.specs.declared.item.Listed.TheVariants as listeds
use Rattle.mlocate_db.specs.Items.{Header, Head, Item, HeaderItem, HeadItem, EntryItem, AtStart, Between, Inside, magic, fixed_at, as_header, header_at, numbers_at, as_head, head_at, name_at, listed_at, entry_at, room_in, in_directory, item_at}
use Rattle.mlocate_db.specs.StreamItems.{HeaderKnown, listed_item, item_in, IsPathAfter}

-- ---- the parts that have a fixed length

abbrev numbers_made : ℕ → ℕ → ℕ → Numbers
numbers_made s n d = record { seconds = s; nanos = n; device = d }

pub numbers_want : Wants 16 numbers_at
unfolding numbers_at
numbers_want =
    wants_then 8 8 (number_at 8) (λ seconds rest. number_at 4 rest >>= λ nanos. demand (ltb nanos.0 1000000000) BadNanos >>= λ good. number_at 4 nanos.1 >>= λ device. Ok (numbers_made seconds nanos.0 device.0, device.1)) (wants_number 8) (λ seconds.
    wants_then 4 4 (number_at 4) (λ nanos rest. demand (ltb nanos 1000000000) BadNanos >>= λ good. number_at 4 rest >>= λ device. Ok (numbers_made seconds nanos device.0, device.1)) (wants_number 4) (λ nanos.
    wants_demand 4 (ltb nanos 1000000000) BadNanos (λ rest. number_at 4 rest >>= λ device. Ok (numbers_made seconds nanos device.0, device.1)) refl
    (wants_then 4 0 (number_at 4) (λ device rest. Ok (numbers_made seconds nanos device, rest)) (wants_number 4) (λ device. wants_ok (numbers_made seconds nanos device)))))

abbrev fixed_made : ℕ → ℕ → ℕ → ℕ → Fixed
fixed_made s v f p = record { size = s; version = v; flag = eqb f 1; padding = p }

pub fixed_want : Wants 16 fixed_at
unfolding fixed_at
fixed_want =
    wants_then 8 8 (magic_at magic) (λ begun rest. number_at 4 rest >>= λ size. byte_at size.1 >>= λ version. demand (ltb version.0 2) BadVersion >>= λ known. byte_at version.1 >>= λ flag. demand (ltb flag.0 2) BadFlag >>= λ good. number_at 2 flag.1 >>= λ padding. Ok (fixed_made size.0 version.0 flag.0 padding.0, padding.1)) (wants_magic magic) (λ begun.
    wants_then 4 4 (number_at 4) (λ size rest. byte_at rest >>= λ version. demand (ltb version.0 2) BadVersion >>= λ known. byte_at version.1 >>= λ flag. demand (ltb flag.0 2) BadFlag >>= λ good. number_at 2 flag.1 >>= λ padding. Ok (fixed_made size version.0 flag.0 padding.0, padding.1)) (wants_number 4) (λ size.
    wants_then 1 3 byte_at (λ version rest. demand (ltb version 2) BadVersion >>= λ known. byte_at rest >>= λ flag. demand (ltb flag.0 2) BadFlag >>= λ good. number_at 2 flag.1 >>= λ padding. Ok (fixed_made size version flag.0 padding.0, padding.1)) wants_byte (λ version.
    wants_demand 3 (ltb version 2) BadVersion (λ rest. byte_at rest >>= λ flag. demand (ltb flag.0 2) BadFlag >>= λ good. number_at 2 flag.1 >>= λ padding. Ok (fixed_made size version flag.0 padding.0, padding.1)) refl
    (wants_then 1 2 byte_at (λ flag rest. demand (ltb flag 2) BadFlag >>= λ good. number_at 2 rest >>= λ padding. Ok (fixed_made size version flag padding.0, padding.1)) wants_byte (λ flag.
    wants_demand 2 (ltb flag 2) BadFlag (λ rest. number_at 2 rest >>= λ padding. Ok (fixed_made size version flag padding.0, padding.1)) refl
    (wants_then 2 0 (number_at 2) (λ padding rest. Ok (fixed_made size version flag padding, rest)) (wants_number 2) (λ padding. wants_ok (fixed_made size version flag padding))))))))

-- ---- a head

abbrev pub path_then : Numbers → Reads Head
path_then n rest = text_at EmptyPath max_path rest >>= λ path. Ok (as_head n path.0, path.1)

pub head_parts : (bytes : List ℕ) → (numbers_at bytes >>= λ n. path_then n.0 n.1) ≡ head_at bytes
unfolding head_at
head_parts bytes = refl

-- ---- a header

abbrev pub block_then : Fixed → List ℕ → Reads Header
block_then x root rest = bytes_at x.size rest >>= λ block. Ok (as_header x root block.0, block.1)

abbrev pub root_then : Fixed → Reads Header
root_then x rest = text_at EmptyPath max_path rest >>= λ root. block_then x root.0 root.1

pub header_parts : (bytes : List ℕ) → (fixed_at bytes >>= λ x. root_then x.0 x.1) ≡ header_at bytes
unfolding header_at
header_parts bytes = refl

-- nothing is known of what was read
known_none : (expected root : List ℕ) (f f' : FeedState) (l' : Option (List ℕ)) (r : Result (Fixed × Bool) Break) → HeaderKnown expected root f None f' l' r
known_none expected root f f' l' r = tt

-- what broke a header off
pub header_broken : {X : Type 0} (u : X → Header) (expected root : List ℕ) (f f' : FeedState) (l l' : Option (List ℕ)) (e : Break) → StreamGives u header_at f l f' l' (Err e) → HeaderKnown expected root f l f' l' (Err e)
unfolding StreamGives
header_broken u expected root f f' None l' e g = tt
header_broken u expected root f f' (Some a) None e g = absurd g
header_broken u expected root f f' (Some a) (Some b) e g = g

-- ---- as the format's own reader

lift_same : {A : Type 0} (item : A → Item) (r : Result (A × List ℕ) Stop) → (r >>= λ x. Ok (item x.0, x.1)) ≡ lifted item r
lift_same item (Ok x) = refl
lift_same item (Err s) = refl

lift_id : (r : Result (Item × List ℕ) Stop) → r ≡ lifted (λ (i : Item). i) r
lift_id (Ok x) = refl
lift_id (Err s) = refl

pub header_lifted : (last : Bool) (bytes : List ℕ) → item_at AtStart bytes ≡ lifted HeaderItem (header_at bytes)
header_lifted last bytes = lift_same HeaderItem (header_at bytes)

pub head_lifted : (version : ℕ) (last : Bool) (bytes : List ℕ) → item_at (Between version) bytes ≡ lifted HeadItem (head_at bytes)
head_lifted version last bytes = lift_same HeadItem (head_at bytes)

pub entry_lifted : (version : ℕ) (path : List ℕ) (last : Bool) (bytes : List ℕ) → item_at (Inside version path) bytes ≡ lifted (λ i. i) (entry_at (room_in path) bytes)
entry_lifted version path last bytes = lift_id (entry_at (room_in path) bytes)

-- ---- an entry

module _ (dir p1 p2 : List ℕ) (f f' : FeedState) (l l' : Option (List ℕ)) (room : 4096 - length p1 ≡ room_in dir) where
  pub name_ok : (kind : Kind) → (0 < room_in dir → p1 ≡ in_directory dir) → IsText (4096 - length p1) (drop (length p1) p2)
      → StreamGives {X = Unit {0}} (λ _. drop (length p1) p2) (text_at EmptyName (4096 - length p1)) f l f' l' (Ok tt)
      → StreamGives (item_in dir p2) (name_at kind (room_in dir)) f l f' l' (Ok (listeds.Entry kind))
  name_ok kind begun plain g =
      let is : p1 ≡ in_directory dir = begun (omega (arith, plain.some, plain.fits, room)) in
      let at : ℕ → Type 0 = λ r. StreamGives {X = Unit {0}} (λ _. drop (length p1) p2) (text_at EmptyName r) f l f' l' (Ok tt) in
      let u : Listed → Item = λ x. listed_item x (drop (length p1) p2) in
      subst (λ (p : List ℕ). StreamGives (λ x. listed_item x (drop (length p) p2)) (name_at kind (room_in dir)) f l f' l' (Ok (listeds.Entry kind))) is
      (stream_then (λ (_ : Unit {0}). drop (length p1) p2) (text_at EmptyName (room_in dir)) (λ t rest. Ok (EntryItem kind t, rest)) u f f' f' l l' l' tt (Ok (listeds.Entry kind)) (subst at room g) (stream_ok u (listeds.Entry kind) f' l'))

  pub name_err : {X : Type 0} (u : X → Item) (kind : Kind) (e : Break) → StreamGives {X = Unit {0}} (λ _. drop (length p1) p2) (text_at EmptyName (4096 - length p1)) f l f' l' (Err e)
      → StreamGives u (name_at kind (room_in dir)) f l f' l' (Err e)
  name_err u kind e g =
      let at : ℕ → Type 0 = λ r. StreamGives {X = Unit {0}} (λ _. drop (length p1) p2) (text_at EmptyName r) f l f' l' (Err e) in
      stream_err (λ (_ : Unit {0}). drop (length p1) p2) (text_at EmptyName (room_in dir)) (λ t rest. Ok (EntryItem kind t, rest)) u f f' l l' e (subst at room g)

dir_by : (dir rest : List ℕ) (b : Bool) → take (length dir) (cond b dir (dir ++ 47 ∷ []) ++ rest) ≡ dir
dir_by dir rest true = take_at dir rest (length dir) refl
dir_by dir rest false = ap (take (length dir)) (append_assoc dir (47 ∷ []) rest) ∙ take_at dir (47 ∷ rest) (length dir) refl

-- what an entry's path begins with
name_dir : (dir p1 p2 : List ℕ) → 4096 - length p1 ≡ room_in dir → (0 < room_in dir → p1 ≡ in_directory dir) → IsText (4096 - length p1) (drop (length p1) p2) → take (length p1) p2 ≡ p1 → take (length dir) p2 ≡ dir
name_dir dir p1 p2 room begun plain begins =
    let is : p1 ≡ in_directory dir = begun (omega (arith, plain.some, plain.fits, room)) in
    let rest : List ℕ = drop (length p1) p2 in
    ap (take (length dir)) (sym (take-append-drop (length p1) p2) ∙ ap (λ (l : List ℕ). l ++ rest) (begins ∙ is)) ∙ dir_by dir rest _

-- the path in hand after a name was put behind the directory's path
pub name_put : (n : ℕ) (path p1 p2 : List ℕ) (kind : Kind) → n ≤ length path → 4096 - length p1 ≡ room_in (take n path) → (0 < room_in (take n path) → p1 ≡ in_directory (take n path))
    → IsText (4096 - length p1) (drop (length p1) p2) → take (length p1) p2 ≡ p1 → IsPathAfter (listeds.Entry kind) n path p2
name_put n path p1 p2 kind within room begun plain begins =
    let dir : List ℕ = take n path in
    let is : p1 ≡ in_directory dir = begun (omega (arith, plain.some, plain.fits, room)) in
    let long : length dir ≡ n = omega (arith, length-take n path, within) in
    let kept : take n p2 ≡ dir = ap (λ (m : ℕ). take m p2) (sym long) ∙ name_dir dir p1 p2 room begun plain begins in
    record {
      dir = kept;
      len = omega (arith, ap length kept, length-take n p2, long);
      listed = (subst (λ (p : List ℕ). p2 ≡ p ++ drop (length p) p2) is (sym (take-append-drop (length p1) p2) ∙ ap (λ (l : List ℕ). l ++ drop (length p1) p2) begins), subst (λ (r : ℕ). IsText r (drop (length (in_directory dir)) p2)) room (subst (λ (p : List ℕ). IsText (4096 - length p1) (drop (length p) p2)) is plain));
    }

pub bad_kind : (room n : ℕ) → (n ≡ 0 → ⊥) → (n ≡ 1 → ⊥) → (n ≡ 2 → ⊥) → listed_at room n ≡ (λ bytes. Err (Broken BadKind))
bad_kind room zero a b c = absurd (a refl)
bad_kind room (suc zero) a b c = absurd (b refl)
bad_kind room (suc (suc zero)) a b c = absurd (c refl)
bad_kind room (suc (suc (suc n))) a b c = refl

-- the path of a name is the directory's path and the name
joined_by : (dir name : List ℕ) (b : Bool) → cond b (dir ++ name) (dir ++ 47 ∷ name) ≡ cond b dir (dir ++ 47 ∷ []) ++ name
joined_by dir name true = refl
joined_by dir name false = sym (append_assoc dir (47 ∷ []) name)

pub joined_is : (dir name : List ℕ) → joined dir name ≡ in_directory dir ++ name
joined_is dir name = joined_by dir name (is_root dir)
