-- What a format is, and the front of a file: its longest list of whole items from byte 0, each keeping the rules after
-- those before it.
use Rattle.std.specs.Prelude.{◌≡◌, ℕ, zero, suc, ◌^◌, ◌≤◌, ◌<◌, slice_index, List, [], ◌∷◌, ◌++◌, length, take, Option, Result, Ok, Err, Bool, true, not, nat_le}
use Rattle.std.specs.List.{flat_map}
use Rattle.byte_feed.specs.declared.damage.Stop.{Stop}

-- A format has a state, which is what the items so far leave. It says which item may come in a state before which
-- bytes, which state the item leaves, how it is spelled, which path it gives and the length of that path's directory,
-- how many directory heads it is, whether it asks for visible paths alone, and where the file may end. `item_at` is the
-- next item and the bytes after it, or why no whole item follows. The Bool tells whether the file ends with the bytes
-- that are seen: only a format whose last item ends with the file looks at it.
pub record Format : Type 1 where
  pub State : Type 0
  pub Item : Type 0
  pub begin : State
  pub allowed : State → Item → Bool → List ℕ → Type 0
  pub after : State → Item → State
  pub spell : Item → List ℕ
  pub path_of : State → Item → Option (List ℕ × ℕ)
  pub head_of : Item → ℕ
  pub gate_of : Item → Bool
  pub may_end : State → Bool
  pub item_at : Bool → State → List ℕ → Result (Item × List ℕ) Stop

abbrev pub spelling : (f : Format) → List f.Item → List ℕ
spelling f items = flat_map f.spell items

-- items that come one after the other before these bytes, each keeping the rules after those before it
abbrev pub Follow : (f : Format) → f.State → List f.Item → Bool → List ℕ → Type 0
Follow f s [] last rest = Unit {0}
Follow f s (i ∷ is) last rest = f.allowed s i last (spelling f is ++ rest) × Follow f (f.after s i) is last rest

-- the state that items leave
abbrev pub left_by : (f : Format) → f.State → List f.Item → f.State
left_by f s [] = s
left_by f s (i ∷ is) = left_by f (f.after s i) is

-- ---- what may be read of a file

-- the first offset that is not read
abbrev pub limit : ℕ
limit = 2 ^ 40

-- The bytes of a file that may be read, and whether the file goes on up to the limit, so that it does not end with them.
pub record Window : Type 0 where
  pub bytes : List ℕ
  pub more : Bool

abbrev pub readable : List ℕ → Window
readable file = record { bytes = take limit file; more = nat_le limit (length file) }

-- From this state on, the bytes begin with these items.
pub record BeginsWith (f : Format) (s : f.State) (w : Window) (items : List f.Item) : Type 0 where
  pub rest : List ℕ
  pub whole : w.bytes ≡ spelling f items ++ rest
  pub rules : Follow f s items (not w.more) rest

-- the longest such list
pub record IsFront (f : Format) (file : List ℕ) (items : List f.Item) : Type 0 where
  pub begins : BeginsWith f f.begin (readable file) items
  pub longest : (others : List f.Item) → BeginsWith f f.begin (readable file) others → length others ≤ length items

-- A whole database: its items keep the rules from the start, the format may end after them, and they are spelled in
-- fewer bytes than the limit.
pub record IsDatabase (f : Format) (items : List f.Item) : Type 0 where
  pub rules : Follow f f.begin items true []
  pub may_end : f.may_end (left_by f f.begin items) ≡ true
  pub below : length (spelling f items) < limit

-- ---- the same, one item after the other

abbrev pub on_ok : {A B E : Type 0} → B → (A → B) → Result A E → B
on_ok none some (Ok x) = some x
on_ok none some (Err e) = none

-- the items from this state on, at most so many
unfoldable pub items_within : (f : Format) → ℕ → Bool → f.State → List ℕ → List f.Item
items_within f zero last s bytes = []
items_within f (suc n) last s bytes = on_ok [] (λ x. x.0 ∷ items_within f n last (f.after s x.0) x.1) (f.item_at last s bytes)

-- Each item takes a byte at least, so there are no more items than bytes.
unfoldable pub items_of : (f : Format) → Bool → f.State → List ℕ → List f.Item
items_of f last s bytes = items_within f (length bytes) last s bytes

abbrev pub front : (f : Format) → List ℕ → List f.Item
front f file = items_of f (not (readable file).more) f.begin (readable file).bytes

-- ---- what a format owes

-- each number is a byte
abbrev pub IsBytes : List ℕ → Type 0
IsBytes bytes = (i : ℕ) → slice_index bytes i < 256

-- Each item takes a byte at least, and as many as its spelling has.
pub record Shrinks (f : Format) : Type 0 where
  pub shorter : (last : Bool) (s : f.State) (bytes : List ℕ) (i : f.Item) (rest : List ℕ) → f.item_at last s bytes ≡ Ok (i, rest) → length rest < length bytes
  pub sized : (last : Bool) (s : f.State) (bytes : List ℕ) (i : f.Item) (rest : List ℕ) → f.item_at last s bytes ≡ Ok (i, rest) → length bytes ≡ length (f.spell i ++ rest)

-- What is read is spelled so and keeps the rules; what is spelled so and keeps the rules is read, whatever follows.
pub record Laws (f : Format) : Type 0 where
  pub takes : (last : Bool) (s : f.State) (bytes : List ℕ) (i : f.Item) (rest : List ℕ) → IsBytes bytes → f.item_at last s bytes ≡ Ok (i, rest)
      → f.allowed s i last rest × (bytes ≡ f.spell i ++ rest) × IsBytes rest
  pub again : (last : Bool) (s : f.State) (i : f.Item) (rest : List ℕ) → f.allowed s i last rest → f.item_at last s (f.spell i ++ rest) ≡ Ok (i, rest)
