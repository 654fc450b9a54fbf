-- What the rest of a file gives: its items, its paths, and how it ends after them.
use Rattle.std.specs.Prelude.{◌≡◌, ℕ, ◌+◌, ◌-◌, Bool, true, not, List, [], ◌∷◌, ◌++◌, length, take, drop, map, Option, Some, None, Ok}
use Rattle.path_order.specs.Path.{base_of}
use Rattle.byte_feed.specs.Field.{IsText, max_path}
use Rattle.byte_feed.specs.Front.{Format, limit, Window, on_ok, readable, items_of, spelling, left_by}
use Rattle.byte_feed.specs.Endings.{Ending, end_at}

-- the whole items from a place on, how the file ends after them, and where they end
pub record Rest (f : Format) : Type 0 where
  pub items : List f.Item
  pub ending : Ending
  pub place : ℕ

-- what a window of a file still gives, from this state and place on: its items, how it ends, and where
unfoldable pub rest_of : (f : Format) → f.State → ℕ → Window → Rest f
rest_of f s place w =
    let items = items_of f (not w.more) s w.bytes in
    let len = length (spelling f items) in
    record { items = items; ending = end_at f (place + len) (left_by f s items) (drop len w.bytes) w.more; place = place + len }

-- an item, and then the rest
abbrev pub after_item : (f : Format) → f.Item → Rest f → Rest f
after_item f i r = record { items = i ∷ r.items; ending = r.ending; place = r.place }

abbrev pub no_items : (f : Format) → ℕ → Ending → Rest f
no_items f place ending = record { items = []; ending = ending; place = place }

-- a path, the length of its directory's path, how many directory heads stand before it, and where its item ends
pub record PathAt : Type 0 where
  pub text : List ℕ
  pub dir_len : ℕ
  pub heads : ℕ
  pub place : ℕ

-- The paths to come, how the file ends after them, where its last whole item ends, and how many directory heads stand
-- before that.
pub record ToCome : Type 0 where
  pub paths : List PathAt
  pub ending : Ending
  pub place : ℕ
  pub heads : ℕ

-- these paths, and then those to come
abbrev pub after_paths : List PathAt → ToCome → ToCome
after_paths given t = record { paths = given ++ t.paths; ending = t.ending; place = t.place; heads = t.heads }

abbrev pub no_paths : ℕ → ℕ → Ending → ToCome
no_paths place heads ending = record { paths = []; ending = ending; place = place; heads = heads }

abbrev pub path_here : ℕ → ℕ → Option (List ℕ × ℕ) → List PathAt
path_here place heads None = []
path_here place heads (Some p) = record { text = p.0; dir_len = p.1; heads = heads; place = place } ∷ []

-- the paths of items that come one after the other from this state on, after so many bytes and heads
abbrev pub paths_of : (f : Format) → f.State → ℕ → ℕ → List f.Item → List PathAt
paths_of f s place heads [] = []
paths_of f s place heads (i ∷ is) = path_here (place + length (f.spell i)) heads (f.path_of s i) ++ paths_of f (f.after s i) (place + length (f.spell i)) (heads + f.head_of i) is

abbrev pub heads_of : (f : Format) → List f.Item → ℕ
heads_of f [] = 0
heads_of f (i ∷ is) = f.head_of i + heads_of f is

-- what items give as paths
abbrev pub as_paths : (f : Format) → f.State → ℕ → ℕ → Rest f → ToCome
as_paths f s place heads r = record { paths = paths_of f s place heads r.items; ending = r.ending; place = r.place; heads = heads + heads_of f r.items }

-- what a reader in this state still gives, after so many bytes and heads
abbrev pub to_come : (f : Format) → f.State → ℕ → ℕ → Window → ToCome
to_come f s place heads w = as_paths f s place heads (rest_of f s place w)

-- a file's preamble, which is its first item: its length and whether it asks for visible paths alone, where it is whole
abbrev pub preamble_of : (f : Format) → Window → Option (ℕ × Bool)
preamble_of f w = on_ok None (λ x. Some (length (f.spell x.0), f.gate_of x.0)) (f.item_at (not w.more) f.begin w.bytes)

-- ---- a whole file

-- all that a file gives
abbrev pub contents : (f : Format) → List ℕ → ToCome
contents f file = to_come f f.begin 0 0 (readable file)

-- The same of its first n bytes alone, which do not end it: a last path that only the end of the file ends is none of
-- them.
abbrev pub contents_of_part : (f : Format) → ℕ → List ℕ → ToCome
contents_of_part f n file = to_come f f.begin 0 0 (record { bytes = take limit (take n file); more = true })

-- what a file gives that is just these items and ends whole
abbrev pub given_by : (f : Format) → List f.Item → ToCome
given_by f items = as_paths f f.begin 0 0 (record { items = items; ending = Ok tt; place = length (spelling f items) })

-- A file gives this list of paths, and ends whole.
pub record GivesWhole (given : ToCome) (paths : List (List ℕ)) : Type 0 where
  pub texts : map (λ (p : PathAt). p.text) given.paths ≡ paths
  pub ends : given.ending ≡ Ok tt

-- the length of what stands before the base name of a path, the slash included
abbrev pub before_base : List ℕ → ℕ
before_base path = length path - length (base_of path)

-- a text of a path
abbrev pub IsPath : List ℕ → Type 0
IsPath text = IsText max_path text
