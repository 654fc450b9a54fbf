-- Four paths, and the items of their database.
use Rattle.std.specs.Prelude.{ℕ, List, [], ◌∷◌, codes}
use Rattle.path_order.specs.declared.kind.Kind.TheVariants.{File, Directory}
use Rattle.mlocate_db.specs.Items.{Item, HeadItem, EntryItem, EndItem}
use Rattle.db_convert.specs.Blocks.{header_item}

abbrev pub four_paths : List (List ℕ)
four_paths = codes "/a-/y" ∷ codes "/a/z/q" ∷ codes "/a/z" ∷ codes "/a.b/z" ∷ []

-- the head of a directory, with the zero time
abbrev pub head : List ℕ → Item
head dir = HeadItem (record { seconds = 0; nanos = 0; device = 0; path = dir })

-- `/a/z` comes before `/a-`, and is a directory in `/a`.
abbrev pub their_items : List Item
their_items = header_item
    ∷ head (codes "/a") ∷ EntryItem Directory (codes "z") ∷ EndItem
    ∷ head (codes "/a/z") ∷ EntryItem File (codes "q") ∷ EndItem
    ∷ head (codes "/a-") ∷ EntryItem File (codes "y") ∷ EndItem
    ∷ head (codes "/a.b") ∷ EntryItem File (codes "z") ∷ EndItem ∷ []
