-- What contracts see of a voucher that reads forward.
use Rattle.std.specs.Prelude.{◌≡◌, ◌≤◌, ℕ, Bool, true, false, ◌&&◌, List, [], Some, None, ⊤, MatchBool, IsSomeAnd, IsTrue}
use Rattle.std.specs.declared.option.Option.{Option}
use Rattle.std.specs.Option.{option_map, option_map_or}
use Rattle.loc_outside.specs.Causes.{Rose}
use Rattle.byte_feed.specs.Feed.{Draws, window}
use Rattle.mlocate_db.specs.Items.{HeaderItem}
use Rattle.mlocate_db.specs.Reader.{is_live}
use Rattle.tree_scan.specs.Records.{Record}
use Rattle.dir_reuse.specs.declared.cursor.Cursor.{Cursor}
use Rattle.dir_reuse.specs.Usable.{records, is_ordered, header_of, has_setup}
use Rattle.dir_reuse.specs.Coming.{records_to_come, size}
use Rattle.dir_reuse.specs.Answering.{ahead, in_order, is_open}

abbrev pub known_by : Bool → Cursor → Option (List ℕ) → Option (List Record)
known_by true c left = option_map (λ l. records_to_come (ahead c (window c.reader.feed l))) left
known_by false c left = Some []

-- the records to come, where the source tells its bytes; none where nothing can come
abbrev pub known : Cursor → Option (List ℕ) → Option (List Record)
known c left = known_by (is_open c) c left

abbrev pub ordered_by : Bool → Cursor → Option (List ℕ) → Bool
ordered_by true c left = option_map_or (λ l. in_order (ahead c (window c.reader.feed l))) left false
ordered_by false c left = true

-- whether they are known to be in order
abbrev pub is_known_ordered : Cursor → Option (List ℕ) → Bool
is_known_ordered c left = ordered_by (is_open c) c left

-- The records to come are those of the file, and in order just where the file is; there are none where its first read
-- failed.
abbrev pub OpensKnown : List ℕ → List ℕ → Option (List ℕ) → Cursor → Option (List ℕ) → Type 0
OpensKnown root block None c left' = ⊤
OpensKnown root block (Some file) c left' =
    MatchBool c.unbroken ((known c left' ≡ Some (records root block file)) × (is_known_ordered c left' ≡ is_ordered root block file)) (known c left' ≡ Some [])

-- Where the header was read, the reader stands at its end; where it was not, no whole one begins the file, or the read
-- failed. Records can come just where its root and its configuration block are these.
pub record HeaderRead (root block file : List ℕ) (c : Cursor) : Type 0 where
  pub stands : is_live c.reader.stage ≡ true → IsSomeAnd (header_of file) (λ header. c.reader.place ≡ size (HeaderItem header))
  pub lacks : is_live c.reader.stage ≡ false → IsTrue c.unbroken → header_of file ≡ None
  pub opens : is_open c ≡ (c.unbroken && has_setup root block file)

abbrev pub HeaderReadKnown : List ℕ → List ℕ → Option (List ℕ) → Cursor → Type 0
HeaderReadKnown root block None c = ⊤
HeaderReadKnown root block (Some file) c = HeaderRead root block file c

-- What a voucher keeps while it is asked: no failure of the source goes unseen, no byte is drawn twice, and where nothing can
-- come, this stays so and nothing more is read.
pub record ReadsOn (c c' : Cursor) (faults faults' given given' : ℕ) (left left' : Option (List ℕ)) : Type 0 where
  pub later : faults ≤ faults'
  pub unbroken : (Rose faults faults' → ⊥) → c'.unbroken ≡ c.unbroken
  pub drawn : Draws c.reader.feed c'.reader.feed given given' left left'
  pub shut : is_open c ≡ false → (is_open c' ≡ false) × (c'.reader ≡ c.reader)
