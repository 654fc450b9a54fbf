-- Only the first item of a file shows that it is no database: no later item says so.
use Rattle.std.proofs.Common.{◌≡◌, ℕ, zero, suc, ◌+◌, ◌-◌, Bool, true, false, cond, not, List, [], ◌∷◌, length, drop, Result, Ok, Err, refl, ap, subst}
use Rattle.std.specs.Prelude.{nat_eq, ◌&&◌, nat_lt, nat_le, ◌==◌, ℤ, pos, negsuc, ◌+ℤ◌, is_some}
use Rattle.std.specs.List.{starts_with, position_or_len}
use Rattle.byte_feed.specs.declared.damage.DamageCause.{DamageCause}
use Rattle.byte_feed.specs.declared.damage.DbFault.{DbFault}
use Rattle.byte_feed.specs.declared.damage.DbFault.TheVariants as faults
use Rattle.byte_feed.specs.declared.damage.Stop.{Stop}
use Rattle.byte_feed.specs.declared.damage.Stop.TheVariants.{NotADatabase, Broken}
use Rattle.byte_feed.specs.Field.{◌>>=◌, byte_at, bytes_at, number_at, ended_at, text_at, demand, magic_at, max_path, is_zero}
use Rattle.byte_feed.specs.Front.{Format, Window, items_within, items_of, on_ok, left_by, spelling}
use Rattle.byte_feed.specs.Stream.{is_cut}
use Rattle.byte_feed.specs.Endings.{Ending, end_at, end_by}
use Rattle.byte_feed.specs.Paths.{rest_of}
use Rattle.mlocate_db.specs.Items as mlocate
use Rattle.locate02_db.specs.Items as locate02
use Rattle.bigram_db.specs.Pairs.{is_bigram, is_used, pair_at}
use Rattle.bigram_db.specs.Items as bigram
use Rattle.path_order.specs.declared.kind.Kind.{Kind}
use Rattle.path_order.specs.declared.kind.Kind.TheVariants.{File, Directory}

abbrev refused : (A : Type 0) → Stop → Result A Stop
refused A s = Err s

as_read : {A B : Type 0} (s : Stop) → refused B s ≡ refused B NotADatabase → refused A s ≡ refused A NotADatabase
as_read {A = A} s e = let is : s ≡ NotADatabase = cc in ap (refused A) is

pub never_bind : {A B : Type 0} (r : Result A Stop) (k : A → Result B Stop) → (r ≡ Err NotADatabase → ⊥) → ((x : A) → k x ≡ Err NotADatabase → ⊥) → (r >>= k) ≡ Err NotADatabase → ⊥
never_bind (Ok x) k a b e = b x e
never_bind (Err s) k a b e = a (as_read s e)

never_if : {A : Type 0} (b : Bool) (cause : DamageCause) (r : Result A Stop) → (r ≡ Err NotADatabase → ⊥) → cond b (Err (Broken cause)) r ≡ Err NotADatabase → ⊥
never_if true cause r a e = absurd cc
never_if false cause r a e = a e

never_demand : (b : Bool) (cause : DamageCause) → demand b cause ≡ Err NotADatabase → ⊥
never_demand true cause e = absurd cc
never_demand false cause e = absurd cc

never_byte : (bytes : List ℕ) → byte_at bytes ≡ Err NotADatabase → ⊥
never_byte [] e = absurd cc
never_byte (b ∷ bytes) e = absurd cc

never_bytes : (n : ℕ) (bytes : List ℕ) → bytes_at n bytes ≡ Err NotADatabase → ⊥
never_bytes n bytes e = never_if (nat_lt (length bytes) n) _ _ (λ o. absurd cc) e

never_number : (n : ℕ) (bytes : List ℕ) → number_at n bytes ≡ Err NotADatabase → ⊥
never_number n bytes e = never_if (nat_lt (length bytes) n) _ _ (λ o. absurd cc) e

never_ended : (room : ℕ) (bytes : List ℕ) → ended_at room bytes ≡ Err NotADatabase → ⊥
unfolding ended_at
never_ended room bytes e = never_if (nat_lt room (position_or_len is_zero bytes)) _ _ (λ f. never_if (position_or_len is_zero bytes == length bytes) _ _ (λ o. absurd cc) f) e

never_text : (empty : DamageCause) (room : ℕ) (bytes : List ℕ) → text_at empty room bytes ≡ Err NotADatabase → ⊥
never_text empty room bytes e = never_bind (ended_at room bytes) _ (never_ended room bytes) (λ x f. never_bind (demand (nat_lt 0 (length x.0)) empty) _ (never_demand _ empty) (λ u o. absurd cc) f) e

never_unless : {A : Type 0} (b : Bool) (x : A) (cause : DamageCause) → cond b (Ok x) (Err (Broken cause)) ≡ Err NotADatabase → ⊥
never_unless true x cause e = absurd cc
never_unless false x cause e = absurd cc

never_either : {A : Type 0} (b : Bool) (r q : Result A Stop) → (r ≡ Err NotADatabase → ⊥) → (q ≡ Err NotADatabase → ⊥) → cond b r q ≡ Err NotADatabase → ⊥
never_either true r q first second e = first e
never_either false r q first second e = second e

-- ---- a database of mlocate

never_numbers : (bytes : List ℕ) → mlocate.numbers_at bytes ≡ Err NotADatabase → ⊥
unfolding mlocate.numbers_at
never_numbers bytes e =
    never_bind (number_at 8 bytes) _ (never_number 8 bytes)
    (λ seconds e1. never_bind (number_at 4 seconds.1) _ (never_number 4 seconds.1)
    (λ nanos e2. never_bind (demand (nat_lt nanos.0 1000000000) _) _ (never_demand _ _)
    (λ good e3. never_bind (number_at 4 nanos.1) _ (never_number 4 nanos.1) (λ device o. absurd cc) e3) e2) e1) e

pub never_head : (bytes : List ℕ) → mlocate.head_at bytes ≡ Err NotADatabase → ⊥
unfolding mlocate.head_at
never_head bytes e = never_bind (mlocate.numbers_at bytes) _ (never_numbers bytes) (λ numbers e1. never_bind (text_at _ max_path numbers.1) _ (never_text _ max_path numbers.1) (λ path o. absurd cc) e1) e

never_named : (kind : Kind) (room : ℕ) (bytes : List ℕ) → mlocate.name_at kind room bytes ≡ Err NotADatabase → ⊥
never_named kind room bytes e = never_bind (text_at _ room bytes) _ (never_text _ room bytes) (λ name o. absurd cc) e

never_listed : (room n : ℕ) (bytes : List ℕ) → mlocate.listed_at room n bytes ≡ Err NotADatabase → ⊥
never_listed room zero bytes e = never_named File room bytes e
never_listed room (suc zero) bytes e = never_named Directory room bytes e
never_listed room (suc (suc zero)) bytes e = absurd cc
never_listed room (suc (suc (suc n))) bytes e = absurd cc

pub never_entry : (room : ℕ) (bytes : List ℕ) → mlocate.entry_at room bytes ≡ Err NotADatabase → ⊥
unfolding mlocate.entry_at
never_entry room bytes e = never_bind (byte_at bytes) _ (never_byte bytes) (λ kind e1. never_listed room kind.0 kind.1 e1) e

magic_false : {A : Type 0} (b : Bool) (x : A) (P : Type 0) → (b ≡ false → P) → cond b (Ok x) (Err NotADatabase) ≡ Err NotADatabase → P
magic_false true x P go e = absurd cc
magic_false false x P go e = go refl

-- what a reader refuses that reads first what its format begins with
refuses : {A B : Type 0} (r : Result A Stop) (k : A → Result B Stop) (P : Type 0) → (r ≡ Err NotADatabase → P) → ((x : A) → k x ≡ Err NotADatabase → ⊥) → (r >>= k) ≡ Err NotADatabase → P
refuses (Ok x) k P a b e = absurd (b x e)
refuses (Err s) k P a b e = a (as_read s e)

pub no_mlocate : (bytes : List ℕ) → mlocate.item_at mlocate.AtStart bytes ≡ Err NotADatabase → starts_with nat_eq bytes mlocate.magic ≡ false
unfolding mlocate.header_at mlocate.fixed_at
no_mlocate bytes e =
    let P : Type 0 = starts_with nat_eq bytes mlocate.magic ≡ false in
    refuses (mlocate.header_at bytes) _ P
    (λ e1. refuses (mlocate.fixed_at bytes) _ P
    (λ e2. refuses (magic_at mlocate.magic bytes) _ P (λ e3. magic_false (starts_with nat_eq bytes mlocate.magic) _ P (λ no. no) e3)
    (λ begun e3. never_bind (number_at 4 begun.1) _ (never_number 4 begun.1)
    (λ size e4. never_bind (byte_at size.1) _ (never_byte size.1)
    (λ version e5. never_bind (demand (nat_lt version.0 2) _) _ (never_demand _ _)
    (λ known e6. never_bind (byte_at version.1) _ (never_byte version.1)
    (λ flag e7. never_bind (demand (nat_lt flag.0 2) _) _ (never_demand _ _)
    (λ good e8. never_bind (number_at 2 flag.1) _ (never_number 2 flag.1) (λ padding o. absurd cc) e8) e7) e6) e5) e4) e3) e2)
    (λ fixed e2. never_bind (text_at _ max_path fixed.1) _ (never_text _ max_path fixed.1)
    (λ root e3. never_bind (bytes_at fixed.0.size root.1) _ (never_bytes fixed.0.size root.1) (λ block o. absurd cc) e3) e2) e1)
    (λ header o. absurd cc) e

-- ---- a LOCATE02 database

never_shared : (len : ℕ) (shared : ℤ) → locate02.shared_within len shared ≡ Err NotADatabase → ⊥
never_shared len (pos n) e = never_unless (nat_le n len) _ _ e
never_shared len (negsuc n) e = absurd cc

never_change : (first : ℕ) (bytes : List ℕ) → locate02.change_from first bytes ≡ Err NotADatabase → ⊥
unfolding locate02.long_at
never_change first bytes e = never_either (first == 128) _ _ (λ f. never_bind (number_at 2 bytes) _ (never_number 2 bytes) (λ number o. absurd cc) f) (λ o. absurd cc) e

pub never_after : (path : List ℕ) (old : ℕ) (bytes : List ℕ) → locate02.entry_at path old bytes ≡ Err NotADatabase → ⊥
unfolding locate02.entry_from
never_after path old bytes e =
    never_bind (byte_at bytes) _ (never_byte bytes)
    (λ first e1. never_bind (locate02.change_from first.0 first.1) _ (never_change first.0 first.1)
    (λ change e2. never_bind (locate02.shared_within (length path) (pos old +ℤ locate02.amount change.0)) _ (never_shared (length path) _)
    (λ shared e3. never_bind (ended_at (max_path - shared) change.1) _ (never_ended (max_path - shared) change.1)
    (λ remainder e4. never_bind (demand (nat_lt 0 (shared + length remainder.0)) _) _ (never_demand _ _) (λ some o. absurd cc) e4) e3) e2) e1) e

pub no_locate02 : (bytes : List ℕ) → locate02.item_at locate02.AtStart bytes ≡ Err NotADatabase → starts_with nat_eq bytes locate02.magic ≡ false
no_locate02 bytes e =
    let P : Type 0 = starts_with nat_eq bytes locate02.magic ≡ false in
    refuses (magic_at locate02.magic bytes) _ P (λ e1. magic_false (starts_with nat_eq bytes locate02.magic) _ P (λ no. no) e1) (λ begun o. absurd cc) e

-- ---- a bigram database

never_within_path : (len : ℕ) (shared : ℤ) → bigram.shared_within len shared ≡ Err NotADatabase → ⊥
never_within_path len (pos n) e = never_unless (nat_le n len) _ _ e
never_within_path len (negsuc n) e = absurd cc

never_count : (bytes : List ℕ) → bigram.count_at bytes ≡ Err NotADatabase → ⊥
unfolding bigram.count_at
never_count bytes e =
    never_bind (byte_at bytes) _ (never_byte bytes)
    (λ first e1. never_bind (demand (nat_le first.0 30) _) _ (never_demand _ _)
    (λ good e2. never_either (first.0 == 30) _ _ (λ f. never_bind (bytes_at 4 first.1) _ (never_bytes 4 first.1) (λ word e3. never_bind (demand (is_some (bigram.word_value word.0)) _) _ (never_demand _ _) (λ some o. absurd cc) e3) f) (λ o. absurd cc) e2) e1) e

never_unit : (table : List ℕ) (room : ℕ) (bytes : List ℕ) → bigram.unit_at table room bytes ≡ Err NotADatabase → ⊥
unfolding bigram.unit_fitting
never_unit table room bytes e =
    never_bind (byte_at bytes) _ (never_byte bytes)
    (λ first e1. never_bind (bigram.unit_behind table first.0 first.1) _
    (λ f. never_either (first.0 == 31) _ _ (λ g. never_bind (byte_at first.1) _ (never_byte first.1) (λ byte e2. never_bind (demand (nat_lt 0 byte.0) _) _ (never_demand _ _) (λ some o. absurd cc) e2) g)
    (λ g. never_either (nat_lt first.0 128) _ _ (λ o. absurd cc) (λ h. never_bind (demand (is_used (pair_at table (first.0 - 128))) _) _ (never_demand _ _) (λ used o. absurd cc) h) g) f)
    (λ unit e2. never_bind (demand (nat_le (length (bigram.unit_bytes table unit.0)) room) _) _ (never_demand _ _) (λ fits o. absurd cc) e2) e1) e

never_within : (n : ℕ) (last : Bool) (table : List ℕ) (room : ℕ) (bytes : List ℕ) → bigram.units_within n last table room bytes ≡ Err NotADatabase → ⊥
unfolding bigram.units_within
never_within zero last table room bytes e = absurd cc
never_within (suc n) last table room bytes e =
    never_either (bigram.ends last bytes) _ _ (λ o. absurd cc)
    (λ f. never_bind (bigram.unit_at table room bytes) _ (never_unit table room bytes)
    (λ unit e1. never_bind (bigram.units_within n last table (room - length (bigram.unit_bytes table unit.0)) unit.1) _ (never_within n last table (room - length (bigram.unit_bytes table unit.0)) unit.1) (λ units o. absurd cc) e1) f) e

pub never_behind : (last : Bool) (table path : List ℕ) (old : ℕ) (bytes : List ℕ) → bigram.entry_at last table path old bytes ≡ Err NotADatabase → ⊥
unfolding bigram.entry_at bigram.units_at
never_behind last table path old bytes e =
    never_bind (bigram.count_at bytes) _ (never_count bytes)
    (λ count e1. never_bind (bigram.shared_within (length path) (pos old +ℤ bigram.amount count.0)) _ (never_within_path (length path) _)
    (λ shared e2. never_bind (bigram.units_at last table (max_path - shared) count.1) _ (never_within (suc (length count.1)) last table (max_path - shared) count.1)
    (λ units e3. never_bind (demand (nat_lt 0 (shared + length (bigram.text_of table units.0))) _) _ (never_demand _ _) (λ some o. absurd cc) e3) e2) e1) e

pub no_table : (last : Bool) (bytes : List ℕ) → bigram.item_at last bigram.AtStart bytes ≡ Err NotADatabase → is_bigram bytes ≡ false
unfolding bigram.table_at
no_table last bytes e =
    let P : Type 0 = is_bigram bytes ≡ false in
    refuses (bigram.table_at bytes) _ P (λ e1. magic_false (is_bigram bytes) _ P (λ no. no) e1) (λ table o. absurd cc) e

-- ---- a whole file

module _ (f : Format) (Begun : f.State → Type 0)
    (first : (last : Bool) (bytes : List ℕ) (x : f.Item × List ℕ) → f.item_at last f.begin bytes ≡ Ok x → Begun (f.after f.begin x.0))
    (keeps : (s : f.State) (i : f.Item) → Begun s → Begun (f.after s i))
    (never : (last : Bool) (s : f.State) (bytes : List ℕ) → Begun s → f.item_at last s bytes ≡ Err NotADatabase → ⊥) where
  stays_begun : (items : List f.Item) (s : f.State) → Begun s → Begun (left_by f s items)
  stays_begun [] s b = b
  stays_begun (i ∷ items) s b = stays_begun items (f.after s i) (keeps s i b)

  first_by : (r : Result (f.Item × List ℕ) Stop) (later : f.Item × List ℕ → List f.Item) (i : f.Item) (items : List f.Item) → ((x : f.Item × List ℕ) → r ≡ Ok x → Begun (f.after f.begin x.0))
      → on_ok [] (λ (x : f.Item × List ℕ). x.0 ∷ later x) r ≡ i ∷ items → Begun (f.after f.begin i)
  first_by (Ok x) later i items so e = let is : x.0 ≡ i = cc in subst (λ (j : f.Item). Begun (f.after f.begin j)) is (so x refl)
  first_by (Err s) later i items so e = absurd cc

  first_begun : (n : ℕ) (last : Bool) (bytes : List ℕ) (i : f.Item) (items : List f.Item) → items_within f n last f.begin bytes ≡ i ∷ items → Begun (f.after f.begin i)
  unfolding items_within
  first_begun zero last bytes i items e = absurd cc
  first_begun (suc n) last bytes i items e = first_by (f.item_at last f.begin bytes) _ i items (first last bytes) e

  abbrev ending_of : DbFault → Ending
  ending_of fault = Err fault

  broken_by : (place : ℕ) (b more : Bool) (cause : DamageCause) → ending_of (cond (b && more) faults.TooLarge (faults.Damage (record { place = place; cause = cause }))) ≡ Err faults.NotADatabase → ⊥
  broken_by place true true cause e = absurd cc
  broken_by place true false cause e = absurd cc
  broken_by place false more cause e = absurd cc

  ends_by : {A : Type 0} (place : ℕ) (b more : Bool) (r : Result A Stop) → cond b (cond more (Err faults.TooLarge) (Ok tt)) (end_by place more r) ≡ Err faults.NotADatabase → r ≡ Err NotADatabase
  ends_by place true true r e = absurd cc
  ends_by place true false r e = absurd cc
  ends_by place false more (Ok x) e = absurd cc
  ends_by place false more (Err NotADatabase) e = refl
  ends_by place false true (Err (Broken cause)) e = absurd (broken_by place (is_cut (Broken cause)) true cause e)
  ends_by place false false (Err (Broken cause)) e = absurd (broken_by place (is_cut (Broken cause)) false cause e)

  ends_first : (place : ℕ) (w : Window) (items : List f.Item) → items_of f (not w.more) f.begin w.bytes ≡ items
      → end_at f (place + length (spelling f items)) (left_by f f.begin items) (drop (length (spelling f items)) w.bytes) w.more ≡ Err faults.NotADatabase → f.item_at (not w.more) f.begin w.bytes ≡ Err NotADatabase
  unfolding items_of
  ends_first place w [] is e = ends_by (place + 0) _ w.more (f.item_at (not w.more) f.begin w.bytes) e
  ends_first place w (i ∷ items) is e =
      absurd (never (not w.more) _ _ (stays_begun items (f.after f.begin i) (first_begun (length w.bytes) (not w.more) w.bytes i items is)) (ends_by _ _ w.more (f.item_at (not w.more) (left_by f f.begin (i ∷ items)) _) e))

  -- what ends as no database has no first item
  pub no_first : (place : ℕ) (w : Window) → (rest_of f f.begin place w).ending ≡ Err faults.NotADatabase → f.item_at (not w.more) f.begin w.bytes ≡ Err NotADatabase
  unfolding rest_of
  no_first place w e = ends_first place w (items_of f (not w.more) f.begin w.bytes) refl e
