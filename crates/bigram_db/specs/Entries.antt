-- What a stream gives of an entry, part by part. An entry ends where the bytes behind it say so.
use Rattle.std.specs.Prelude.{◌≡◌, ℕ, ◌≤◌, ℤ, Bool, true, false, not, List, [], ◌∷◌, ◌++◌, length, Option, Some, None, Result, Ok, Err, ⊤, All, MatchResult}
use Rattle.byte_feed.specs.declared.damage.DamageCause.TheVariants.{Cut}
use Rattle.byte_feed.specs.declared.damage.Stop.{Stop}
use Rattle.byte_feed.specs.declared.damage.Stop.TheVariants.{Broken}
use Rattle.byte_feed.specs.declared.damage.Break.{Break}
use Rattle.byte_feed.specs.declared.damage.Break.TheVariants.{ReadFault, TooLarge, Stopped}
use Rattle.byte_feed.specs.Field.{Reads, byte_at}
use Rattle.byte_feed.specs.Feed.{FeedState, window, so_far, Took}
use Rattle.byte_feed.specs.Stream.{is_cut, Gave, Breaks, Wanting}
use Rattle.bigram_db.specs.Items.{TextUnit, Count, PathItem, value_of, shared_by, path_with, spell_units, text_of, unit_bytes, IsUnit, ends, word_at, unit_fitting, units_at, entry_at}

-- what holds of the bytes that are left, where the source tells them
abbrev pub WhereTold : (List ℕ → List ℕ → Type 0) → Option (List ℕ) → Option (List ℕ) → Type 0
WhereTold P None left' = ⊤
WhereTold P (Some l) None = ⊥
WhereTold P (Some l) (Some l') = P l l'

-- why reading broke off, for a reader that looks at whether the file ends with its bytes
abbrev pub BreaksAs : {Y : Type 0} → (Bool → Reads Y) → FeedState → List ℕ → ℕ → Break → Type 0
BreaksAs read f left n ReadFault = Wanting (read false) f left n
BreaksAs read f left n TooLarge = (read false (window f left).bytes ≡ Err (Broken Cut)) × ((window f left).more ≡ true)
BreaksAs read f left n (Stopped s) = (read (not (window f left).more) (window f left).bytes ≡ Err s) × (is_cut s ≡ true → (window f left).more ≡ false)

-- An entry ends before the bytes to come, also where only a part of them has come.
pub record EndsHere (f : FeedState) (left : List ℕ) : Type 0 where
  pub whole : ends (not (window f left).more) (window f left).bytes ≡ true
  pub parts : f.ended ≡ false → (n : ℕ) → n ≤ length left → ends false (so_far f left n).bytes ≡ true

-- ---- a count

-- A count of this value was read.
pub record GaveCount (read : Reads Count) (value : ℤ) (f : FeedState) (left : List ℕ) (f' : FeedState) (left' : List ℕ) : Type 0 where
  pub count : Count
  pub gave : Gave read count f left f' left'
  pub is : value_of count ≡ value

-- Reading a word gives a count of this value, whatever bytes are behind it.
abbrev pub WordIs : List ℕ → Result ℤ Stop → Type 0
WordIs bytes (Ok value) = (count : Count) × (rest : List ℕ) × (word_at bytes ≡ Ok (count, rest)) × (value_of count ≡ value)
WordIs bytes (Err s) = word_at bytes ≡ Err s

abbrev pub CountKnown : Reads Count → FeedState → Option (List ℕ) → FeedState → Option (List ℕ) → Result ℤ Break → Type 0
CountKnown read f left f' left' r = WhereTold (λ l l'. MatchResult r (λ value. GaveCount read value f l f' l') (λ e. Breaks read f l (length l') e)) left left'

-- ---- units

-- Either the entry ends, or it goes on with a byte, which was taken.
abbrev pub Goes : Option ℕ → FeedState → List ℕ → FeedState → List ℕ → Type 0
Goes None f l f' l' = Took f l f' l' [] × EndsHere f' l'
Goes (Some b) f l f' l' = Took f l f' l' (b ∷ [])

-- The source failed, or the limit came, before a byte that tells it.
abbrev pub NoneCame : FeedState → List ℕ → ℕ → Break → Type 0
NoneCame f l n ReadFault = Breaks byte_at f l n ReadFault
NoneCame f l n TooLarge = Breaks byte_at f l n TooLarge
NoneCame f l n (Stopped s) = ⊥

abbrev pub NextKnown : FeedState → Option (List ℕ) → FeedState → Option (List ℕ) → Result (Option ℕ) Break → Type 0
NextKnown f left f' left' r = WhereTold (λ l l'. MatchResult r (λ next. Goes next f l f' l') (λ e. NoneCame f l (length l') e)) left left'

-- A unit that begins with this byte and these was put into a path as this text, whatever bytes follow; or there is none.
abbrev pub Pushes : List ℕ → ℕ → ℕ → List ℕ → List ℕ → Result (Unit {0}) Break → Type 0
Pushes table room first bytes text (Ok x) = (unit : TextUnit) × ((rest : List ℕ) → unit_fitting table room first (bytes ++ rest) ≡ Ok (unit, rest)) × (unit_bytes table unit ≡ text)
Pushes table room first bytes text (Err (Stopped s)) = (is_cut s ≡ false) × ((rest : List ℕ) → unit_fitting table room first (bytes ++ rest) ≡ Err s)
Pushes table room first bytes text (Err e) = ⊥

-- The unit behind this byte was read, and stands for these bytes of a path.
pub record GaveUnit (table : List ℕ) (room first : ℕ) (text : List ℕ) (f : FeedState) (left : List ℕ) (f' : FeedState) (left' : List ℕ) : Type 0 where
  pub unit : TextUnit
  pub gave : Gave (unit_fitting table room first) unit f left f' left'
  pub is : unit_bytes table unit ≡ text

abbrev pub UnitKnown : List ℕ → ℕ → ℕ → List ℕ → FeedState → Option (List ℕ) → FeedState → Option (List ℕ) → Result (Unit {0}) Break → Type 0
UnitKnown table room first text f left f' left' r = WhereTold (λ l l'. MatchResult r (λ _. GaveUnit table room first text f l f' l') (λ e. Breaks (unit_fitting table room first) f l (length l') e)) left left'

-- These bytes spell units, which stand for this text.
pub record SpellsText (table bytes text : List ℕ) : Type 0 where
  pub units : List TextUnit
  pub each : All (IsUnit table) units
  pub spelled : bytes ≡ spell_units units
  pub makes : text_of table units ≡ text

-- Units were read that make this text, and the entry ends behind them.
pub record GaveUnits (table : List ℕ) (room : ℕ) (text : List ℕ) (f : FeedState) (left : List ℕ) (f' : FeedState) (left' : List ℕ) : Type 0 where
  pub bytes : List ℕ
  pub units : List TextUnit
  pub took : Took f left f' left' bytes
  pub gives : (last : Bool) (rest : List ℕ) → ends last rest ≡ true → units_at last table room (bytes ++ rest) ≡ Ok (units, rest)
  pub makes : text_of table units ≡ text
  pub ended : EndsHere f' left'

abbrev pub UnitsKnown : List ℕ → ℕ → List ℕ → FeedState → Option (List ℕ) → FeedState → Option (List ℕ) → Result (Unit {0}) Break → Type 0
UnitsKnown table room text f left f' left' r = WhereTold (λ l l'. MatchResult r (λ _. GaveUnits table room text f l f' l') (λ e. BreaksAs (λ last. units_at last table room) f l (length l') e)) left left'

-- ---- an entry

-- An entry was read that makes this path with so many shared bytes, and ends here.
pub record GaveEntry (table path : List ℕ) (old : ℕ) (path' : List ℕ) (new : ℕ) (f : FeedState) (left : List ℕ) (f' : FeedState) (left' : List ℕ) : Type 0 where
  pub bytes : List ℕ
  pub count : Count
  pub units : List TextUnit
  pub took : Took f left f' left' bytes
  pub gives : (last : Bool) (rest : List ℕ) → ends last rest ≡ true → entry_at last table path old (bytes ++ rest) ≡ Ok (PathItem count units, rest)
  pub shares : shared_by old count ≡ new
  pub makes : path_with path new (text_of table units) ≡ path'
  pub ended : EndsHere f' left'

abbrev pub EntryKnown : List ℕ → List ℕ → ℕ → List ℕ → FeedState → Option (List ℕ) → FeedState → Option (List ℕ) → Result ℕ Break → Type 0
EntryKnown table path old path' f left f' left' r = WhereTold (λ l l'. MatchResult r (λ new. GaveEntry table path old path' new f l f' l') (λ e. BreaksAs (λ last. entry_at last table path old) f l (length l') e)) left left'
