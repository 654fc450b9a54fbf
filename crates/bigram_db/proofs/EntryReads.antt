-- What is read of an entry off a stream.
use Rattle.std.proofs.Common.{◌≡◌, ℕ, ◌+◌, ◌-◌, ◌<◌, ◌≤◌, Bool, true, false, not, cond, eqb, ltb, leb, List, [], ◌∷◌, ◌++◌, length, take, drop, Option, Some, None, Result, Ok, Err, inl, inr, refl, sym, ap, ◌∙◌, append_assoc, append-nil, length-append, length-drop, arith}
use Rattle.std.specs.Prelude.{ℤ, is_some, pos, negsuc, ◌+ℤ◌, ◌-ℤ◌}
use Rattle.std.proofs.lemmas.Bool.{le-leb, lt-leb, le-ltb, eq-eqb, ne_eqb, cases_Bool}
use Rattle.std.proofs.lemmas.Grind.{flat_map-append}
use Rattle.std.proofs.lemmas.List.{take_all, take-append-le, take-append-drop, drop-append-le, length-take-le}
use Rattle.byte_feed.specs.declared.damage.DamageCause.TheVariants.{Cut, LongPath, EmptyPath, BadCount, NoCount, BadWord, ZeroChar}
use Rattle.byte_feed.specs.declared.damage.Stop.{Stop}
use Rattle.byte_feed.specs.declared.damage.Stop.TheVariants.{NotADatabase, Broken}
use Rattle.byte_feed.specs.declared.damage.Break.{Break}
use Rattle.byte_feed.specs.declared.damage.Break.TheVariants.{ReadFault, TooLarge, Stopped}
use Rattle.byte_feed.specs.Field.{Reads, ◌>>=◌, byte_at, bytes_at, demand, max_path}
use Rattle.byte_feed.specs.Front.{limit}
use Rattle.byte_feed.specs.Feed.{FeedState, window, so_far, Took, TookKnown}
use Rattle.byte_feed.specs.Stream.{is_cut, Fails, Breaks, StreamGives}
use Rattle.byte_feed.proofs.Takes.{bytes_sized}
use Rattle.byte_feed.proofs.TakenOff.{took_none, took_held, took_then, window_took, more_took, so_far_took}
use Rattle.byte_feed.proofs.Streams.{differ, stream_then, stream_err, stream_ok, stream_stop, stream_same}
use Rattle.byte_feed.proofs.Wants.{Wants, carry, wants_ok, wants_demand, wants_then}
use Rattle.bigram_db.specs.Pairs.{is_table, is_bigram}
use Rattle.bigram_db.specs.Items.{Count, Short, Word, TextUnit, Plain, Escaped, Item, PathItem, value_of, amount, text_of, unit_bytes, path_with, shared_by, table_at, word_value, word_at, count_behind, count_at, shared_within, unit_fitting, units_at, entry_at}
use Rattle.bigram_db.specs.Entries.{WhereTold, BreaksAs, CountKnown, NoneCame, NextKnown, Pushes, UnitKnown, SpellsText, UnitsKnown, EntryKnown}
use Rattle.bigram_db.proofs.UnitLaws.{unit_then, units_then, units_on, units_ended, units_more, units_err}
use Rattle.bigram_db.proofs.UnitPushes.{more_behind}
use Rattle.bigram_db.proofs.EntryLaws.{done, with_rest, demand_no, entry_at_parts, within_is, shared_is, table_takes, table_again, table_len}

abbrev failed : Stop → Result (Count × List ℕ) Stop
failed s = Err s

-- ---- the table

carry_by : (bytes more : List ℕ) (b : Bool) → 256 ≤ length bytes → cond b (done (with_rest (take 256 bytes) (drop 256 (bytes ++ more)))) (Err NotADatabase) ≡ carry more (cond b (done (with_rest (take 256 bytes) (drop 256 bytes))) (Err NotADatabase))
carry_by bytes more true le = ap (λ (l : List ℕ). done (with_rest (take 256 bytes) l)) (drop-append-le 256 bytes more le)
carry_by bytes more false le = refl

table_on : (bytes more : List ℕ) → 256 ≤ length bytes → table_at (bytes ++ more) ≡ carry more (table_at bytes)
unfolding table_at
table_on bytes more le = rw (take-append-le 256 bytes more le) (carry_by bytes more (is_bigram bytes) le)

table_size : (bytes table rest : List ℕ) → table_at bytes ≡ Ok (table, rest) → length bytes ≡ 256 + length rest
table_size bytes table rest e = let t = table_takes bytes table rest e in omega (arith, ap length t.1, length-append table rest, table_len table t.0)

table_never_cut : (bytes : List ℕ) (s : Stop) → table_at bytes ≡ Err s → is_cut s ≡ false
unfolding table_at
table_never_cut bytes s e = elim (cases_Bool (is_bigram bytes)) [
  | inl good ↦ let h = rw good at e in absurd cc
  | inr bad ↦ let h = rw bad at e in let is : NotADatabase ≡ s = cc in ap is_cut (sym is)
]

-- where these bytes are a table, and where not
pub table_there : (bytes : List ℕ) → is_table bytes ≡ true → table_at bytes ≡ Ok (bytes, [])
table_there bytes e = ap table_at (sym (append-nil bytes)) ∙ table_again bytes [] e

pub table_not : (bytes : List ℕ) → length bytes ≤ 256 → is_table bytes ≡ false → table_at bytes ≡ Err NotADatabase
unfolding table_at
table_not bytes le e =
    let bad : is_bigram bytes ≡ false = ap is_table (take_all 256 bytes le) ∙ e in
    rw bad refl

pub table_wants : Wants 256 table_at
table_wants = record { on = table_on; takes = table_size; enough = λ bytes s le e. table_never_cut bytes s e }

-- ---- the bytes of a word

bytes_there : (count : ℕ) (bytes : List ℕ) → count ≤ length bytes → bytes_at count bytes ≡ Ok (take count bytes, drop count bytes)
bytes_there count bytes le = rw (le-ltb (length bytes) count le) refl

bytes_on : (count : ℕ) (bytes more : List ℕ) → count ≤ length bytes → bytes_at count (bytes ++ more) ≡ carry more (bytes_at count bytes)
bytes_on count bytes more le =
    bytes_there count (bytes ++ more) (omega (arith, le, length-append bytes more))
    ∙ ap (λ (p : List ℕ × List ℕ). Ok p) (λ i. (take-append-le count bytes more le i, drop-append-le count bytes more le i))
    ∙ ap (carry more) (sym (bytes_there count bytes le))

bytes_never : (count : ℕ) (bytes : List ℕ) (s : Stop) → count ≤ length bytes → bytes_at count bytes ≡ Err s → is_cut s ≡ false
bytes_never count bytes s le e = let h = sym (bytes_there count bytes le) ∙ e in absurd cc

wants_bytes : (count : ℕ) → Wants count (bytes_at count)
wants_bytes count = record {
  on = bytes_on count;
  takes = λ bytes text rest e. let h = bytes_sized count bytes text rest e in omega (arith, h.0, h.1);
  enough = λ bytes s le e. bytes_never count bytes s le e;
}

pub word_wants : Wants 4 word_at
word_wants =
    wants_then 4 0 (bytes_at 4) (λ word rest. demand (is_some (word_value word)) BadWord >>= λ good. Ok (Word word, rest)) (wants_bytes 4) (λ word.
    wants_demand 0 (is_some (word_value word)) BadWord (λ rest. Ok (Word word, rest)) refl (wants_ok (Word word)))

-- ---- what is known

pub told_none : (P : List ℕ → List ℕ → Type 0) (l' : Option (List ℕ)) → WhereTold P None l'
told_none P l' = tt

-- a count that a stream gave
pub count_known : (read : Reads Count) (count : Count) (value : ℤ) (f f' : FeedState) (l l' : Option (List ℕ)) → value_of count ≡ value → StreamGives {X = ℤ} (λ _. count) read f l f' l' (Ok value) → CountKnown read f l f' l' (Ok value)
unfolding StreamGives
count_known read count value f f' None l' is g = tt
count_known read count value f f' (Some a) None is g = absurd g
count_known read count value f f' (Some a) (Some b) is g = record { count = count; gave = g; is = is }

pub count_broken : (read : Reads Count) (count : Count) (f f' : FeedState) (l l' : Option (List ℕ)) (e : Break) → StreamGives {X = ℤ} (λ _. count) read f l f' l' (Err e) → CountKnown read f l f' l' (Err e)
unfolding StreamGives
count_broken read count f f' None l' e g = tt
count_broken read count f f' (Some a) None e g = absurd g
count_broken read count f f' (Some a) (Some b) e g = g

-- ---- a count, from its first byte on

abbrev from_first : ℕ → Reads Count
from_first first rest = demand (leb first 30) NoCount >>= λ good. count_behind first rest

count_parts : (bytes : List ℕ) → (byte_at bytes >>= λ first. from_first first.0 first.1) ≡ count_at bytes
unfolding count_at
count_parts bytes = refl

-- what the first byte is followed by
after_first : {Z : Type 0} (u : Z → Count) (f0 f1 f2 : FeedState) (l0 l1 l2 : Option (List ℕ)) (first : ℕ) (result : Result Z Break) → StreamGives (λ (n : ℕ). n) byte_at f0 l0 f1 l1 (Ok first)
    → StreamGives u (from_first first) f1 l1 f2 l2 result → StreamGives u count_at f0 l0 f2 l2 result
after_first u f0 f1 f2 l0 l1 l2 first result begun g =
    stream_same u (λ bytes. byte_at bytes >>= λ p. from_first p.0 p.1) count_at f0 f2 l0 l2 result count_parts (stream_then (λ (n : ℕ). n) byte_at from_first u f0 f1 f2 l0 l1 l2 first result begun g)

from_word : (first : ℕ) → first ≡ 30 → (bytes : List ℕ) → word_at bytes ≡ from_first first bytes
from_word first is bytes =
    let low : leb first 30 ≡ true = le-leb first 30 (omega (arith, is)) in
    let same : eqb first 30 ≡ true = eq-eqb first 30 is in
    sym (rw (low, same) refl)

abbrev as_value : Count → ℤ → Count
as_value count value = count

-- a word behind the byte 30
pub count_word : (f0 f1 f2 : FeedState) (l0 l1 l2 : Option (List ℕ)) (first : ℕ) (result : Result ℤ Break) → first ≡ 30 → StreamGives (λ (n : ℕ). n) byte_at f0 l0 f1 l1 (Ok first) → CountKnown word_at f1 l1 f2 l2 result → CountKnown count_at f0 l0 f2 l2 result
unfolding StreamGives
count_word f0 f1 f2 None l1 l2 first result is begun k = tt
count_word f0 f1 f2 (Some a) None l2 first result is begun k = absurd begun
count_word f0 f1 f2 (Some a) (Some b) None first result is begun k = absurd k
count_word f0 f1 f2 (Some a) (Some b) (Some c) first (Ok value) is begun k =
    count_known count_at k.count value f0 f2 (Some a) (Some c) k.is
    (after_first (as_value k.count) f0 f1 f2 (Some a) (Some b) (Some c) first (Ok value) begun (stream_same (as_value k.count) word_at (from_first first) f1 f2 (Some b) (Some c) (Ok value) (from_word first is) k.gave))
count_word f0 f1 f2 (Some a) (Some b) (Some c) first (Err e) is begun k =
    count_broken count_at (Short 0) f0 f2 (Some a) (Some c) e
    (after_first (as_value (Short 0)) f0 f1 f2 (Some a) (Some b) (Some c) first (Err e) begun (stream_same (as_value (Short 0)) word_at (from_first first) f1 f2 (Some b) (Some c) (Err e) (from_word first is) k))

-- a count in one byte
pub count_short : (f0 f1 : FeedState) (l0 l1 : Option (List ℕ)) (first : ℕ) (value : ℤ) → first < 30 → pos first ≡ value → StreamGives (λ (n : ℕ). n) byte_at f0 l0 f1 l1 (Ok first) → CountKnown count_at f0 l0 f1 l1 (Ok value)
count_short f0 f1 l0 l1 first value low is begun =
    let small : leb first 30 ≡ true = le-leb first 30 (omega (arith, low)) in
    let other : eqb first 30 ≡ false = ne_eqb first 30 (λ e. absurd (omega (arith, e, low))) in
    let same : (bytes : List ℕ) → done (with_rest (Short first) bytes) ≡ from_first first bytes = λ bytes. sym (rw (small, other) refl) in
    count_known count_at (Short first) value f0 f1 l0 l1 is
    (after_first (as_value (Short first)) f0 f1 f1 l0 l1 l1 first (Ok value) begun (stream_same (as_value (Short first)) (λ bytes. done (with_rest (Short first) bytes)) (from_first first) f1 f1 l1 l1 (Ok value) same (stream_ok (as_value (Short first)) value f1 l1)))

-- a byte that is no count
pub count_none : (f0 f1 : FeedState) (l0 l1 : Option (List ℕ)) (first : ℕ) → 30 < first → StreamGives (λ (n : ℕ). n) byte_at f0 l0 f1 l1 (Ok first) → CountKnown count_at f0 l0 f1 l1 (Err (Stopped (Broken NoCount)))
count_none f0 f1 l0 l1 first high begun =
    let large : leb first 30 ≡ false = lt-leb first 30 high in
    let same : (bytes : List ℕ) → failed (Broken NoCount) ≡ from_first first bytes = λ bytes. sym (demand_no (leb first 30) NoCount (count_behind first bytes) large) in
    count_broken count_at (Short 0) f0 f1 l0 l1 (Stopped (Broken NoCount))
    (after_first (as_value (Short 0)) f0 f1 f1 l0 l1 l1 first (Err (Stopped (Broken NoCount))) begun (stream_same (as_value (Short 0)) (λ bytes. failed (Broken NoCount)) (from_first first) f1 f1 l1 l1 (Err (Stopped (Broken NoCount))) same (stream_stop (as_value (Short 0)) (Broken NoCount) f1 l1 refl)))

-- no first byte came
pub count_first : (f0 f1 : FeedState) (l0 l1 : Option (List ℕ)) (e : Break) → StreamGives (λ (n : ℕ). n) byte_at f0 l0 f1 l1 (Err e) → CountKnown count_at f0 l0 f1 l1 (Err e)
count_first f0 f1 l0 l1 e g =
    count_broken count_at (Short 0) f0 f1 l0 l1 e
    (stream_same (as_value (Short 0)) (λ bytes. byte_at bytes >>= λ p. from_first p.0 p.1) count_at f0 f1 l0 l1 (Err e) count_parts (stream_err (λ (n : ℕ). n) byte_at from_first (as_value (Short 0)) f0 f1 l0 l1 e g))

-- ---- a unit

abbrev escaped_from : List ℕ → ℕ → ℕ → Reads TextUnit
escaped_from table room byte rest = (demand (ltb 0 byte) ZeroChar >>= λ some. done (with_rest (Escaped byte) rest)) >>= λ unit. demand (leb (length (unit_bytes table unit.0)) room) LongPath >>= λ fits. Ok unit

-- a byte behind 31
escaped_parts : (table : List ℕ) (room : ℕ) (bytes : List ℕ) → (byte_at bytes >>= λ p. escaped_from table room p.0 p.1) ≡ unit_fitting table room 31 bytes
unfolding unit_fitting
escaped_parts table room [] = refl
escaped_parts table room (b ∷ bytes) = refl

abbrev as_unit : TextUnit → Unit {0} → TextUnit
as_unit unit x = unit

unit_broken : (table : List ℕ) (room first : ℕ) (text : List ℕ) (unit : TextUnit) (f f' : FeedState) (l l' : Option (List ℕ)) (e : Break) → StreamGives (as_unit unit) (unit_fitting table room first) f l f' l' (Err e) → UnitKnown table room first text f l f' l' (Err e)
unfolding StreamGives
unit_broken table room first text unit f f' None l' e g = tt
unit_broken table room first text unit f f' (Some a) None e g = absurd g
unit_broken table room first text unit f f' (Some a) (Some b) e g = g

-- no byte came behind 31
pub unit_cut : (table : List ℕ) (room : ℕ) (text : List ℕ) (f f' : FeedState) (l l' : Option (List ℕ)) (e : Break) → StreamGives (λ (n : ℕ). n) byte_at f l f' l' (Err e) → UnitKnown table room 31 text f l f' l' (Err e)
unit_cut table room text f f' l l' e g =
    unit_broken table room 31 text (Plain 0) f f' l l' e
    (stream_same (as_unit (Plain 0)) (λ bytes. byte_at bytes >>= λ p. escaped_from table room p.0 p.1) (unit_fitting table room 31) f f' l l' (Err e) (escaped_parts table room)
    (stream_err (λ (n : ℕ). n) byte_at (escaped_from table room) (as_unit (Plain 0)) f f' l l' e g))

-- what was put into the path was taken off the stream
pub unit_pushed : (table : List ℕ) (room first : ℕ) (bytes text : List ℕ) (f f' : FeedState) (l l' : Option (List ℕ)) (r : Result (Unit {0}) Break) → TookKnown f l f' l' bytes → Pushes table room first bytes text r → UnitKnown table room first text f l f' l' r
unit_pushed table room first bytes text f f' None l' r t p = tt
unit_pushed table room first bytes text f f' (Some a) None r t p = absurd t
unit_pushed table room first bytes text f f' (Some a) (Some b) (Ok x) t p = record { unit = p.0; gave = record { text = bytes; took = t; gives = p.1 }; is = p.2 }
unit_pushed table room first bytes text f f' (Some a) (Some b) (Err ReadFault) t p = absurd p
unit_pushed table room first bytes text f f' (Some a) (Some b) (Err TooLarge) t p = absurd p
unit_pushed table room first bytes text f f' (Some a) (Some b) (Err (Stopped s)) t p =
    (ap (unit_fitting table room first) (window_took f f' a b bytes t) ∙ p.1 (window f' b).bytes, λ cut. absurd (differ (sym p.0 ∙ cut)))

-- ---- units, one after another

-- units that were read so far, and what reading them goes on with
pub record SoFar (table : List ℕ) (room : ℕ) (text : List ℕ) (f : FeedState) (left : List ℕ) (f' : FeedState) (left' : List ℕ) : Type 0 where
  pub bytes : List ℕ
  pub units : List TextUnit
  pub took : Took f left f' left' bytes
  pub goes : (last : Bool) (rest : List ℕ) → units_at last table room (bytes ++ rest) ≡ units_then units (units_at last table (room - length text) rest)
  pub makes : text_of table units ≡ text

abbrev pub SoFarKnown : List ℕ → ℕ → List ℕ → FeedState → Option (List ℕ) → FeedState → Option (List ℕ) → Type 0
SoFarKnown table room text f left f' left' = WhereTold (λ l l'. SoFar table room text f l f' l') left left'

then_none : (r : Result (List TextUnit × List ℕ) Stop) → units_then [] r ≡ r
then_none (Ok x) = refl
then_none (Err s) = refl

none_before : (last : Bool) (table : List ℕ) (room : ℕ) (rest : List ℕ) → units_at last table room rest ≡ units_then [] (units_at last table (room - 0) rest)
none_before last table room rest =
    let none : room ≡ room - 0 = omega arith in
    sym (then_none (units_at last table room rest)) ∙ ap (λ (n : ℕ). units_then [] (units_at last table n rest)) none

-- none was read yet
pub so_far_none : (table : List ℕ) (room : ℕ) (f : FeedState) (l : Option (List ℕ)) → SoFarKnown table room [] f l f l
so_far_none table room f None = tt
so_far_none table room f (Some a) = record { bytes = []; units = []; took = took_none f (Some a); goes = λ last rest. none_before last table room rest; makes = refl }

then_more : (units : List TextUnit) (u : TextUnit) (r : Result (List TextUnit × List ℕ) Stop) → units_then units (unit_then u r) ≡ units_then (units ++ u ∷ []) r
then_more units u (Ok x) = ap (λ (l : List TextUnit). Ok (l, x.1)) (sym (append_assoc units (u ∷ []) x.0))
then_more units u (Err s) = refl

-- a byte above 30, and the unit behind it
unit_here : (table : List ℕ) (room first : ℕ) (bytes rest : List ℕ) (u : TextUnit) (last : Bool) → 30 < first → unit_fitting table room first (bytes ++ rest) ≡ Ok (u, rest)
    → units_at last table room (first ∷ (bytes ++ rest)) ≡ unit_then u (units_at last table (room - length (unit_bytes table u)) rest)
unit_here table room first bytes rest u last high e = units_more last table room (first ∷ (bytes ++ rest)) u rest (lt-leb first 30 high) e

pub so_far_more : (table : List ℕ) (room first : ℕ) (text more text' : List ℕ) (f0 f1 f2 f3 : FeedState) (l0 l1 l2 l3 : Option (List ℕ)) → 30 < first → text' ≡ text ++ more
    → SoFarKnown table room text f0 l0 f1 l1 → NextKnown f1 l1 f2 l2 (Ok (Some first)) → UnitKnown table (room - length text) first more f2 l2 f3 l3 (Ok tt) → SoFarKnown table room text' f0 l0 f3 l3
so_far_more table room first text more text' f0 f1 f2 f3 None l1 l2 l3 high is s n u = tt
so_far_more table room first text more text' f0 f1 f2 f3 (Some a) None l2 l3 high is s n u = absurd s
so_far_more table room first text more text' f0 f1 f2 f3 (Some a) (Some b) None l3 high is s n u = absurd n
so_far_more table room first text more text' f0 f1 f2 f3 (Some a) (Some b) (Some c) None high is s n u = absurd u
so_far_more table room first text more text' f0 f1 f2 f3 (Some a) (Some b) (Some c) (Some d) high is s n u =
    let tail : List ℕ = u.gave.text in
    let left : room - length text - length (unit_bytes table u.unit) ≡ room - length text' = omega (arith, ap length is, length-append text more, ap length u.is) in
    record {
      bytes = s.bytes ++ (first ∷ tail);
      units = s.units ++ u.unit ∷ [];
      took = took_then f0 f1 f3 (Some a) (Some b) (Some d) s.bytes (first ∷ tail) s.took (took_then f1 f2 f3 (Some b) (Some c) (Some d) (first ∷ []) tail n u.gave.took);
      goes = λ last rest.
          ap (units_at last table room) (append_assoc s.bytes (first ∷ tail) rest)
          ∙ s.goes last (first ∷ (tail ++ rest))
          ∙ ap (units_then s.units) (unit_here table (room - length text) first tail rest u.unit last high (u.gave.gives rest))
          ∙ then_more s.units u.unit (units_at last table (room - length text - length (unit_bytes table u.unit)) rest)
          ∙ ap (λ (m : ℕ). units_then (s.units ++ u.unit ∷ []) (units_at last table m rest)) left;
      makes = flat_map-append (unit_bytes table) s.units (u.unit ∷ []) ∙ ap (λ (l : List ℕ). l ++ (unit_bytes table u.unit ++ [])) s.makes ∙ ap (λ (l : List ℕ). text ++ l) (append-nil (unit_bytes table u.unit) ∙ u.is) ∙ sym is;
    }

-- ---- units that were held

then_units : (units more : List TextUnit) (r : Result (List TextUnit × List ℕ) Stop) → units_then units (units_then more r) ≡ units_then (units ++ more) r
then_units units more (Ok x) = ap (λ (l : List TextUnit). Ok (l, x.1)) (sym (append_assoc units more x.0))
then_units units more (Err s) = refl

so_far_spelled : (table : List ℕ) (room : ℕ) (bytes text more text' : List ℕ) (f0 f1 f2 : FeedState) (l0 l1 l2 : Option (List ℕ)) → text' ≡ text ++ more → length text' ≤ room → SpellsText table bytes more
    → SoFarKnown table room text f0 l0 f1 l1 → TookKnown f1 l1 f2 l2 bytes → SoFarKnown table room text' f0 l0 f2 l2
so_far_spelled table room bytes text more text' f0 f1 f2 None l1 l2 is fits b s t = tt
so_far_spelled table room bytes text more text' f0 f1 f2 (Some a) None l2 is fits b s t = absurd s
so_far_spelled table room bytes text more text' f0 f1 f2 (Some a) (Some c) None is fits b s t = absurd t
so_far_spelled table room bytes text more text' f0 f1 f2 (Some a) (Some c) (Some d) is fits b s t =
    let len : length text' ≡ length text + length (text_of table b.units) = ap length is ∙ length-append text more ∙ ap (λ (l : List ℕ). length text + length l) (sym b.makes) in
    let left : room - length text - length (text_of table b.units) ≡ room - length text' = omega (arith, len) in
    record {
      bytes = s.bytes ++ bytes;
      units = s.units ++ b.units;
      took = took_then f0 f1 f2 (Some a) (Some c) (Some d) s.bytes bytes s.took t;
      goes = λ last rest.
          ap (units_at last table room) (append_assoc s.bytes bytes rest)
          ∙ s.goes last (bytes ++ rest)
          ∙ ap (λ (l : List ℕ). units_then s.units (units_at last table (room - length text) (l ++ rest))) b.spelled
          ∙ ap (units_then s.units) (units_on last table (room - length text) b.units rest b.each (omega (arith, len, fits)))
          ∙ then_units s.units b.units (units_at last table (room - length text - length (text_of table b.units)) rest)
          ∙ ap (λ (m : ℕ). units_then (s.units ++ b.units) (units_at last table m rest)) left;
      makes = flat_map-append (unit_bytes table) s.units b.units ∙ ap (λ (l : List ℕ). l ++ text_of table b.units) s.makes ∙ ap (λ (l : List ℕ). text ++ l) b.makes ∙ sym is;
    }

-- the first so many bytes that were held, put into the path and handed out
pub so_far_held : (table : List ℕ) (n count : ℕ) (path new : List ℕ) (f0 f1 f2 : FeedState) (l0 l1 : Option (List ℕ)) → n ≤ length path → take (length path) new ≡ path → length path ≤ length new → length new ≤ 4096
    → SpellsText table (take count f1.held) (drop (length path) new) → count ≤ length f1.held → f2.held ≡ drop count f1.held → f2.ended ≡ f1.ended → f2.offset ≡ f1.offset + count → f2.offset + length f2.held ≤ limit
    → SoFarKnown table (4096 - n) (drop n path) f0 l0 f1 l1 → SoFarKnown table (4096 - n) (drop n new) f0 l0 f2 l1
so_far_held table n count path new f0 f1 f2 l0 l1 le begins grown fits spells within held ended offset bound s =
    let len : length (take count f1.held) ≡ count = length-take-le count f1.held within in
    so_far_spelled table (4096 - n) (take count f1.held) (drop n path) (drop (length path) new) (drop n new) f0 f1 f2 l0 l1 l1 (more_behind n path new le begins) (omega (arith, length-drop n new, grown, fits, le)) spells s
    (took_held f1 f2 l1 (take count f1.held) ended (sym (take-append-drop count f1.held) ∙ ap (λ (l : List ℕ). take count f1.held ++ l) (sym held)) (omega (arith, offset, len)) (omega (arith, bound)))

append_none : (units : List TextUnit) → units ++ [] ≡ units
append_none [] = refl
append_none (u ∷ units) = ap (λ (l : List TextUnit). u ∷ l) (append_none units)

-- the entry ends
pub units_done : (table : List ℕ) (room : ℕ) (text : List ℕ) (f0 f1 f2 : FeedState) (l0 l1 l2 : Option (List ℕ)) → SoFarKnown table room text f0 l0 f1 l1 → NextKnown f1 l1 f2 l2 (Ok None) → UnitsKnown table room text f0 l0 f2 l2 (Ok tt)
units_done table room text f0 f1 f2 None l1 l2 s n = tt
units_done table room text f0 f1 f2 (Some a) None l2 s n = absurd s
units_done table room text f0 f1 f2 (Some a) (Some b) None s n = absurd n
units_done table room text f0 f1 f2 (Some a) (Some b) (Some c) s n = record {
  bytes = s.bytes ++ [];
  units = s.units;
  took = took_then f0 f1 f2 (Some a) (Some b) (Some c) s.bytes [] s.took n.0;
  gives = λ last rest over.
      ap (λ (l : List ℕ). units_at last table room (l ++ rest)) (append-nil s.bytes)
      ∙ s.goes last rest
      ∙ ap (units_then s.units) (units_ended last table (room - length text) rest over)
      ∙ ap (λ (l : List TextUnit). Ok (l, rest)) (append_none s.units);
  makes = s.makes;
  ended = n.1;
}

-- ---- where reading breaks off

then_err : (units : List TextUnit) (r : Result (List TextUnit × List ℕ) Stop) (s : Stop) → r ≡ Err s → units_then units r ≡ Err s
then_err units r s e = ap (units_then units) e

is_wanting : {A : Type 0} (r : Result A Stop) (s : Stop) → r ≡ Err s → Fails r
is_wanting r s e = rw e tt

fails_by : {A : Type 0} (r : Result A Stop) → Fails r → (P : Type 0) → ((s : Stop) → r ≡ Err s → P) → P
fails_by (Ok x) h P go = absurd h
fails_by (Err s) h P go = go s refl

-- bytes that were taken stand before what breaks off
broke_behind : {Y Z : Type 0} (read : Bool → Reads Y) (inner : Bool → Reads Z) (bytes : List ℕ) (f0 f1 : FeedState) (a b : List ℕ) (n : ℕ) (e : Break) → Took f0 a f1 b bytes
    → ((last : Bool) (rest : List ℕ) (s : Stop) → inner last rest ≡ Err s → read last (bytes ++ rest) ≡ Err s) → BreaksAs inner f1 b n e → BreaksAs read f0 a n e
broke_behind read inner bytes f0 f1 a b n ReadFault took pass w =
    let on = took.goes_on w.goes_on in
    let part : (so_far f0 a n).bytes ≡ bytes ++ (so_far f1 b n).bytes = so_far_took f0 f1 a b bytes n took w.goes_on w.fewer in
    record { goes_on = on.0; fewer = omega (arith, on.1, w.fewer); none = fails_by (inner false (so_far f1 b n).bytes) w.none (Fails (read false (so_far f0 a n).bytes)) (λ s e. is_wanting (read false (so_far f0 a n).bytes) s (ap (read false) part ∙ pass false (so_far f1 b n).bytes s e)) }
broke_behind read inner bytes f0 f1 a b n TooLarge took pass w =
    (ap (read false) (window_took f0 f1 a b bytes took) ∙ pass false (window f1 b).bytes (Broken Cut) w.0, sym (more_took f0 f1 a b bytes took) ∙ w.1)
broke_behind read inner bytes f0 f1 a b n (Stopped s) took pass w =
    let same = more_took f0 f1 a b bytes took in
    (ap (λ (m : Bool). read (not m) (window f0 a).bytes) (sym same) ∙ ap (read (not (window f1 b).more)) (window_took f0 f1 a b bytes took) ∙ pass (not (window f1 b).more) (window f1 b).bytes s w.0, λ cut. sym same ∙ w.1 cut)

-- a reader that does not look at where the file ends
breaks_plain : {Y : Type 0} (read : Reads Y) (f : FeedState) (a : List ℕ) (n : ℕ) (e : Break) → Breaks read f a n e → BreaksAs (λ last. read) f a n e
breaks_plain read f a n ReadFault b = b
breaks_plain read f a n TooLarge b = b
breaks_plain read f a n (Stopped s) b = b

byte_err : (bytes : List ℕ) (s : Stop) → byte_at bytes ≡ Err s → bytes ≡ []
byte_err [] s e = refl
byte_err (b ∷ bytes) s e = absurd cc

byte_fails : (bytes : List ℕ) → Fails (byte_at bytes) → bytes ≡ []
byte_fails [] h = refl
byte_fails (b ∷ bytes) h = absurd h

open_none : (table : List ℕ) (room : ℕ) → units_at false table room [] ≡ Err (Broken Cut)
open_none table room = units_err false table room [] (Broken Cut) refl refl

none_came : (table : List ℕ) (room : ℕ) (f : FeedState) (a : List ℕ) (n : ℕ) (e : Break) → NoneCame f a n e → BreaksAs (λ last. units_at last table room) f a n e
none_came table room f a n ReadFault w = record { goes_on = w.goes_on; fewer = w.fewer; none = is_wanting _ (Broken Cut) (ap (units_at false table room) (byte_fails (so_far f a n).bytes w.none) ∙ open_none table room) }
none_came table room f a n TooLarge w = (ap (units_at false table room) (byte_err (window f a).bytes (Broken Cut) w.0) ∙ open_none table room, w.1)
none_came table room f a n (Stopped s) w = absurd w

-- no byte came that tells whether the entry ends
pub units_cut : (table : List ℕ) (room : ℕ) (text text' : List ℕ) (f0 f1 f2 : FeedState) (l0 l1 l2 : Option (List ℕ)) (e : Break) → SoFarKnown table room text f0 l0 f1 l1 → NextKnown f1 l1 f2 l2 (Err e) → UnitsKnown table room text' f0 l0 f2 l2 (Err e)
units_cut table room text text' f0 f1 f2 None l1 l2 e s n = tt
units_cut table room text text' f0 f1 f2 (Some a) None l2 e s n = absurd s
units_cut table room text text' f0 f1 f2 (Some a) (Some b) None e s n = absurd n
units_cut table room text text' f0 f1 f2 (Some a) (Some b) (Some c) e s n =
    broke_behind (λ last. units_at last table room) (λ last. units_at last table (room - length text)) s.bytes f0 f1 a b (length c) e s.took
    (λ last rest stop h. s.goes last rest ∙ then_err s.units (units_at last table (room - length text) rest) stop h)
    (none_came table (room - length text) f1 b (length c) e n)

-- a unit broke off
pub units_unit : (table : List ℕ) (room first : ℕ) (text more text' : List ℕ) (f0 f1 f2 f3 : FeedState) (l0 l1 l2 l3 : Option (List ℕ)) (e : Break) → 30 < first → SoFarKnown table room text f0 l0 f1 l1 → NextKnown f1 l1 f2 l2 (Ok (Some first))
    → UnitKnown table (room - length text) first more f2 l2 f3 l3 (Err e) → UnitsKnown table room text' f0 l0 f3 l3 (Err e)
units_unit table room first text more text' f0 f1 f2 f3 None l1 l2 l3 e high s n u = tt
units_unit table room first text more text' f0 f1 f2 f3 (Some a) None l2 l3 e high s n u = absurd s
units_unit table room first text more text' f0 f1 f2 f3 (Some a) (Some b) None l3 e high s n u = absurd n
units_unit table room first text more text' f0 f1 f2 f3 (Some a) (Some b) (Some c) None e high s n u = absurd u
units_unit table room first text more text' f0 f1 f2 f3 (Some a) (Some b) (Some c) (Some d) e high s n u =
    broke_behind (λ last. units_at last table room) (λ last. unit_fitting table (room - length text) first) (s.bytes ++ first ∷ []) f0 f2 a c (length d) e (took_then f0 f1 f2 (Some a) (Some b) (Some c) s.bytes (first ∷ []) s.took n)
    (λ last rest stop h.
    ap (units_at last table room) (append_assoc s.bytes (first ∷ []) rest)
    ∙ s.goes last (first ∷ rest)
    ∙ then_err s.units (units_at last table (room - length text) (first ∷ rest)) stop (units_err last table (room - length text) (first ∷ rest) stop (lt-leb first 30 high) h))
    (breaks_plain (unit_fitting table (room - length text) first) f2 c (length d) e u)

-- ---- an entry

count_then : (last : Bool) (table path : List ℕ) (old : ℕ) (bytes rest : List ℕ) (count : Count) → count_at bytes ≡ Ok (count, rest)
    → entry_at last table path old bytes ≡ (shared_within (length path) (pos old +ℤ amount count) >>= λ shared. units_at last table (max_path - shared) rest >>= λ units. demand (ltb 0 (shared + length (text_of table units.0))) EmptyPath >>= λ some. Ok (PathItem count units.0, units.1))
unfolding entry_at
count_then last table path old bytes rest count e = rw e refl

amount_is : (old : ℕ) (count : Count) (value : ℤ) → value_of count ≡ value → pos old +ℤ amount count ≡ pos old +ℤ (value -ℤ pos 14)
amount_is old count value e = ap (λ (v : ℤ). pos old +ℤ (v -ℤ pos 14)) e

abbrev entry_reads : List ℕ → List ℕ → ℕ → Bool → Reads Item
entry_reads table path old last = entry_at last table path old

abbrev none_reads : Stop → Reads ℕ
none_reads s bytes = Err s

abbrev stopped : {A : Type 0} → Stop → Result A Stop
stopped s = Err s

err_same : {A B : Type 0} (s t : Stop) → stopped {A = A} s ≡ stopped t → stopped {A = B} s ≡ stopped t
err_same s t e = ap stopped cc

within_stops : (len : ℕ) (z : ℤ) (s : Stop) → shared_within len z ≡ Err s → is_cut s ≡ false
within_stops len (pos n) s e = elim (cases_Bool (leb n len)) [
  | inl fits ↦ let h = rw fits at e in absurd cc
  | inr long ↦ let h = rw long at e in let is : Broken BadCount ≡ s = cc in ap is_cut (sym is)
]
within_stops len (negsuc n) s e = let is : Broken BadCount ≡ s = cc in ap is_cut (sym is)

-- the count broke off
pub entry_count : (table path path' : List ℕ) (old : ℕ) (f0 f1 : FeedState) (l0 l1 : Option (List ℕ)) (e : Break) → CountKnown count_at f0 l0 f1 l1 (Err e) → EntryKnown table path old path' f0 l0 f1 l1 (Err e)
unfolding entry_at
entry_count table path path' old f0 f1 None l1 e c = tt
entry_count table path path' old f0 f1 (Some a) None e c = absurd c
entry_count table path path' old f0 f1 (Some a) (Some b) ReadFault c = record { goes_on = c.goes_on; fewer = c.fewer; none = fails_by (count_at (so_far f0 a (length b)).bytes) c.none _ (λ s h. is_wanting _ s (rw h refl)) }
entry_count table path path' old f0 f1 (Some a) (Some b) TooLarge c = (rw c.0 refl, c.1)
entry_count table path path' old f0 f1 (Some a) (Some b) (Stopped s) c = (rw c.0 refl, c.1)

-- the shared length is none
pub entry_shared : (table path path' : List ℕ) (old : ℕ) (value : ℤ) (s : Stop) (f0 f1 : FeedState) (l0 l1 : Option (List ℕ)) → CountKnown count_at f0 l0 f1 l1 (Ok value) → shared_within (length path) (pos old +ℤ (value -ℤ pos 14)) ≡ Err s
    → EntryKnown table path old path' f0 l0 f1 l1 (Err (Stopped s))
entry_shared table path path' old value s f0 f1 None l1 c e = tt
entry_shared table path path' old value s f0 f1 (Some a) None c e = absurd c
entry_shared table path path' old value s f0 f1 (Some a) (Some b) c e =
    broke_behind (entry_reads table path old) (λ last. none_reads s) c.gave.text f0 f1 a b (length b) (Stopped s) c.gave.took
    (λ last rest stop h.
    count_then last table path old (c.gave.text ++ rest) rest c.count (c.gave.gives rest)
    ∙ ap (λ (r : Result ℕ Stop). r >>= λ n. units_at last table (max_path - n) rest >>= λ units. demand (ltb 0 (n + length (text_of table units.0))) EmptyPath >>= λ some. done (with_rest (PathItem c.count units.0) units.1)) (ap (shared_within (length path)) (amount_is old c.count value c.is) ∙ e)
    ∙ err_same s stop h)
    (refl, λ cut. absurd (differ (sym (within_stops (length path) (pos old +ℤ (value -ℤ pos 14)) s e) ∙ cut)))

-- units broke off
pub entry_units : (table path path' : List ℕ) (old shared : ℕ) (value : ℤ) (text : List ℕ) (f0 f1 f2 : FeedState) (l0 l1 l2 : Option (List ℕ)) (e : Break) → CountKnown count_at f0 l0 f1 l1 (Ok value) → shared_within (length path) (pos old +ℤ (value -ℤ pos 14)) ≡ Ok shared
    → UnitsKnown table (max_path - shared) text f1 l1 f2 l2 (Err e) → EntryKnown table path old path' f0 l0 f2 l2 (Err e)
entry_units table path path' old shared value text f0 f1 f2 None l1 l2 e c w u = tt
entry_units table path path' old shared value text f0 f1 f2 (Some a) None l2 e c w u = absurd c
entry_units table path path' old shared value text f0 f1 f2 (Some a) (Some b) None e c w u = absurd u
entry_units table path path' old shared value text f0 f1 f2 (Some a) (Some b) (Some d) e c w u =
    broke_behind (entry_reads table path old) (λ last. units_at last table (max_path - shared)) c.gave.text f0 f1 a b (length d) e c.gave.took
    (λ last rest stop h.
    count_then last table path old (c.gave.text ++ rest) rest c.count (c.gave.gives rest)
    ∙ ap (λ (r : Result ℕ Stop). r >>= λ n. units_at last table (max_path - n) rest >>= λ units. demand (ltb 0 (n + length (text_of table units.0))) EmptyPath >>= λ some. done (with_rest (PathItem c.count units.0) units.1)) (ap (shared_within (length path)) (amount_is old c.count value c.is) ∙ w)
    ∙ ap (λ (r : Result (List TextUnit × List ℕ) Stop). r >>= λ units. demand (ltb 0 (shared + length (text_of table units.0))) EmptyPath >>= λ some. done (with_rest (PathItem c.count units.0) units.1)) h)
    u

-- the entry was read
pub entry_ok : (table path path' : List ℕ) (old shared : ℕ) (value : ℤ) (text : List ℕ) (f0 f1 f2 : FeedState) (l0 l1 l2 : Option (List ℕ)) → CountKnown count_at f0 l0 f1 l1 (Ok value) → shared_within (length path) (pos old +ℤ (value -ℤ pos 14)) ≡ Ok shared
    → UnitsKnown table (max_path - shared) text f1 l1 f2 l2 (Ok tt) → path' ≡ take shared path ++ text → 0 < shared + length text → EntryKnown table path old path' f0 l0 f2 l2 (Ok shared)
entry_ok table path path' old shared value text f0 f1 f2 None l1 l2 c w u is some = tt
entry_ok table path path' old shared value text f0 f1 f2 (Some a) None l2 c w u is some = absurd c
entry_ok table path path' old shared value text f0 f1 f2 (Some a) (Some b) None c w u is some = absurd u
entry_ok table path path' old shared value text f0 f1 f2 (Some a) (Some b) (Some d) c w u is some =
    let within : shared_within (length path) (pos old +ℤ amount c.count) ≡ Ok shared = ap (shared_within (length path)) (amount_is old c.count value c.is) ∙ w in
    let same : shared_by old c.count ≡ shared = shared_is old c.count shared (within_is (length path) (pos old +ℤ amount c.count) shared within).0 in
    record {
      bytes = c.gave.text ++ u.bytes;
      count = c.count;
      units = u.units;
      took = took_then f0 f1 f2 (Some a) (Some b) (Some d) c.gave.text u.bytes c.gave.took u.took;
      gives = λ last rest over.
          entry_at_parts last table path old ((c.gave.text ++ u.bytes) ++ rest) (u.bytes ++ rest) rest c.count shared u.units
          (ap count_at (append_assoc c.gave.text u.bytes rest) ∙ c.gave.gives (u.bytes ++ rest)) within (u.gives last rest over) (omega (arith, some, ap length u.makes));
      shares = same;
      makes = ap (path_with path shared) u.makes ∙ sym is;
      ended = u.ended;
    }

-- the path is empty
pub entry_empty : (table path path' : List ℕ) (old shared : ℕ) (value : ℤ) (text : List ℕ) (f0 f1 f2 : FeedState) (l0 l1 l2 : Option (List ℕ)) → CountKnown count_at f0 l0 f1 l1 (Ok value) → shared_within (length path) (pos old +ℤ (value -ℤ pos 14)) ≡ Ok shared
    → UnitsKnown table (max_path - shared) text f1 l1 f2 l2 (Ok tt) → shared + length text ≡ 0 → EntryKnown table path old path' f0 l0 f2 l2 (Err (Stopped (Broken EmptyPath)))
entry_empty table path path' old shared value text f0 f1 f2 None l1 l2 c w u none = tt
entry_empty table path path' old shared value text f0 f1 f2 (Some a) None l2 c w u none = absurd c
entry_empty table path path' old shared value text f0 f1 f2 (Some a) (Some b) None c w u none = absurd u
entry_empty table path path' old shared value text f0 f1 f2 (Some a) (Some b) (Some d) c w u none =
    let within : shared_within (length path) (pos old +ℤ amount c.count) ≡ Ok shared = ap (shared_within (length path)) (amount_is old c.count value c.is) ∙ w in
    let bytes : List ℕ = c.gave.text ++ u.bytes in
    let took : Took f0 a f2 d bytes = took_then f0 f1 f2 (Some a) (Some b) (Some d) c.gave.text u.bytes c.gave.took u.took in
    let last : Bool = not (window f2 d).more in
    let rest : List ℕ = (window f2 d).bytes in
    let same = more_took f0 f2 a d bytes took in
    let bare : ltb 0 (shared + length (text_of table u.units)) ≡ false = le-ltb 0 _ (omega (arith, none, ap length u.makes)) in
    let stops : entry_at last table path old (bytes ++ rest) ≡ Err (Broken EmptyPath) =
    count_then last table path old (bytes ++ rest) (u.bytes ++ rest) c.count (ap count_at (append_assoc c.gave.text u.bytes rest) ∙ c.gave.gives (u.bytes ++ rest))
    ∙ ap (λ (r : Result ℕ Stop). r >>= λ n. units_at last table (max_path - n) (u.bytes ++ rest) >>= λ units. demand (ltb 0 (n + length (text_of table units.0))) EmptyPath >>= λ some. done (with_rest (PathItem c.count units.0) units.1)) within
    ∙ ap (λ (r : Result (List TextUnit × List ℕ) Stop). r >>= λ units. demand (ltb 0 (shared + length (text_of table units.0))) EmptyPath >>= λ some. done (with_rest (PathItem c.count units.0) units.1)) (u.gives last rest u.ended.whole)
    ∙ demand_no (ltb 0 (shared + length (text_of table u.units))) EmptyPath (done (with_rest (PathItem c.count u.units) rest)) bare in
    (ap (λ (m : Bool). entry_at (not m) table path old (window f0 a).bytes) (sym same) ∙ ap (entry_at last table path old) (window_took f0 f2 a d bytes took) ∙ stops, λ cut. absurd cc)

-- what was looked at before
pub entry_after : (table path path' : List ℕ) (old : ℕ) (f0 f1 f2 : FeedState) (l0 l1 l2 : Option (List ℕ)) (r : Result ℕ Break) → TookKnown f0 l0 f1 l1 [] → EntryKnown table path old path' f1 l1 f2 l2 r → EntryKnown table path old path' f0 l0 f2 l2 r
entry_after table path path' old f0 f1 f2 None l1 l2 r t k = tt
entry_after table path path' old f0 f1 f2 (Some a) None l2 r t k = absurd t
entry_after table path path' old f0 f1 f2 (Some a) (Some b) None r t k = absurd k
entry_after table path path' old f0 f1 f2 (Some a) (Some b) (Some c) (Ok n) t k = record { bytes = k.bytes; count = k.count; units = k.units; took = took_then f0 f1 f2 (Some a) (Some b) (Some c) [] k.bytes t k.took; gives = k.gives; shares = k.shares; makes = k.makes; ended = k.ended }
entry_after table path path' old f0 f1 f2 (Some a) (Some b) (Some c) (Err e) t k = broke_behind (entry_reads table path old) (entry_reads table path old) [] f0 f1 a b (length c) e t (λ last rest s h. h) k
