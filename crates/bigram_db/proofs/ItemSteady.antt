-- More bytes don't change how an item is read, but where a byte past the last one was asked for.
use Rattle.std.proofs.Common.{◌≡◌, ℕ, zero, suc, ◌+◌, ◌-◌, ◌⊎◌, Bool, true, false, cond, eqb, ltb, leb, List, [], ◌∷◌, ◌++◌, length, take, drop, replicate, Result, Ok, Err, refl, sym, ap, ◌∙◌, inl, inr, append_assoc, length-append, arith}
use Rattle.std.specs.Prelude.{ℤ, pos, negsuc, ◌+ℤ◌, is_some}
use Rattle.byte_feed.specs.declared.damage.DamageCause.{DamageCause}
use Rattle.byte_feed.specs.declared.damage.DamageCause.TheVariants.{Cut, LongPath, EmptyPath, BadCount, NoCount, EmptyPair, BadWord, ZeroChar}
use Rattle.byte_feed.specs.declared.damage.Stop.{Stop}
use Rattle.byte_feed.specs.declared.damage.Stop.TheVariants.{NotADatabase, Broken}
use Rattle.byte_feed.specs.Front.{IsBytes}
use Rattle.byte_feed.specs.Field.{◌>>=◌, Reads, byte_at, bytes_at, demand, max_path}
use Rattle.byte_feed.proofs.Steady.{Steady, Changes, bind_steady, pure_steady, stop_steady, demand_steady, byte_steady, bytes_steady}
use Rattle.bigram_db.specs.Pairs.{is_bigram, is_used, pair_at}
use Rattle.bigram_db.specs.Items.{Count, Short, Word, TextUnit, Plain, Escaped, Paired, Item, TableItem, PathItem, State, AtStart, After, word_value, amount, unit_bytes, text_of, ends, table_at, word_at, count_at, shared_within, escaped_at, paired_at, unit_behind, unit_fitting, unit_at, units_within, units_at, entry_at, item_at}
use Rattle.bigram_db.proofs.EntryLaws.{done, with_rest, table_takes, table_again}
use Rattle.bigram_db.proofs.UnitLaws.{within_enough}

-- ---- counts

word_steady : Steady word_at
word_steady = bind_steady (bytes_at 4) _ (bytes_steady 4) (λ word. demand_steady (is_some (word_value word)) BadWord _ (λ e. absurd cc) (pure_steady (Word word)))

behind_steady : (first : ℕ) (b : Bool) → Steady (λ bytes. cond b (word_at bytes) (Ok (Short first, bytes)))
behind_steady first true = word_steady
behind_steady first false = pure_steady (Short first)

count_steady : Steady count_at
unfolding count_at
count_steady = bind_steady byte_at _ byte_steady (λ first. demand_steady (leb first 30) NoCount _ (λ e. absurd cc) (behind_steady first (eqb first 30)))

-- ---- units

escaped_steady : Steady escaped_at
escaped_steady = bind_steady byte_at _ byte_steady (λ byte. demand_steady (ltb 0 byte) ZeroChar _ (λ e. absurd cc) (pure_steady (Escaped byte)))

paired_steady : (table : List ℕ) (number : ℕ) → Steady (paired_at table number)
paired_steady table number = demand_steady (is_used (pair_at table number)) EmptyPair _ (λ e. absurd cc) (pure_steady (Paired number))

unit_by : (table : List ℕ) (first : ℕ) (a b : Bool) → Steady (λ bytes. cond a (escaped_at bytes) (cond b (Ok (Plain first, bytes)) (paired_at table (first - 128) bytes)))
unit_by table first true b = escaped_steady
unit_by table first false true = pure_steady (Plain first)
unit_by table first false false = paired_steady table (first - 128)

fitting_steady : (table : List ℕ) (room first : ℕ) → Steady (unit_fitting table room first)
unfolding unit_fitting
fitting_steady table room first =
    bind_steady (unit_behind table first) _ (unit_by table first (eqb first 31) (ltb first 128)) (λ unit. demand_steady (leb (length (unit_bytes table unit)) room) LongPath _ (λ e. absurd cc) (pure_steady unit))

unit_steady : (table : List ℕ) (room : ℕ) → Steady (unit_at table room)
unit_steady table room = bind_steady byte_at _ byte_steady (fitting_steady table room)

-- ---- units up to the end of the entry

abbrev unended : {A : Type 0} → A → (List ℕ → Result (A × List ℕ) Stop) → List ℕ → Bool → Result (A × List ℕ) Stop
unended none g bytes b = cond b (Ok (none, bytes)) (g bytes)

-- Bytes at which an entry ends are known by the first of them.
goes_by : {A : Type 0} (none : A) (g : List ℕ → Result (A × List ℕ) Stop) → Steady g → (b : ℕ) (bytes more : List ℕ) (e : Bool) (x : A) (rest : List ℕ)
    → unended none g (b ∷ bytes) e ≡ Ok (x, rest) → unended none g ((b ∷ bytes) ++ more) e ≡ Ok (x, rest ++ more)
goes_by none g s b bytes more true x rest h = (pure_steady none).goes_on (b ∷ bytes) more x rest h
goes_by none g s b bytes more false x rest h = s.goes_on (b ∷ bytes) more x rest h

stays_by : {A : Type 0} (none : A) (g : List ℕ → Result (A × List ℕ) Stop) → Steady g → (b : ℕ) (bytes more : List ℕ) (e : Bool) (cause : DamageCause) → (cause ≡ Cut → ⊥)
    → unended none g (b ∷ bytes) e ≡ Err (Broken cause) → unended none g ((b ∷ bytes) ++ more) e ≡ Err (Broken cause)
stays_by none g s b bytes more true cause other h = absurd cc
stays_by none g s b bytes more false cause other h = s.stays (b ∷ bytes) more cause other h

changed : {A : Type 0} (none : A) (g : List ℕ → Result (A × List ℕ) Stop) → Steady g → (b : ℕ) (bytes : List ℕ) (e : Bool) → leb b 30 ≡ e → unended none g (b ∷ bytes) e ≡ Err (Broken Cut) → Changes (λ bs. unended none g bs (ends false bs)) (b ∷ bytes)
changed none g s b bytes true is h = absurd cc
changed none g s b bytes false is h =
    let c = s.changes (b ∷ bytes) h in
    record { more = c.more; small = c.small; apart = λ k. c.apart (ap (λ (e : Bool). unended none g ((b ∷ bytes) ++ c.more) e) (sym is) ∙ k) }

zero_small : IsBytes (replicate {A = ℕ} 1 0)
zero_small zero = omega arith
zero_small (suc i) = omega arith

ends_on : {A : Type 0} (none : A) (g : List ℕ → Result (A × List ℕ) Stop) → Steady g → g [] ≡ Err (Broken Cut) → (bytes more : List ℕ) (x : A) (rest : List ℕ)
    → unended none g bytes (ends false bytes) ≡ Ok (x, rest) → unended none g (bytes ++ more) (ends false (bytes ++ more)) ≡ Ok (x, rest ++ more)
ends_on none g s bare [] more x rest h = absurd (let z = sym bare ∙ h in cc)
ends_on none g s bare (b ∷ bytes) more x rest h = goes_by none g s b bytes more (leb b 30) x rest h

ends_stay : {A : Type 0} (none : A) (g : List ℕ → Result (A × List ℕ) Stop) → Steady g → g [] ≡ Err (Broken Cut) → (bytes more : List ℕ) (cause : DamageCause) → (cause ≡ Cut → ⊥)
    → unended none g bytes (ends false bytes) ≡ Err (Broken cause) → unended none g (bytes ++ more) (ends false (bytes ++ more)) ≡ Err (Broken cause)
ends_stay none g s bare [] more cause other h = absurd (let z = sym bare ∙ h in other cc)
ends_stay none g s bare (b ∷ bytes) more cause other h = stays_by none g s b bytes more (leb b 30) cause other h

ends_change : {A : Type 0} (none : A) (g : List ℕ → Result (A × List ℕ) Stop) → Steady g → (bytes : List ℕ) → unended none g bytes (ends false bytes) ≡ Err (Broken Cut) → Changes (λ bs. unended none g bs (ends false bs)) bytes
ends_change none g s [] h = record { more = replicate 1 0; small = zero_small; apart = λ k. absurd cc }
ends_change none g s (b ∷ bytes) h = changed none g s b bytes (leb b 30) refl h

-- a reader that goes on up to bytes at which an entry ends, and asks for one where there is none
ends_steady : {A : Type 0} (none : A) (g : List ℕ → Result (A × List ℕ) Stop) → Steady g → g [] ≡ Err (Broken Cut) → Steady (λ bytes. unended none g bytes (ends false bytes))
ends_steady none g s bare = record { goes_on = ends_on none g s bare; stays = ends_stay none g s bare; changes = ends_change none g s }

within_steady : (n : ℕ) (table : List ℕ) (room : ℕ) → Steady (units_within n false table room)
unfolding units_within
within_steady zero table room = pure_steady []
within_steady (suc n) table room =
    ends_steady [] _ (bind_steady (unit_at table room) _ (unit_steady table room) (λ unit.
    bind_steady (units_within n false table (room - length (unit_bytes table unit))) _ (within_steady n table (room - length (unit_bytes table unit))) (λ units.
    pure_steady (unit ∷ units)))) refl

-- ---- where a byte more is asked for

abbrev NotCut : {A : Type 0} → Result A Stop → Type 0
NotCut r = r ≡ Err (Broken Cut) → ⊥

abbrev failed : {A : Type 0} → Stop → Result A Stop
failed s = Err s

abbrev stop_or : {A : Type 0} → Stop → Result A Stop → Stop
stop_or d (Ok x) = d
stop_or d (Err s) = s

err_at : {A B : Type 0} (s t : Stop) → failed {A = A} s ≡ failed t → failed {A = B} s ≡ failed t
err_at s t e = ap (λ (u : Stop). Err u) (ap (stop_or s) e)

-- the first step asks for it where the second never does
cut_first : {A B : Type 0} (r : Result A Stop) (f : A → Result B Stop) → ((x : A) → NotCut (f x)) → (r >>= f) ≡ Err (Broken Cut) → r ≡ Err (Broken Cut)
cut_first (Ok x) f not e = absurd (not x e)
cut_first (Err s) f not e = err_at s (Broken Cut) e

not_cut : {A B : Type 0} (r : Result A Stop) (f : A → Result B Stop) → NotCut r → ((x : A) → NotCut (f x)) → NotCut (r >>= f)
not_cut r f first then e = first (cut_first r f then e)

demand_not : {A : Type 0} (b : Bool) (cause : DamageCause) (x : Result A Stop) → (cause ≡ Cut → ⊥) → NotCut x → NotCut (demand b cause >>= λ _. x)
demand_not true cause x other not e = not e
demand_not false cause x other not e = other cc

-- An escaped byte alone may lack, and a zero byte can't be one.
behind_zero : (table : List ℕ) (first : ℕ) (bytes : List ℕ) (a b : Bool) → cond a (escaped_at bytes) (cond b (Ok (Plain first, bytes)) (paired_at table (first - 128) bytes)) ≡ Err (Broken Cut)
    → cond a (escaped_at (bytes ++ 0 ∷ [])) (cond b (Ok (Plain first, bytes ++ 0 ∷ [])) (paired_at table (first - 128) (bytes ++ 0 ∷ []))) ≡ Err (Broken ZeroChar)
behind_zero table first [] true b e = refl
behind_zero table first (c ∷ bytes) true b e = absurd (demand_not (ltb 0 c) ZeroChar (done (with_rest (Escaped c) bytes)) (λ k. absurd cc) (λ k. absurd cc) e)
behind_zero table first bytes false true e = absurd cc
behind_zero table first bytes false false e = absurd (demand_not (is_used (pair_at table (first - 128))) EmptyPair (done (with_rest (Paired (first - 128)) bytes)) (λ k. absurd cc) (λ k. absurd cc) e)

abbrev fitted : List ℕ → ℕ → TextUnit × List ℕ → Result (TextUnit × List ℕ) Stop
fitted table room unit = demand (leb (length (unit_bytes table unit.0)) room) LongPath >>= λ _. Ok unit

fitted_not : (table : List ℕ) (room : ℕ) (unit : TextUnit × List ℕ) → NotCut (fitted table room unit)
fitted_not table room unit e = demand_not (leb (length (unit_bytes table unit.0)) room) LongPath (done unit) (λ k. absurd cc) (λ k. absurd cc) e

unit_zero : (table : List ℕ) (room b : ℕ) (bytes : List ℕ) → unit_at table room (b ∷ bytes) ≡ Err (Broken Cut) → unit_at table room (b ∷ bytes ++ 0 ∷ []) ≡ Err (Broken ZeroChar)
unfolding unit_fitting
unit_zero table room b bytes e =
    let here : unit_behind table b bytes ≡ Err (Broken Cut) = cut_first (unit_behind table b bytes) (fitted table room) (fitted_not table room) e in
    ap (λ (r : Result (TextUnit × List ℕ) Stop). r >>= fitted table room) (behind_zero table b bytes (eqb b 31) (ltb b 128) here)

abbrev collected : TextUnit → List TextUnit × List ℕ → Result (List TextUnit × List ℕ) Stop
collected unit units = Ok (unit ∷ units.0, units.1)

collected_not : (unit : TextUnit) (units : List TextUnit × List ℕ) → NotCut (collected unit units)
collected_not unit units e = absurd cc

abbrev later : ℕ → Bool → List ℕ → ℕ → TextUnit × List ℕ → Result (List TextUnit × List ℕ) Stop
later n last table room unit = units_within n last table (room - length (unit_bytes table unit.0)) unit.1 >>= collected unit.0

abbrev ZeroHelps : ℕ → List ℕ → Type 0
ZeroHelps n table = (room : ℕ) (bytes : List ℕ) → units_within n false table room bytes ≡ Err (Broken Cut) → NotCut (units_within n false table room (bytes ++ 0 ∷ []))

later_zero : (n : ℕ) (table : List ℕ) (room b : ℕ) (bytes : List ℕ) → ZeroHelps n table
    → (r : Result (TextUnit × List ℕ) Stop) → unit_at table room (b ∷ bytes) ≡ r → (r >>= later n false table room) ≡ Err (Broken Cut) → NotCut (unit_at table room (b ∷ bytes ++ 0 ∷ []) >>= later n false table room)
later_zero n table room b bytes go (Ok unit) is e h =
    let left : ℕ = room - length (unit_bytes table unit.0) in
    let inner = cut_first (units_within n false table left unit.1) (collected unit.0) (collected_not unit.0) e in
    let on = (unit_steady table room).goes_on (b ∷ bytes) (0 ∷ []) unit.0 unit.1 is in
    let there = sym (ap (λ (r : Result (TextUnit × List ℕ) Stop). r >>= later n false table room) on) ∙ h in
    go left unit.1 inner (cut_first (units_within n false table left (unit.1 ++ 0 ∷ [])) (collected unit.0) (collected_not unit.0) there)
later_zero n table room b bytes go (Err s) is e h =
    let zero_char = unit_zero table room b bytes (is ∙ err_at s (Broken Cut) e) in
    absurd (let z = sym (ap (λ (r : Result (TextUnit × List ℕ) Stop). r >>= later n false table room) zero_char) ∙ h in cc)

by_end : (n : ℕ) (table : List ℕ) (room b : ℕ) (bytes : List ℕ) → ZeroHelps n table → (over : Bool)
    → cond over (Ok ([], b ∷ bytes)) (unit_at table room (b ∷ bytes) >>= later n false table room) ≡ Err (Broken Cut) → NotCut (cond over (Ok ([], b ∷ bytes ++ 0 ∷ [])) (unit_at table room (b ∷ bytes ++ 0 ∷ []) >>= later n false table room))
by_end n table room b bytes go true e h = absurd cc
by_end n table room b bytes go false e h = later_zero n table room b bytes go (unit_at table room (b ∷ bytes)) refl e h

within_zero : (n : ℕ) (table : List ℕ) → ZeroHelps n table
unfolding units_within
within_zero zero table room bytes e h = absurd cc
within_zero (suc n) table room [] e h = absurd cc
within_zero (suc n) table room (b ∷ bytes) e h = by_end n table room b bytes (within_zero n table) (leb b 30) e h

-- ---- units, as many as there are

more_bytes : (table : List ℕ) (room : ℕ) (bytes more : List ℕ) → units_at false table room bytes ≡ units_within (suc (length (bytes ++ more))) false table room bytes
unfolding units_at
more_bytes table room bytes more = within_enough (suc (length bytes)) (suc (length (bytes ++ more))) false table room bytes (omega arith) (omega (arith, length-append bytes more))

units_go_on : (table : List ℕ) (room : ℕ) (bytes more : List ℕ) (x : List TextUnit) (rest : List ℕ) → units_at false table room bytes ≡ Ok (x, rest) → units_at false table room (bytes ++ more) ≡ Ok (x, rest ++ more)
unfolding units_at
units_go_on table room bytes more x rest e = (within_steady (suc (length (bytes ++ more))) table room).goes_on bytes more x rest (sym (more_bytes table room bytes more) ∙ e)

units_stay : (table : List ℕ) (room : ℕ) (bytes more : List ℕ) (cause : DamageCause) → (cause ≡ Cut → ⊥) → units_at false table room bytes ≡ Err (Broken cause) → units_at false table room (bytes ++ more) ≡ Err (Broken cause)
unfolding units_at
units_stay table room bytes more cause other e = (within_steady (suc (length (bytes ++ more))) table room).stays bytes more cause other (sym (more_bytes table room bytes more) ∙ e)

units_zero : (table : List ℕ) (room : ℕ) (bytes : List ℕ) → units_at false table room bytes ≡ Err (Broken Cut) → NotCut (units_at false table room (bytes ++ 0 ∷ []))
unfolding units_at
units_zero table room bytes e = within_zero (suc (length (bytes ++ 0 ∷ []))) table room bytes (sym (more_bytes table room bytes (0 ∷ [])) ∙ e)

units_steady : (table : List ℕ) (room : ℕ) → Steady (units_at false table room)
units_steady table room = record {
  goes_on = units_go_on table room;
  stays = units_stay table room;
  changes = λ bytes e. record { more = 0 ∷ []; small = zero_small; apart = units_zero table room bytes e };
}

-- ---- entries and items

by_test : {A : Type 0} (n : ℕ) (b : Bool) (read : ℕ → Reads A) → ((shared : ℕ) → Steady (read shared)) → Steady (λ bytes. cond b (Ok n) (Err (Broken BadCount)) >>= λ shared. read shared bytes)
by_test n true read s = s n
by_test n false read s = stop_steady BadCount (λ e. absurd cc)

-- a reader that goes on behind a shared length
shared_steady : {A : Type 0} (len : ℕ) (z : ℤ) (read : ℕ → Reads A) → ((shared : ℕ) → Steady (read shared)) → Steady (λ bytes. shared_within len z >>= λ shared. read shared bytes)
shared_steady len (pos n) read s = by_test n (leb n len) read s
shared_steady len (negsuc n) read s = stop_steady BadCount (λ e. absurd cc)

entry_steady : (table path : List ℕ) (old : ℕ) → Steady (entry_at false table path old)
unfolding entry_at
entry_steady table path old =
    bind_steady count_at _ count_steady (λ count.
    shared_steady (length path) (pos old +ℤ amount count) _ (λ shared.
    bind_steady (units_at false table (max_path - shared)) _ (units_steady table (max_path - shared)) (λ units.
    demand_steady (ltb 0 (shared + length (text_of table units))) EmptyPath _ (λ e. absurd cc) (
    pure_steady (PathItem count units)))))

table_on : (bytes more table rest : List ℕ) → table_at bytes ≡ Ok (table, rest) → table_at (bytes ++ more) ≡ Ok (table, rest ++ more)
table_on bytes more table rest e =
    let t = table_takes bytes table rest e in
    ap table_at (ap (λ (bs : List ℕ). bs ++ more) t.1 ∙ append_assoc table rest more) ∙ table_again table (rest ++ more) t.0

not_broken : {A : Type 0} (b : Bool) (x : A) (cause : DamageCause) → cond b (Ok x) (Err NotADatabase) ≡ failed (Broken cause) → ⊥
not_broken true x cause e = absurd cc
not_broken false x cause e = absurd cc

table_sound : (bytes : List ℕ) (cause : DamageCause) → table_at bytes ≡ Err (Broken cause) → ⊥
unfolding table_at
table_sound bytes cause e = not_broken (is_bigram bytes) (take 256 bytes, drop 256 bytes) cause e

table_steady : Steady table_at
table_steady = record {
  goes_on = table_on;
  stays = λ bytes more cause other e. absurd (table_sound bytes cause e);
  changes = λ bytes e. absurd (table_sound bytes Cut e);
}

pub item_steady : (s : State) → Steady (item_at false s)
item_steady AtStart = bind_steady table_at _ table_steady (λ table. pure_steady (TableItem table))
item_steady (After table path old) = entry_steady table path old

-- ---- at the end of the file

-- The same, or a byte more is asked for only where more may come.
abbrev pub SameOrCut : {A : Type 0} → Result A Stop → Result A Stop → Type 0
SameOrCut t r = (t ≡ r) ⊎ ((r ≡ Err (Broken Cut)) × NotCut t)

by_parts : {A B : Type 0} (r : Result A Stop) (f g : A → Result B Stop) → ((x : A) → SameOrCut (f x) (g x)) → SameOrCut (r >>= f) (r >>= g)
by_parts (Ok x) f g h = h x
by_parts (Err s) f g h = inl refl

by_front : {A B : Type 0} (t r : Result A Stop) (f : A → Result B Stop) → ((x : A) → NotCut (f x)) → SameOrCut t r → SameOrCut (t >>= f) (r >>= f)
by_front {A} t r f none (inl same) = inl (ap (λ (s : Result A Stop). s >>= f) same)
by_front {A} t r f none (inr cut) = inr (ap (λ (s : Result A Stop). s >>= f) cut.0, not_cut t f cut.1 none)

by_over : (n : ℕ) (table : List ℕ) (room b : ℕ) (bytes : List ℕ) → ((room : ℕ) (bytes : List ℕ) → SameOrCut (units_within n true table room bytes) (units_within n false table room bytes)) → (over : Bool)
    → SameOrCut (cond over (Ok ([], b ∷ bytes)) (unit_at table room (b ∷ bytes) >>= later n true table room)) (cond over (Ok ([], b ∷ bytes)) (unit_at table room (b ∷ bytes) >>= later n false table room))
by_over n table room b bytes go true = inl refl
by_over n table room b bytes go false =
    by_parts (unit_at table room (b ∷ bytes)) (later n true table room) (later n false table room) (λ unit.
    by_front (units_within n true table (room - length (unit_bytes table unit.0)) unit.1) (units_within n false table (room - length (unit_bytes table unit.0)) unit.1) (collected unit.0) (collected_not unit.0)
    (go (room - length (unit_bytes table unit.0)) unit.1))

within_either : (n : ℕ) (table : List ℕ) (room : ℕ) (bytes : List ℕ) → SameOrCut (units_within n true table room bytes) (units_within n false table room bytes)
unfolding units_within
within_either zero table room bytes = inl refl
within_either (suc n) table room [] = inr (refl, λ e. absurd cc)
within_either (suc n) table room (b ∷ bytes) = by_over n table room b bytes (within_either n table) (leb b 30)

units_either : (table : List ℕ) (room : ℕ) (bytes : List ℕ) → SameOrCut (units_at true table room bytes) (units_at false table room bytes)
unfolding units_at
units_either table room bytes = within_either (suc (length bytes)) table room bytes

abbrev finished : List ℕ → Count → ℕ → List TextUnit × List ℕ → Result (Item × List ℕ) Stop
finished table count shared units = demand (ltb 0 (shared + length (text_of table units.0))) EmptyPath >>= λ _. Ok (PathItem count units.0, units.1)

finished_not : (table : List ℕ) (count : Count) (shared : ℕ) (units : List TextUnit × List ℕ) → NotCut (finished table count shared units)
finished_not table count shared units e = demand_not (ltb 0 (shared + length (text_of table units.0))) EmptyPath (done (with_rest (PathItem count units.0) units.1)) (λ k. absurd cc) (λ k. absurd cc) e

item_either : (s : State) (bytes : List ℕ) → SameOrCut (item_at true s bytes) (item_at false s bytes)
unfolding entry_at
item_either AtStart bytes = inl refl
item_either (After table path old) bytes =
    by_parts (count_at bytes) _ _ (λ count.
    by_parts (shared_within (length path) (pos old +ℤ amount count.0)) _ _ (λ shared.
    by_front (units_at true table (max_path - shared) count.1) (units_at false table (max_path - shared) count.1) (finished table count.0 shared) (finished_not table count.0 shared)
    (units_either table (max_path - shared) count.1)))

stays_either : {A : Type 0} (t r : Result A Stop) (cause : DamageCause) → (cause ≡ Cut → ⊥) → SameOrCut t r → r ≡ Err (Broken cause) → t ≡ Err (Broken cause)
stays_either t r cause other (inl same) e = same ∙ e
stays_either t r cause other (inr cut) e = absurd (let z = sym cut.0 ∙ e in other cc)

cut_either : {A : Type 0} (t r : Result A Stop) → SameOrCut t r → t ≡ Err (Broken Cut) → r ≡ Err (Broken Cut)
cut_either t r (inl same) e = sym same ∙ e
cut_either t r (inr cut) e = absurd (cut.1 e)

-- a broken rule stays broken
pub item_stays : (last : Bool) (s : State) (bytes more : List ℕ) (cause : DamageCause) → (cause ≡ Cut → ⊥) → item_at false s bytes ≡ Err (Broken cause) → item_at last s (bytes ++ more) ≡ Err (Broken cause)
item_stays false s bytes more cause other e = (item_steady s).stays bytes more cause other e
item_stays true s bytes more cause other e = stays_either (item_at true s (bytes ++ more)) (item_at false s (bytes ++ more)) cause other (item_either s (bytes ++ more)) ((item_steady s).stays bytes more cause other e)

-- some bytes more help where one is asked for
pub item_cut : (last : Bool) (s : State) (bytes : List ℕ) → item_at last s bytes ≡ Err (Broken Cut) → Changes (item_at last s) bytes
item_cut false s bytes e = (item_steady s).changes bytes e
item_cut true s bytes e =
    let c = (item_steady s).changes bytes (cut_either (item_at true s bytes) (item_at false s bytes) (item_either s bytes) e) in
    record { more = c.more; small = c.small; apart = λ h. c.apart (cut_either (item_at true s (bytes ++ c.more)) (item_at false s (bytes ++ c.more)) (item_either s (bytes ++ c.more)) h) }
