-- Units, read and spelled.
use Rattle.std.proofs.Common.{◌≡◌, ℕ, zero, suc, ◌+◌, ◌-◌, ◌<◌, ◌≤◌, Bool, true, false, cond, eqb, ltb, leb, All, List, [], ◌∷◌, ◌++◌, length, Result, Ok, Err, refl, sym, ap, ◌∙◌, subst, inl, inr, append_assoc, length-append, arith}
use Rattle.std.proofs.lemmas.Bool.{cases_Bool, le-leb, lt-leb, leb-true, leb-false, lt-ltb, le-ltb, ltb-true, ltb-false, eqb-true, eqb-false, ne_eqb, and_from}
use Rattle.std.proofs.lemmas.List.Elements.{All-nil, All-cons, All-head, All-tail}
use Rattle.byte_feed.specs.declared.damage.DamageCause.{DamageCause}
use Rattle.byte_feed.specs.declared.damage.DamageCause.TheVariants.{LongPath, EmptyPair, ZeroChar}
use Rattle.byte_feed.specs.declared.damage.Stop.{Stop}
use Rattle.byte_feed.specs.Field.{◌>>=◌, byte_at, demand}
use Rattle.byte_feed.proofs.Fields.{seq, ok_is, demand_ok}
use Rattle.bigram_db.specs.Pairs.{is_plain, pair_at, is_used}
use Rattle.bigram_db.proofs.PairPlaces.{plain_bounds}
use Rattle.bigram_db.specs.Items.{TextUnit, Plain, Escaped, Paired, spell_unit, spell_units, unit_bytes, text_of, IsUnit, ends, escaped_at, paired_at, unit_behind, unit_fitting, unit_at, units_within, units_at}

abbrev done : {A : Type 0} → A → Result A Stop
done x = Ok x

abbrev both : TextUnit → List ℕ → TextUnit × List ℕ
both u rest = (u, rest)

same_unit : (u v : TextUnit) (xs ys : List ℕ) → done (both u xs) ≡ Ok (v, ys) → (u ≡ v) × (xs ≡ ys)
same_unit u v xs ys e = let p = ok_is (both u xs) (v, ys) e in (ap (λ (q : TextUnit × List ℕ). q.0) p, ap (λ (q : TextUnit × List ℕ). q.1) p)

byte_is : (bytes : List ℕ) (n : ℕ) (rest : List ℕ) → byte_at bytes ≡ Ok (n, rest) → bytes ≡ n ∷ rest
byte_is [] n rest e = absurd cc
byte_is (b ∷ bytes) n rest e = let p = ok_is (b, bytes) (n, rest) e in ap (λ (q : ℕ × List ℕ). q.0 ∷ q.1) p

-- ---- what stands behind a byte

record Behind (table : List ℕ) (first : ℕ) (bytes : List ℕ) (u : TextUnit) (rest : List ℕ) : Type 0 where
  is : 31 ≤ first → IsUnit table u
  spelled : first ∷ bytes ≡ spell_unit u ++ rest

as_behind : (table : List ℕ) (first : ℕ) (bytes rest xs : List ℕ) (u v : TextUnit) → (u ≡ v) × (xs ≡ rest) → (31 ≤ first → IsUnit table u) → first ∷ bytes ≡ spell_unit u ++ xs → Behind table first bytes v rest
as_behind table first bytes rest xs u v same is spelled = record {
  is = λ low. subst (IsUnit table) same.0 (is low);
  spelled = subst (λ (w : TextUnit). first ∷ bytes ≡ spell_unit w ++ rest) same.0 (subst (λ (l : List ℕ). first ∷ bytes ≡ spell_unit u ++ l) same.1 spelled);
}

escaped_takes : (table bytes : List ℕ) (u : TextUnit) (rest : List ℕ) → escaped_at bytes ≡ Ok (u, rest) → Behind table 31 bytes u rest
escaped_takes table bytes u rest e =
    seq (byte_at bytes) _ _ _ e (λ (byte : ℕ × List ℕ) e1 k1.
    seq (demand (ltb 0 byte.0) ZeroChar) _ _ _ k1 (λ (some : Unit {0}) e2 k2.
    let more : 0 < byte.0 = ltb-true 0 byte.0 (demand_ok _ _ some e2) in
    as_behind table 31 bytes rest byte.1 (Escaped byte.0) u (same_unit (Escaped byte.0) u byte.1 rest k2) (λ low. more) (ap (λ (l : List ℕ). 31 ∷ l) (byte_is bytes byte.0 byte.1 e1))))

paired_takes : (table : List ℕ) (first : ℕ) (bytes : List ℕ) (u : TextUnit) (rest : List ℕ) → 128 ≤ first → paired_at table (first - 128) bytes ≡ Ok (u, rest) → Behind table first bytes u rest
paired_takes table first bytes u rest high e =
    seq (demand (is_used (pair_at table (first - 128))) EmptyPair) _ _ _ e (λ (used : Unit {0}) e1 k1.
    let back : first ≡ first - 128 + 128 = omega (arith, high) in
    as_behind table first bytes rest bytes (Paired (first - 128)) u (same_unit (Paired (first - 128)) u bytes rest k1) (λ low. demand_ok _ _ used e1) (ap (λ (n : ℕ). n ∷ bytes) back))

plain_by : (table : List ℕ) (first : ℕ) (bytes : List ℕ) (u : TextUnit) (rest : List ℕ) (low : Bool) → ltb first 128 ≡ low → (first ≡ 31 → ⊥) → cond low (Ok (both (Plain first) bytes)) (paired_at table (first - 128) bytes) ≡ Ok (u, rest) → Behind table first bytes u rest
plain_by table first bytes u rest true small not e =
    as_behind table first bytes rest bytes (Plain first) u (same_unit (Plain first) u bytes rest e) (λ above. and_from (leb 32 first) (ltb first 128) (le-leb 32 first (omega (arith, above, not))) small) refl
plain_by table first bytes u rest false large not e = paired_takes table first bytes u rest (ltb-false first 128 large) e

behind_by : (table : List ℕ) (first : ℕ) (bytes : List ℕ) (u : TextUnit) (rest : List ℕ) (escape : Bool) → eqb first 31 ≡ escape
    → cond escape (escaped_at bytes) (cond (ltb first 128) (Ok (both (Plain first) bytes)) (paired_at table (first - 128) bytes)) ≡ Ok (u, rest) → Behind table first bytes u rest
behind_by table first bytes u rest true is e = subst (λ (n : ℕ). Behind table n bytes u rest) (sym (eqb-true first 31 is)) (escaped_takes table bytes u rest e)
behind_by table first bytes u rest false is e = plain_by table first bytes u rest (ltb first 128) refl (eqb-false first 31 is) e

behind_takes : (table : List ℕ) (first : ℕ) (bytes : List ℕ) (u : TextUnit) (rest : List ℕ) → unit_behind table first bytes ≡ Ok (u, rest) → Behind table first bytes u rest
behind_takes table first bytes u rest e = behind_by table first bytes u rest (eqb first 31) refl e

-- ---- a unit

pub record Taken1 (table : List ℕ) (room : ℕ) (bytes : List ℕ) (u : TextUnit) (rest : List ℕ) : Type 0 where
  pub is : ends false bytes ≡ false → IsUnit table u
  pub fits : length (unit_bytes table u) ≤ room
  pub spelled : bytes ≡ spell_unit u ++ rest

fitting_takes : (table : List ℕ) (room first : ℕ) (bytes : List ℕ) (u : TextUnit) (rest : List ℕ) → unit_fitting table room first bytes ≡ Ok (u, rest) → Behind table first bytes u rest × (length (unit_bytes table u) ≤ room)
unfolding unit_fitting
fitting_takes table room first bytes u rest e =
    seq (unit_behind table first bytes) _ _ _ e (λ (unit : TextUnit × List ℕ) e1 k1.
    seq (demand (leb (length (unit_bytes table unit.0)) room) LongPath) _ _ _ k1 (λ (fits : Unit {0}) e2 k2.
    let same = same_unit unit.0 u unit.1 rest k2 in
    let room_for : length (unit_bytes table unit.0) ≤ room = leb-true _ _ (demand_ok _ _ fits e2) in (
      subst (λ (v : TextUnit). Behind table first bytes v rest) same.0 (subst (Behind table first bytes unit.0) same.1 (behind_takes table first bytes unit.0 unit.1 e1)),
      subst (λ (v : TextUnit). length (unit_bytes table v) ≤ room) same.0 room_for,
    )))

pub unit_takes : (table : List ℕ) (room : ℕ) (bytes : List ℕ) (u : TextUnit) (rest : List ℕ) → unit_at table room bytes ≡ Ok (u, rest) → Taken1 table room bytes u rest
unit_takes table room bytes u rest e =
    seq (byte_at bytes) _ _ _ e (λ (first : ℕ × List ℕ) e1 k1.
    let t = fitting_takes table room first.0 first.1 u rest k1 in
    let whole = byte_is bytes first.0 first.1 e1 in
    record {
      is = λ on. t.0.is (omega (arith, leb-false first.0 30 (ap (ends false) (sym whole) ∙ on)));
      fits = t.1;
      spelled = whole ∙ t.0.spelled;
    })

spell_above : (u : TextUnit) → 0 < length (spell_unit u)
spell_above (Plain b) = omega arith
spell_above (Escaped b) = omega arith
spell_above (Paired n) = omega arith

pub unit_sized : (table : List ℕ) (room : ℕ) (bytes : List ℕ) (u : TextUnit) (rest : List ℕ) → unit_at table room bytes ≡ Ok (u, rest) → (length bytes ≡ length (spell_unit u) + length rest) × (length rest < length bytes)
unit_sized table room bytes u rest e =
    let len : length bytes ≡ length (spell_unit u) + length rest = ap length (unit_takes table room bytes u rest e).spelled ∙ length-append (spell_unit u) rest in
    (len, omega (arith, len, spell_above u))

-- ---- a unit that is spelled

demand_yes : {A : Type 0} (b : Bool) (c : DamageCause) (x : Result A Stop) → b ≡ true → (demand b c >>= λ _. x) ≡ x
demand_yes b c x e = rw e refl

fitting_again : (table : List ℕ) (room first : ℕ) (bytes : List ℕ) (u : TextUnit) (rest : List ℕ) → length (unit_bytes table u) ≤ room → unit_behind table first bytes ≡ Ok (u, rest) → unit_fitting table room first bytes ≡ Ok (u, rest)
unfolding unit_fitting
fitting_again table room first bytes u rest fits e = rw e (demand_yes (leb (length (unit_bytes table u)) room) LongPath (Ok (both u rest)) (le-leb _ _ fits))

plain_again : (table : List ℕ) (b : ℕ) (rest : List ℕ) → is_plain b ≡ true → unit_behind table b rest ≡ Ok (Plain b, rest)
plain_again table b rest is =
    let range = plain_bounds b is in
    let not : eqb b 31 ≡ false = ne_eqb b 31 (λ e. absurd (omega (arith, e, range.0))) in
    let low : ltb b 128 ≡ true = lt-ltb b 128 range.1 in
    rw (not, low) refl

paired_again : (table : List ℕ) (n : ℕ) (rest : List ℕ) → is_used (pair_at table n) ≡ true → unit_behind table (n + 128) rest ≡ Ok (Paired n, rest)
paired_again table n rest is =
    let not : eqb (n + 128) 31 ≡ false = ne_eqb (n + 128) 31 (λ e. absurd (omega (arith, e))) in
    let high : ltb (n + 128) 128 ≡ false = le-ltb (n + 128) 128 (omega arith) in
    let back : n + 128 - 128 ≡ n = omega arith in
    rw (not, high, back) (demand_yes (is_used (pair_at table n)) EmptyPair (Ok (both (Paired n) rest)) is)

pub unit_again : (table : List ℕ) (room : ℕ) (u : TextUnit) (rest : List ℕ) → IsUnit table u → length (unit_bytes table u) ≤ room → unit_at table room (spell_unit u ++ rest) ≡ Ok (u, rest)
unit_again table room (Plain b) rest is fits = fitting_again table room b rest (Plain b) rest fits (plain_again table b rest is)
unit_again table room (Escaped b) rest is fits = fitting_again table room 31 (b ∷ rest) (Escaped b) rest fits (demand_yes (ltb 0 b) ZeroChar (Ok (both (Escaped b) rest)) (lt-ltb 0 b is))
unit_again table room (Paired n) rest is fits = fitting_again table room (n + 128) rest (Paired n) rest fits (paired_again table n rest is)

-- an entry goes on at a unit
pub unit_on : (table : List ℕ) (last : Bool) (u : TextUnit) (rest : List ℕ) → IsUnit table u → ends last (spell_unit u ++ rest) ≡ false
unit_on table last (Plain b) rest is = lt-leb b 30 (omega (arith, (plain_bounds b is).0))
unit_on table last (Escaped b) rest is = refl
unit_on table last (Paired n) rest is = lt-leb (n + 128) 30 (omega arith)

-- ---- units, one after the other

abbrev pub unit_then : TextUnit → Result (List TextUnit × List ℕ) Stop → Result (List TextUnit × List ℕ) Stop
unit_then u r = r >>= λ units. Ok (u ∷ units.0, units.1)

abbrev ended_or : Bool → List ℕ → Result (List TextUnit × List ℕ) Stop → Result (List TextUnit × List ℕ) Stop
ended_or b bytes r = cond b (Ok ([], bytes)) r

pub bind_same : {A B : Type 0} (r : Result A Stop) (f g : A → Result B Stop) → ((x : A) → r ≡ Ok x → f x ≡ g x) → (r >>= f) ≡ (r >>= g)
bind_same (Ok x) f g h = h x refl
bind_same (Err s) f g h = refl

abbrev later : ℕ → Bool → List ℕ → ℕ → TextUnit × List ℕ → Result (List TextUnit × List ℕ) Stop
later n last table room unit = unit_then unit.0 (units_within n last table (room - length (unit_bytes table unit.0)) unit.1)

-- as many steps as there are bytes, and one, are enough
pub within_enough : (n m : ℕ) (last : Bool) (table : List ℕ) (room : ℕ) (bytes : List ℕ) → length bytes < n → length bytes < m → units_within n last table room bytes ≡ units_within m last table room bytes
unfolding units_within
within_enough zero m last table room bytes a b = absurd (omega (arith, a))
within_enough (suc n) zero last table room bytes a b = absurd (omega (arith, b))
within_enough (suc n) (suc m) last table room bytes a b =
    ap (ended_or (ends last bytes) bytes) (bind_same (unit_at table room bytes) (later n last table room) (later m last table room) (λ (unit : TextUnit × List ℕ) e.
    let less = unit_sized table room bytes unit.0 unit.1 e in
    ap (unit_then unit.0) (within_enough n m last table (room - length (unit_bytes table unit.0)) unit.1 (omega (arith, a, less.1)) (omega (arith, b, less.1)))))

within_ended : (n : ℕ) (last : Bool) (table : List ℕ) (room : ℕ) (bytes : List ℕ) → ends last bytes ≡ true → units_within n last table room bytes ≡ Ok ([], bytes)
unfolding units_within
within_ended zero last table room bytes e = refl
within_ended (suc n) last table room bytes e = rw e refl

pub units_ended : (last : Bool) (table : List ℕ) (room : ℕ) (bytes : List ℕ) → ends last bytes ≡ true → units_at last table room bytes ≡ Ok ([], bytes)
unfolding units_at
units_ended last table room bytes e = within_ended (suc (length bytes)) last table room bytes e

-- a unit, and then the others
pub units_more : (last : Bool) (table : List ℕ) (room : ℕ) (bytes : List ℕ) (u : TextUnit) (rest : List ℕ) → ends last bytes ≡ false → unit_at table room bytes ≡ Ok (u, rest)
    → units_at last table room bytes ≡ unit_then u (units_at last table (room - length (unit_bytes table u)) rest)
unfolding units_at units_within
units_more last table room bytes u rest on e =
    let less = unit_sized table room bytes u rest e in
    ap (λ (b : Bool). ended_or b bytes (unit_at table room bytes >>= later (length bytes) last table room)) on
    ∙ ap (λ (r : Result (TextUnit × List ℕ) Stop). r >>= later (length bytes) last table room) e
    ∙ ap (unit_then u) (within_enough (length bytes) (suc (length rest)) last table (room - length (unit_bytes table u)) rest less.1 (omega arith))

-- no unit stands there
pub units_err : (last : Bool) (table : List ℕ) (room : ℕ) (bytes : List ℕ) (s : Stop) → ends last bytes ≡ false → unit_at table room bytes ≡ Err s → units_at last table room bytes ≡ Err s
unfolding units_at units_within
units_err last table room bytes s on e =
    ap (λ (b : Bool). ended_or b bytes (unit_at table room bytes >>= later (length bytes) last table room)) on ∙ ap (λ (r : Result (TextUnit × List ℕ) Stop). r >>= later (length bytes) last table room) e

-- ---- units that are spelled

-- so many units, and then what is read behind them
abbrev pub units_then : List TextUnit → Result (List TextUnit × List ℕ) Stop → Result (List TextUnit × List ℕ) Stop
units_then front r = r >>= λ units. Ok (front ++ units.0, units.1)

units_none : (r : Result (List TextUnit × List ℕ) Stop) → units_then [] r ≡ r
units_none (Ok x) = refl
units_none (Err s) = refl

unit_units : (u : TextUnit) (units : List TextUnit) (r : Result (List TextUnit × List ℕ) Stop) → unit_then u (units_then units r) ≡ units_then (u ∷ units) r
unit_units u units (Ok x) = refl
unit_units u units (Err s) = refl

pub units_on : (last : Bool) (table : List ℕ) (room : ℕ) (units : List TextUnit) (rest : List ℕ) → All (IsUnit table) units → length (text_of table units) ≤ room
    → units_at last table room (spell_units units ++ rest) ≡ units_then units (units_at last table (room - length (text_of table units)) rest)
units_on last table room [] rest all fits =
    let none : room ≡ room - 0 = omega arith in
    sym (units_none (units_at last table room rest)) ∙ ap (λ (n : ℕ). units_then [] (units_at last table n rest)) none
units_on last table room (u ∷ units) rest all fits =
    let is : IsUnit table u = All-head (IsUnit table) u units all in
    let len : length (text_of table (u ∷ units)) ≡ length (unit_bytes table u) + length (text_of table units) = length-append (unit_bytes table u) (text_of table units) in
    let split : spell_units (u ∷ units) ++ rest ≡ spell_unit u ++ (spell_units units ++ rest) = append_assoc (spell_unit u) (spell_units units) rest in
    let left : room - length (unit_bytes table u) - length (text_of table units) ≡ room - length (text_of table (u ∷ units)) = omega (arith, len) in
    ap (units_at last table room) split
    ∙ units_more last table room (spell_unit u ++ (spell_units units ++ rest)) u (spell_units units ++ rest) (unit_on table last u (spell_units units ++ rest) is) (unit_again table room u (spell_units units ++ rest) is (omega (arith, fits, len)))
    ∙ ap (unit_then u) (units_on last table (room - length (unit_bytes table u)) units rest (All-tail (IsUnit table) u units all) (omega (arith, fits, len)))
    ∙ unit_units u units (units_at last table (room - length (unit_bytes table u) - length (text_of table units)) rest)
    ∙ ap (λ (n : ℕ). units_then (u ∷ units) (units_at last table n rest)) left

append_none : (units : List TextUnit) → units ++ [] ≡ units
append_none [] = refl
append_none (u ∷ units) = ap (λ (l : List TextUnit). u ∷ l) (append_none units)

pub units_again : (last : Bool) (table : List ℕ) (room : ℕ) (units : List TextUnit) (rest : List ℕ) → All (IsUnit table) units → length (text_of table units) ≤ room → ends last rest ≡ true
    → units_at last table room (spell_units units ++ rest) ≡ Ok (units, rest)
units_again last table room units rest all fits over =
    units_on last table room units rest all fits ∙ ap (units_then units) (units_ended last table (room - length (text_of table units)) rest over) ∙ ap (λ (l : List TextUnit). Ok (l, rest)) (append_none units)

-- ---- units that were read

pub record TakenAll (last : Bool) (table : List ℕ) (room : ℕ) (bytes : List ℕ) (units : List TextUnit) (rest : List ℕ) : Type 0 where
  pub each : All (IsUnit table) units
  pub fits : length (text_of table units) ≤ room
  pub spelled : bytes ≡ spell_units units ++ rest
  pub over : ends last rest ≡ true

same_units : (us vs : List TextUnit) (xs ys : List ℕ) → ◌≡◌ {A = Result (List TextUnit × List ℕ) Stop} (Ok (us, xs)) (Ok (vs, ys)) → (us ≡ vs) × (xs ≡ ys)
same_units us vs xs ys e = let p = ok_is (us, xs) (vs, ys) e in (ap (λ (q : List TextUnit × List ℕ). q.0) p, ap (λ (q : List TextUnit × List ℕ). q.1) p)

as_taken : (last : Bool) (table : List ℕ) (room : ℕ) (bytes : List ℕ) (us vs : List TextUnit) (xs ys : List ℕ) → (us ≡ vs) × (xs ≡ ys) → TakenAll last table room bytes us xs → TakenAll last table room bytes vs ys
as_taken last table room bytes us vs xs ys same t = subst (λ (w : List TextUnit). TakenAll last table room bytes w ys) same.0 (subst (TakenAll last table room bytes us) same.1 t)

-- where an entry goes on, it does so whatever follows
going : (last : Bool) (bytes : List ℕ) → ends last bytes ≡ false → ends false bytes ≡ false
going last [] e = refl
going last (b ∷ bytes) e = e

within_take : (n : ℕ) (last : Bool) (table : List ℕ) (room : ℕ) (bytes : List ℕ) (units : List TextUnit) (rest : List ℕ) → length bytes < n → units_within n last table room bytes ≡ Ok (units, rest) → TakenAll last table room bytes units rest
unfolding units_within
within_take zero last table room bytes units rest enough e = absurd (omega (arith, enough))
within_take (suc n) last table room bytes units rest enough e = elim (cases_Bool (ends last bytes)) [
  | inl over ↦
      let h = rw over at e in
      as_taken last table room bytes [] units bytes rest (same_units [] units bytes rest h) (record { each = All-nil (IsUnit table); fits = omega arith; spelled = refl; over = over })
  | inr on ↦
      let h = rw on at e in
      seq (unit_at table room bytes) _ _ _ h (λ (unit : TextUnit × List ℕ) e1 k1.
      let t = unit_takes table room bytes unit.0 unit.1 e1 in
      let less = unit_sized table room bytes unit.0 unit.1 e1 in
      let left : ℕ = room - length (unit_bytes table unit.0) in
      seq (units_within n last table left unit.1) _ _ _ k1 (λ (more : List TextUnit × List ℕ) e2 k2.
      let m = within_take n last table left unit.1 more.0 more.1 (omega (arith, enough, less.1)) e2 in
      let len : length (text_of table (unit.0 ∷ more.0)) ≡ length (unit_bytes table unit.0) + length (text_of table more.0) = length-append (unit_bytes table unit.0) (text_of table more.0) in
      as_taken last table room bytes (unit.0 ∷ more.0) units more.1 rest (same_units (unit.0 ∷ more.0) units more.1 rest k2) (record {
        each = All-cons (IsUnit table) unit.0 more.0 (t.is (going last bytes on)) m.each;
        fits = omega (arith, len, t.fits, m.fits);
        spelled = t.spelled ∙ ap (λ (l : List ℕ). spell_unit unit.0 ++ l) m.spelled ∙ sym (append_assoc (spell_unit unit.0) (spell_units more.0) more.1);
        over = m.over;
      })))
]

pub units_take : (last : Bool) (table : List ℕ) (room : ℕ) (bytes : List ℕ) (units : List TextUnit) (rest : List ℕ) → units_at last table room bytes ≡ Ok (units, rest) → TakenAll last table room bytes units rest
unfolding units_at
units_take last table room bytes units rest e = within_take (suc (length bytes)) last table room bytes units rest (omega arith) e
