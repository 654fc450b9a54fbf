-- Units that go into a path.
use Rattle.std.proofs.Common.{◌≡◌, ℕ, ◌+◌, ◌-◌, ◌*◌, ◌<◌, ◌≤◌, ◌↔◌, Bool, true, false, eqb, ltb, leb, get_or, List, [], ◌∷◌, ◌++◌, length, take, drop, Result, Ok, Err, refl, sym, ap, ◌∙◌, subst, inl, inr, append-nil, arith}
use Rattle.std.specs.Prelude.{IsOk, OnOk, IfErr, ◌&&◌}
use Rattle.std.proofs.lemmas.Bool.{both_ways, cases_lt, le-leb, lt-leb, lt-ltb, le-ltb, ne_eqb, and_from}
use Rattle.std.proofs.lemmas.List.{take-append-le, drop-append-le, take-append-drop, take_more}
use Rattle.std.proofs.lemmas.List.Elements.{All-nil, All-cons, All-append}
use Rattle.std.proofs.lemmas.Grind.{flat_map-append}
use Rattle.std.proofs.Math.Seq.{drop-append_seam}
use Rattle.byte_feed.specs.declared.damage.DamageCause.TheVariants.{LongPath, EmptyPair, ZeroChar}
use Rattle.byte_feed.specs.declared.damage.Stop.{Stop}
use Rattle.byte_feed.specs.declared.damage.Stop.TheVariants.{Broken}
use Rattle.byte_feed.specs.declared.damage.Break.{Break}
use Rattle.byte_feed.specs.declared.damage.Break.TheVariants.{ReadFault, TooLarge, Stopped}
use Rattle.byte_feed.specs.Field.{◌>>=◌, demand}
use Rattle.byte_feed.specs.Feed.{FeedState}
use Rattle.byte_feed.specs.Stream.{is_cut, BreaksAt, IsFault}
use Rattle.bigram_db.specs.Pairs.{pair_at, is_used}
use Rattle.bigram_db.specs.Items.{TextUnit, Plain, Escaped, Paired, spell_unit, spell_units, unit_bytes, IsUnit, unit_behind, unit_fitting}
use Rattle.bigram_db.specs.Entries.{Pushes, SpellsText}
use Rattle.bigram_db.proofs.UnitLaws.{unit_takes}
use Rattle.bigram_db.proofs.EntryLaws.{done, with_rest, demand_yes, demand_no}

fitting_ok : (table : List ℕ) (room first : ℕ) (bytes : List ℕ) (u : TextUnit) (rest : List ℕ) → unit_behind table first bytes ≡ Ok (u, rest) → length (unit_bytes table u) ≤ room → unit_fitting table room first bytes ≡ Ok (u, rest)
unfolding unit_fitting
fitting_ok table room first bytes u rest e fits = rw e (demand_yes (leb (length (unit_bytes table u)) room) LongPath (done (with_rest u rest)) (le-leb _ _ fits))

fitting_long : (table : List ℕ) (room first : ℕ) (bytes : List ℕ) (u : TextUnit) (rest : List ℕ) → unit_behind table first bytes ≡ Ok (u, rest) → room < length (unit_bytes table u) → unit_fitting table room first bytes ≡ Err (Broken LongPath)
unfolding unit_fitting
fitting_long table room first bytes u rest e long = rw e (demand_no (leb (length (unit_bytes table u)) room) LongPath (done (with_rest u rest)) (lt-leb _ _ long))

fitting_err : (table : List ℕ) (room first : ℕ) (bytes : List ℕ) (s : Stop) → unit_behind table first bytes ≡ Err s → unit_fitting table room first bytes ≡ Err s
unfolding unit_fitting
fitting_err table room first bytes s e = rw e refl

-- a unit that was put where it fits
pub pushed : (table : List ℕ) (first : ℕ) (bytes : List ℕ) (u : TextUnit) (old new xs : List ℕ) (r : Result (Unit {0}) Break) → length old ≤ 4096 → ((rest : List ℕ) → unit_behind table first (bytes ++ rest) ≡ Ok (u, rest)) → unit_bytes table u ≡ xs
    → IsOk r ↔ (length old + length xs ≤ 4096) → OnOk r (new ≡ old ++ xs) → IfErr r (λ e. (e ≡ Stopped (Broken LongPath)) × (new ≡ old)) → Pushes table (4096 - length old) first bytes (drop (length old) new) r
pushed table first bytes u old new xs (Ok x) most behind is variant ok err =
    let room = variant.0 refl in (
      u,
      λ rest. fitting_ok table (4096 - length old) first (bytes ++ rest) u rest (behind rest) (omega (arith, room, ap length is)),
      is ∙ sym (ap (drop (length old)) ok ∙ drop-append_seam old xs),
    )
pushed table first bytes u old new xs (Err e) most behind is variant ok err =
    let never : length old + length xs ≤ 4096 → ⊥ = λ le. let h = variant.1 le in absurd cc in
    let long : 4096 - length old < length (unit_bytes table u) = elim (cases_lt 4096 (length old + length xs)) [
      | inl over ↦ omega (arith, over, most, ap length is)
      | inr fits ↦ absurd (never fits)
    ] in
    subst (λ (b : Break). Pushes table (4096 - length old) first bytes (drop (length old) new) (Err b)) (sym err.0)
    (refl, λ rest. fitting_long table (4096 - length old) first (bytes ++ rest) u rest (behind rest) long)

-- ---- by the first byte

pub plain_behind : (table : List ℕ) (first : ℕ) → 31 < first → first < 128 → (rest : List ℕ) → unit_behind table first rest ≡ Ok (Plain first, rest)
plain_behind table first low high rest =
    let not : eqb first 31 ≡ false = ne_eqb first 31 (λ e. absurd (omega (arith, e, low))) in
    let small : ltb first 128 ≡ true = lt-ltb first 128 high in
    rw (not, small) refl

pair_behind : (table : List ℕ) (first : ℕ) → 128 ≤ first → (rest : List ℕ) → unit_behind table first rest ≡ (demand (is_used (pair_at table (first - 128))) EmptyPair >>= λ used. done (with_rest (Paired (first - 128)) rest))
pair_behind table first high rest =
    let not : eqb first 31 ≡ false = ne_eqb first 31 (λ e. absurd (omega (arith, e, high))) in
    let large : ltb first 128 ≡ false = le-ltb first 128 high in
    rw (not, large) refl

pub used_behind : (table : List ℕ) (first : ℕ) → 128 ≤ first → 0 < get_or table (2 * (first - 128)) 0 → 0 < get_or table (2 * (first - 128) + 1) 0 → (rest : List ℕ) → unit_behind table first rest ≡ Ok (Paired (first - 128), rest)
used_behind table first high a b rest =
    pair_behind table first high rest ∙ demand_yes (is_used (pair_at table (first - 128))) EmptyPair (done (with_rest (Paired (first - 128)) rest)) (and_from (ltb 0 (get_or table (2 * (first - 128)) 0)) (ltb 0 (get_or table (2 * (first - 128) + 1) 0)) (lt-ltb 0 _ a) (lt-ltb 0 _ b))

zero_first : (a b : ℕ) → a ≡ 0 → is_used (a, b) ≡ false
zero_first a b e = rw e refl

and_false : (a : Bool) (b : ℕ) → b ≡ 0 → (a && ltb 0 b) ≡ false
and_false true b e = rw e refl
and_false false b e = refl

pub unused_first : (table : List ℕ) (first : ℕ) → 128 ≤ first → get_or table (2 * (first - 128)) 0 ≡ 0 → (room : ℕ) (text : List ℕ) → Pushes table room first [] text (Err (Stopped (Broken EmptyPair)))
unused_first table first high zero room text =
    (refl, λ rest. fitting_err table room first rest (Broken EmptyPair) (pair_behind table first high rest ∙ demand_no (is_used (pair_at table (first - 128))) EmptyPair (done (with_rest (Paired (first - 128)) rest)) (zero_first _ (get_or table (2 * (first - 128) + 1) 0) zero)))

pub unused_second : (table : List ℕ) (first : ℕ) → 128 ≤ first → get_or table (2 * (first - 128) + 1) 0 ≡ 0 → (room : ℕ) (text : List ℕ) → Pushes table room first [] text (Err (Stopped (Broken EmptyPair)))
unused_second table first high zero room text =
    (refl, λ rest. fitting_err table room first rest (Broken EmptyPair) (pair_behind table first high rest ∙ demand_no (is_used (pair_at table (first - 128))) EmptyPair (done (with_rest (Paired (first - 128)) rest)) (and_false (ltb 0 (get_or table (2 * (first - 128)) 0)) (get_or table (2 * (first - 128) + 1) 0) zero)))

pub escaped_behind : (table : List ℕ) (byte : ℕ) → 0 < byte → (rest : List ℕ) → unit_behind table 31 (byte ∷ [] ++ rest) ≡ Ok (Escaped byte, rest)
escaped_behind table byte some rest = demand_yes (ltb 0 byte) ZeroChar (done (with_rest (Escaped byte) rest)) (lt-ltb 0 byte some)

pub escaped_zero : (table : List ℕ) (byte room : ℕ) (text : List ℕ) → byte ≡ 0 → Pushes table room 31 (byte ∷ []) text (Err (Stopped (Broken ZeroChar)))
escaped_zero table byte room text zero =
    (refl, λ rest. fitting_err table room 31 (byte ∷ rest) (Broken ZeroChar) (demand_no (ltb 0 byte) ZeroChar (done (with_rest (Escaped byte) rest)) (rw zero refl)))

-- what is put into a path never asks for a byte
pub pushes_broke : (table : List ℕ) (room first : ℕ) (bytes text : List ℕ) (r : Result (Unit {0}) Break) (f : FeedState) → Pushes table room first bytes text r → BreaksAt f r
pushes_broke table room first bytes text (Ok x) f p = tt
pushes_broke table room first bytes text (Err ReadFault) f p = tt
pushes_broke table room first bytes text (Err TooLarge) f p = absurd p
pushes_broke table room first bytes text (Err (Stopped s)) f p = λ cut. absurd (both_ways (is_cut s) p.0 cut)

pub pushes_fault : (table : List ℕ) (room first : ℕ) (bytes text : List ℕ) (r : Result (Unit {0}) Break) (P : Type 0) → Pushes table room first bytes text r → IsFault r → P
pushes_fault table room first bytes text (Ok x) P p h = absurd h
pushes_fault table room first bytes text (Err ReadFault) P p h = absurd p
pushes_fault table room first bytes text (Err TooLarge) P p h = absurd p
pushes_fault table room first bytes text (Err (Stopped s)) P p h = absurd h

-- ---- units that were put one after another

-- what a path has behind another, where more was put to its end
pub more_behind : (n : ℕ) (path new : List ℕ) → n ≤ length path → take (length path) new ≡ path → drop n new ≡ drop n path ++ drop (length path) new
more_behind n path new le begins =
    ap (drop n) (sym (take-append-drop (length path) new) ∙ ap (λ (l : List ℕ). l ++ drop (length path) new) begins) ∙ drop-append-le n path (drop (length path) new) le

pub same_front : (n : ℕ) (path new : List ℕ) → n ≤ length path → take (length path) new ≡ path → take n new ≡ take n path
same_front n path new le begins =
    ap (take n) (sym (take-append-drop (length path) new) ∙ ap (λ (l : List ℕ). l ++ drop (length path) new) begins) ∙ take-append-le n path (drop (length path) new) le

pub nothing_behind : (path : List ℕ) → [] ≡ drop (length path) path
nothing_behind [] = refl
nothing_behind (b ∷ path) = nothing_behind path

pub spells_none : (table path : List ℕ) → SpellsText table [] (drop (length path) path)
spells_none table path = record { units = []; each = All-nil (IsUnit table); spelled = refl; makes = nothing_behind path }

-- one unit more
spells_on : (table : List ℕ) (room first : ℕ) (bytes text more : List ℕ) → 31 < first → SpellsText table bytes text → Pushes table room first [] more (Ok tt) → SpellsText table (bytes ++ first ∷ []) (text ++ more)
spells_on table room first bytes text more high s p =
    let u : TextUnit = p.0 in
    let t = unit_takes table room (first ∷ []) u [] (p.1 []) in
    record {
      units = s.units ++ u ∷ [];
      each = All-append (IsUnit table) s.units (u ∷ []) s.each (All-cons (IsUnit table) u [] (t.is (lt-leb first 30 (omega (arith, high)))) (All-nil (IsUnit table)));
      spelled = ap (λ (l : List ℕ). l ++ first ∷ []) s.spelled ∙ ap (λ (l : List ℕ). spell_units s.units ++ l) t.spelled ∙ sym (flat_map-append spell_unit s.units (u ∷ []));
      makes = flat_map-append (unit_bytes table) s.units (u ∷ []) ∙ ap (λ (l : List ℕ). l ++ (unit_bytes table u ++ [])) s.makes ∙ ap (λ (l : List ℕ). text ++ l) (append-nil (unit_bytes table u) ∙ p.2);
    }

pub spells_more : (table : List ℕ) (room i : ℕ) (bytes : List ℕ) (n : ℕ) (path new : List ℕ) → i < length bytes → 31 < get_or bytes i 0 → n ≤ length path → take (length path) new ≡ path → SpellsText table (take i bytes) (drop n path)
    → Pushes table room (get_or bytes i 0) [] (drop (length path) new) (Ok tt) → SpellsText table (take (i + 1) bytes) (drop n new)
spells_more table room i bytes n path new within high le begins s p =
    subst (λ (l : List ℕ). SpellsText table l (drop n new)) (sym (take_more bytes i 0 within))
    (subst (SpellsText table (take i bytes ++ get_or bytes i 0 ∷ [])) (sym (more_behind n path new le begins)) (spells_on table room (get_or bytes i 0) (take i bytes) (drop n path) (drop (length path) new) high s p))

-- ---- one way for both kinds of units

-- a unit that was put as these bytes
put_as : (table : List ℕ) (first : ℕ) (u : TextUnit) (old new xs : List ℕ) → length old ≤ 4096 → length old + length xs ≤ 4096 → ((rest : List ℕ) → unit_behind table first rest ≡ Ok (u, rest)) → unit_bytes table u ≡ xs → new ≡ old ++ xs
    → Pushes table (4096 - length old) first [] (drop (length old) new) (Ok tt)
put_as table first u old new xs most room behind is put =
    pushed table first [] u old new xs (Ok tt) most behind is (λ e. room, λ le. refl) put tt

pub put_either : (table : List ℕ) (first pairs one two front : ℕ) (old new : List ℕ) → length old + 2 ≤ 4096 → 31 < first → (128 ≤ first → pairs ≡ 1) → (first < 128 → pairs ≡ 0) → one ≡ get_or table (2 * (first - 128 * pairs)) 0 → two ≡ get_or table (2 * (first - 128 * pairs) + 1) 0
    → (pairs ≡ 1 → front ≡ one) → (pairs ≡ 0 → front ≡ first) → 0 < front → pairs ≤ two → new ≡ old ++ front ∷ take pairs (two ∷ []) → Pushes table (4096 - length old) first [] (drop (length old) new) (Ok tt)
put_either table first pairs one two front old new room high pair other is_one is_two front_one front_other some enough put = elim (cases_lt first 128) [
  | inl low ↦
      let none : pairs ≡ 0 = other low in
      let text : front ∷ take pairs (two ∷ []) ≡ first ∷ [] = rw none (ap (λ (b : ℕ). b ∷ []) (front_other none)) in
      put_as table first (Plain first) old new (first ∷ []) (omega (arith, room)) (omega (arith, room)) (plain_behind table first high low) refl (put ∙ ap (λ (l : List ℕ). old ++ l) text)
  | inr large ↦
      let one_pair : pairs ≡ 1 = pair large in
      let place : first - 128 * pairs ≡ first - 128 = omega (arith, one_pair) in
      let a : front ≡ get_or table (2 * (first - 128)) 0 = front_one one_pair ∙ is_one ∙ ap (λ (n : ℕ). get_or table (2 * n) 0) place in
      let b : two ≡ get_or table (2 * (first - 128) + 1) 0 = is_two ∙ ap (λ (n : ℕ). get_or table (2 * n + 1) 0) place in
      let text : front ∷ take pairs (two ∷ []) ≡ front ∷ two ∷ [] = ap (λ (n : ℕ). front ∷ take n (two ∷ [])) one_pair in
      let same : front ∷ two ∷ [] ≡ get_or table (2 * (first - 128)) 0 ∷ get_or table (2 * (first - 128) + 1) 0 ∷ [] = λ i. a i ∷ b i ∷ [] in
      put_as table first (Paired (first - 128)) old new (get_or table (2 * (first - 128)) 0 ∷ get_or table (2 * (first - 128) + 1) 0 ∷ []) (omega (arith, room)) (omega (arith, room))
      (used_behind table first large (omega (arith, some, a)) (omega (arith, enough, one_pair, b))) refl (put ∙ ap (λ (l : List ℕ). old ++ l) (text ∙ same))
]
