-- Counts, entries and items, read and spelled.
use Rattle.std.proofs.Common.{◌≡◌, ℕ, ◌+◌, ◌-◌, ◌<◌, ◌≤◌, Bool, true, false, cond, eqb, ltb, leb, List, [], ◌∷◌, ◌++◌, length, take, drop, Result, Ok, Err, refl, sym, ap, ◌∙◌, subst, inl, inr, append_assoc, length-append, arith}
use Rattle.std.specs.Prelude.{ℤ, pos, negsuc, ◌+ℤ◌, is_some}
use Rattle.std.proofs.lemmas.Bool.{cases_Bool, le-leb, leb-true, lt-ltb, ltb-true, eqb-true, eqb-false, ne_eqb, and_parts}
use Rattle.std.proofs.lemmas.List.{take-append-drop, take_at, drop_at}
use Rattle.byte_feed.specs.declared.damage.DamageCause.{DamageCause}
use Rattle.byte_feed.specs.declared.damage.DamageCause.TheVariants.{EmptyPath, NoCount, BadWord}
use Rattle.byte_feed.specs.declared.damage.Stop.{Stop}
use Rattle.byte_feed.specs.declared.damage.Stop.TheVariants.{Broken}
use Rattle.byte_feed.specs.Field.{◌>>=◌, byte_at, bytes_at, demand, max_path}
use Rattle.byte_feed.specs.Front.{IsBytes, Shrinks, Laws}
use Rattle.byte_feed.proofs.Fields.{seq, ok_is, demand_ok}
use Rattle.byte_feed.proofs.Takes.{bytes_sized, bytes_again, IsBytes-behind}
use Rattle.bigram_db.specs.Pairs.{is_table, is_bigram}
use Rattle.bigram_db.specs.Items.{Count, Short, Word, TextUnit, Item, TableItem, PathItem, State, AtStart, After, spell_count, spell_units, spell, word_value, amount, text_of, IsCount, ends, IsEntry, at_least_zero, shared_by, allowed, table_at, word_at, count_at, shared_within, units_at, entry_at, item_at, bigram}
use Rattle.bigram_db.proofs.UnitLaws.{units_take, units_again}

abbrev pub done : {A : Type 0} → A → Result A Stop
done x = Ok x

abbrev pub with_rest : {A : Type 0} → A → List ℕ → A × List ℕ
with_rest x rest = (x, rest)

pub same_both : {A : Type 0} (x y : A) (xs ys : List ℕ) → done (with_rest x xs) ≡ Ok (y, ys) → (x ≡ y) × (xs ≡ ys)
same_both {A} x y xs ys e = let p = ok_is (with_rest x xs) (y, ys) e in (ap (λ (q : A × List ℕ). q.0) p, ap (λ (q : A × List ℕ). q.1) p)

pub byte_is : (bytes : List ℕ) (n : ℕ) (rest : List ℕ) → byte_at bytes ≡ Ok (n, rest) → bytes ≡ n ∷ rest
byte_is [] n rest e = absurd cc
byte_is (b ∷ bytes) n rest e = let p = ok_is (b, bytes) (n, rest) e in ap (λ (q : ℕ × List ℕ). q.0 ∷ q.1) p

pub demand_yes : {A : Type 0} (b : Bool) (c : DamageCause) (x : Result A Stop) → b ≡ true → (demand b c >>= λ _. x) ≡ x
demand_yes b c x e = rw e refl

pub demand_no : {A : Type 0} (b : Bool) (c : DamageCause) (x : Result A Stop) → b ≡ false → (demand b c >>= λ _. x) ≡ Err (Broken c)
demand_no b c x e = rw e refl

-- ---- counts

pub record CountTaken (bytes : List ℕ) (count : Count) (rest : List ℕ) : Type 0 where
  pub is : IsCount count
  pub spelled : bytes ≡ spell_count count ++ rest

as_count : (bytes : List ℕ) (c d : Count) (xs ys : List ℕ) → (c ≡ d) × (xs ≡ ys) → CountTaken bytes c xs → CountTaken bytes d ys
as_count bytes c d xs ys same t = subst (λ (e : Count). CountTaken bytes e ys) same.0 (subst (CountTaken bytes c) same.1 t)

bytes_are : (count : ℕ) (bytes text rest : List ℕ) → bytes_at count bytes ≡ Ok (text, rest) → bytes ≡ text ++ rest
bytes_are count bytes text rest e = elim (cases_Bool (ltb (length bytes) count)) [
  | inl short ↦ let h = rw short at e in absurd cc
  | inr long ↦
      let h = rw long at e in
      let p = same_both (take count bytes) text (drop count bytes) rest h in
      sym (take-append-drop count bytes) ∙ ap (λ (l : List ℕ). l ++ drop count bytes) p.0 ∙ ap (λ (l : List ℕ). text ++ l) p.1
]

word_takes : (bytes : List ℕ) (count : Count) (rest : List ℕ) → word_at bytes ≡ Ok (count, rest) → CountTaken (30 ∷ bytes) count rest
word_takes bytes count rest e =
    seq (bytes_at 4 bytes) _ _ _ e (λ (word : List ℕ × List ℕ) e1 k1.
    seq (demand (is_some (word_value word.0)) BadWord) _ _ _ k1 (λ (good : Unit {0}) e2 k2.
    as_count (30 ∷ bytes) (Word word.0) count word.1 rest (same_both (Word word.0) count word.1 rest k2) (record {
      is = ((bytes_sized 4 bytes word.0 word.1 e1).1, demand_ok _ _ good e2);
      spelled = ap (λ (l : List ℕ). 30 ∷ l) (bytes_are 4 bytes word.0 word.1 e1);
    })))

count_by : (first : ℕ) (bytes : List ℕ) (count : Count) (rest : List ℕ) (b : Bool) → eqb first 30 ≡ b → first ≤ 30 → cond b (word_at bytes) (done (with_rest (Short first) bytes)) ≡ Ok (count, rest) → CountTaken (first ∷ bytes) count rest
count_by first bytes count rest true is low e = subst (λ (n : ℕ). CountTaken (n ∷ bytes) count rest) (sym (eqb-true first 30 is)) (word_takes bytes count rest e)
count_by first bytes count rest false is low e =
    let not = eqb-false first 30 is in
    as_count (first ∷ bytes) (Short first) count bytes rest (same_both (Short first) count bytes rest e) (record { is = omega (arith, low, not); spelled = refl })

pub count_takes : (bytes : List ℕ) (count : Count) (rest : List ℕ) → count_at bytes ≡ Ok (count, rest) → CountTaken bytes count rest
unfolding count_at
count_takes bytes count rest e =
    seq (byte_at bytes) _ _ _ e (λ (first : ℕ × List ℕ) e1 k1.
    seq (demand (leb first.0 30) NoCount) _ _ _ k1 (λ (low : Unit {0}) e2 k2.
    subst (λ (l : List ℕ). CountTaken l count rest) (sym (byte_is bytes first.0 first.1 e1)) (count_by first.0 first.1 count rest (eqb first.0 30) refl (leb-true _ _ (demand_ok _ _ low e2)) k2)))

pub count_again : (count : Count) (rest : List ℕ) → IsCount count → count_at (spell_count count ++ rest) ≡ Ok (count, rest)
unfolding count_at
count_again (Short b) rest is =
    let low : leb b 30 ≡ true = le-leb b 30 (omega (arith, is)) in
    let not : eqb b 30 ≡ false = ne_eqb b 30 (λ e. absurd (omega (arith, e, is))) in
    rw (low, not) refl
count_again (Word bytes) rest is = rw (bytes_again 4 bytes rest is.0) (demand_yes (is_some (word_value bytes)) BadWord (done (with_rest (Word bytes) rest)) is.1)

count_above : (count : Count) → 0 < length (spell_count count)
count_above (Short b) = omega arith
count_above (Word bytes) = omega arith

-- a count begins with a byte that ends the entry before
pub count_ends : (last : Bool) (count : Count) (rest : List ℕ) → IsCount count → ends last (spell_count count ++ rest) ≡ true
count_ends last (Short b) rest is = le-leb b 30 (omega (arith, is))
count_ends last (Word bytes) rest is = refl

-- ---- the shared length

pub within_is : (len : ℕ) (z : ℤ) (n : ℕ) → shared_within len z ≡ Ok n → (z ≡ pos n) × (n ≤ len)
within_is len (pos m) n e = elim (cases_Bool (leb m len)) [
  | inl fits ↦ let h = rw fits at e in let same : m ≡ n = cc in (ap pos same, omega (arith, same, leb-true m len fits))
  | inr long ↦ let h = rw long at e in absurd cc
]
within_is len (negsuc m) n e = absurd cc

pub within_again : (len : ℕ) (z : ℤ) (n : ℕ) → z ≡ pos n → n ≤ len → shared_within len z ≡ Ok n
within_again len z n is le = ap (shared_within len) is ∙ rw (le-leb n len le) refl

-- ---- entries

-- the parts of an entry
pub entry_at_parts : (last : Bool) (table path : List ℕ) (old : ℕ) (bytes rest1 rest : List ℕ) (count : Count) (shared : ℕ) (units : List TextUnit)
    → count_at bytes ≡ Ok (count, rest1) → shared_within (length path) (pos old +ℤ amount count) ≡ Ok shared → units_at last table (max_path - shared) rest1 ≡ Ok (units, rest) → 0 < shared + length (text_of table units)
    → entry_at last table path old bytes ≡ Ok (PathItem count units, rest)
unfolding entry_at
entry_at_parts last table path old bytes rest1 rest count shared units e1 e2 e3 some =
    rw (e1, e2, e3) (demand_yes (ltb 0 (shared + length (text_of table units))) EmptyPath (done (with_rest (PathItem count units) rest)) (lt-ltb 0 _ some))

pub record EntryTaken (last : Bool) (table path : List ℕ) (old : ℕ) (bytes : List ℕ) (i : Item) (rest : List ℕ) : Type 0 where
  pub rules : allowed (After table path old) i last rest
  pub spelled : bytes ≡ spell i ++ rest

as_entry : (last : Bool) (table path : List ℕ) (old : ℕ) (bytes : List ℕ) (i j : Item) (xs ys : List ℕ) → (i ≡ j) × (xs ≡ ys) → EntryTaken last table path old bytes i xs → EntryTaken last table path old bytes j ys
as_entry last table path old bytes i j xs ys same t = subst (λ (k : Item). EntryTaken last table path old bytes k ys) same.0 (subst (EntryTaken last table path old bytes i) same.1 t)

pub shared_is : (old : ℕ) (count : Count) (n : ℕ) → pos old +ℤ amount count ≡ pos n → shared_by old count ≡ n
shared_is old count n e = ap at_least_zero e

pub entry_takes : (last : Bool) (table path : List ℕ) (old : ℕ) (bytes : List ℕ) (i : Item) (rest : List ℕ) → entry_at last table path old bytes ≡ Ok (i, rest) → EntryTaken last table path old bytes i rest
unfolding entry_at
entry_takes last table path old bytes i rest e =
    seq (count_at bytes) _ _ _ e (λ (count : Count × List ℕ) e1 k1.
    seq (shared_within (length path) (pos old +ℤ amount count.0)) _ _ _ k1 (λ (shared : ℕ) e2 k2.
    seq (units_at last table (max_path - shared) count.1) _ _ _ k2 (λ (units : List TextUnit × List ℕ) e3 k3.
    seq (demand (ltb 0 (shared + length (text_of table units.0))) EmptyPath) _ _ _ k3 (λ (some : Unit {0}) e4 k4.
    let c = count_takes bytes count.0 count.1 e1 in
    let w = within_is (length path) (pos old +ℤ amount count.0) shared e2 in
    let u = units_take last table (max_path - shared) count.1 units.0 units.1 e3 in
    let entry : IsEntry table path old count.0 units.0 shared = record {
      is_count = c.is;
      leads = w.0;
      within = w.1;
      each = u.each;
      fits = u.fits;
      some = ltb-true 0 _ (demand_ok _ _ some e4);
    } in
    as_entry last table path old bytes (PathItem count.0 units.0) i units.1 rest (same_both (PathItem count.0 units.0) i units.1 rest k4) (record {
      rules = (subst (IsEntry table path old count.0 units.0) (sym (shared_is old count.0 shared w.0)) entry, u.over);
      spelled = c.spelled ∙ ap (λ (l : List ℕ). spell_count count.0 ++ l) u.spelled ∙ sym (append_assoc (spell_count count.0) (spell_units units.0) units.1);
    })))))

pub entry_again : (last : Bool) (table path : List ℕ) (old : ℕ) (count : Count) (units : List TextUnit) (rest : List ℕ) (shared : ℕ) → IsEntry table path old count units shared → ends last rest ≡ true
    → entry_at last table path old (spell (PathItem count units) ++ rest) ≡ Ok (PathItem count units, rest)
entry_again last table path old count units rest shared is over =
    entry_at_parts last table path old (spell (PathItem count units) ++ rest) (spell_units units ++ rest) rest count shared units
    (ap count_at (append_assoc (spell_count count) (spell_units units) rest) ∙ count_again count (spell_units units ++ rest) is.is_count)
    (within_again (length path) (pos old +ℤ amount count) shared is.leads is.within)
    (units_again last table (max_path - shared) units rest is.each is.fits over)
    is.some

-- ---- tables

pub table_takes : (bytes table rest : List ℕ) → table_at bytes ≡ Ok (table, rest) → (is_table table ≡ true) × (bytes ≡ table ++ rest)
unfolding table_at
table_takes bytes table rest e = elim (cases_Bool (is_bigram bytes)) [
  | inl good ↦
      let h = rw good at e in
      let p = same_both (take 256 bytes) table (drop 256 bytes) rest h in
      (ap is_table (sym p.0) ∙ good, sym (take-append-drop 256 bytes) ∙ ap (λ (l : List ℕ). l ++ drop 256 bytes) p.0 ∙ ap (λ (l : List ℕ). table ++ l) p.1)
  | inr bad ↦ let h = rw bad at e in absurd cc
]

pub table_len : (table : List ℕ) → is_table table ≡ true → length table ≡ 256
table_len table e = eqb-true (length table) 256 (and_parts (eqb (length table) 256) _ e).0

pub table_again : (table rest : List ℕ) → is_table table ≡ true → table_at (table ++ rest) ≡ Ok (table, rest)
unfolding table_at
table_again table rest e =
    let len = table_len table e in
    rw (take_at table rest 256 len, drop_at table rest 256 len, e) refl

-- ---- items

abbrev pub as_table : List ℕ × List ℕ → Result (Item × List ℕ) Stop
as_table t = Ok (TableItem t.0, t.1)

pub item_takes : (last : Bool) (s : State) (bytes : List ℕ) (i : Item) (rest : List ℕ) → item_at last s bytes ≡ Ok (i, rest) → allowed s i last rest × (bytes ≡ spell i ++ rest)
item_takes last AtStart bytes i rest e =
    seq (table_at bytes) as_table _ _ e (λ (table : List ℕ × List ℕ) e1 k1.
    let t = table_takes bytes table.0 table.1 e1 in
    let same = same_both (TableItem table.0) i table.1 rest k1 in
    (subst (λ (j : Item). allowed AtStart j last rest) same.0 t.0, t.1 ∙ ap (λ (l : List ℕ). table.0 ++ l) same.1 ∙ ap (λ (j : Item). spell j ++ rest) same.0))
item_takes last (After table path old) bytes i rest e = let t = entry_takes last table path old bytes i rest e in (t.rules, t.spelled)

pub item_again : (last : Bool) (s : State) (i : Item) (rest : List ℕ) → allowed s i last rest → item_at last s (spell i ++ rest) ≡ Ok (i, rest)
item_again last AtStart (TableItem table) rest is = ap (λ (r : Result (List ℕ × List ℕ) Stop). r >>= as_table) (table_again table rest is)
item_again last AtStart (PathItem count units) rest is = absurd is
item_again last (After table path old) (TableItem t) rest is = absurd is
item_again last (After table path old) (PathItem count units) rest is = entry_again last table path old count units rest (shared_by old count) is.0 is.1

item_above : (last : Bool) (s : State) (i : Item) (rest : List ℕ) → allowed s i last rest → 0 < length (spell i)
item_above last AtStart (TableItem table) rest is = omega (arith, table_len table is)
item_above last AtStart (PathItem count units) rest is = absurd is
item_above last (After table path old) (TableItem t) rest is = absurd is
item_above last (After table path old) (PathItem count units) rest is = omega (arith, count_above count, length-append (spell_count count) (spell_units units))

pub bigram_shrinks : Shrinks bigram
bigram_shrinks = record {
  shorter = λ last s bytes i rest e. let t = item_takes last s bytes i rest e in omega (arith, ap length t.1, length-append (spell i) rest, item_above last s i rest t.0);
  sized = λ last s bytes i rest e. ap length (item_takes last s bytes i rest e).1;
}

pub bigram_laws : Laws bigram
bigram_laws = record {
  takes = λ last s bytes i rest small e. let t = item_takes last s bytes i rest e in (t.0, t.1, IsBytes-behind (spell i) rest (subst IsBytes t.1 small));
  again = λ last s i rest is. item_again last s i rest is;
}
