-- What is read of an item is spelled so and keeps the rules, and what is spelled so is read.
use Rattle.std.proofs.Common.{◌≡◌, ℕ, ◌+◌, ◌-◌, ◌<◌, ◌≤◌, Bool, true, false, cond, eqb, ltb, List, ◌∷◌, ◌++◌, length, Result, Ok, Err, refl, ap, ◌∙◌, subst, append_assoc, arith}
use Rattle.std.specs.Prelude.{ℤ, pos, negsuc, ◌+ℤ◌, nat_le}
use Rattle.std.specs.Int.{w8, w16, cast_signed, cast_unsigned}
use Rattle.std.proofs.lemmas.Int.{ints, of_z-to_z}
use Rattle.std.proofs.lemmas.Bool.{lt-ltb, ltb-true, le-leb, leb-true, eqb-true, eqb-false, ne_eqb}
use Rattle.byte_feed.specs.declared.damage.DamageCause.TheVariants.{BadCount, EmptyPath}
use Rattle.byte_feed.specs.declared.damage.Stop.{Stop}
use Rattle.byte_feed.specs.declared.damage.Stop.TheVariants.{Broken}
use Rattle.byte_feed.specs.Front.{IsBytes, Laws}
use Rattle.byte_feed.specs.Field.{◌>>=◌, magic_at, byte_at, number_at, demand, ended_at, IsPlain, ended, max_path}
use Rattle.byte_feed.proofs.Fields.{seq, demand_ok, ok_is, ended_again}
use Rattle.byte_feed.proofs.Steady.{then_ok}
use Rattle.byte_feed.proofs.Takes.{Takes, Takes-then, byte_takes, number_takes, number_again, magic_takes, ended_takes}
use Rattle.locate02_db.specs.declared.change.Change.{Change}
use Rattle.locate02_db.specs.declared.change.Change.TheVariants.{Short, Long}
use Rattle.locate02_db.specs.Items.{Item, PreambleItem, PathItem, magic, word, spell_change, spell, IsChange, amount, State, AtStart, After, IsEntry, shared_by, at_least_zero, allowed, long_at, change_from, shared_within, remainder_at, entry_from, entry_at, item_at, locate02}

-- ---- signed numbers

short_back : (n : ℕ) → n < 256 → cast_unsigned w8 (cast_signed w8 n) ≡ n
short_back n low = of_z-to_z w8 n low

long_back : (n : ℕ) → n < 65536 → cast_unsigned w16 (cast_signed w16 n) ≡ n
long_back n low = of_z-to_z w16 n low

short_fits : (n : ℕ) → n < 256 → (n ≡ 128 → ⊥) → IsChange (Short (cast_signed w8 n))
short_fits n low other = grind (arith, ints)

long_fits : (n : ℕ) → n < 65536 → IsChange (Long (cast_signed w16 n))
long_fits n low = grind (arith, ints)

short_low : (z : ℤ) → IsChange (Short z) → (cast_unsigned w8 z < 256) × (cast_unsigned w8 z ≡ 128 → ⊥) × (cast_signed w8 (cast_unsigned w8 z) ≡ z)
short_low z h = grind (arith, ints)

long_low : (z : ℤ) → IsChange (Long z) → (cast_unsigned w16 z < 65536) × (cast_signed w16 (cast_unsigned w16 z) ≡ z)
long_low z h = grind (arith, ints)

-- ---- a change

long_takes : (bytes : List ℕ) (x : Change × List ℕ) → IsBytes bytes → long_at bytes ≡ Ok x → Takes (128 ∷ bytes) (spell_change x.0) x.1 × IsChange x.0
unfolding long_at word
long_takes bytes x small e =
    seq (number_at 2 bytes) _ _ _ e (λ (n : ℕ × List ℕ) e1 k1.
    let t = number_takes 2 bytes n.0 n.1 small e1 in
    subst (λ (y : Change × List ℕ). Takes (128 ∷ bytes) (spell_change y.0) y.1 × IsChange y.0)
    (ok_is (Long (cast_signed w16 n.0), n.1) x k1)
    (rw (long_back n.0 t.1) (record { whole = ap (λ (r : List ℕ). 128 ∷ r) t.0.whole; small = t.0.small }), long_fits n.0 t.1))

from_takes : (first : ℕ) (bytes : List ℕ) (x : Change × List ℕ) (long : Bool) → first < 256 → eqb first 128 ≡ long → IsBytes bytes → cond long (long_at bytes) (Ok (Short (cast_signed w8 first), bytes)) ≡ Ok x
    → Takes (first ∷ bytes) (spell_change x.0) x.1 × IsChange x.0
from_takes first bytes x true low is small e = rw (eqb-true first 128 is) (long_takes bytes x small e)
from_takes first bytes x false low is small e =
    subst (λ (y : Change × List ℕ). Takes (first ∷ bytes) (spell_change y.0) y.1 × IsChange y.0)
    (ok_is (Short (cast_signed w8 first), bytes) x e)
    (rw (short_back first low) (record { whole = refl; small = small }), short_fits first low (eqb-false first 128 is))

pub change_takes : (first : ℕ) (bytes : List ℕ) (x : Change × List ℕ) → first < 256 → IsBytes bytes → change_from first bytes ≡ Ok x → Takes (first ∷ bytes) (spell_change x.0) x.1 × IsChange x.0
change_takes first bytes x low small e = from_takes first bytes x (eqb first 128) low refl small e

-- ---- the shared length

within_by : (len m n : ℕ) (s : Stop) (b : Bool) → nat_le m len ≡ b → cond b (Ok m) (Err s) ≡ Ok n → (pos m ≡ pos n) × (n ≤ len)
within_by len m n s true is e = let same : m ≡ n = ok_is m n e in (ap pos same, omega (arith, same, leb-true m len is))
within_by len m n s false is e = absurd cc

pub within_is : (len : ℕ) (z : ℤ) (n : ℕ) → shared_within len z ≡ Ok n → (z ≡ pos n) × (n ≤ len)
within_is len (pos m) n e = within_by len m n (Broken BadCount) (nat_le m len) refl e
within_is len (negsuc m) n e = absurd cc

pub within_again : (len : ℕ) (z : ℤ) (n : ℕ) → z ≡ pos n → n ≤ len → shared_within len z ≡ Ok n
within_again len z n is fits = ap (shared_within len) is ∙ rw (le-leb n len fits) refl

-- ---- entries

pub remainder_takes : (change : Change) (shared : ℕ) (bytes : List ℕ) (x : Item × List ℕ) → IsBytes bytes → remainder_at change shared bytes ≡ Ok x → (P : Type 0)
    → ((text : List ℕ) → Takes bytes (ended text) x.1 → IsPlain (max_path - shared) text → 0 < shared + length text → PathItem change text ≡ x.0 → P) → P
remainder_takes change shared bytes x small e P go =
    seq (ended_at (max_path - shared) bytes) _ _ _ e (λ (text : List ℕ × List ℕ) e1 k1.
    seq (demand (ltb 0 (shared + length text.0)) EmptyPath) _ _ _ k1 (λ (u : Unit {0}) e2 k2.
    let t = ended_takes (max_path - shared) bytes text.0 text.1 small e1 in
    let some = ltb-true 0 (shared + length text.0) (demand_ok (ltb 0 (shared + length text.0)) EmptyPath u e2) in
    let same = ok_is (PathItem change text.0, text.1) x k2 in
    go text.0 (subst (Takes bytes (ended text.0)) (ap (λ (p : Item × List ℕ). p.1) same) t.0) t.1 some (ap (λ (p : Item × List ℕ). p.0) same)))

abbrev OfItem : State → List ℕ → Item → List ℕ → Type 0
OfItem s bytes i rest = allowed s i × (bytes ≡ spell i ++ rest) × IsBytes rest

entry_takes : (path : List ℕ) (old : ℕ) (bytes : List ℕ) (x : Item × List ℕ) → IsBytes bytes → entry_at path old bytes ≡ Ok x → OfItem (After path old) bytes x.0 x.1
unfolding entry_from
entry_takes path old bytes x small e =
    seq (byte_at bytes) _ _ _ e (λ (first : ℕ × List ℕ) e0 k0.
    seq (change_from first.0 first.1) _ _ _ k0 (λ (change : Change × List ℕ) e1 k1.
    seq (shared_within (length path) (pos old +ℤ amount change.0)) _ _ _ k1 (λ (shared : ℕ) e2 k2.
    let t0 = byte_takes bytes first.0 first.1 small e0 in
    let t1 = change_takes first.0 first.1 change t0.1 t0.0.small e1 in
    let w = within_is (length path) (pos old +ℤ amount change.0) shared e2 in
    let is : shared_by old change.0 ≡ shared = ap at_least_zero w.0 in
    remainder_takes change.0 shared change.1 x t1.0.small k2 (OfItem (After path old) bytes x.0 x.1) (λ text t plain some same.
    let both = Takes-then bytes (spell_change change.0) change.1 (ended text) x.1 (record { whole = t0.0.whole ∙ t1.0.whole; small = t1.0.small }) t in
    subst (λ (i : Item). OfItem (After path old) bytes i x.1) same
    (rw is (record { fits = t1.1; leads = w.0; within = w.1; plain = plain; some = some }), both.whole, both.small)))))

-- the change that is spelled is read
change_again : (change : Change) (read : ℕ → List ℕ → Result (Item × List ℕ) Stop) (next : Change → List ℕ → Result (Item × List ℕ) Stop) (rest : List ℕ) → IsChange change
    → ((first : ℕ) (bytes : List ℕ) → read first bytes ≡ (change_from first bytes >>= λ c. next c.0 c.1))
    → (byte_at (spell_change change ++ rest) >>= λ first. read first.0 first.1) ≡ next change rest
unfolding long_at word
change_again (Short z) read next rest h is =
    let low = short_low z h in
    is (cast_unsigned w8 z) rest ∙ rw (ne_eqb (cast_unsigned w8 z) 128 (λ e. absurd (low.1 e)), low.2) refl
change_again (Long z) read next rest h is =
    let low = long_low z h in
    is 128 (word (cast_unsigned w16 z) ++ rest) ∙ rw (number_again 2 (cast_unsigned w16 z) rest low.0, low.1) refl

entry_again : (path : List ℕ) (old : ℕ) (change : Change) (text rest : List ℕ) (shared : ℕ) → IsEntry path old change text shared → entry_at path old (spell (PathItem change text) ++ rest) ≡ Ok (PathItem change text, rest)
unfolding entry_from
entry_again path old change text rest shared h =
    ap (entry_at path old) (append_assoc (spell_change change) (ended text) rest)
    ∙ change_again change (entry_from path old) (λ c bytes. shared_within (length path) (pos old +ℤ amount c) >>= λ s. remainder_at c s bytes) (ended text ++ rest) h.fits (λ first bytes. refl)
    ∙ then_ok (shared_within (length path) (pos old +ℤ amount change)) _ shared _ (within_again (length path) (pos old +ℤ amount change) shared h.leads h.within)
    (then_ok (ended_at (max_path - shared) (ended text ++ rest)) _ (text, rest) _ (ended_again (max_path - shared) text rest h.plain)
    (rw (lt-ltb 0 (shared + length text) h.some) refl))

-- ---- items

item_takes : (s : State) (bytes : List ℕ) (i : Item) (rest : List ℕ) → IsBytes bytes → item_at s bytes ≡ Ok (i, rest) → OfItem s bytes i rest
item_takes AtStart bytes i rest small e =
    seq (magic_at magic bytes) _ _ _ e (λ (m : Unit {0} × List ℕ) e1 k1.
    let t = magic_takes magic bytes m.0 m.1 small e1 in
    subst (λ (y : Item × List ℕ). OfItem AtStart bytes y.0 y.1) (ok_is (PreambleItem, m.1) (i, rest) k1) (tt, t.whole, t.small))
item_takes (After path old) bytes i rest small e = entry_takes path old bytes (i, rest) small e

item_again : (s : State) (i : Item) (rest : List ℕ) → allowed s i → item_at s (spell i ++ rest) ≡ Ok (i, rest)
item_again AtStart PreambleItem rest k = refl
item_again AtStart (PathItem change text) rest k = absurd k
item_again (After path old) PreambleItem rest k = absurd k
item_again (After path old) (PathItem change text) rest k = entry_again path old change text rest (shared_by old change) k

pub locate02_laws : Laws locate02
locate02_laws = record {
  takes = λ last s bytes i rest small e. item_takes s bytes i rest small e;
  again = λ last s i rest k. item_again s i rest k;
}
