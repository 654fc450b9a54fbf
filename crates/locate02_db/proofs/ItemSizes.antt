-- How many bytes an item takes, whatever numbers they are.
use Rattle.std.proofs.Common.{◌≡◌, ℕ, ◌+◌, ◌-◌, ◌<◌, Bool, true, false, cond, eqb, ltb, List, length, Ok, sym, ◌∙◌, subst, length-append, arith}
use Rattle.std.specs.Prelude.{pos, ◌+ℤ◌}
use Rattle.std.specs.Int.{w8, w16, cast_signed, cast_unsigned}
use Rattle.byte_feed.specs.declared.damage.DamageCause.TheVariants.{EmptyPath}
use Rattle.byte_feed.specs.Front.{Shrinks}
use Rattle.byte_feed.specs.Field.{magic_at, byte_at, number_at, demand, ended_at, ended, max_path}
use Rattle.byte_feed.proofs.Fields.{seq, ok_is}
use Rattle.byte_feed.proofs.Numbers.{length-big_bytes}
use Rattle.byte_feed.proofs.Takes.{byte_sized, number_sized, magic_sized, ended_sized}
use Rattle.locate02_db.specs.declared.change.Change.{Change}
use Rattle.locate02_db.specs.declared.change.Change.TheVariants.{Short, Long}
use Rattle.locate02_db.specs.Items.{Item, PreambleItem, PathItem, magic, word, spell_change, spell, amount, State, AtStart, After, long_at, change_from, shared_within, remainder_at, entry_from, entry_at, item_at, locate02}

length-word : (n : ℕ) → length (word n) ≡ 2
unfolding word
length-word n = length-big_bytes 2 n

long_sized : (bytes : List ℕ) (x : Change × List ℕ) → long_at bytes ≡ Ok x → 1 + length bytes ≡ length (spell_change x.0) + length x.1
unfolding long_at
long_sized bytes x e =
    seq (number_at 2 bytes) _ _ _ e (λ (n : ℕ × List ℕ) e1 k1.
    subst (λ (y : Change × List ℕ). 1 + length bytes ≡ length (spell_change y.0) + length y.1) (ok_is (Long (cast_signed w16 n.0), n.1) x k1)
    (omega (arith, number_sized 2 bytes n.0 n.1 e1, length-word (cast_unsigned w16 (cast_signed w16 n.0)))))

from_sized : (first : ℕ) (bytes : List ℕ) (x : Change × List ℕ) (long : Bool) → cond long (long_at bytes) (Ok (Short (cast_signed w8 first), bytes)) ≡ Ok x → 1 + length bytes ≡ length (spell_change x.0) + length x.1
from_sized first bytes x true e = long_sized bytes x e
from_sized first bytes x false e =
    subst (λ (y : Change × List ℕ). 1 + length bytes ≡ length (spell_change y.0) + length y.1) (ok_is (Short (cast_signed w8 first), bytes) x e) (omega arith)

remainder_sized : (change : Change) (shared : ℕ) (bytes : List ℕ) (x : Item × List ℕ) → remainder_at change shared bytes ≡ Ok x → length (spell_change change) + length bytes ≡ length (spell x.0) + length x.1
remainder_sized change shared bytes x e =
    seq (ended_at (max_path - shared) bytes) _ _ _ e (λ (text : List ℕ × List ℕ) e1 k1.
    seq (demand (ltb 0 (shared + length text.0)) EmptyPath) _ _ _ k1 (λ (u : Unit {0}) e2 k2.
    subst (λ (y : Item × List ℕ). length (spell_change change) + length bytes ≡ length (spell y.0) + length y.1) (ok_is (PathItem change text.0, text.1) x k2)
    (omega (arith, ended_sized (max_path - shared) bytes text.0 text.1 e1, length-append (spell_change change) (ended text.0)))))

entry_sized : (path : List ℕ) (old : ℕ) (bytes : List ℕ) (x : Item × List ℕ) → entry_at path old bytes ≡ Ok x → length bytes ≡ length (spell x.0) + length x.1
unfolding entry_from
entry_sized path old bytes x e =
    seq (byte_at bytes) _ _ _ e (λ (first : ℕ × List ℕ) e0 k0.
    seq (change_from first.0 first.1) _ _ _ k0 (λ (change : Change × List ℕ) e1 k1.
    seq (shared_within (length path) (pos old +ℤ amount change.0)) _ _ _ k1 (λ (shared : ℕ) e2 k2.
    omega (arith, byte_sized bytes first.0 first.1 e0, from_sized first.0 first.1 change (eqb first.0 128) e1, remainder_sized change.0 shared change.1 x k2))))

item_sized : (s : State) (bytes : List ℕ) (i : Item) (rest : List ℕ) → item_at s bytes ≡ Ok (i, rest) → length bytes ≡ length (spell i) + length rest
item_sized AtStart bytes i rest e =
    seq (magic_at magic bytes) _ _ _ e (λ (m : Unit {0} × List ℕ) e1 k1.
    subst (λ (y : Item × List ℕ). length bytes ≡ length (spell y.0) + length y.1) (ok_is (PreambleItem, m.1) (i, rest) k1) (omega (arith, magic_sized magic bytes m.0 m.1 e1)))
item_sized (After path old) bytes i rest e = entry_sized path old bytes (i, rest) e

-- Each item has a byte.
change_above : (change : Change) → 0 < length (spell_change change)
change_above (Short z) = omega arith
change_above (Long z) = omega arith

spell_above : (i : Item) → 0 < length (spell i)
spell_above PreambleItem = omega arith
spell_above (PathItem change text) = omega (arith, length-append (spell_change change) (ended text), change_above change)

pub locate02_shrinks : Shrinks locate02
locate02_shrinks = record {
  shorter = λ last s bytes i rest e. omega (arith, item_sized s bytes i rest e, spell_above i);
  sized = λ last s bytes i rest e. item_sized s bytes i rest e ∙ sym (length-append (spell i) rest);
}
