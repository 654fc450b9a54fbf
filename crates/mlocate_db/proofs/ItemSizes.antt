-- How many bytes an item takes, whatever numbers they are.
use Rattle.std.proofs.Common.{◌≡◌, ℕ, zero, suc, ◌+◌, ◌<◌, eqb, ltb, List, ◌∷◌, ◌++◌, length, Ok, sym, ◌∙◌, subst, length-append, arith}
use Rattle.byte_feed.specs.declared.damage.DamageCause.TheVariants.{BadVersion, BadFlag, BadNanos, EmptyPath, EmptyName}
use Rattle.byte_feed.specs.Front.{Shrinks}
use Rattle.byte_feed.specs.Field.{magic_at, byte_at, bytes_at, number_at, demand, text_at, ended, max_path}
use Rattle.byte_feed.proofs.Fields.{seq, ok_is}
use Rattle.byte_feed.proofs.Takes.{byte_sized, bytes_sized, number_sized, magic_sized, text_sized}
use Rattle.path_order.specs.declared.kind.Kind.{Kind}
use Rattle.path_order.specs.declared.kind.Kind.TheVariants.{File, Directory}
use Rattle.mlocate_db.specs.declared.item.Fixed.{Fixed}
use Rattle.mlocate_db.specs.declared.item.Numbers.{Numbers}
use Rattle.mlocate_db.specs.Items.{Header, Head, Item, HeaderItem, HeadItem, EntryItem, EndItem, magic, number, flag_byte, spell_fixed, spell_numbers, fixed_of, numbers_of, spell, State, AtStart, Between, Inside, room_in, fixed_at, as_header, header_at, numbers_at, as_head, head_at, name_at, listed_at, entry_at, item_at, mlocate}
use Rattle.mlocate_db.proofs.ItemLaws.{length-number}

pub length-fixed : (f : Fixed) → length (spell_fixed f) ≡ 16
length-fixed f = omega (arith, length-append magic (number 4 f.size ++ (f.version ∷ (flag_byte f.flag ∷ number 2 f.padding))), length-append (number 4 f.size) (f.version ∷ (flag_byte f.flag ∷ number 2 f.padding)), length-number 4 f.size, length-number 2 f.padding)

pub length-numbers : (n : Numbers) → length (spell_numbers n) ≡ 16
length-numbers n = omega (arith, length-append (number 8 n.seconds) (number 4 n.nanos ++ number 4 n.device), length-append (number 4 n.nanos) (number 4 n.device), length-number 8 n.seconds, length-number 4 n.nanos, length-number 4 n.device)

pub fixed_sized : (bytes : List ℕ) (x : Fixed × List ℕ) → fixed_at bytes ≡ Ok x → length bytes ≡ 16 + length x.1
unfolding fixed_at
fixed_sized bytes x e =
    seq (magic_at magic bytes) _ _ _ e (λ (begun : Unit {0} × List ℕ) e1 k1.
    seq (number_at 4 begun.1) _ _ _ k1 (λ (size : ℕ × List ℕ) e2 k2.
    seq (byte_at size.1) _ _ _ k2 (λ (version : ℕ × List ℕ) e3 k3.
    seq (demand (ltb version.0 2) BadVersion) _ _ _ k3 (λ (known : Unit {0}) e4 k4.
    seq (byte_at version.1) _ _ _ k4 (λ (flag : ℕ × List ℕ) e5 k5.
    seq (demand (ltb flag.0 2) BadFlag) _ _ _ k5 (λ (good : Unit {0}) e6 k6.
    seq (number_at 2 flag.1) _ _ _ k6 (λ (padding : ℕ × List ℕ) e7 k7.
    let s1 = magic_sized magic bytes begun.0 begun.1 e1 in
    let s2 = number_sized 4 begun.1 size.0 size.1 e2 in
    let s3 = byte_sized size.1 version.0 version.1 e3 in
    let s5 = byte_sized version.1 flag.0 flag.1 e5 in
    let s7 = number_sized 2 flag.1 padding.0 padding.1 e7 in
    subst (λ (y : Fixed × List ℕ). length bytes ≡ 16 + length y.1)
    (ok_is (record { size = size.0; version = version.0; flag = eqb flag.0 1; padding = padding.0 }, padding.1) x k7)
    (omega (arith, s1, s2, s3, s5, s7)))))))))

pub numbers_sized : (bytes : List ℕ) (x : Numbers × List ℕ) → numbers_at bytes ≡ Ok x → length bytes ≡ 16 + length x.1
unfolding numbers_at
numbers_sized bytes x e =
    seq (number_at 8 bytes) _ _ _ e (λ (seconds : ℕ × List ℕ) e1 k1.
    seq (number_at 4 seconds.1) _ _ _ k1 (λ (nanos : ℕ × List ℕ) e2 k2.
    seq (demand (ltb nanos.0 1000000000) BadNanos) _ _ _ k2 (λ (good : Unit {0}) e3 k3.
    seq (number_at 4 nanos.1) _ _ _ k3 (λ (device : ℕ × List ℕ) e4 k4.
    let s1 = number_sized 8 bytes seconds.0 seconds.1 e1 in
    let s2 = number_sized 4 seconds.1 nanos.0 nanos.1 e2 in
    let s4 = number_sized 4 nanos.1 device.0 device.1 e4 in
    subst (λ (y : Numbers × List ℕ). length bytes ≡ 16 + length y.1)
    (ok_is (record { seconds = seconds.0; nanos = nanos.0; device = device.0 }, device.1) x k4)
    (omega (arith, s1, s2, s4))))))

header_sized : (bytes : List ℕ) (x : Header × List ℕ) → header_at bytes ≡ Ok x → length bytes ≡ length (spell (HeaderItem x.0)) + length x.1
unfolding header_at
header_sized bytes x e =
    seq (fixed_at bytes) _ _ _ e (λ (fixed : Fixed × List ℕ) e1 k1.
    seq (text_at EmptyPath max_path fixed.1) _ _ _ k1 (λ (root : List ℕ × List ℕ) e2 k2.
    seq (bytes_at fixed.0.size root.1) _ _ _ k2 (λ (block : List ℕ × List ℕ) e3 k3.
    let s1 = fixed_sized bytes fixed e1 in
    let s2 = text_sized EmptyPath max_path fixed.1 root.0 root.1 e2 in
    let s3 = bytes_sized fixed.0.size root.1 block.0 block.1 e3 in
    let h : Header = as_header fixed.0 root.0 block.0 in
    subst (λ (y : Header × List ℕ). length bytes ≡ length (spell (HeaderItem y.0)) + length y.1)
    (ok_is (h, block.1) x k3)
    (omega (arith, s1, s2, s3.0, length-append (spell_fixed (fixed_of h)) (ended root.0 ++ block.0), length-append (ended root.0) block.0, length-fixed (fixed_of h))))))

head_sized : (bytes : List ℕ) (x : Head × List ℕ) → head_at bytes ≡ Ok x → length bytes ≡ length (spell (HeadItem x.0)) + length x.1
unfolding head_at
head_sized bytes x e =
    seq (numbers_at bytes) _ _ _ e (λ (numbers : Numbers × List ℕ) e1 k1.
    seq (text_at EmptyPath max_path numbers.1) _ _ _ k1 (λ (path : List ℕ × List ℕ) e2 k2.
    let s1 = numbers_sized bytes numbers e1 in
    let s2 = text_sized EmptyPath max_path numbers.1 path.0 path.1 e2 in
    let h : Head = as_head numbers.0 path.0 in
    subst (λ (y : Head × List ℕ). length bytes ≡ length (spell (HeadItem y.0)) + length y.1)
    (ok_is (h, path.1) x k2)
    (omega (arith, s1, s2, length-append (spell_numbers (numbers_of h)) (ended path.0), length-numbers (numbers_of h)))))

name_sized : (kind : Kind) (room : ℕ) (bytes : List ℕ) (x : Item × List ℕ) → name_at kind room bytes ≡ Ok x → length bytes + 1 ≡ length (spell x.0) + length x.1
name_sized kind room bytes x e =
    seq (text_at EmptyName room bytes) _ _ _ e (λ (name : List ℕ × List ℕ) e1 k1.
    let s = text_sized EmptyName room bytes name.0 name.1 e1 in
    subst (λ (y : Item × List ℕ). length bytes + 1 ≡ length (spell y.0) + length y.1)
    (ok_is (EntryItem kind name.0, name.1) x k1)
    (omega (arith, s)))

listed_sized : (room n : ℕ) (bytes : List ℕ) (x : Item × List ℕ) → listed_at room n bytes ≡ Ok x → length bytes + 1 ≡ length (spell x.0) + length x.1
listed_sized room zero bytes x e = name_sized File room bytes x e
listed_sized room (suc zero) bytes x e = name_sized Directory room bytes x e
listed_sized room (suc (suc zero)) bytes x e = subst (λ (y : Item × List ℕ). length bytes + 1 ≡ length (spell y.0) + length y.1) (ok_is (EndItem, bytes) x e) (omega arith)
listed_sized room (suc (suc (suc n))) bytes x e = absurd cc

pub entry_sized : (room : ℕ) (bytes : List ℕ) (x : Item × List ℕ) → entry_at room bytes ≡ Ok x → length bytes ≡ length (spell x.0) + length x.1
unfolding entry_at
entry_sized room bytes x e =
    seq (byte_at bytes) _ _ _ e (λ (kind : ℕ × List ℕ) e1 k1.
    omega (arith, byte_sized bytes kind.0 kind.1 e1, listed_sized room kind.0 kind.1 x k1))

item_sized : (s : State) (bytes : List ℕ) (i : Item) (rest : List ℕ) → item_at s bytes ≡ Ok (i, rest) → length bytes ≡ length (spell i) + length rest
item_sized AtStart bytes i rest e =
    seq (header_at bytes) _ _ _ e (λ (h : Header × List ℕ) e1 k1.
    subst (λ (y : Item × List ℕ). length bytes ≡ length (spell y.0) + length y.1) (ok_is (HeaderItem h.0, h.1) (i, rest) k1) (header_sized bytes h e1))
item_sized (Between version) bytes i rest e =
    seq (head_at bytes) _ _ _ e (λ (h : Head × List ℕ) e1 k1.
    subst (λ (y : Item × List ℕ). length bytes ≡ length (spell y.0) + length y.1) (ok_is (HeadItem h.0, h.1) (i, rest) k1) (head_sized bytes h e1))
item_sized (Inside version path) bytes i rest e = entry_sized (room_in path) bytes (i, rest) e

-- Each item has a byte.
pub spell_above : (i : Item) → 0 < length (spell i)
spell_above (HeaderItem h) = omega (arith, length-append (spell_fixed (fixed_of h)) (ended h.root ++ h.block), length-fixed (fixed_of h))
spell_above (HeadItem h) = omega (arith, length-append (spell_numbers (numbers_of h)) (ended h.path), length-numbers (numbers_of h))
spell_above (EntryItem kind name) = omega arith
spell_above EndItem = omega arith

pub mlocate_shrinks : Shrinks mlocate
mlocate_shrinks = record {
  shorter = λ last s bytes i rest e. omega (arith, item_sized s bytes i rest e, spell_above i);
  sized = λ last s bytes i rest e. item_sized s bytes i rest e ∙ sym (length-append (spell i) rest);
}
