-- What is read of an item is spelled so and keeps the rules, and what is spelled so is read.
use Rattle.std.proofs.Common.{◌≡◌, ℕ, zero, suc, ◌^◌, ◌<◌, Bool, true, false, eqb, ltb, List, [], ◌∷◌, ◌++◌, length, Ok, refl, sym, ap, ◌∙◌, subst, append_assoc, arith}
use Rattle.std.proofs.lemmas.Bool.{lt-ltb, ltb-true}
use Rattle.byte_feed.specs.declared.damage.DamageCause.{DamageCause}
use Rattle.byte_feed.specs.declared.damage.DamageCause.TheVariants.{BadVersion, BadFlag, BadNanos, EmptyPath, EmptyName}
use Rattle.byte_feed.specs.Front.{IsBytes, Laws}
use Rattle.byte_feed.specs.Field.{magic_at, byte_at, bytes_at, number_at, demand, text_at, IsText, ended, max_path}
use Rattle.byte_feed.proofs.Fields.{seq, demand_ok, ok_is}
use Rattle.byte_feed.proofs.Numbers.{length-big_bytes}
use Rattle.byte_feed.proofs.Steady.{then_ok}
use Rattle.byte_feed.proofs.Takes.{Takes, Takes-then, byte_takes, bytes_take, bytes_again, number_takes, number_again, magic_takes, text_takes, text_again}
use Rattle.path_order.specs.declared.kind.Kind.{Kind}
use Rattle.path_order.specs.declared.kind.Kind.TheVariants.{File, Directory}
use Rattle.mlocate_db.specs.declared.item.Fixed.{Fixed}
use Rattle.mlocate_db.specs.declared.item.Numbers.{Numbers}
use Rattle.mlocate_db.specs.Items.{Header, Head, Item, HeaderItem, HeadItem, EntryItem, EndItem, magic, number, flag_byte, kind_byte, spell_fixed, spell_numbers, fixed_of, numbers_of, spell, room_in, IsFixed, IsNumbers, IsHeader, IsHead, State, AtStart, Between, Inside, allowed, fixed_at, as_header, header_at, numbers_at, as_head, head_at, name_at, listed_at, entry_at, item_at, mlocate}

-- ---- steps

demand_yes : (b : Bool) (cause : DamageCause) → b ≡ true → demand b cause ≡ Ok tt
demand_yes b cause e = rw e refl

takes_number : (width : ℕ) (bytes : List ℕ) (n : ℕ) (rest : List ℕ) → IsBytes bytes → number_at width bytes ≡ Ok (n, rest) → Takes bytes (number width n) rest × (n < 256 ^ width)
unfolding number
takes_number width bytes n rest small e = number_takes width bytes n rest small e

reads_number : (width n : ℕ) (rest : List ℕ) → n < 256 ^ width → number_at width (number width n ++ rest) ≡ Ok (n, rest)
unfolding number
reads_number width n rest low = number_again width n rest low

pub length-number : (width n : ℕ) → length (number width n) ≡ width
unfolding number
length-number width n = length-big_bytes width n

-- ---- flags

flag_back : (n : ℕ) → n < 2 → flag_byte (eqb n 1) ≡ n
flag_back zero low = refl
flag_back (suc zero) low = refl
flag_back (suc (suc n)) low = absurd (omega arith)

flag_low : (b : Bool) → ltb (flag_byte b) 2 ≡ true
flag_low true = refl
flag_low false = refl

flag_same : (b : Bool) → eqb (flag_byte b) 1 ≡ b
flag_same true = refl
flag_same false = refl

-- ---- the parts that have a fixed length

pub fixed_takes : (bytes : List ℕ) (x : Fixed × List ℕ) → IsBytes bytes → fixed_at bytes ≡ Ok x → Takes bytes (spell_fixed x.0) x.1 × IsFixed x.0
unfolding fixed_at
fixed_takes bytes x small e =
    seq (magic_at magic bytes) _ _ _ e (λ (begun : Unit {0} × List ℕ) e1 k1.
    seq (number_at 4 begun.1) _ _ _ k1 (λ (size : ℕ × List ℕ) e2 k2.
    seq (byte_at size.1) _ _ _ k2 (λ (version : ℕ × List ℕ) e3 k3.
    seq (demand (ltb version.0 2) BadVersion) _ _ _ k3 (λ (known : Unit {0}) e4 k4.
    seq (byte_at version.1) _ _ _ k4 (λ (flag : ℕ × List ℕ) e5 k5.
    seq (demand (ltb flag.0 2) BadFlag) _ _ _ k5 (λ (good : Unit {0}) e6 k6.
    seq (number_at 2 flag.1) _ _ _ k6 (λ (padding : ℕ × List ℕ) e7 k7.
    let t1 = magic_takes magic bytes begun.0 begun.1 small e1 in
    let t2 = takes_number 4 begun.1 size.0 size.1 t1.small e2 in
    let t3 = byte_takes size.1 version.0 version.1 t2.0.small e3 in
    let t5 = byte_takes version.1 flag.0 flag.1 t3.0.small e5 in
    let t7 = takes_number 2 flag.1 padding.0 padding.1 t5.0.small e7 in
    let low = ltb-true version.0 2 (demand_ok (ltb version.0 2) BadVersion known e4) in
    let back = flag_back flag.0 (ltb-true flag.0 2 (demand_ok (ltb flag.0 2) BadFlag good e6)) in
    let all : Takes bytes (magic ++ (number 4 size.0 ++ (version.0 ∷ (flag.0 ∷ number 2 padding.0)))) padding.1 =
    Takes-then bytes magic begun.1 _ padding.1 t1
    (Takes-then begun.1 (number 4 size.0) size.1 _ padding.1 t2.0
    (Takes-then size.1 (version.0 ∷ []) version.1 _ padding.1 t3.0
    (Takes-then version.1 (flag.0 ∷ []) flag.1 (number 2 padding.0) padding.1 t5.0 t7.0))) in
    subst (λ (y : Fixed × List ℕ). Takes bytes (spell_fixed y.0) y.1 × IsFixed y.0)
    (ok_is (record { size = size.0; version = version.0; flag = eqb flag.0 1; padding = padding.0 }, padding.1) x k7)
    (rw back all, record { size = t2.1; version = low; padding = t7.1 }))))))))

pub fixed_again : (f : Fixed) (rest : List ℕ) → IsFixed f → fixed_at (spell_fixed f ++ rest) ≡ Ok (f, rest)
unfolding fixed_at
fixed_again f rest h =
    let last : List ℕ = number 2 f.padding ++ rest in
    let shape : spell_fixed f ++ rest ≡ magic ++ (number 4 f.size ++ (f.version ∷ (flag_byte f.flag ∷ last))) =
    ap (λ (r : List ℕ). magic ++ r) (append_assoc (number 4 f.size) (f.version ∷ (flag_byte f.flag ∷ number 2 f.padding)) rest) in
    ap fixed_at shape
    ∙ then_ok (number_at 4 (number 4 f.size ++ (f.version ∷ (flag_byte f.flag ∷ last)))) _ (f.size, f.version ∷ (flag_byte f.flag ∷ last)) _ (reads_number 4 f.size _ h.size)
    (then_ok (demand (ltb f.version 2) BadVersion) _ tt _ (demand_yes _ BadVersion (lt-ltb f.version 2 h.version))
    (then_ok (demand (ltb (flag_byte f.flag) 2) BadFlag) _ tt _ (demand_yes _ BadFlag (flag_low f.flag))
    (then_ok (number_at 2 last) _ (f.padding, rest) _ (reads_number 2 f.padding rest h.padding)
    (rw (flag_same f.flag) refl))))

pub numbers_take : (bytes : List ℕ) (x : Numbers × List ℕ) → IsBytes bytes → numbers_at bytes ≡ Ok x → Takes bytes (spell_numbers x.0) x.1 × IsNumbers x.0
unfolding numbers_at
numbers_take bytes x small e =
    seq (number_at 8 bytes) _ _ _ e (λ (seconds : ℕ × List ℕ) e1 k1.
    seq (number_at 4 seconds.1) _ _ _ k1 (λ (nanos : ℕ × List ℕ) e2 k2.
    seq (demand (ltb nanos.0 1000000000) BadNanos) _ _ _ k2 (λ (good : Unit {0}) e3 k3.
    seq (number_at 4 nanos.1) _ _ _ k3 (λ (device : ℕ × List ℕ) e4 k4.
    let t1 = takes_number 8 bytes seconds.0 seconds.1 small e1 in
    let t2 = takes_number 4 seconds.1 nanos.0 nanos.1 t1.0.small e2 in
    let t4 = takes_number 4 nanos.1 device.0 device.1 t2.0.small e4 in
    let low = ltb-true nanos.0 1000000000 (demand_ok (ltb nanos.0 1000000000) BadNanos good e3) in
    subst (λ (y : Numbers × List ℕ). Takes bytes (spell_numbers y.0) y.1 × IsNumbers y.0)
    (ok_is (record { seconds = seconds.0; nanos = nanos.0; device = device.0 }, device.1) x k4)
    (Takes-then bytes (number 8 seconds.0) seconds.1 _ device.1 t1.0 (Takes-then seconds.1 (number 4 nanos.0) nanos.1 (number 4 device.0) device.1 t2.0 t4.0), record { seconds = t1.1; nanos = low; device = t4.1 })))))

pub numbers_again : (n : Numbers) (rest : List ℕ) → IsNumbers n → numbers_at (spell_numbers n ++ rest) ≡ Ok (n, rest)
unfolding numbers_at
numbers_again n rest h =
    let behind : List ℕ = number 4 n.nanos ++ (number 4 n.device ++ rest) in
    let shape : spell_numbers n ++ rest ≡ number 8 n.seconds ++ behind =
    append_assoc (number 8 n.seconds) (number 4 n.nanos ++ number 4 n.device) rest ∙ ap (λ (r : List ℕ). number 8 n.seconds ++ r) (append_assoc (number 4 n.nanos) (number 4 n.device) rest) in
    ap numbers_at shape
    ∙ then_ok (number_at 8 (number 8 n.seconds ++ behind)) _ (n.seconds, behind) _ (reads_number 8 n.seconds behind h.seconds)
    (then_ok (number_at 4 behind) _ (n.nanos, number 4 n.device ++ rest) _ (reads_number 4 n.nanos _ (omega (arith, h.nanos)))
    (then_ok (demand (ltb n.nanos 1000000000) BadNanos) _ tt _ (demand_yes _ BadNanos (lt-ltb n.nanos 1000000000 h.nanos))
    (then_ok (number_at 4 (number 4 n.device ++ rest)) _ (n.device, rest) _ (reads_number 4 n.device rest h.device)
    refl)))

-- ---- headers and heads

pub header_takes : (bytes : List ℕ) (x : Header × List ℕ) → IsBytes bytes → header_at bytes ≡ Ok x → Takes bytes (spell (HeaderItem x.0)) x.1 × IsHeader x.0
unfolding header_at
header_takes bytes x small e =
    seq (fixed_at bytes) _ _ _ e (λ (fixed : Fixed × List ℕ) e1 k1.
    seq (text_at EmptyPath max_path fixed.1) _ _ _ k1 (λ (root : List ℕ × List ℕ) e2 k2.
    seq (bytes_at fixed.0.size root.1) _ _ _ k2 (λ (block : List ℕ × List ℕ) e3 k3.
    let t1 = fixed_takes bytes fixed small e1 in
    let t2 = text_takes EmptyPath max_path fixed.1 root.0 root.1 t1.0.small e2 in
    let t3 = bytes_take fixed.0.size root.1 block.0 block.1 t2.0.small e3 in
    let same : fixed_of (as_header fixed.0 root.0 block.0) ≡ fixed.0 = rw t3.1 refl in
    subst (λ (y : Header × List ℕ). Takes bytes (spell (HeaderItem y.0)) y.1 × IsHeader y.0)
    (ok_is (as_header fixed.0 root.0 block.0, block.1) x k3) (
      subst (λ (f : Fixed). Takes bytes (spell_fixed f ++ (ended root.0 ++ block.0)) block.1) (sym same)
          (Takes-then bytes (spell_fixed fixed.0) fixed.1 _ block.1 t1.0 (Takes-then fixed.1 (ended root.0) root.1 block.0 block.1 t2.0 t3.0)),
      record { fixed = subst IsFixed (sym same) t1.1; root = t2.1 },
    ))))

pub header_again : (h : Header) (rest : List ℕ) → IsHeader h → header_at (spell (HeaderItem h) ++ rest) ≡ Ok (h, rest)
unfolding header_at
header_again h rest k =
    let shape : spell (HeaderItem h) ++ rest ≡ spell_fixed (fixed_of h) ++ (ended h.root ++ (h.block ++ rest)) =
    append_assoc (spell_fixed (fixed_of h)) (ended h.root ++ h.block) rest ∙ ap (λ (r : List ℕ). spell_fixed (fixed_of h) ++ r) (append_assoc (ended h.root) h.block rest) in
    ap header_at shape
    ∙ then_ok (fixed_at (spell_fixed (fixed_of h) ++ (ended h.root ++ (h.block ++ rest)))) _ (fixed_of h, ended h.root ++ (h.block ++ rest)) _ (fixed_again (fixed_of h) _ k.fixed)
    (then_ok (text_at EmptyPath max_path (ended h.root ++ (h.block ++ rest))) _ (h.root, h.block ++ rest) _ (text_again EmptyPath max_path h.root (h.block ++ rest) k.root)
    (then_ok (bytes_at (length h.block) (h.block ++ rest)) _ (h.block, rest) _ (bytes_again (length h.block) h.block rest refl)
    refl))

pub head_takes : (bytes : List ℕ) (x : Head × List ℕ) → IsBytes bytes → head_at bytes ≡ Ok x → Takes bytes (spell (HeadItem x.0)) x.1 × IsHead x.0
unfolding head_at
head_takes bytes x small e =
    seq (numbers_at bytes) _ _ _ e (λ (numbers : Numbers × List ℕ) e1 k1.
    seq (text_at EmptyPath max_path numbers.1) _ _ _ k1 (λ (path : List ℕ × List ℕ) e2 k2.
    let t1 = numbers_take bytes numbers small e1 in
    let t2 = text_takes EmptyPath max_path numbers.1 path.0 path.1 t1.0.small e2 in
    subst (λ (y : Head × List ℕ). Takes bytes (spell (HeadItem y.0)) y.1 × IsHead y.0)
    (ok_is (as_head numbers.0 path.0, path.1) x k2)
    (Takes-then bytes (spell_numbers numbers.0) numbers.1 (ended path.0) path.1 t1.0 t2.0, record { numbers = t1.1; path = t2.1 })))

pub head_again : (h : Head) (rest : List ℕ) → IsHead h → head_at (spell (HeadItem h) ++ rest) ≡ Ok (h, rest)
unfolding head_at
head_again h rest k =
    ap head_at (append_assoc (spell_numbers (numbers_of h)) (ended h.path) rest)
    ∙ then_ok (numbers_at (spell_numbers (numbers_of h) ++ (ended h.path ++ rest))) _ (numbers_of h, ended h.path ++ rest) _ (numbers_again (numbers_of h) _ k.numbers)
    (then_ok (text_at EmptyPath max_path (ended h.path ++ rest)) _ (h.path, rest) _ (text_again EmptyPath max_path h.path rest k.path)
    refl)

-- ---- entries

name_takes : (version : ℕ) (path : List ℕ) (kind : Kind) (bytes : List ℕ) (x : Item × List ℕ) → IsBytes bytes → name_at kind (room_in path) bytes ≡ Ok x
    → Takes (kind_byte kind ∷ bytes) (spell x.0) x.1 × allowed (Inside version path) x.0
name_takes version path kind bytes x small e =
    seq (text_at EmptyName (room_in path) bytes) _ _ _ e (λ (name : List ℕ × List ℕ) e1 k1.
    let t = text_takes EmptyName (room_in path) bytes name.0 name.1 small e1 in
    subst (λ (y : Item × List ℕ). Takes (kind_byte kind ∷ bytes) (spell y.0) y.1 × allowed (Inside version path) y.0)
    (ok_is (EntryItem kind name.0, name.1) x k1)
    (record { whole = ap (λ (r : List ℕ). kind_byte kind ∷ r) t.0.whole; small = t.0.small }, t.1))

listed_takes : (version : ℕ) (path : List ℕ) (n : ℕ) (bytes : List ℕ) (x : Item × List ℕ) → IsBytes bytes → listed_at (room_in path) n bytes ≡ Ok x
    → Takes (n ∷ bytes) (spell x.0) x.1 × allowed (Inside version path) x.0
listed_takes version path zero bytes x small e = name_takes version path File bytes x small e
listed_takes version path (suc zero) bytes x small e = name_takes version path Directory bytes x small e
listed_takes version path (suc (suc zero)) bytes x small e =
    subst (λ (y : Item × List ℕ). Takes (2 ∷ bytes) (spell y.0) y.1 × allowed (Inside version path) y.0)
    (ok_is (EndItem, bytes) x e)
    (record { whole = refl; small = small }, tt)
listed_takes version path (suc (suc (suc n))) bytes x small e = absurd cc

pub entry_takes : (version : ℕ) (path bytes : List ℕ) (x : Item × List ℕ) → IsBytes bytes → entry_at (room_in path) bytes ≡ Ok x → Takes bytes (spell x.0) x.1 × allowed (Inside version path) x.0
unfolding entry_at
entry_takes version path bytes x small e =
    seq (byte_at bytes) _ _ _ e (λ (kind : ℕ × List ℕ) e1 k1.
    let t1 = byte_takes bytes kind.0 kind.1 small e1 in
    let t2 = listed_takes version path kind.0 kind.1 x t1.0.small k1 in
    (record { whole = t1.0.whole ∙ t2.0.whole; small = t2.0.small }, t2.1))

entry_again : (room : ℕ) (kind : Kind) (name rest : List ℕ) → IsText room name → entry_at room (spell (EntryItem kind name) ++ rest) ≡ Ok (EntryItem kind name, rest)
unfolding entry_at
entry_again room File name rest h = then_ok (text_at EmptyName room (ended name ++ rest)) _ (name, rest) _ (text_again EmptyName room name rest h) refl
entry_again room Directory name rest h = then_ok (text_at EmptyName room (ended name ++ rest)) _ (name, rest) _ (text_again EmptyName room name rest h) refl

end_again : (room : ℕ) (rest : List ℕ) → entry_at room (spell EndItem ++ rest) ≡ Ok (EndItem, rest)
unfolding entry_at
end_again room rest = refl

-- ---- items

abbrev OfItem : State → List ℕ → Item → List ℕ → Type 0
OfItem s bytes i rest = allowed s i × (bytes ≡ spell i ++ rest) × IsBytes rest

item_takes : (s : State) (bytes : List ℕ) (i : Item) (rest : List ℕ) → IsBytes bytes → item_at s bytes ≡ Ok (i, rest) → OfItem s bytes i rest
item_takes AtStart bytes i rest small e =
    seq (header_at bytes) _ _ _ e (λ (h : Header × List ℕ) e1 k1.
    let t = header_takes bytes h small e1 in
    subst (λ (y : Item × List ℕ). OfItem AtStart bytes y.0 y.1) (ok_is (HeaderItem h.0, h.1) (i, rest) k1) (t.1, t.0.whole, t.0.small))
item_takes (Between version) bytes i rest small e =
    seq (head_at bytes) _ _ _ e (λ (h : Head × List ℕ) e1 k1.
    let t = head_takes bytes h small e1 in
    subst (λ (y : Item × List ℕ). OfItem (Between version) bytes y.0 y.1) (ok_is (HeadItem h.0, h.1) (i, rest) k1) (t.1, t.0.whole, t.0.small))
item_takes (Inside version path) bytes i rest small e =
    let t = entry_takes version path bytes (i, rest) small e in
    (t.1, t.0.whole, t.0.small)

item_again : (s : State) (i : Item) (rest : List ℕ) → allowed s i → item_at s (spell i ++ rest) ≡ Ok (i, rest)
item_again AtStart (HeaderItem h) rest k = then_ok (header_at (spell (HeaderItem h) ++ rest)) _ (h, rest) _ (header_again h rest k) refl
item_again AtStart (HeadItem h) rest k = absurd k
item_again AtStart (EntryItem kind name) rest k = absurd k
item_again AtStart EndItem rest k = absurd k
item_again (Between version) (HeaderItem h) rest k = absurd k
item_again (Between version) (HeadItem h) rest k = then_ok (head_at (spell (HeadItem h) ++ rest)) _ (h, rest) _ (head_again h rest k) refl
item_again (Between version) (EntryItem kind name) rest k = absurd k
item_again (Between version) EndItem rest k = absurd k
item_again (Inside version path) (HeaderItem h) rest k = absurd k
item_again (Inside version path) (HeadItem h) rest k = absurd k
item_again (Inside version path) (EntryItem kind name) rest k = entry_again (room_in path) kind name rest k
item_again (Inside version path) EndItem rest k = end_again (room_in path) rest

pub mlocate_laws : Laws mlocate
mlocate_laws = record {
  takes = λ last s bytes i rest small e. item_takes s bytes i rest small e;
  again = λ last s i rest k. item_again s i rest k;
}
