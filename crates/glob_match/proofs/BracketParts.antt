-- Reading the parts of a bracket expression one after another.
use Rattle.std.proofs.Common.{◌≡◌, ℕ, zero, suc, ◌+◌, ◌-◌, ◌<◌, Bool, true, false, cond, ◌||◌, List, [], ◌∷◌, length, take, drop, get_or, Option, Some, None, option_map, IsSomeAnd, refl, sym, ap, ◌∙◌, arith, add-one, length-drop}
use Rattle.std.proofs.Math.Seq.{drop-cons, take_all}
use Rattle.std.proofs.lemmas.List.{drop-drop}
use Rattle.std.proofs.lemmas.Bool.{ne_eqb}
use Rattle.byte_class.specs.declared.byte_set.ByteSet.{ByteSet}
use Rattle.byte_class.specs.ByteSet.{has, members, in_set}
use Rattle.byte_class.specs.Part.{Part, has_part, has_parts}
use Rattle.glob_match.specs.Bracket.{part_at, after_part, parts, parts_first, is_complement, bracket}
use Rattle.glob_match.specs.Item.{Item, OneOf}
use Rattle.byte_class.proofs.Members.{members_agree, in_set_agree}

-- what a slice from a place on holds
pub rest_is : (text : List ℕ) (at : ℕ) → take (length text - at) (drop at text) ≡ drop at text
rest_is text at = take_all (length text - at) (drop at text) (omega (arith, length-drop at text))

or_assoc : (a b c : Bool) → ((a || b) || c) ≡ (a || (b || c))
or_assoc true b c = refl
or_assoc false b c = refl

-- passing over bytes is dropping them
pub parts-skip : (skip : ℕ) (text : List ℕ) → parts skip text ≡ parts 0 (drop skip text)
unfolding parts
parts-skip zero text = refl
parts-skip (suc skip) [] = refl
parts-skip (suc skip) (x ∷ text) = parts-skip skip text

pub parts-nil : parts 0 [] ≡ None
unfolding parts
parts-nil = refl

-- the parts from a place of the text on
module _ (text : List ℕ) (at : ℕ) where
  pub parts-closed : at < length text → get_or text at 0 ≡ 93 → parts 0 (drop at text) ≡ Some ([], drop (at + 1) text)
  unfolding parts
  parts-closed within closes = rw (drop-cons text at 0 within, closes, add-one) refl

  pub parts-more : (n : ℕ) → at < length text → (get_or text at 0 ≡ 93 → ⊥) → n ≡ (part_at (drop at text)).1 → 0 < n → parts 0 (drop at text) ≡ after_part (part_at (drop at text)).0 (parts 0 (drop (at + n) text))
  unfolding parts
  parts-more n within open_still is some =
      let e : drop at text ≡ get_or text at 0 ∷ drop (suc at) text = drop-cons text at 0 within in
      let f : drop (n - 1) (drop (suc at) text) ≡ drop (at + n) text = drop-drop (n - 1) (suc at) text ∙ ap (λ k. drop k text) (omega arith) in
      let g : parts 0 (get_or text at 0 ∷ drop (suc at) text) ≡ after_part (part_at (get_or text at 0 ∷ drop (suc at) text)).0 (parts ((part_at (get_or text at 0 ∷ drop (suc at) text)).1 - 1) (drop (suc at) text)) = rw (ne_eqb (get_or text at 0) 93 open_still) refl in
      let h : parts (n - 1) (drop (suc at) text) ≡ parts 0 (drop (at + n) text) = parts-skip (n - 1) (drop (suc at) text) ∙ ap (parts 0) f in
      let k : after_part (part_at (drop at text)).0 (parts ((part_at (drop at text)).1 - 1) (drop (suc at) text)) ≡ after_part (part_at (drop at text)).0 (parts 0 (drop (at + n) text)) = rw (← is) (ap (after_part (part_at (drop at text)).0) h) in
      ap (parts 0) e ∙ g ∙ (rw (← e) refl) ∙ k

pub parts_first-more : (text : List ℕ) (n : ℕ) → 0 < length text → n ≡ (part_at text).1 → 0 < n → parts_first text ≡ after_part (part_at text).0 (parts 0 (drop n text))
unfolding parts_first
parts_first-more [] n some is more = absurd (omega arith)
parts_first-more (x ∷ text) zero some is more = absurd (omega arith)
parts_first-more (x ∷ text) (suc n) some is more =
    ap (λ k. after_part (part_at (x ∷ text)).0 (parts (k - 1) text)) (sym is)
    ∙ ap (after_part (part_at (x ∷ text)).0) (ap (λ k. parts k text) (omega arith) ∙ parts-skip n text)

-- the parts read so far, which make the set, and those still to come are the parts of the whole
abbrev pub Joins : ByteSet → Option (List Part × List ℕ) → Option (List Part × List ℕ) → Type 0
Joins set None whole = whole ≡ None
Joins set (Some rest) whole = IsSomeAnd whole (λ p. (p.1 ≡ rest.1) × ((byte : ℕ) → byte < 256 → has_parts p.0 byte ≡ (has set byte || has_parts rest.0 byte)))

pub Joins-first : (set empty : ByteSet) (part : Part) (rest : Option (List Part × List ℕ)) → ((byte : ℕ) → byte < 256 → has empty byte ≡ false) → ((byte : ℕ) → byte < 256 → has set byte ≡ (has empty byte || has_part part byte)) → Joins set rest (after_part part rest)
unfolding has_parts
Joins-first set empty part None none first = refl
Joins-first set empty part (Some rest) none first = (refl, λ byte fits. each byte fits) where
  each : (byte : ℕ) → byte < 256 → has_parts (part ∷ rest.0) byte ≡ (has set byte || has_parts rest.0 byte)
  each byte fits = rw (first byte fits, none byte fits) refl

pub Joins-more : (set more : ByteSet) (part : Part) (rest whole : Option (List Part × List ℕ)) → Joins set (after_part part rest) whole → ((byte : ℕ) → byte < 256 → has more byte ≡ (has set byte || has_part part byte)) → Joins more rest whole
unfolding has_parts
Joins-more set more part None whole h next = h
Joins-more set more part (Some rest) None h next = h
Joins-more set more part (Some rest) (Some p) h next = (h.0, λ byte fits. each byte fits) where
  each : (byte : ℕ) → byte < 256 → has_parts p.0 byte ≡ (has more byte || has_parts rest.0 byte)
  each byte fits = h.1 byte fits ∙ sym (or_assoc (has set byte) (has_part part byte) (has_parts rest.0 byte)) ∙ ap (λ b. b || has_parts rest.0 byte) (sym (next byte fits))

or_none : (b : Bool) → (b || false) ≡ b
or_none true = refl
or_none false = refl

pub Joins-closed : (set : ByteSet) (rest : List ℕ) (whole : Option (List Part × List ℕ)) → Joins set (Some ([], rest)) whole → IsSomeAnd whole (λ p. (p.1 ≡ rest) × ((byte : ℕ) → byte < 256 → has_parts p.0 byte ≡ has set byte))
unfolding has_parts
Joins-closed set rest None h = h
Joins-closed set rest (Some p) h = (h.0, λ byte fits. each byte fits) where
  each : (byte : ℕ) → byte < 256 → has_parts p.0 byte ≡ has set byte
  each byte fits = h.1 byte fits ∙ or_none (has set byte)

marked : (complement : Bool) (text : List ℕ) (mark : ℕ) → mark ≡ cond complement 1 0 → cond complement (drop 1 text) text ≡ drop mark text
marked true text mark e = ap (λ n. drop n text) (sym e)
marked false text mark e = ap (λ n. drop n text) (sym e)

pub bracket-none : (fold : Bool) (text : List ℕ) (mark : ℕ) → mark ≡ cond (is_complement text) 1 0 → parts_first (drop mark text) ≡ None → bracket fold text ≡ None
unfolding bracket
bracket-none fold text mark e h = rw (marked (is_complement text) text mark e, h) refl

made : (fold complement : Bool) (read : Option (List Part × List ℕ)) (set closed : ByteSet) (rest : List ℕ) → IsSomeAnd read (λ p. (p.1 ≡ rest) × ((byte : ℕ) → byte < 256 → has_parts p.0 byte ≡ has set byte)) → ((byte : ℕ) → byte < 256 → has closed byte ≡ in_set fold complement (has set) byte) → option_map {T = List Part × List ℕ} {U = Item × List ℕ} (λ r. (OneOf (members (in_set fold complement (has_parts r.0))), r.1)) read ≡ Some (OneOf (members (has closed)), rest)
made fold complement None set closed rest h says = absurd h
made fold complement (Some p) set closed rest h says =
    let same : members (in_set fold complement (has_parts p.0)) ≡ members (has closed) = members_agree (in_set fold complement (has_parts p.0)) (has closed) (λ byte fits. in_set_agree fold complement (has_parts p.0) (has set) h.1 byte fits ∙ sym (says byte fits)) in
    rw (same, h.0) refl

pub bracket-some : (fold : Bool) (text : List ℕ) (mark taken : ℕ) (set closed : ByteSet) → mark ≡ cond (is_complement text) 1 0 → IsSomeAnd (parts_first (drop mark text)) (λ p. (p.1 ≡ drop taken (drop mark text)) × ((byte : ℕ) → byte < 256 → has_parts p.0 byte ≡ has set byte)) → ((byte : ℕ) → byte < 256 → has closed byte ≡ in_set fold (is_complement text) (has set) byte) → bracket fold text ≡ Some (OneOf (members (has closed)), drop (mark + taken) text)
unfolding bracket
bracket-some fold text mark taken set closed e h says = rw (marked (is_complement text) text mark e, ← drop-drop taken mark text) (made fold (is_complement text) (parts_first (drop mark text)) set closed (drop taken (drop mark text)) h says)

pub parts_first-none : (text : List ℕ) → length text ≡ 0 → parts_first text ≡ None
unfolding parts_first
parts_first-none [] e = refl
parts_first-none (x ∷ text) e = absurd (omega arith)
