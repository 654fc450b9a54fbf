-- Reading the members of a bracket expression one after another.
use Rattle.std.proofs.Common.{◌≡◌, ℕ, zero, suc, ◌+◌, ◌-◌, ◌<◌, ◌≤◌, ◌||◌, Bool, true, false, IsOkAnd, List, [], ◌∷◌, length, take, drop, get_or, Ok, Err, Result, refl, sym, ap, ◌∙◌, arith, length-drop}
use Rattle.std.proofs.Math.Seq.{drop-cons, take_all}
use Rattle.std.proofs.Math.ListN.{drop_of_length-le}
use Rattle.std.proofs.lemmas.List.{drop-drop}
use Rattle.std.proofs.lemmas.Bool.{ne_eqb}
use Rattle.byte_class.specs.declared.byte_set.ByteSet.{ByteSet}
use Rattle.byte_class.specs.ByteSet.{has, members, in_set}
use Rattle.byte_class.specs.Part.{Part, has_part, has_parts}
use Rattle.byte_class.proofs.Members.{members_agree, in_set_agree}
use Rattle.posix_regex.specs.declared.fault.RegexCause.{RegexCause}
use Rattle.posix_regex.specs.declared.fault.RegexCause.TheVariants.{BadBracket}
use Rattle.posix_regex.specs.Bracket.{on_ok, member_at, members_from, members_first, members_marked, is_complement, bracket}
use Rattle.posix_regex.specs.Expression.{Expression, OneOf}

-- what a slice from a place on holds
pub rest_is : (text : List ℕ) (at : ℕ) → take (length text - at) (drop at text) ≡ drop at text
rest_is text at = take_all (length text - at) (drop at text) (omega (arith, length-drop at text))

-- passing over bytes is dropping them
pub members_from-skip : (earlier : List Part) (place skip : ℕ) (text : List ℕ) → members_from earlier place skip text ≡ members_from earlier (place + skip) 0 (drop skip text)
unfolding members_from
members_from-skip earlier place zero [] = refl
members_from-skip earlier place zero (x ∷ text) = ap (λ p. members_from earlier p 0 (x ∷ text)) (omega arith)
members_from-skip earlier place (suc skip) [] = refl
members_from-skip earlier place (suc skip) (x ∷ text) = members_from-skip earlier (place + 1) skip text ∙ ap (λ p. members_from earlier p 0 (drop skip text)) (omega arith)

pub members_from-nil : (earlier : List Part) (place at : ℕ) (text : List ℕ) → length text ≤ at → members_from earlier place 0 (drop at text) ≡ Err (0, BadBracket)
unfolding members_from
members_from-nil earlier place at text past = rw (drop_of_length-le text past) refl

module _ (earlier : List Part) (place at : ℕ) (text : List ℕ) where
  pub members_from-closed : at < length text → get_or text at 0 ≡ 93 → members_from earlier place 0 (drop at text) ≡ Ok (earlier, place + 1)
  unfolding members_from
  members_from-closed within closes = rw (drop-cons text at 0 within, closes) refl

  step : at < length text → (get_or text at 0 ≡ 93 → ⊥) → members_from earlier place 0 (drop at text) ≡ on_ok (member_at place (drop at text)) (λ m. members_from (m.0 ∷ earlier) (place + 1) (m.1 - 1) (drop (suc at) text))
  unfolding members_from
  step within open_still = rw (drop-cons text at 0 within, ne_eqb (get_or text at 0) 93 open_still) refl

  pub members_from-member : (part : Part) (n : ℕ) → at < length text → (get_or text at 0 ≡ 93 → ⊥) → member_at place (drop at text) ≡ Ok (part, n) → 0 < n → members_from earlier place 0 (drop at text) ≡ members_from (part ∷ earlier) (place + n) 0 (drop (at + n) text)
  members_from-member part n within open_still is some =
      step within open_still
      ∙ ap (λ r. on_ok r (λ m. members_from (m.0 ∷ earlier) (place + 1) (m.1 - 1) (drop (suc at) text))) is
      ∙ members_from-skip (part ∷ earlier) (place + 1) (n - 1) (drop (suc at) text)
      ∙ ap (λ p. members_from (part ∷ earlier) p 0 (drop (n - 1) (drop (suc at) text))) (omega arith)
      ∙ ap (members_from (part ∷ earlier) (place + n) 0) (drop-drop (n - 1) (suc at) text ∙ ap (λ k. drop k text) (omega arith))

  pub members_from-fault : (fault : ℕ × RegexCause) → at < length text → (get_or text at 0 ≡ 93 → ⊥) → member_at place (drop at text) ≡ Err fault → members_from earlier place 0 (drop at text) ≡ Err fault
  members_from-fault fault within open_still is =
      step within open_still
      ∙ ap (λ r. on_ok r (λ m. members_from (m.0 ∷ earlier) (place + 1) (m.1 - 1) (drop (suc at) text))) is

pub members_first-member : (place n : ℕ) (part : Part) (text : List ℕ) → 0 < length text → member_at place text ≡ Ok (part, n) → 0 < n → members_first place text ≡ members_from (part ∷ []) (place + n) 0 (drop n text)
unfolding members_first
members_first-member place n part [] some is more = absurd (omega arith)
members_first-member place zero part (x ∷ text) some is more = absurd (omega arith)
members_first-member place (suc n) part (x ∷ text) some is more =
    ap (λ r. on_ok r (λ m. members_from (m.0 ∷ []) (place + 1) (m.1 - 1) text)) is
    ∙ ap (λ k. members_from (part ∷ []) (place + 1) k text) (omega arith)
    ∙ members_from-skip (part ∷ []) (place + 1) n text
    ∙ ap (λ p. members_from (part ∷ []) p 0 (drop n text)) (omega arith)

pub members_first-fault : (place : ℕ) (fault : ℕ × RegexCause) (text : List ℕ) → 0 < length text → member_at place text ≡ Err fault → members_first place text ≡ Err fault
unfolding members_first
members_first-fault place fault [] some is = absurd (omega arith)
members_first-fault place fault (x ∷ text) some is = ap (λ r. on_ok r (λ m. members_from (m.0 ∷ []) (place + 1) (m.1 - 1) text)) is

pub members_first-nil : (place : ℕ) (text : List ℕ) → length text ≡ 0 → members_first place text ≡ Err (0, BadBracket)
unfolding members_first
members_first-nil place [] none = refl
members_first-nil place (x ∷ text) none = absurd (omega arith)

-- a set has the bytes of some parts
abbrev pub Holds : ByteSet → List Part → Type 0
Holds set parts = (byte : ℕ) → byte < 256 → has_parts parts byte ≡ has set byte

-- a member was read, which takes so many bytes and was added to a set
abbrev pub IsAdded : ByteSet → ByteSet → ℕ → Result (Part × ℕ) (ℕ × RegexCause) → Type 0
IsAdded set more n read = IsOkAnd read (λ m. (m.1 ≡ n) × ((byte : ℕ) → byte < 256 → has more byte ≡ (has set byte || has_part m.0 byte)))

or_turned : (a b c : Bool) → a ≡ (b || c) → (c || b) ≡ a
or_turned a true true e = sym e
or_turned a true false e = sym e
or_turned a false true e = sym e
or_turned a false false e = sym e

holds_more : (set more : ByteSet) (parts : List Part) (part : Part) → Holds set parts → ((byte : ℕ) → byte < 256 → has more byte ≡ (has set byte || has_part part byte)) → Holds more (part ∷ parts)
unfolding has_parts
holds_more set more parts part h added byte fits = ap (λ b. has_part part byte || b) (h byte fits) ∙ or_turned (has more byte) (has set byte) (has_part part byte) (added byte fits)

holds_none : (empty : ByteSet) → ((byte : ℕ) → byte < 256 → has empty byte ≡ false) → Holds empty []
unfolding has_parts
holds_none empty h byte fits = sym (h byte fits)

-- the members so far, which a set holds, and those still to come are the whole
abbrev pub Reads : ByteSet → ℕ → List ℕ → Result (List Part × ℕ) (ℕ × RegexCause) → Type 0
Reads set place text whole = (parts : List Part) × Holds set parts × (members_from parts place 0 text ≡ whole)

pub Reads-first : (empty set : ByteSet) (place n : ℕ) (text : List ℕ) → 0 < length text → ((byte : ℕ) → byte < 256 → has empty byte ≡ false) → IsAdded empty set n (member_at place text) → 0 < n → Reads set (place + n) (drop n text) (members_first place text)
Reads-first empty set place n text some none added more = at (member_at place text) refl added where
  at : (read : Result (Part × ℕ) (ℕ × RegexCause)) → member_at place text ≡ read → IsAdded empty set n read → Reads set (place + n) (drop n text) (members_first place text)
  at (Ok m) e h = (m.0 ∷ [], holds_more empty set [] m.0 (holds_none empty none) h.1, sym (members_first-member place n m.0 text some (e ∙ ap (λ k. Ok (m.0, k)) h.0) more))
  at (Err f) e h = absurd h

pub Reads-more : (set more : ByteSet) (place at n : ℕ) (text : List ℕ) (whole : Result (List Part × ℕ) (ℕ × RegexCause)) → at < length text → (get_or text at 0 ≡ 93 → ⊥) → IsAdded set more n (member_at place (drop at text)) → 0 < n → Reads set place (drop at text) whole → Reads more (place + n) (drop (at + n) text) whole
Reads-more set more place at n text whole within open_still added some reads = go (member_at place (drop at text)) refl added where
  go : (read : Result (Part × ℕ) (ℕ × RegexCause)) → member_at place (drop at text) ≡ read → IsAdded set more n read → Reads more (place + n) (drop (at + n) text) whole
  go (Ok m) e h = (m.0 ∷ reads.0, holds_more set more reads.0 m.0 reads.1 h.1, sym (members_from-member reads.0 place at text m.0 n within open_still (e ∙ ap (λ k. Ok (m.0, k)) h.0) some) ∙ reads.2)
  go (Err f) e h = absurd h

pub Reads-closed : (set : ByteSet) (place at : ℕ) (text : List ℕ) (whole : Result (List Part × ℕ) (ℕ × RegexCause)) → at < length text → get_or text at 0 ≡ 93 → Reads set place (drop at text) whole → IsOkAnd whole (λ m. (m.1 ≡ place + 1) × Holds set m.0)
Reads-closed set place at text whole within closes reads = rw (← reads.2, members_from-closed reads.0 place at text within closes) (refl, reads.1)

pub Reads-fault : (set : ByteSet) (place at : ℕ) (text : List ℕ) (whole : Result (List Part × ℕ) (ℕ × RegexCause)) (fault : ℕ × RegexCause) → at < length text → (get_or text at 0 ≡ 93 → ⊥) → member_at place (drop at text) ≡ Err fault → Reads set place (drop at text) whole → whole ≡ Err fault
Reads-fault set place at text whole fault within open_still is reads = sym reads.2 ∙ members_from-fault reads.0 place at text fault within open_still is

pub Reads-nil : (set : ByteSet) (place at : ℕ) (text : List ℕ) (whole : Result (List Part × ℕ) (ℕ × RegexCause)) → length text ≤ at → Reads set place (drop at text) whole → whole ≡ Err (0, BadBracket)
Reads-nil set place at text whole past reads = sym reads.2 ∙ members_from-nil reads.0 place at text past

abbrev made_of : Bool → Bool → List Part × ℕ → Result (Expression × ℕ) (ℕ × RegexCause)
made_of fold complement m = Ok (OneOf (members (in_set fold complement (has_parts m.0))), m.1)

-- the whole bracket expression from its members
pub bracket-some : (fold : Bool) (text : List ℕ) (set closed : ByteSet) (taken : ℕ) → IsOkAnd (members_marked text) (λ m. (m.1 ≡ taken) × Holds set m.0) → ((byte : ℕ) → byte < 256 → has closed byte ≡ in_set fold (is_complement text) (has set) byte) → bracket fold text ≡ Ok (OneOf (members (has closed)), taken)
unfolding bracket
bracket-some fold text set closed taken h says = go (members_marked text) h where
  go : (read : Result (List Part × ℕ) (ℕ × RegexCause)) → IsOkAnd read (λ m. (m.1 ≡ taken) × Holds set m.0) → on_ok read (made_of fold (is_complement text)) ≡ Ok (OneOf (members (has closed)), taken)
  go (Ok m) h =
      let same : members (in_set fold (is_complement text) (has_parts m.0)) ≡ members (has closed) = members_agree (in_set fold (is_complement text) (has_parts m.0)) (has closed) (λ byte fits. in_set_agree fold (is_complement text) (has_parts m.0) (has set) h.1 byte fits ∙ sym (says byte fits)) in
      rw (same, h.0) refl
  go (Err f) h = absurd h

pub bracket-fault : (fold : Bool) (text : List ℕ) (fault : ℕ × RegexCause) → members_marked text ≡ Err fault → bracket fold text ≡ Err fault
unfolding bracket
bracket-fault fold text fault e = ap (λ r. on_ok r (made_of fold (is_complement text))) e
