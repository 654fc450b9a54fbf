-- The fields of a line, one after another.
use Rattle.std.proofs.Common.{◌≡◌, ℕ, zero, suc, ◌+◌, ◌<◌, ◌≤◌, List, [], ◌∷◌, length, get_or, take, drop, refl, sym, ◌∙◌, ap, arith, subst, inl, inr, Some, Bool, true, not}
use Rattle.std.proofs.lemmas.Bool.{cases_lt, cases_Bool}
use Rattle.std.proofs.lemmas.List.{take_all, drop_all, length-take-le, drop_more}
use Rattle.std.proofs.lemmas.List.Splits.{slice_split_none, slice_split_first}
use Rattle.std.proofs.lemmas.List.Sums.{prefix_len-le-length, fails_before_first, passes_at_first}
use Rattle.mount_table.proofs.Positions.{position_some, position_or}
use Rattle.std.specs.Prelude.{unwrap_or}
use Rattle.std.specs.List.{position, position_or_len, filter}
use Rattle.mount_table.specs.Line.{is_not_empty, is_blank, fields}

-- a byte that is part of a field
abbrev pub is_part : ℕ → Bool
is_part byte = not (is_blank byte)

pub fields-nil : fields [] ≡ []
unfolding fields
fields-nil = refl

-- a blank that stands first
pub fields-blank : (x : ℕ) (line : List ℕ) → is_blank x ≡ true → fields (x ∷ line) ≡ fields line
unfolding fields
fields-blank x line e = rw e refl

-- blanks that stand first
pub fields-blanks : (line : List ℕ) (k : ℕ) → k ≤ position_or_len is_part line → fields line ≡ fields (drop k line)
fields-blanks line zero h = refl
fields-blanks [] (suc k) h = refl
fields-blanks (x ∷ line) (suc k) h = elim (cases_Bool (is_blank x)) [
  | inl e ↦ let h2 = rw e at h in fields-blank x line e ∙ fields-blanks line k (omega arith)
  | inr e ↦ let h2 = rw e at h in absurd (omega arith)
]

-- a line of blanks alone has no field
pub fields-none : (line : List ℕ) → position_or_len is_part line ≡ length line → fields line ≡ []
fields-none line e = fields-blanks line (length line) (omega (arith, e)) ∙ ap fields (drop_all (length line) line (omega arith)) ∙ fields-nil

-- a text that has a byte
filled : (text : List ℕ) → 0 < length text → is_not_empty text ≡ true
filled [] h = absurd (omega arith)
filled (x ∷ text) h = refl

-- the first field, where no blank stands first
pub fields-first : (line : List ℕ) → 0 < position_or_len is_blank line → fields line ≡ take (position_or_len is_blank line) line ∷ fields (drop (position_or_len is_blank line) line)
unfolding fields
fields-first line some =
    let most = prefix_len-le-length is_part line in
    let n = position_or_len is_blank line in
    elim (cases_lt n (length line)) [
      | inl within ↦
          let has : is_not_empty (take n line) ≡ true = filled (take n line) (omega (arith, length-take-le n line)) in
          let rest : fields (drop n line) ≡ fields (drop (n + 1) line) = ap fields (drop_more line n 0 within) ∙ fields-blank (get_or line n 0) (drop (n + 1) line) (passes_at_first is_blank line 0 within) in
          ap (filter is_not_empty) (slice_split_first is_blank line 0 within) ∙ rw has (ap (λ (l : List (List ℕ)). take n line ∷ l) (sym rest))
      | inr past ↦
          let all : take n line ≡ line = take_all n line past in
          let has : is_not_empty line ≡ true = filled line (omega arith) in
          ap (filter is_not_empty) (slice_split_none is_blank line (λ k d h. fails_before_first is_blank line k d (omega arith)))
          ∙ rw has (λ i. sym all i ∷ sym (ap fields (drop_all n line past) ∙ fields-nil) i)
    ]

-- no blank stands first where a part of a field does
starts : (x : ℕ) (text : List ℕ) → is_part x ≡ true → 0 < position_or_len is_blank (x ∷ text)
starts x text e = rw e (omega arith)

-- the first field and what follows it, cut off by place
pub fields-cut : (line : List ℕ) (start end : ℕ) (rest front back : List ℕ) → position is_part line ≡ Some start → rest ≡ drop start line → end ≡ unwrap_or (position is_blank rest) (length rest) → front ≡ take end rest → back ≡ drop end rest → fields line ≡ front ∷ fields back
fields-cut line start end rest front back at is_rest is_end is_front is_back =
    let place = position_some is_part line start at in
    let first : is_part (get_or line start 0) ≡ true = ap (λ (k : ℕ). is_part (get_or line k 0)) (sym place.0) ∙ passes_at_first is_part line 0 (omega (arith, place.0, place.1)) in
    let opened : drop start line ≡ get_or line start 0 ∷ drop (start + 1) line = drop_more line start 0 place.1 in
    let some : 0 < position_or_len is_blank rest = subst (λ (l : List ℕ). 0 < position_or_len is_blank l) (sym (is_rest ∙ opened)) (starts (get_or line start 0) (drop (start + 1) line) first) in
    let ends : end ≡ position_or_len is_blank rest = is_end ∙ position_or is_blank rest in
    fields-blanks line start (omega (arith, place.0)) ∙ ap fields (sym is_rest) ∙ fields-first rest some ∙ (λ i. (ap (λ (n : ℕ). take n rest) (sym ends) ∙ sym is_front) i ∷ fields ((ap (λ (n : ℕ). drop n rest) (sym ends) ∙ sym is_back) i))
