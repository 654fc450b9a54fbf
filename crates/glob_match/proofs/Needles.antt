-- Bytes that stand in a text, in one case or in either, and the items that match such texts.
use Rattle.std.proofs.Common.{◌≡◌, ℕ, suc, ◌+◌, ◌-◌, ◌<◌, ◌≤◌, ◌⊎◌, Bool, true, false, ◌==◌, List, [], ◌∷◌, ◌++◌, length, take, drop, map, get_or, max, Option, None, Some, IsTrue, inl, inr, ⊎_elim, refl, sym, ap, subst, ◌∙◌, arith, below_more, length-take, length-drop, take-append-drop, append-nil}
use Rattle.std.specs.Char.{to_ascii_lowercase, to_ascii_uppercase}
use Rattle.std.specs.Str.{bytes_eq}
use Rattle.std.proofs.lemmas.Bool.{cases_lt, eqb-true, eq-eqb, or_cases, or_left, or_right}
use Rattle.std.proofs.lemmas.List.{length-map, drop-drop, get_or-drop, get_or-take, take-take, take_rest, drop-take}
use Rattle.std.proofs.lemmas.Slice.Eq.{bytes_eq-Decides}
use Rattle.std.proofs.lemmas.Str.Ascii.{lowercase_is, uppercase_is, lowercase-lowercase, lowercase-uppercase}
use Rattle.std.proofs.Math.ListN.{get_or-map}
use Rattle.std.proofs.Math.Seq.{drop-append_seam}
use Rattle.memchr.specs.Find.{Passes, Nowhere, IsFirstByte, is_byte, is_byte2}
use Rattle.memchr.proofs.lemmas.MatchLemmas.{OccursAt-part, OccursAt-from_part}
use Rattle.byte_class.specs.ByteSet.{folded}
use Rattle.byte_class.proofs.Members.{members_pass, members_with}
use Rattle.glob_match.specs.Needle.{Stands, Occurs, Looks, plain_wanted}
use Rattle.glob_match.specs.Item.{Star}
use Rattle.glob_match.specs.Language.{Matches}
use Rattle.glob_match.specs.Pattern.{Wanted, literal, InGlob}

-- a capital letter is had by itself and by its small letter
capital : (a b : ℕ) → 65 ≤ b → b < 91 → to_ascii_lowercase a ≡ to_ascii_lowercase b → to_ascii_uppercase a ≡ b
capital a b from under same =
    let b_is = (lowercase_is b).0 (from, omega arith) in
    ⊎_elim
    (λ l. absurd (omega (arith, same, b_is, (lowercase_is a).1 l)))
    (λ l. ⊎_elim
    (λ m. (uppercase_is a).1 (omega arith) ∙ omega (arith, same, b_is, (lowercase_is a).0 (l, omega arith)))
    (λ m.
    let a_is = (lowercase_is a).2 (omega arith) in
    omega (arith, same, b_is, a_is, (uppercase_is a).0 (omega (arith, same, b_is, a_is), omega (arith, same, b_is, a_is))))
    (cases_lt a 91))
    (cases_lt a 65)

-- a byte that is another but for case is that in one of its cases
either_case : (a b : ℕ) → to_ascii_lowercase a ≡ to_ascii_lowercase b → (to_ascii_lowercase a ≡ b) ⊎ (to_ascii_uppercase a ≡ b)
either_case a b same = ⊎_elim
    (λ l. inl (same ∙ (lowercase_is b).1 l))
    (λ l. ⊎_elim
    (λ m. inr (capital a b l m same))
    (λ m. inl (same ∙ (lowercase_is b).2 (omega arith)))
    (cases_lt b 91))
    (cases_lt b 65)

pub folded_from : (a b : ℕ) → to_ascii_lowercase a ≡ to_ascii_lowercase b → folded true (λ x. x == b) a ≡ true
unfolding folded
folded_from a b same = ⊎_elim (λ e. or_left _ _ (eq-eqb _ _ e)) (λ e. or_right _ _ (eq-eqb _ _ e)) (either_case a b same)

pub folded_is : (a b : ℕ) → folded true (λ x. x == b) a ≡ true → to_ascii_lowercase a ≡ to_ascii_lowercase b
unfolding folded
folded_is a b h = ⊎_elim
    (λ e. sym (lowercase-lowercase a) ∙ ap to_ascii_lowercase (eqb-true _ _ e))
    (λ e. sym (lowercase-uppercase a) ∙ ap to_ascii_lowercase (eqb-true _ _ e))
    (or_cases (to_ascii_lowercase a == b) (to_ascii_uppercase a == b) h)

-- the items of the bytes and a star match what begins with the bytes
stands_first : (bytes text : List ℕ) → Matches (map (literal true) bytes ++ Star ∷ []) text → map to_ascii_lowercase (take (length bytes) text) ≡ map to_ascii_lowercase bytes
unfolding literal
stands_first [] text h = refl
stands_first (b ∷ bytes) [] h = absurd h
stands_first (b ∷ bytes) (t ∷ text) h =
    let head = folded_is t b (members_pass (folded true (λ x. x == b)) t h.0) in
    let rest = stands_first bytes text h.1 in
    cc

matches_first : (bytes text : List ℕ) → ((k : ℕ) → k < length bytes → get_or text k 0 < 256) → map to_ascii_lowercase (take (length bytes) text) ≡ map to_ascii_lowercase bytes → Matches (map (literal true) bytes ++ Star ∷ []) text
unfolding literal
matches_first [] text fits h = (text, [], sym (append-nil text), refl)
matches_first (b ∷ bytes) [] fits h = cc
matches_first (b ∷ bytes) (t ∷ text) fits h =
    let head : to_ascii_lowercase t ≡ to_ascii_lowercase b = cc in
    let rest : map to_ascii_lowercase (take (length bytes) text) ≡ map to_ascii_lowercase bytes = cc in
    (members_with (folded true (λ x. x == b)) t (fits 0 (omega arith)) (folded_from t b head), matches_first bytes text (λ k l. fits (suc k) (omega arith)) rest)

-- what has the bytes at a place is one that the pattern stands for; between stars their items match it
pub InGlob-stands : (fold : Bool) (bytes text : List ℕ) (place : ℕ) → ((k : ℕ) → k < place + length bytes → get_or text k 0 < 256) → Stands fold bytes text place → InGlob (plain_wanted fold bytes) text
InGlob-stands false bytes text place fits h = (place, h)
InGlob-stands true bytes text place fits h = (
  take place text,
  drop place text,
  sym (take-append-drop place text),
  matches_first bytes (drop place text) (λ k l. subst (λ x. x < 256) (sym (get_or-drop place text k 0)) (fits (place + k) (omega arith))) h,
)

pub stands-InGlob : (fold : Bool) (bytes text : List ℕ) → InGlob (plain_wanted fold bytes) text → Occurs fold bytes text
stands-InGlob false bytes text m = m
stands-InGlob true bytes text m =
    let rest : drop (length m.0) text ≡ m.1 = ap (drop (length m.0)) m.2 ∙ drop-append_seam m.0 m.1 in
    (length m.0, subst (λ l. map to_ascii_lowercase (take (length bytes) l) ≡ map to_ascii_lowercase bytes) (sym rest) (stands_first bytes m.1 m.3))

-- what a search for the bytes answers
pub InGlob-occurs : (wanted : Wanted) (fold : Bool) (bytes text : List ℕ) (found : Bool) → plain_wanted fold bytes ≡ wanted → ((k : ℕ) → get_or text k 0 < 256)
    → (IsTrue found → Occurs fold bytes text) × (Occurs fold bytes text → IsTrue found) → (IsTrue found → InGlob wanted text) × (InGlob wanted text → IsTrue found)
InGlob-occurs wanted fold bytes text found is fits says =
    subst (λ w. (IsTrue found → InGlob w text) × (InGlob w text → IsTrue found)) is (
      λ e. InGlob-stands fold bytes text (says.0 e).0 (λ k l. fits k) (says.0 e).1,
      λ m. says.1 (stands-InGlob fold bytes text m),
    )

-- the bytes fit where they stand
pub stands-fits : (fold : Bool) (bytes text : List ℕ) (place : ℕ) → 0 < length bytes → Stands fold bytes text place → place + length bytes ≤ length text
stands-fits false bytes text place some h = h.fits
stands-fits true bytes text place some h =
    let len : length (take (length bytes) (drop place text)) ≡ length bytes = sym (length-map (take (length bytes) (drop place text)) to_ascii_lowercase) ∙ ap length h ∙ length-map bytes to_ascii_lowercase in
    omega (arith, len, length-take (length bytes) (drop place text), length-drop place text)

-- they stand in what a text has from a place on where they stand in the text
pub stands-drop : (fold : Bool) (bytes text : List ℕ) (from place : ℕ) → Stands fold bytes text (from + place) → Stands fold bytes (drop from text) place
stands-drop true bytes text from place h = ap (λ (l : List ℕ). map to_ascii_lowercase (take (length bytes) l)) (drop-drop place from text) ∙ h
stands-drop false bytes text from place h = record {
  fits = omega (arith, h.fits, length-drop from text);
  reads = λ j l. get_or-drop from text (place + j) 0 ∙ ap (λ (k : ℕ). get_or text k 0) {x = from + (place + j)} {y = from + place + j} (omega arith) ∙ h.reads j l;
}

pub stands-undrop : (fold : Bool) (bytes text : List ℕ) (from place : ℕ) → from ≤ length text → Stands fold bytes (drop from text) place → Stands fold bytes text (from + place)
stands-undrop true bytes text from place within h = ap (λ (l : List ℕ). map to_ascii_lowercase (take (length bytes) l)) (sym (drop-drop place from text)) ∙ h
stands-undrop false bytes text from place within h = record {
  fits = omega (arith, h.fits, within, length-drop from text);
  reads = λ j l. ap (λ (k : ℕ). get_or text k 0) {x = from + place + j} {y = from + (place + j)} (omega arith) ∙ sym (get_or-drop from text (place + j) 0) ∙ h.reads j l;
}

-- they stand in each text that is the same up to their end
part-alike : (len place : ℕ) (text other : List ℕ) → take (place + len) other ≡ take (place + len) text → take len (drop place other) ≡ take len (drop place text)
part-alike len place text other same = sym (drop-take place len other) ∙ ap (drop place) same ∙ drop-take place len text

pub stands-alike : (fold : Bool) (bytes text other : List ℕ) (place : ℕ) → take (place + length bytes) other ≡ take (place + length bytes) text → Stands fold bytes text place → Stands fold bytes other place
stands-alike true bytes text other place same h =
    ap (map to_ascii_lowercase) (part-alike (length bytes) place text other same) ∙ h
stands-alike false bytes text other place same h =
    let fits = h.fits in
    let long : length (take (place + length bytes) other) ≡ length (take (place + length bytes) text) = ap length same in
    OccursAt-from_part other bytes place
    (omega (arith, long, length-take (place + length bytes) other, length-take (place + length bytes) text))
    (part-alike (length bytes) place text other same ∙ OccursAt-part text bytes place h)

-- they stand in a text where they stand in a first part of it
pub stands-front : (fold : Bool) (bytes text : List ℕ) (n place : ℕ) → 0 < length bytes → Stands fold bytes (take n text) place → (place + length bytes ≤ n) × Stands fold bytes text place
stands-front fold bytes text n place some h =
    let fits = stands-fits fold bytes (take n text) place some h in
    let within : place + length bytes ≤ n = omega (arith, fits, length-take n text) in
    (within, stands-alike fold bytes (take n text) text place (sym (take-take (place + length bytes) n text within)) h)

-- where they stand, each byte is in its place, in one of its cases
pub looks-folded : (bytes : List ℕ) (rare small big : ℕ) → rare < length bytes → small ≡ to_ascii_lowercase (get_or bytes rare 0) → big ≡ to_ascii_uppercase (get_or bytes rare 0) → Looks true bytes rare small big
looks-folded bytes rare small big within small_is big_is = record {
  within = within;
  either = λ text place h.
      let reads : to_ascii_lowercase (get_or (take (length bytes) (drop place text)) rare 0) ≡ to_ascii_lowercase (get_or bytes rare 0) =
      sym (get_or-map to_ascii_lowercase (take (length bytes) (drop place text)) rare 0) ∙ ap (λ l. get_or l rare 0) h ∙ get_or-map to_ascii_lowercase bytes rare 0 in
      let at_place : get_or (take (length bytes) (drop place text)) rare 0 ≡ get_or text (place + rare) 0 =
      get_or-take (length bytes) (drop place text) rare 0 within ∙ get_or-drop place text rare 0 in
      let same : to_ascii_lowercase (get_or bytes rare 0) ≡ to_ascii_lowercase (get_or text (place + rare) 0) = sym reads ∙ ap to_ascii_lowercase at_place in
      ⊎_elim
      (λ e. or_left _ _ (eq-eqb _ _ (sym (small_is ∙ e))))
      (λ e. or_right _ _ (eq-eqb _ _ (sym (big_is ∙ e))))
      (either_case (get_or bytes rare 0) (get_or text (place + rare) 0) same);
}

pub looks-exact : (bytes : List ℕ) (rare small big : ℕ) → rare < length bytes → small ≡ get_or bytes rare 0 → Looks false bytes rare small big
looks-exact bytes rare small big within small_is = record {
  within = within;
  either = λ text place h. or_left _ _ (eq-eqb _ _ (h.reads rare within ∙ sym small_is));
}

either_is : (small big x : ℕ) → small ≡ big → is_byte2 small big x ≡ true → is_byte small x ≡ true
either_is small big x same e = ⊎_elim (λ l. l) (λ r. eq-eqb _ _ (eqb-true _ _ r ∙ sym same)) (or_cases (x == small) (x == big) e)

pub looks : (fold : Bool) (bytes : List ℕ) (rare : ℕ) (pair : ℕ × ℕ) → rare < length bytes
    → (rare < length bytes → fold ≡ true → pair ≡ (to_ascii_lowercase (get_or bytes rare 0), to_ascii_uppercase (get_or bytes rare 0)))
    → (rare < length bytes → fold ≡ false → pair ≡ (get_or bytes rare 0, get_or bytes rare 0))
    → Looks fold bytes rare pair.0 pair.1
looks true bytes rare pair within either exact =
    let is = either within refl in
    looks-folded bytes rare pair.0 pair.1 within (ap (λ p. p.0) is) (ap (λ p. p.1) is)
looks false bytes rare pair within either exact =
    looks-exact bytes rare pair.0 pair.1 within (ap (λ p. p.0) (exact within refl))

-- one place more where they do not stand
pub passed_one : (fold : Bool) (bytes text : List ℕ) (from at : ℕ) → Nowhere (Stands fold bytes text) from at → (Stands fold bytes text at → ⊥) → Nowhere (Stands fold bytes text) from (at + 1)
passed_one fold bytes text from at passed here place low below h =
    below_more (λ k. from ≤ k → Stands fold bytes text k → ⊥) at (λ k l f. passed k f l) (λ f. here) place below low h

-- one byte that is looked for twice
pub found_either : (small big : ℕ) (text : List ℕ) (r : Option ℕ) → small ≡ big → IsFirstByte (is_byte small) text r → IsFirstByte (is_byte2 small big) text r
found_either small big text None same h = λ k from to e. h k from to (either_is small big _ same e)
found_either small big text (Some place) same h = (
  record { low = h.0.low; high = h.0.high; before = λ k from to e. h.0.before k from to (either_is small big _ same e) },
  or_left _ _ h.1,
)

module _ (fold : Bool) (bytes text : List ℕ) (rare small big : ℕ) (looks : Looks fold bytes rare small big) where
  -- the bytes stand at no place whose rare byte was passed over
  pub skipped : (from at past n : ℕ) → at + n ≤ past → Nowhere (Passes (is_byte2 small big) (take (rare + past - (rare + at)) (drop (rare + at) text))) 0 n
      → Nowhere (Stands fold bytes text) from at → Nowhere (Stands fold bytes text) from (at + n)
  skipped from at past n to none passed place low below h = ⊎_elim
      (λ l. passed place low l h)
      (λ l.
      let reads : get_or (take (rare + past - (rare + at)) (drop (rare + at) text)) (place - at) 0 ≡ get_or text (place + rare) 0 =
      get_or-take (rare + past - (rare + at)) (drop (rare + at) text) (place - at) 0 (omega arith) ∙ get_or-drop (rare + at) text (place - at) 0 ∙ ap (λ k. get_or text k 0) (omega arith) in
      none (place - at) (omega arith) (omega arith) (subst (λ x. is_byte2 small big x ≡ true) (sym reads) (looks.either text place h)))
      (cases_lt place at)

  searched_len : (at past : ℕ) → length bytes ≤ length text → past ≡ length text - length bytes + 1 → length (take (rare + past - (rare + at)) (drop (rare + at) text)) ≡ past - at
  searched_len at past fits past_is =
      let within = looks.within in
      omega (arith, length-take (rare + past - (rare + at)) (drop (rare + at) text), length-drop (rare + at) text)

  -- a place that is found is not past the last
  pub found_below : (at past n : ℕ) → length bytes ≤ length text → past ≡ length text - length bytes + 1
      → n < length (take (rare + past - (rare + at)) (drop (rare + at) text)) → at + n < past
  found_below at past n fits past_is below = omega (arith, searched_len at past fits past_is)

  -- where the rare byte is not found, nothing is left
  pub skipped_all : (from at past : ℕ) → length bytes ≤ length text → past ≡ length text - length bytes + 1 → at ≤ past
      → Nowhere (Passes (is_byte2 small big) (take (rare + past - (rare + at)) (drop (rare + at) text))) 0 (length (take (rare + past - (rare + at)) (drop (rare + at) text)))
      → Nowhere (Stands fold bytes text) from at → Nowhere (Stands fold bytes text) from past
  skipped_all from at past fits past_is under none passed place low below h =
      skipped from at past (past - at) (omega arith) (λ k from' to p. none k from' (omega (arith, searched_len at past fits past_is)) p) passed place low (omega arith) h

  -- after the last place the bytes stand nowhere
  pub none_left : (from past : ℕ) → length bytes ≤ length text → past ≡ length text - length bytes + 1
      → Nowhere (Stands fold bytes text) from past → (end : ℕ) → Nowhere (Stands fold bytes text) from end
  none_left from past fits past_is passed end place low below h =
      let some = looks.within in
      let there = stands-fits fold bytes text place (omega arith) h in
      passed place low (omega arith) h

  -- in the end of the text from a place on, where the rare byte would be
  near_reads : (first start place : ℕ) → start ≤ first + rare → first ≤ place → Stands fold bytes text place
      → Passes (is_byte2 small big) (take (length text - start) (drop start text)) (place + rare - start)
  near_reads first start place under low h =
      let reads : get_or (take (length text - start) (drop start text)) (place + rare - start) 0 ≡ get_or text (place + rare) 0 =
      ap (λ l. get_or l (place + rare - start) 0) (take_rest text start) ∙ get_or-drop start text (place + rare - start) 0 ∙ ap (λ k. get_or text k 0) (omega arith) in
      subst (λ x. is_byte2 small big x ≡ true) (sym reads) (looks.either text place h)

  pub none_near : (first start end : ℕ) → start ≤ first + rare → start ≤ length text
      → Nowhere (Passes (is_byte2 small big) (take (length text - start) (drop start text))) 0 (length (take (length text - start) (drop start text)))
      → Nowhere (Stands fold bytes text) first end
  none_near first start end under inside none place low below h =
      let within = looks.within in
      let there = stands-fits fold bytes text place (omega arith) h in
      none (place + rare - start) (omega arith) (omega (arith, length-take (length text - start) (drop start text), length-drop start text)) (near_reads first start place under low h)

  pub none_before : (first start n end : ℕ) → start ≤ first + rare → end ≡ max (start + n - rare) first
      → Nowhere (Passes (is_byte2 small big) (take (length text - start) (drop start text))) 0 n → Nowhere (Stands fold bytes text) first end
  none_before first start n end under is none place low below h =
      none (place + rare - start) (omega arith) (omega arith) (near_reads first start place under low h)

-- the bytes are compared with as many of the text
pub compared-folded : (bytes text : List ℕ) (at : ℕ) (found : Bool)
    → (IsTrue found → map to_ascii_lowercase (take (at + length bytes - at) (drop at text)) ≡ map to_ascii_lowercase bytes) × (map to_ascii_lowercase (take (at + length bytes - at) (drop at text)) ≡ map to_ascii_lowercase bytes → IsTrue found)
    → (IsTrue found → Stands true bytes text at) × (Stands true bytes text at → IsTrue found)
compared-folded bytes text at found says =
    let gap : at + length bytes - at ≡ length bytes = omega arith in
    subst (λ n. (IsTrue found → map to_ascii_lowercase (take n (drop at text)) ≡ map to_ascii_lowercase bytes) × (map to_ascii_lowercase (take n (drop at text)) ≡ map to_ascii_lowercase bytes → IsTrue found)) gap says

pub compared-exact : (bytes text : List ℕ) (at : ℕ) (found : Bool) → at + length bytes ≤ length text → found ≡ bytes_eq (take (at + length bytes - at) (drop at text)) bytes
    → (IsTrue found → Stands false bytes text at) × (Stands false bytes text at → IsTrue found)
compared-exact bytes text at found fits says =
    let gap : at + length bytes - at ≡ length bytes = omega arith in
    let said : found ≡ bytes_eq (take (length bytes) (drop at text)) bytes = subst (λ n. found ≡ bytes_eq (take n (drop at text)) bytes) gap says in
    let decides = bytes_eq-Decides (take (length bytes) (drop at text)) bytes in
    (λ e. OccursAt-from_part text bytes at fits (decides.0 (sym said ∙ e)), λ h. said ∙ decides.1 (OccursAt-part text bytes at h))
