-- Texts that lie one after another in a buffer.
use Rattle.std.proofs.Common.{◌≡◌, ℕ, zero, suc, ◌+◌, ◌-◌, ◌<◌, ◌≤◌, List, [], ◌∷◌, ◌++◌, length, get_or, take, drop, refl, ap, ◌∙◌, arith, length-drop, length-take}
use Rattle.std.specs.Prelude.{sum_by}
use Rattle.std.proofs.lemmas.List.{take-append-le, drop-append-le, take_all}
use Rattle.std.proofs.lemmas.List.Sums.{sum_by-cons}
use Rattle.std.proofs.Math.Seq.{drop-append_seam}
use Rattle.db_convert.specs.Texts.{texts_from, IsCut}

pub cut_forth : (start : ℕ) (ends : List ℕ) (len : ℕ) → IsCut start ends len → start ≤ len
cut_forth start [] len cut = omega (arith, cut)
cut_forth start (end ∷ ends) len cut = omega (arith, cut.0, cut_forth end ends len cut.1)

-- a text more
pub cut_push : (start : ℕ) (ends : List ℕ) (len end : ℕ) → len ≤ end → IsCut start ends len → IsCut start (ends ++ end ∷ []) end
cut_push start [] len end forth cut = (omega (arith, forth, cut), refl)
cut_push start (next ∷ ends) len end forth cut = (cut.0, cut_push next ends len end forth cut.1)

text_more : (bytes more : List ℕ) (start end : ℕ) → start ≤ end → end ≤ length bytes → take (end - start) (drop start (bytes ++ more)) ≡ take (end - start) (drop start bytes)
text_more bytes more start end forth within =
    ap (take (end - start)) (drop-append-le start bytes more (omega (arith, forth, within)))
    ∙ take-append-le (end - start) (drop start bytes) more (omega (arith, forth, within, length-drop start bytes))

last_text : (bytes text : List ℕ) (start end : ℕ) → start ≡ length bytes → end ≡ length bytes + length text → take (end - start) (drop start (bytes ++ text)) ≡ text
last_text bytes text start end from to =
    ap (λ (n : ℕ). take (end - n) (drop n (bytes ++ text))) from
    ∙ ap (take (end - length bytes)) (drop-append_seam bytes text)
    ∙ take_all (end - length bytes) text (omega (arith, to))

pub texts_push : (bytes text : List ℕ) (start : ℕ) (ends : List ℕ) (end : ℕ) → IsCut start ends (length bytes) → end ≡ length bytes + length text
    → texts_from (bytes ++ text) start (ends ++ end ∷ []) ≡ texts_from bytes start ends ++ text ∷ []
texts_push bytes text start [] end cut to = ap (λ (t : List ℕ). t ∷ []) (last_text bytes text start end cut to)
texts_push bytes text start (next ∷ ends) end cut to =
    λ i. text_more bytes text start next cut.0 (cut_forth next ends (length bytes) cut.1) i ∷ texts_push bytes text next ends end cut.1 to i

pub texts_length : (bytes : List ℕ) (start : ℕ) (ends : List ℕ) → length (texts_from bytes start ends) ≡ length ends
texts_length bytes start [] = refl
texts_length bytes start (end ∷ ends) = ap suc (texts_length bytes end ends)

-- the text at a place
pub text_at : (bytes : List ℕ) (start : ℕ) (ends : List ℕ) (k : ℕ) → k < length ends → get_or (texts_from bytes start ends) k [] ≡ take (get_or ends k 0 - get_or (start ∷ ends) k 0) (drop (get_or (start ∷ ends) k 0) bytes)
text_at bytes start [] k lt = absurd (omega (arith, lt))
text_at bytes start (end ∷ ends) zero lt = refl
text_at bytes start (end ∷ ends) (suc k) lt = text_at bytes end ends k (omega (arith, lt))

pub cut_at : (start : ℕ) (ends : List ℕ) (len k : ℕ) → IsCut start ends len → k < length ends → (get_or (start ∷ ends) k 0 ≤ get_or ends k 0) × (get_or ends k 0 ≤ len)
cut_at start [] len k cut lt = absurd (omega (arith, lt))
cut_at start (end ∷ ends) len zero cut lt = (cut.0, cut_forth end ends len cut.1)
cut_at start (end ∷ ends) len (suc k) cut lt = cut_at end ends len k cut.1 (omega (arith, lt))

size_from : (bytes : List ℕ) (start : ℕ) (ends : List ℕ) → IsCut start ends (length bytes) → start + sum_by length (texts_from bytes start ends) ≡ length bytes
size_from bytes start [] cut = omega (arith, cut)
size_from bytes start (end ∷ ends) cut =
    let forth = cut_forth end ends (length bytes) cut.1 in
    omega (arith, cut.0, forth, size_from bytes end ends cut.1, sum_by-cons (length {A = ℕ}) (take (end - start) (drop start bytes)) (texts_from bytes end ends), length-take (end - start) (drop start bytes), length-drop start bytes)

-- the bytes of all texts are those of the buffer
pub size_is : (bytes ends : List ℕ) → IsCut 0 ends (length bytes) → sum_by length (texts_from bytes 0 ends) ≡ length bytes
size_is bytes ends cut = omega (arith, size_from bytes 0 ends cut)
