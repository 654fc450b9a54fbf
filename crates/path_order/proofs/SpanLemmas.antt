-- Names that lie one after another.
use Rattle.std.proofs.Common.{◌≡◌, ℕ, suc, ◌+◌, ◌-◌, List, [], ◌∷◌, ◌++◌, map, length, take, drop, refl, ◌∙◌, ap, arith, length-drop, Bool, true, false, cond}
use Rattle.std.proofs.lemmas.List.{map-append, take-append-le, drop-append-le, take_all}
use Rattle.std.proofs.Math.Seq.{drop-append_seam}
use Rattle.std.specs.List.{dedup_from, dedup}
use Rattle.path_order.specs.declared.name_list.Span.{Span}
use Rattle.path_order.specs.Spans.{text_at, entry_at, entries_in, IsWithin, AllWithin}

-- more bytes behind it change no name
text_more : (bytes more : List ℕ) (span : Span) → IsWithin bytes span → text_at (bytes ++ more) span ≡ text_at bytes span
text_more bytes more span within =
    ap (take (span.end - span.start)) (drop-append-le span.start bytes more (omega (arith, within.forward, within.inside)))
    ∙ take-append-le (span.end - span.start) (drop span.start bytes) more (omega (arith, within.forward, within.inside, length-drop span.start bytes))

pub entries_more : (bytes more : List ℕ) (spans : List Span) → AllWithin bytes spans → entries_in (bytes ++ more) spans ≡ entries_in bytes spans
entries_more bytes more [] all = refl
entries_more bytes more (span ∷ spans) all =
    λ i. (text_more bytes more span (all 0 span (omega arith)) i, span.kind) ∷ entries_more bytes more spans (λ k d h. all (suc k) d (omega arith)) i

-- the name behind all others
last_text : (bytes name : List ℕ) (span : Span) → span.start ≡ length bytes → span.end ≡ length bytes + length name → text_at (bytes ++ name) span ≡ name
last_text bytes name span start end =
    ap (λ (n : ℕ). take (span.end - n) (drop n (bytes ++ name))) start
    ∙ ap (take (span.end - length bytes)) (drop-append_seam bytes name)
    ∙ take_all (span.end - length bytes) name (omega arith)

pub entries_push : (bytes name : List ℕ) (spans : List Span) (span : Span) → AllWithin bytes spans → span.start ≡ length bytes → span.end ≡ length bytes + length name → entries_in (bytes ++ name) (spans ++ span ∷ []) ≡ entries_in bytes spans ++ (name, span.kind) ∷ []
entries_push bytes name spans span all start end =
    map-append (entry_at (bytes ++ name)) spans (span ∷ [])
    ∙ (λ i. entries_more bytes name spans all i ++ (last_text bytes name span start end i, span.kind) ∷ [])

-- a list without repeats by what its elements stand for
module _ {A B : Type 0} (f : A → B) (same : B → B → Bool) where
  map-dedup_from : (kept : A) (xs : List A) → map f (dedup_from (λ x y. same (f x) (f y)) kept xs) ≡ dedup_from same (f kept) (map f xs)
  map-dedup_from kept [] = refl
  map-dedup_from kept (x ∷ xs) = by (same (f x) (f kept)) (map-dedup_from kept xs) (map-dedup_from x xs)
    where
      by : (b : Bool) → map f (dedup_from (λ x y. same (f x) (f y)) kept xs) ≡ dedup_from same (f kept) (map f xs) → map f (dedup_from (λ x y. same (f x) (f y)) x xs) ≡ dedup_from same (f x) (map f xs)
          → map f (cond b (dedup_from (λ x y. same (f x) (f y)) kept xs) (kept ∷ dedup_from (λ x y. same (f x) (f y)) x xs)) ≡ cond b (dedup_from same (f kept) (map f xs)) (f kept ∷ dedup_from same (f x) (map f xs))
      by true first others = first
      by false first others = ap (λ (rest : List B). f kept ∷ rest) others

  pub map-dedup : (xs : List A) → map f (dedup (λ x y. same (f x) (f y)) xs) ≡ dedup same (map f xs)
  map-dedup [] = refl
  map-dedup (x ∷ xs) = map-dedup_from x xs
