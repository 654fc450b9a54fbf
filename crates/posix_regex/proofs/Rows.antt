-- States in a row.
use Rattle.std.proofs.Common.{◌≡◌, ℕ, zero, suc, ◌+◌, ◌-◌, ◌<◌, List, [], ◌∷◌, ◌++◌, take, Some, slice_get, refl, sym, ap, ◌∙◌, arith, append_assoc, add-one}
use Rattle.posix_regex.specs.Program.{Item, copies}

pub take_next : (n : ℕ) (xs : List Item) (x : Item) → slice_get xs n ≡ Some x → take (n + 1) xs ≡ take n xs ++ x ∷ []
take_next n [] x e = cc
take_next zero (y ∷ xs) x e = let same : y ≡ x = cc in rw same refl
take_next (suc n) (y ∷ xs) x e = rw (add-one (suc n)) (ap (λ l. y ∷ l) (rw (add-one n) at (take_next n xs x e)))

pub append_next : (before now next other : List Item) (n : ℕ) (x : Item) → now ≡ before ++ take n other → slice_get other n ≡ Some x → next ≡ now ++ x ∷ [] → next ≡ before ++ take (n + 1) other
append_next before now next other n x is at added = added ∙ ap (λ l. l ++ x ∷ []) is ∙ append_assoc before (take n other) (x ∷ []) ∙ ap (λ l. before ++ l) (sym (take_next n other x at))

pub copies_next : (count n : ℕ) (xs : List Item) → n < count → copies (count - n) xs ≡ xs ++ copies (count - (n + 1)) xs
copies_next count n xs within =
    let e : count - n ≡ suc (count - (n + 1)) = omega arith in
    ap (λ k. copies k xs) e

pub append_copies : (now next whole xs : List Item) (count n : ℕ) → n < count → now ++ copies (count - n) xs ≡ whole → next ≡ now ++ xs → next ++ copies (count - (n + 1)) xs ≡ whole
append_copies now next whole xs count n within is added =
    ap (λ l. l ++ copies (count - (n + 1)) xs) added ∙ append_assoc now xs (copies (count - (n + 1)) xs) ∙ ap (λ l. now ++ l) (sym (copies_next count n xs within)) ∙ is
