-- What lists of places have.
use Rattle.std.proofs.Common.{◌≡◌, ◌⊎◌, ℕ, zero, suc, ◌+◌, ◌<◌, Bool, true, false, not, nat_eq, List, [], ◌∷◌, length, get_or, map, filter, cond, Contains, refl, ap, ◌∙◌, inl, inr, ⊎_elim, arith}
use Rattle.std.specs.Cmp.{nat_eq_equiv}
use Rattle.std.specs.List.{list_any, range_with_len}
use Rattle.std.proofs.lemmas.Bool.{not_from_false, cases_Bool}
use Rattle.std.proofs.lemmas.List.{length-map, get_or-map}
use Rattle.std.proofs.lemmas.List.Elements.{All-contains, All-contains_itself, All-filter, All-weaker, All-map, filter_passes, Contains-append_left, Contains-append_right, Contains-append_cases}
use Rattle.std.proofs.lemmas.List.FromFn.{length-range_with_len, get_or-range_with_len}
use Rattle.std.proofs.lemmas.Map.Views.{Contains-from_any, list_any-from_Contains, exact_unsigned_eq}
use Rattle.posix_regex.specs.Finds.{joined}

pub from_filter : (p : ℕ → Bool) (xs : List ℕ) (x : ℕ) → Contains (filter p xs) x → Contains xs x × (p x ≡ true)
from_filter p xs x h = (
  All-contains (Contains xs) (filter p xs) x (All-filter p (Contains xs) xs (All-contains_itself xs)) h,
  All-contains (λ y. p y ≡ true) (filter p xs) x (filter_passes p xs) h,
)

later : (x y : ℕ) (ys : List ℕ) → Contains ys x → Contains (y ∷ ys) x
later x y ys h = (suc h.0, omega (arith, h.1), h.2)

kept_head : (p : ℕ → Bool) (x y : ℕ) (ys : List ℕ) → y ≡ x → p x ≡ true → Contains (filter p (y ∷ ys)) x
kept_head p x y ys same passes = rw (ap p same ∙ passes) (0, omega arith, same)

kept_tail : (p : ℕ → Bool) (x y : ℕ) (ys : List ℕ) (b : Bool) → Contains (filter p ys) x → Contains (cond b (y ∷ filter p ys) (filter p ys)) x
kept_tail p x y ys true h = later x y (filter p ys) h
kept_tail p x y ys false h = h

kept_at : (p : ℕ → Bool) (xs : List ℕ) (x k : ℕ) → k < length xs → get_or xs k x ≡ x → p x ≡ true → Contains (filter p xs) x
kept_at p [] x k within is passes = absurd (omega arith)
kept_at p (y ∷ ys) x zero within is passes = kept_head p x y ys is passes
kept_at p (y ∷ ys) x (suc k) within is passes = kept_tail p x y ys (p y) (kept_at p ys x k (omega arith) is passes)

pub into_filter : (p : ℕ → Bool) (xs : List ℕ) (x : ℕ) → Contains xs x → p x ≡ true → Contains (filter p xs) x
into_filter p xs x h passes = kept_at p xs x h.0 h.1 h.2 passes

pub from_next : (xs : List ℕ) (y : ℕ) → Contains (map (λ i. i + 1) xs) y → (i : ℕ) × Contains xs i × (y ≡ i + 1)
from_next xs y h =
    All-contains (λ z. (i : ℕ) × Contains xs i × (z ≡ i + 1)) (map (λ i. i + 1) xs) y
    (All-map (λ z. (i : ℕ) × Contains xs i × (z ≡ i + 1)) (λ i. i + 1) xs
    (All-weaker (Contains xs) (λ i. (k : ℕ) × Contains xs k × (i + 1 ≡ k + 1)) (λ i c. (i, c, refl)) xs (All-contains_itself xs)))
    h

pub into_next : (xs : List ℕ) (i : ℕ) → Contains xs i → Contains (map (λ k. k + 1) xs) (i + 1)
into_next xs i h =
    (h.0, omega (arith, h.1, length-map xs (λ (k : ℕ). k + 1)), get_or-map (λ k. k + 1) xs h.0 i (i + 1) h.1 ∙ ap (λ k. k + 1) h.2)

pub from_any : (xs : List ℕ) (x : ℕ) → list_any (nat_eq x) xs ≡ true → Contains xs x
from_any xs x h = Contains-from_any exact_unsigned_eq x xs h

pub into_any : (xs : List ℕ) (x : ℕ) → Contains xs x → list_any (nat_eq x) xs ≡ true
into_any xs x h = list_any-from_Contains nat_eq_equiv x xs h

pub from_joined : (xs ys : List ℕ) (x : ℕ) → Contains (joined xs ys) x → Contains xs x ⊎ Contains ys x
from_joined xs ys x h =
    let new = λ (y : ℕ). not (list_any (nat_eq y) xs) in
    ⊎_elim (λ a. inl a) (λ b. inr (from_filter new ys x b).0) (Contains-append_cases xs (filter new ys) x h)

pub first_joined : (xs ys : List ℕ) (x : ℕ) → Contains xs x → Contains (joined xs ys) x
first_joined xs ys x h = Contains-append_left xs (filter (λ y. not (list_any (nat_eq y) xs)) ys) x h

pub second_joined : (xs ys : List ℕ) (x : ℕ) → Contains ys x → Contains (joined xs ys) x
second_joined xs ys x h =
    let new = λ (y : ℕ). not (list_any (nat_eq y) xs) in
    ⊎_elim
    (λ old. first_joined xs ys x (from_any xs x old))
    (λ fresh. Contains-append_right xs (filter new ys) x (into_filter new ys x h (not_from_false (list_any (nat_eq x) xs) fresh)))
    (cases_Bool (list_any (nat_eq x) xs))

pub from_range : (n x : ℕ) → Contains (range_with_len 0 n) x → x < n
from_range n x h =
    let within : h.0 < n = omega (arith, h.1, length-range_with_len 0 n) in
    omega (arith, within, h.2, get_or-range_with_len 0 n h.0 x within)

pub into_range : (n x : ℕ) → x < n → Contains (range_with_len 0 n) x
into_range n x h = (x, omega (arith, length-range_with_len 0 n), get_or-range_with_len 0 n x x h ∙ omega arith)
