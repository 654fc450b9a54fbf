-- Elements that are put in order.
use Rattle.std.proofs.Common.{◌≡◌, Bool, true, false, cond, List, [], ◌∷◌, ◌++◌, refl, sym, ap, subst, ◌∙◌, inl, inr, ◌⊎◌}
use Rattle.std.specs.List.{filter}
use Rattle.bigram_db.specs.Chosen.{placed, in_order}

-- x is one of the elements
abbrev pub Among : {X : Type 0} → X → List X → Type 0
Among x [] = ⊥
Among x (y ∷ ys) = (x ≡ y) ⊎ Among x ys

-- P holds of each element
abbrev pub Each : {X : Type 0} → (X → Type 0) → List X → Type 0
Each P [] = Unit {0}
Each P (x ∷ xs) = P x × Each P xs

-- no element comes twice
abbrev pub Apart : {X : Type 0} → List X → Type 0
Apart [] = Unit {0}
Apart (x ∷ xs) = (Among x xs → ⊥) × Apart xs

-- each element comes before each later one
abbrev pub Ordered : {X : Type 0} → (X → X → Bool) → List X → Type 0
Ordered before [] = Unit {0}
Ordered before (x ∷ xs) = Each (λ y. before x y ≡ true) xs × Ordered before xs

pub each_among : {X : Type 0} (P : X → Type 0) (xs : List X) (x : X) → Each P xs → Among x xs → P x
each_among P [] x all is = absurd is
each_among P (y ∷ ys) x all (inl is) = subst P (sym is) all.0
each_among P (y ∷ ys) x all (inr is) = each_among P ys x all.1 is

pub among_each : {X : Type 0} (P : X → Type 0) (xs : List X) → ((x : X) → Among x xs → P x) → Each P xs
among_each P [] h = tt
among_each P (y ∷ ys) h = (h y (inl refl), among_each P ys (λ x is. h x (inr is)))

pub among_left : {X : Type 0} (x : X) (xs ys : List X) → Among x xs → Among x (xs ++ ys)
among_left x [] ys is = absurd is
among_left x (y ∷ xs) ys (inl is) = inl is
among_left x (y ∷ xs) ys (inr is) = inr (among_left x xs ys is)

pub among_right : {X : Type 0} (x : X) (xs ys : List X) → Among x ys → Among x (xs ++ ys)
among_right x [] ys is = is
among_right x (y ∷ xs) ys is = inr (among_right x xs ys is)

pub among_either : {X : Type 0} (x : X) (xs ys : List X) → Among x (xs ++ ys) → Among x xs ⊎ Among x ys
among_either x [] ys is = inr is
among_either x (y ∷ xs) ys (inl is) = inl (inl is)
among_either x (y ∷ xs) ys (inr is) = elim (among_either x xs ys is) [ inl here ↦ inl (inr here) | inr there ↦ inr there ]

-- ---- what a filter keeps

kept_by : {X : Type 0} (x y : X) (rest : List X) (b : Bool) → Among x (cond b (y ∷ rest) rest) → ((x ≡ y) × (b ≡ true)) ⊎ Among x rest
kept_by x y rest true (inl is) = inl (is, refl)
kept_by x y rest true (inr is) = inr is
kept_by x y rest false is = inr is

pub among_filter : {X : Type 0} (p : X → Bool) (xs : List X) (x : X) → Among x (filter p xs) → Among x xs × (p x ≡ true)
among_filter p [] x is = absurd is
among_filter p (y ∷ ys) x is = elim (kept_by x y (filter p ys) (p y) is) [
  | inl here ↦ (inl here.0, ap p here.0 ∙ here.1)
  | inr there ↦ let h = among_filter p ys x there in (inr h.0, h.1)
]

keep_by : {X : Type 0} (x y : X) (rest : List X) (b : Bool) → Among x rest → Among x (cond b (y ∷ rest) rest)
keep_by x y rest true is = inr is
keep_by x y rest false is = is

keep_here : {X : Type 0} (x y : X) (rest : List X) (b : Bool) → b ≡ true → x ≡ y → Among x (cond b (y ∷ rest) rest)
keep_here x y rest true e is = inl is
keep_here x y rest false e is = absurd cc

pub filter_among : {X : Type 0} (p : X → Bool) (xs : List X) (x : X) → Among x xs → p x ≡ true → Among x (filter p xs)
filter_among p [] x is e = absurd is
filter_among p (y ∷ ys) x (inl is) e = keep_here x y (filter p ys) (p y) (ap p (sym is) ∙ e) is
filter_among p (y ∷ ys) x (inr is) e = keep_by x y (filter p ys) (p y) (filter_among p ys x is e)

apart_by : {X : Type 0} (y : X) (rest : List X) (b : Bool) → (Among y rest → ⊥) → Apart rest → Apart (cond b (y ∷ rest) rest)
apart_by y rest true none apart = (none, apart)
apart_by y rest false none apart = apart

pub apart_filter : {X : Type 0} (p : X → Bool) (xs : List X) → Apart xs → Apart (filter p xs)
apart_filter p [] apart = tt
apart_filter p (y ∷ ys) apart = apart_by y (filter p ys) (p y) (λ is. apart.0 (among_filter p ys y is).0) (apart_filter p ys apart.1)

-- ---- putting an element in its place

placed_by : {X : Type 0} (before : X → X → Bool) (x z y : X) (ys : List X) (b : Bool) → (Among z (placed before x ys) → (z ≡ x) ⊎ Among z ys) → Among z (cond b (x ∷ y ∷ ys) (y ∷ placed before x ys)) → (z ≡ x) ⊎ Among z (y ∷ ys)
placed_by before x z y ys true go (inl is) = inl is
placed_by before x z y ys true go (inr is) = inr is
placed_by before x z y ys false go (inl is) = inr (inl is)
placed_by before x z y ys false go (inr is) = elim (go is) [ inl here ↦ inl here | inr there ↦ inr (inr there) ]

pub among_placed : {X : Type 0} (before : X → X → Bool) (x z : X) (ys : List X) → Among z (placed before x ys) → (z ≡ x) ⊎ Among z ys
among_placed before x z [] (inl is) = inl is
among_placed before x z [] (inr is) = absurd is
among_placed before x z (y ∷ ys) is = placed_by before x z y ys (before x y) (among_placed before x z ys) is

in_by : {X : Type 0} (before : X → X → Bool) (x z y : X) (ys : List X) (b : Bool) → ((z ≡ x) ⊎ Among z ys → Among z (placed before x ys)) → (z ≡ x) ⊎ Among z (y ∷ ys) → Among z (cond b (x ∷ y ∷ ys) (y ∷ placed before x ys))
in_by before x z y ys true go (inl is) = inl is
in_by before x z y ys true go (inr is) = inr is
in_by before x z y ys false go (inl is) = inr (go (inl is))
in_by before x z y ys false go (inr (inl is)) = inl is
in_by before x z y ys false go (inr (inr is)) = inr (go (inr is))

pub placed_among : {X : Type 0} (before : X → X → Bool) (x z : X) (ys : List X) → (z ≡ x) ⊎ Among z ys → Among z (placed before x ys)
placed_among before x z [] (inl is) = inl is
placed_among before x z [] (inr is) = absurd is
placed_among before x z (y ∷ ys) is = in_by before x z y ys (before x y) (placed_among before x z ys) is

pub among_in_order : {X : Type 0} (before : X → X → Bool) (z : X) (xs : List X) → Among z (in_order before xs) → Among z xs
among_in_order before z [] is = is
among_in_order before z (x ∷ xs) is = elim (among_placed before x z (in_order before xs) is) [ inl here ↦ inl here | inr there ↦ inr (among_in_order before z xs there) ]

pub in_order_among : {X : Type 0} (before : X → X → Bool) (z : X) (xs : List X) → Among z xs → Among z (in_order before xs)
in_order_among before z [] is = is
in_order_among before z (x ∷ xs) (inl is) = placed_among before x z (in_order before xs) (inl is)
in_order_among before z (x ∷ xs) (inr is) = placed_among before x z (in_order before xs) (inr (in_order_among before z xs is))

-- ---- the order

-- What comes before one element comes before all that it comes before; and of two elements that differ one comes before
-- the other.
pub record IsOrder {X : Type 0} (before : X → X → Bool) : Type 0 where
  pub on : (x y z : X) → before x y ≡ true → before y z ≡ true → before x z ≡ true
  pub other : (x y : X) → before x y ≡ false → (x ≡ y → ⊥) → before y x ≡ true
  pub never : (x : X) → before x x ≡ false

ordered_by : {X : Type 0} (before : X → X → Bool) → IsOrder before → (x y : X) (ys : List X) (b : Bool) → before x y ≡ b → (x ≡ y → ⊥) → Ordered before (y ∷ ys) → Ordered before (placed before x ys) → Ordered before (cond b (x ∷ y ∷ ys) (y ∷ placed before x ys))
ordered_by before order x y ys true e differ o go =
    ((e, among_each (λ z. before x z ≡ true) ys (λ z is. order.on x y z e (each_among (λ w. before y w ≡ true) ys z o.0 is))), o)
ordered_by before order x y ys false e differ o go = (
  among_each (λ z. before y z ≡ true) (placed before x ys) (λ z is. elim (among_placed before x z ys is) [
    | inl here ↦ ap (before y) here ∙ order.other x y e differ
    | inr there ↦ each_among (λ w. before y w ≡ true) ys z o.0 there
  ]),
  go,
)

pub ordered_placed : {X : Type 0} (before : X → X → Bool) → IsOrder before → (x : X) (ys : List X) → (Among x ys → ⊥) → Ordered before ys → Ordered before (placed before x ys)
ordered_placed before order x [] none o = (tt, tt)
ordered_placed before order x (y ∷ ys) none o =
    ordered_by before order x y ys (before x y) refl (λ is. none (inl is)) o (ordered_placed before order x ys (λ is. none (inr is)) o.1)

pub ordered_in_order : {X : Type 0} (before : X → X → Bool) → IsOrder before → (xs : List X) → Apart xs → Ordered before (in_order before xs)
ordered_in_order before order [] apart = tt
ordered_in_order before order (x ∷ xs) apart =
    ordered_placed before order x (in_order before xs) (λ is. apart.0 (among_in_order before x xs is)) (ordered_in_order before order xs apart.1)

-- the elements behind come after those in front
pub ordered_across : {X : Type 0} (before : X → X → Bool) (x y : X) (xs ys : List X) → Ordered before (xs ++ ys) → Among x xs → Among y ys → before x y ≡ true
ordered_across before x y [] ys o here there = absurd here
ordered_across before x y (z ∷ xs) ys o (inl is) there = ap (λ w. before w y) is ∙ each_among (λ w. before z w ≡ true) (xs ++ ys) y o.0 (among_right y xs ys there)
ordered_across before x y (z ∷ xs) ys o (inr is) there = ordered_across before x y xs ys o.1 is there

pub ordered_behind : {X : Type 0} (before : X → X → Bool) (xs ys : List X) → Ordered before (xs ++ ys) → Ordered before ys
ordered_behind before [] ys o = o
ordered_behind before (x ∷ xs) ys o = ordered_behind before xs ys o.1

pub ordered_front : {X : Type 0} (before : X → X → Bool) (xs ys : List X) → Ordered before (xs ++ ys) → Ordered before xs
ordered_front before [] ys o = tt
ordered_front before (x ∷ xs) ys o = (among_each (λ y. before x y ≡ true) xs (λ y is. each_among (λ z. before x z ≡ true) (xs ++ ys) y o.0 (among_left y xs ys is)), ordered_front before xs ys o.1)
