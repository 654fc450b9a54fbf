-- Lists whose elements each have a property, and lists that rise.
use Rattle.std.proofs.Common.{◌≡◌, Bool, true, false, List, [], ◌∷◌, ◌++◌, map, ◌⊎◌, inl, inr, refl, sym, subst, flat_map, filter, cond}

abbrev pub Each : {A : Type 0} → (A → Type 0) → List A → Type 0
Each P [] = Unit {0}
Each P (x ∷ xs) = P x × Each P xs

abbrev pub Has : {A : Type 0} → A → List A → Type 0
Has x [] = ⊥
Has x (y ∷ ys) = (x ≡ y) ⊎ Has x ys

-- each element has R to all that follow
abbrev pub Rises : {A : Type 0} → (A → A → Type 0) → List A → Type 0
Rises R [] = Unit {0}
Rises R (x ∷ xs) = Each (R x) xs × Rises R xs

pub each_more : {A : Type 0} (P Q : A → Type 0) → ((x : A) → P x → Q x) → (xs : List A) → Each P xs → Each Q xs
each_more P Q f [] h = tt
each_more P Q f (x ∷ xs) h = (f x h.0, each_more P Q f xs h.1)

pub each_all : {A : Type 0} (P : A → Type 0) → ((x : A) → P x) → (xs : List A) → Each P xs
each_all P f [] = tt
each_all P f (x ∷ xs) = (f x, each_all P f xs)

pub each_both : {A : Type 0} (P Q : A → Type 0) (xs : List A) → Each P xs → Each Q xs → Each (λ x. P x × Q x) xs
each_both P Q [] h k = tt
each_both P Q (x ∷ xs) h k = ((h.0, k.0), each_both P Q xs h.1 k.1)

pub each_append : {A : Type 0} (P : A → Type 0) (xs ys : List A) → Each P xs → Each P ys → Each P (xs ++ ys)
each_append P [] ys h k = k
each_append P (x ∷ xs) ys h k = (h.0, each_append P xs ys h.1 k)

pub each_flat_map : {A B : Type 0} (P : B → Type 0) (f : A → List B) (xs : List A) → Each (λ x. Each P (f x)) xs → Each P (flat_map f xs)
each_flat_map P f [] h = tt
each_flat_map P f (x ∷ xs) h = each_append P (f x) (flat_map f xs) h.0 (each_flat_map P f xs h.1)

pub each_map : {A B : Type 0} (P : B → Type 0) (f : A → B) (xs : List A) → Each (λ x. P (f x)) xs → Each P (map f xs)
each_map P f [] h = tt
each_map P f (x ∷ xs) h = (h.0, each_map P f xs h.1)

filter_step : {A : Type 0} (P : A → Type 0) (b : Bool) (x : A) (xs : List A) → P x → Each P xs → Each P (cond b (x ∷ xs) xs)
filter_step P true x xs h k = (h, k)
filter_step P false x xs h k = k

pub each_filter : {A : Type 0} (P : A → Type 0) (p : A → Bool) (xs : List A) → Each P xs → Each P (filter p xs)
each_filter P p [] h = tt
each_filter P p (x ∷ xs) h = filter_step P (p x) x (filter p xs) h.0 (each_filter P p xs h.1)

pass_step : {A : Type 0} (p : A → Bool) (b : Bool) (x : A) (xs : List A) → p x ≡ b → Each (λ y. p y ≡ true) xs → Each (λ y. p y ≡ true) (cond b (x ∷ xs) xs)
pass_step p true x xs e k = (e, k)
pass_step p false x xs e k = k

-- what passed a filter
pub each_passes : {A : Type 0} (p : A → Bool) (xs : List A) → Each (λ x. p x ≡ true) (filter p xs)
each_passes p [] = tt
each_passes p (x ∷ xs) = pass_step p (p x) x (filter p xs) refl (each_passes p xs)

rises_step : {A : Type 0} (R : A → A → Type 0) (b : Bool) (x : A) (xs : List A) → Each (R x) xs → Rises R xs → Rises R (cond b (x ∷ xs) xs)
rises_step R true x xs h k = (h, k)
rises_step R false x xs h k = k

pub rises_filter : {A : Type 0} (R : A → A → Type 0) (p : A → Bool) (xs : List A) → Rises R xs → Rises R (filter p xs)
rises_filter R p [] h = tt
rises_filter R p (x ∷ xs) h = rises_step R (p x) x (filter p xs) (each_filter (R x) p xs h.0) (rises_filter R p xs h.1)

pub rises_append : {A : Type 0} (R : A → A → Type 0) (xs ys : List A) → Rises R xs → Rises R ys → Each (λ x. Each (R x) ys) xs → Rises R (xs ++ ys)
rises_append R [] ys h k m = k
rises_append R (x ∷ xs) ys h k m = (each_append (R x) xs ys h.0 m.0, rises_append R xs ys h.1 k m.1)

pub each_has : {A : Type 0} (P : A → Type 0) (x : A) (xs : List A) → Each P xs → Has x xs → P x
each_has P x [] h k = absurd k
each_has P x (y ∷ ys) h (inl e) = subst P (sym e) h.0
each_has P x (y ∷ ys) h (inr k) = each_has P x ys h.1 k

pub has_left : {A : Type 0} (x : A) (xs ys : List A) → Has x xs → Has x (xs ++ ys)
has_left x [] ys h = absurd h
has_left x (y ∷ xs) ys (inl e) = inl e
has_left x (y ∷ xs) ys (inr h) = inr (has_left x xs ys h)

pub has_right : {A : Type 0} (x : A) (xs ys : List A) → Has x ys → Has x (xs ++ ys)
has_right x [] ys h = h
has_right x (y ∷ xs) ys h = inr (has_right x xs ys h)

pub has_flat_map : {A B : Type 0} (f : A → List B) (a : A) (b : B) (xs : List A) → Has a xs → Has b (f a) → Has b (flat_map f xs)
has_flat_map f a b [] h k = absurd h
has_flat_map f a b (x ∷ xs) (inl e) k = has_left b (f x) (flat_map f xs) (subst (λ c. Has b (f c)) e k)
has_flat_map f a b (x ∷ xs) (inr h) k = has_right b (f x) (flat_map f xs) (has_flat_map f a b xs h k)

-- two functions that agree on each element
pub flat_map_same : {A B : Type 0} (f g : A → List B) (xs : List A) → Each (λ x. f x ≡ g x) xs → flat_map f xs ≡ flat_map g xs
flat_map_same f g [] h = refl
flat_map_same f g (x ∷ xs) h = λ i. h.0 i ++ flat_map_same f g xs h.1 i

-- the elements that two functions give, the first's before the second's
pub rises_flat_map : {A B : Type 0} (R : A → A → Type 0) (S : B → B → Type 0) (f : A → List B) (xs : List A)
    → ((x y : A) → R x y → Each (λ b. Each (S b) (f y)) (f x)) → Rises R xs → Each (λ x. Rises S (f x)) xs → Rises S (flat_map f xs)
rises_flat_map R S f [] apart up each = tt
rises_flat_map {A = A} {B = B} R S f (x ∷ xs) apart up each =
    rises_append S (f x) (flat_map f xs) each.0 (rises_flat_map R S f xs apart up.1 each.1) (before xs up.0)
  where
    glue : (bs : List B) (cs ds : List B) → Each (λ b. Each (S b) cs) bs → Each (λ b. Each (S b) ds) bs → Each (λ b. Each (S b) (cs ++ ds)) bs
    glue [] cs ds h k = tt
    glue (b ∷ bs) cs ds h k = (each_append (S b) cs ds h.0 k.0, glue bs cs ds h.1 k.1)

    before : (ys : List A) → Each (R x) ys → Each (λ b. Each (S b) (flat_map f ys)) (f x)
    before [] h = each_all _ (λ b. tt) (f x)
    before (y ∷ ys) h = glue (f x) (f y) (flat_map f ys) (apart x y h.0) (before ys h.1)

rises_map_each : {A B : Type 0} (R : A → A → Type 0) (S : B → B → Type 0) (P : A → Type 0) (f : A → B) → ((x y : A) → P x → P y → R x y → S (f x) (f y))
    → (x : A) (xs : List A) → P x → Each P xs → Each (R x) xs → Each (S (f x)) (map f xs)
rises_map_each R S P f g x [] p all h = tt
rises_map_each R S P f g x (y ∷ ys) p all h = (g x y p all.0 h.0, rises_map_each R S P f g x ys p all.1 h.1)

pub rises_map : {A B : Type 0} (R : A → A → Type 0) (S : B → B → Type 0) (P : A → Type 0) (f : A → B) → ((x y : A) → P x → P y → R x y → S (f x) (f y))
    → (xs : List A) → Each P xs → Rises R xs → Rises S (map f xs)
rises_map R S P f g [] all h = tt
rises_map R S P f g (x ∷ xs) all h = (rises_map_each R S P f g x xs all.0 all.1 h.0, rises_map R S P f g xs all.1 h.1)

-- pairs of two lists
pub each_pair : {A B : Type 0} (P : A → Type 0) (Q : B → Type 0) (S : A → B → Type 0) → ((x : A) (y : B) → P x → Q y → S x y)
    → (xs : List A) (ys : List B) → Each P xs → Each Q ys → Each (λ x. Each (S x) ys) xs
each_pair P Q S f [] ys h k = tt
each_pair P Q S f (x ∷ xs) ys h k = (each_more Q (S x) (λ y q. f x y h.0 q) ys k, each_pair P Q S f xs ys h.1 k)
