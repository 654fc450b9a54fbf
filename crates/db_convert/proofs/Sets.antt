-- What holds of values holds of them in an order.
use Rattle.std.proofs.Common.{◌≡◌, Bool, true, false, cond, List, [], ◌∷◌, map, filter, refl, sym, subst, ◌∙◌, Less, Equal, Greater, Ordering}
use Rattle.std.specs.Cmp.{IsTotalOrder}
use Rattle.std.proofs.lemmas.List.{nil_from_length}
use Rattle.std.specs.FinMap.{from_entries, entries, empty, keys, entries-insert, len-entries, len-empty}
use Rattle.std.specs.FinMap.Entries.{put, by_order}
use Rattle.db_convert.specs.Blocks.{sorted_unique}

abbrev pub Each : {A : Type 0} → (A → Type 0) → List A → Type 0
Each P [] = Unit {0}
Each P (x ∷ xs) = P x × Each P xs

pub each_map : {A B : Type 0} (P : B → Type 0) (f : A → B) (xs : List A) → Each (λ x. P (f x)) xs → Each P (map f xs)
each_map P f [] h = tt
each_map P f (x ∷ xs) h = (h.0, each_map P f xs h.1)

pub each_more : {A : Type 0} (P Q : A → Type 0) → ((x : A) → P x → Q x) → (xs : List A) → Each P xs → Each Q xs
each_more P Q f [] h = tt
each_more P Q f (x ∷ xs) h = (f x h.0, each_more P Q f xs h.1)

filter_step : {A : Type 0} (Q : A → Type 0) (b : Bool) (x : A) (xs : List A) → (b ≡ true → Q x) → Each Q xs → Each Q (cond b (x ∷ xs) xs)
filter_step Q true x xs h k = (h refl, k)
filter_step Q false x xs h k = k

-- of each that passes a test, what holds of each that does
pub each_filter : {A : Type 0} (P Q : A → Type 0) (test : A → Bool) → ((x : A) → test x ≡ true → P x → Q x) → (xs : List A) → Each P xs → Each Q (filter test xs)
each_filter P Q test f [] h = tt
each_filter P Q test f (x ∷ xs) h = filter_step Q (test x) x (filter test xs) (λ e. f x e h.0) (each_filter P Q test f xs h.1)

module _ {K : Type 0} (order : K → K → Ordering) (total : IsTotalOrder order) (P : K → Type 0) where
  put_step : (k : K) (e : K × Unit {0}) (es more : List (K × Unit {0})) (r : Ordering) → P k → Each P (map (λ e. e.0) (e ∷ es)) → Each P (map (λ e. e.0) more) → Each P (map (λ e. e.0) (by_order r ((k, tt {0}) ∷ e ∷ es) ((e.0, tt {0}) ∷ es) (e ∷ more)))
  put_step k e es more Less p h m = (p, h)
  put_step k e es more Equal p h m = h
  put_step k e es more Greater p h m = (h.0, m)

  put_each : (k : K) (es : List (K × Unit {0})) → P k → Each P (map (λ e. e.0) es) → Each P (map (λ e. e.0) (put order k tt es))
  put_each k [] p h = (p, tt)
  put_each k (e ∷ es) p h = put_step k e es (put order k tt es) (order k e.0) p h (put_each k es p h.1)

  none : entries {R = order} (empty {X = Unit {0}}) ≡ []
  none = nil_from_length (entries {R = order} (empty {X = Unit {0}})) (sym (len-entries {R = order} (empty {X = Unit {0}})) ∙ len-empty order (Unit {0}))

  made_each : (ks : List K) → Each P ks → Each P (keys (from_entries {R = order} (map (λ k. (k, tt {0})) ks)))
  made_each [] h = subst (λ (es : List (K × Unit {0})). Each P (map (λ e. e.0) es)) (sym none) tt
  made_each (k ∷ ks) h = subst (λ (es : List (K × Unit {0})). Each P (map (λ e. e.0) es)) (sym (entries-insert total (from_entries (map (λ k. (k, tt {0})) ks)) k tt)) (put_each k _ h.0 (made_each ks h.1))

  pub sorted_unique_each : (ks : List K) → Each P ks → Each P (sorted_unique order ks)
  sorted_unique_each ks h = made_each ks h
