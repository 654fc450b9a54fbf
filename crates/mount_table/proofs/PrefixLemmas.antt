-- Path prefixes and their rests.
use Rattle.std.proofs.Common.{◌≡◌, ◌≢◌, ℕ, zero, suc, ◌+◌, ◌<◌, ◌≤◌, List, [], ◌∷◌, ◌++◌, length, get_or, take, drop, refl, sym, ◌∙◌, ap, arith, Bool, true, false, cond, inl, inr, subst}
use Rattle.std.proofs.lemmas.Bool.{false_from_ne_true, or_cases, or_left, or_right, and_parts, and_from, eqb-true, eq-eqb, lt-ltb, cases_lt}
use Rattle.std.proofs.lemmas.Bool.Decides.{same_from_decides}
use Rattle.std.proofs.lemmas.List.{append_cancel_left, take-append-drop, take_at, take_all, length-take-le, drop_more}
use Rattle.std.proofs.lemmas.Slice.Eq.{bytes_eq-Decides}
use Rattle.std.specs.List.{starts_with}
use Rattle.std.specs.Prelude.{bytes_eq, ◌&&◌, ◌||◌, nat_eq, nat_lt}
use Rattle.path_order.specs.Path.{is_root, begins_at_root, is_slash}
use Rattle.mount_table.specs.Line.{is_not_empty}
use Rattle.mount_table.specs.Part.{EndsPrefix}
use Rattle.mount_table.specs.Prefix.{rests, is_path_prefix, with_rest}

-- no rest
pub with_rest-nil : (path rest : List ℕ) → length rest ≡ 0 → with_rest path rest ≡ path
unfolding with_rest
with_rest-nil path [] none = refl
with_rest-nil path (x ∷ rest) none = absurd (omega arith)

-- a rest after the root
pub with_rest-root : (path rest : List ℕ) → length rest ≢ 0 → is_root path ≡ true → with_rest path rest ≡ rest
unfolding with_rest
with_rest-root path [] some e = absurd (some refl)
with_rest-root path (x ∷ rest) some e = rw e refl

-- a rest after any other path
pub with_rest-other : (path rest : List ℕ) → length rest ≢ 0 → is_root path ≡ false → with_rest path rest ≡ path ++ rest
unfolding with_rest
with_rest-other path [] some e = absurd (some refl)
with_rest-other path (x ∷ rest) some e = rw e refl

-- a path that begins with another is made of it and of what follows it
made_of : (front path : List ℕ) → bytes_eq (take (length front) path) front ≡ true → front ++ drop (length front) path ≡ path
made_of front path e = ap (λ (l : List ℕ). l ++ drop (length front) path) (sym ((bytes_eq-Decides (take (length front) path) front).0 e)) ∙ take-append-drop (length front) path

-- where it begins so, what follows decides whether it is that with a rest
pub append_eq-some : (front rest path after : List ℕ) → bytes_eq (take (length front) path) front ≡ true → after ≡ drop (length front) path → bytes_eq after rest ≡ bytes_eq (front ++ rest) path
append_eq-some front rest path after e is =
    let whole : front ++ after ≡ path = ap (λ (l : List ℕ). front ++ l) is ∙ made_of front path e in
    let there = bytes_eq-Decides (front ++ rest) path in
    let here = bytes_eq-Decides after rest in
    same_from_decides {P = after ≡ rest} _ _ here (λ t. append_cancel_left front after rest (whole ∙ sym (there.0 t)), λ s. there.1 (ap (λ (l : List ℕ). front ++ l) (sym s) ∙ whole))

-- where it does not, it is that with no rest
pub append_eq-none : (front rest path : List ℕ) → bytes_eq (take (length front) path) front ≡ false → bytes_eq (front ++ rest) path ≡ false
append_eq-none front rest path e =
    false_from_ne_true _
    (λ t. let whole : front ++ rest ≡ path = (bytes_eq-Decides (front ++ rest) path).0 t in
    let begins : bytes_eq (take (length front) path) front ≡ true = (bytes_eq-Decides _ _).1 (ap (take (length front)) (sym whole) ∙ take_at front rest (length front) refl) in cc)

-- which of three parts stand
stands : {X : Type 0} (a b c : Bool) (x y z : X) → is_not_empty (cond a (x ∷ []) [] ++ cond b (y ∷ []) [] ++ cond c (z ∷ []) []) ≡ (a || (b || c))
stands true b c x y z = by b c
  where
    by : (b c : Bool) → is_not_empty ((x ∷ []) ++ cond b (y ∷ []) [] ++ cond c (z ∷ []) []) ≡ true
    by true true = refl
    by true false = refl
    by false true = refl
    by false false = refl
stands false true true x y z = refl
stands false true false x y z = refl
stands false false true x y z = refl
stands false false false x y z = refl

-- the three ways in which a text is a path prefix
abbrev pub is_whole : List ℕ → List ℕ → Bool
is_whole text path = bytes_eq text path

abbrev pub is_above : List ℕ → List ℕ → Bool
is_above text path = is_root text && begins_at_root path && nat_lt 1 (length path)

abbrev pub is_front : List ℕ → List ℕ → Bool
is_front text path = starts_with nat_eq path text && begins_at_root (drop (length text) path)

pub is_path_prefix-by : (text path : List ℕ) → is_path_prefix text path ≡ (is_whole text path || (is_above text path || is_front text path))
unfolding rests
is_path_prefix-by text path = stands (is_whole text path) (is_above text path) (is_front text path) [] path (drop (length text) path)

-- a path prefix is a front of the path, that ends where a prefix does
pub record IsFront (text path : List ℕ) : Type 0 where
  pub front : text ≡ take (length text) path
  pub within : length text ≤ length path
  pub ends : EndsPrefix path (length text)

-- the byte `/`
slash_is : (x : ℕ) → is_slash x ≡ true → x ≡ 47
slash_is x e = eqb-true x 47 e

above : (text path : List ℕ) → is_root text ≡ true → begins_at_root path ≡ true → IsFront text path
above [] path root begins = cc
above (x ∷ []) [] root begins = cc
above (x ∷ []) (y ∷ path) root begins = record {
  front = ap (λ (b : ℕ). b ∷ []) (slash_is x root ∙ sym (slash_is y begins));
  within = omega arith;
  ends = inr (inl refl);
}
above (x ∷ y ∷ text) path root begins = cc

nothing_begins : (n : ℕ) → begins_at_root (drop n []) ≡ true → ⊥
nothing_begins zero e = cc
nothing_begins (suc n) e = cc

-- where what is left begins at the root, a slash stands
slash_at : (n : ℕ) (path : List ℕ) → begins_at_root (drop n path) ≡ true → (n < length path) × (get_or path n 0 ≡ 47)
slash_at n [] e = absurd (nothing_begins n e)
slash_at zero (x ∷ path) e = (omega arith, slash_is x e)
slash_at (suc n) (x ∷ path) e = let h = slash_at n path e in (omega (arith, h.0), h.1)

follows : (text path : List ℕ) → is_front text path ≡ true → IsFront text path
follows text path e =
    let parts = and_parts _ _ e in
    let slash = slash_at (length text) path parts.1 in
    record {
      front = (bytes_eq-Decides text (take (length text) path)).0 parts.0;
      within = omega (arith, slash.0);
      ends = inr (inr slash.1);
    }

whole : (text path : List ℕ) → text ≡ path → IsFront text path
whole text path e = record {
  front = e ∙ sym (take_all (length text) path (omega (arith, ap length e)));
  within = omega (arith, ap length e);
  ends = inl (ap length e);
}

pub IsFront-from : (text path : List ℕ) → is_path_prefix text path ≡ true → IsFront text path
IsFront-from text path e = elim (or_cases _ _ (sym (is_path_prefix-by text path) ∙ e)) [
  | inl same ↦ whole text path ((bytes_eq-Decides text path).0 same)
  | inr other ↦ elim (or_cases _ _ other) [
    | inl up ↦ let parts = and_parts _ _ up in let first = and_parts _ _ parts.0 in above text path first.0 first.1
    | inr on ↦ follows text path on
  ]
]

-- the root above a longer path
root_above : (path : List ℕ) (n : ℕ) → begins_at_root path ≡ true → n < length path → n ≡ 1 → is_above (take n path) path ≡ true
root_above [] n begins inside one = cc
root_above (x ∷ path) n begins inside one =
    subst (λ (k : ℕ). is_above (take k (x ∷ path)) (x ∷ path) ≡ true) (sym one) (and_from _ _ (and_from _ _ begins begins) (lt-ltb 1 (length (x ∷ path)) (omega arith)))

-- a front that a slash follows
slash_after : (path : List ℕ) (n : ℕ) → n < length path → get_or path n 0 ≡ 47 → length (take n path) ≡ n → is_front (take n path) path ≡ true
slash_after path n inside slash len =
    let same : take n path ≡ take (length (take n path)) path = ap (λ (k : ℕ). take k path) (sym len) in
    let rest : drop (length (take n path)) path ≡ get_or path n 0 ∷ drop (n + 1) path = ap (λ (k : ℕ). drop k path) len ∙ drop_more path n 0 inside in
    and_from _ _ ((bytes_eq-Decides (take n path) (take (length (take n path)) path)).1 same) (ap begins_at_root rest ∙ eq-eqb (get_or path n 0) 47 slash)

-- a front that ends where a prefix does is a path prefix
pub is_path_prefix-take : (path : List ℕ) (n : ℕ) → begins_at_root path ≡ true → 0 < n → n ≤ length path → EndsPrefix path n → is_path_prefix (take n path) path ≡ true
is_path_prefix-take path n begins some within ends =
    let len : length (take n path) ≡ n = length-take-le n path within in
    is_path_prefix-by (take n path) path ∙ elim (cases_lt n (length path)) [
      | inr past ↦ or_left _ _ ((bytes_eq-Decides (take n path) path).1 (take_all n path past))
      | inl inside ↦ or_right (is_whole (take n path) path) _ (elim ends [
        | inl all ↦ absurd (omega arith)
        | inr other ↦ elim other [
          | inl one ↦ or_left _ _ (root_above path n begins inside one)
          | inr slash ↦ or_right (is_above (take n path) path) _ (slash_after path n inside slash len)
        ]
      ])
    ]
