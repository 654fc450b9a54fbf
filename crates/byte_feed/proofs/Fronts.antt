-- The front of a file, for every format that keeps its laws.
use Rattle.std.proofs.Common.{◌≡◌, ℕ, zero, suc, ◌≤◌, Bool, not, List, [], ◌∷◌, ◌++◌, length, take, Result, Ok, Err, refl, sym, ap, ◌∙◌, subst, inl, inr, append_assoc, length-append, length-take, arith}
use Rattle.std.proofs.lemmas.Bool.{cases_lt}
use Rattle.std.proofs.lemmas.List.{append-nil, nil_from_length, get_or-take, get_or_past}
use Rattle.byte_feed.specs.declared.damage.Stop.{Stop}
use Rattle.byte_feed.specs.Front.{Format, spelling, Follow, left_by, Window, limit, readable, BeginsWith, IsFront, on_ok, items_within, items_of, front, IsBytes, Shrinks, Laws}

on_ok_same : {A B E : Type 0} (none : B) (f g : A → B) (r : Result A E) → ((x : A) → r ≡ Ok x → f x ≡ g x) → on_ok none f r ≡ on_ok none g r
on_ok_same none f g (Ok x) h = h x refl
on_ok_same none f g (Err e) h = refl

on_ok_none : {A B E : Type 0} (none : B) (f : A → B) (r : Result A E) → ((x : A) → r ≡ Ok x → ⊥) → on_ok none f r ≡ none
on_ok_none none f (Ok x) h = absurd (h x refl)
on_ok_none none f (Err e) h = refl

on_ok_is : {A B E : Type 0} (P : B → Type 0) (none : B) (f : A → B) (r : Result A E) → P none → ((x : A) → r ≡ Ok x → P (f x)) → P (on_ok none f r)
on_ok_is P none f (Ok x) bare some = some x refl
on_ok_is P none f (Err e) bare some = bare

-- ---- one item after the other

-- as many steps as there are bytes are enough
within_enough : (f : Format) → Shrinks f → (n m : ℕ) (last : Bool) (s : f.State) (bytes : List ℕ) → length bytes ≤ n → length bytes ≤ m → items_within f n last s bytes ≡ items_within f m last s bytes
unfolding items_within
within_enough f sh zero zero last s bytes a b = refl
within_enough f sh zero (suc m) last s bytes a b = sym (on_ok_none _ _ _ (λ (x : f.Item × List ℕ) e. absurd (omega (arith, sh.shorter last s bytes x.0 x.1 e))))
within_enough f sh (suc n) zero last s bytes a b = on_ok_none _ _ _ (λ (x : f.Item × List ℕ) e. absurd (omega (arith, sh.shorter last s bytes x.0 x.1 e)))
within_enough f sh (suc n) (suc m) last s bytes a b = on_ok_same _ _ _ _ (λ (x : f.Item × List ℕ) e.
    let less = sh.shorter last s bytes x.0 x.1 e in
    ap (λ (r : List f.Item). x.0 ∷ r) (within_enough f sh n m last (f.after s x.0) x.1 (omega (arith, less)) (omega (arith, less))))

pub items_more : (f : Format) → Shrinks f → (last : Bool) (s : f.State) (bytes : List ℕ) (i : f.Item) (rest : List ℕ) → f.item_at last s bytes ≡ Ok (i, rest)
    → items_of f last s bytes ≡ i ∷ items_of f last (f.after s i) rest
unfolding items_of items_within
items_more f sh last s bytes i rest e =
    let less = sh.shorter last s bytes i rest e in
    within_enough f sh (length bytes) (suc (length bytes)) last s bytes (omega arith) (omega arith)
    ∙ rw e (ap (λ (r : List f.Item). i ∷ r) (within_enough f sh (length bytes) (length rest) last (f.after s i) rest (omega (arith, less)) (omega arith)))

within_none : (f : Format) (n : ℕ) (last : Bool) (s : f.State) (bytes : List ℕ) (stop : Stop) → f.item_at last s bytes ≡ Err stop → items_within f n last s bytes ≡ []
unfolding items_within
within_none f zero last s bytes stop e = refl
within_none f (suc n) last s bytes stop e = rw e refl

pub items_none : (f : Format) (last : Bool) (s : f.State) (bytes : List ℕ) (stop : Stop) → f.item_at last s bytes ≡ Err stop → items_of f last s bytes ≡ []
unfolding items_of
items_none f last s bytes stop e = within_none f (length bytes) last s bytes stop e

-- Whatever items the bytes begin with, these are read first.
pub items_begin : (f : Format) → Shrinks f → Laws f → (others : List f.Item) (last : Bool) (s : f.State) (bytes rest : List ℕ) → Follow f s others last rest → bytes ≡ spelling f others ++ rest
    → items_of f last s bytes ≡ others ++ items_of f last (left_by f s others) rest
items_begin f sh laws [] last s bytes rest rules e = ap (items_of f last s) e
items_begin f sh laws (i ∷ is) last s bytes rest rules e =
    let whole : bytes ≡ f.spell i ++ (spelling f is ++ rest) = e ∙ append_assoc (f.spell i) (spelling f is) rest in
    let read : f.item_at last s bytes ≡ Ok (i, spelling f is ++ rest) = ap (f.item_at last s) whole ∙ laws.again last s i (spelling f is ++ rest) rules.0 in
    items_more f sh last s bytes i (spelling f is ++ rest) read
    ∙ ap (λ (r : List f.Item). i ∷ r) (items_begin f sh laws is last (f.after s i) (spelling f is ++ rest) rest rules.1 refl)

within_begins : (f : Format) → Laws f → (n : ℕ) (s : f.State) (bytes : List ℕ) (more : Bool) → IsBytes bytes
    → BeginsWith f s (record { bytes = bytes; more = more }) (items_within f n (not more) s bytes)
unfolding items_within
within_begins f laws zero s bytes more small = record { rest = bytes; whole = refl; rules = tt }
within_begins f laws (suc n) s bytes more small =
    on_ok_is (λ (is : List f.Item). BeginsWith f s (record { bytes = bytes; more = more }) is) [] (λ x. x.0 ∷ items_within f n (not more) (f.after s x.0) x.1) (f.item_at (not more) s bytes)
    (record { rest = bytes; whole = refl; rules = tt })
    (λ x e.
    let t = laws.takes (not more) s bytes x.0 x.1 small e in
    let b = within_begins f laws n (f.after s x.0) x.1 more t.2 in
    record {
      rest = b.rest;
      whole = t.1 ∙ ap (λ (r : List ℕ). f.spell x.0 ++ r) b.whole ∙ sym (append_assoc (f.spell x.0) (spelling f (items_within f n (not more) (f.after s x.0) x.1)) b.rest);
      rules = (subst (λ (r : List ℕ). f.allowed s x.0 (not more) r) b.whole t.0, b.rules);
    })

-- what is read is what the bytes begin with
pub items_of_begins : (f : Format) → Laws f → (s : f.State) (bytes : List ℕ) (more : Bool) → IsBytes bytes → BeginsWith f s (record { bytes = bytes; more = more }) (items_of f (not more) s bytes)
unfolding items_of
items_of_begins f laws s bytes more small = within_begins f laws (length bytes) s bytes more small

-- ---- unique reading

abbrev read : {A : Type 0} → A → List ℕ → Result (A × List ℕ) Stop
read i rest = Ok (i, rest)

abbrev or_else : {A : Type 0} → A → Result A Stop → A
or_else d (Ok x) = x
or_else d (Err s) = d

read_same : {A : Type 0} (i j : A) (a b : List ℕ) → read i a ≡ read j b → (i ≡ j) × (a ≡ b)
read_same i j a b e = (ap (λ (r : Result (_ × List ℕ) Stop). (or_else (i, a) r).0) e, ap (λ (r : Result (_ × List ℕ) Stop). (or_else (i, a) r).1) e)

-- Of two items that are allowed in a state, none begins as the other.
pub one_item : (f : Format) → Laws f → (last : Bool) (s : f.State) (i j : f.Item) (a b : List ℕ) → f.allowed s i last a → f.allowed s j last b → f.spell i ++ a ≡ f.spell j ++ b → (i ≡ j) × (a ≡ b)
one_item f laws last s i j a b h k e = read_same i j a b (sym (laws.again last s i a h) ∙ ap (f.item_at last s) e ∙ laws.again last s j b k)

-- ---- bytes

pub IsBytes-take : (n : ℕ) (bytes : List ℕ) → IsBytes bytes → IsBytes (take n bytes)
IsBytes-take n bytes small i = elim (cases_lt i n) [
  | inl below ↦ rw (get_or-take n bytes i 0 below) (small i)
  | inr past ↦ rw (get_or_past (take n bytes) i 0 (omega (arith, length-take n bytes))) (omega arith)
]

-- ---- the front

longest_at : (f : Format) → Shrinks f → Laws f → (s : f.State) (w : Window) (others : List f.Item) → BeginsWith f s w others → length others ≤ length (items_of f (not w.more) s w.bytes)
longest_at f sh laws s w others b =
    let all = items_begin f sh laws others (not w.more) s w.bytes b.rest b.rules b.whole in
    omega (arith, ap length all, length-append others (items_of f (not w.more) (left_by f s others) b.rest))

pub front_is_front : (f : Format) → Shrinks f → Laws f → (file : List ℕ) → IsBytes file → IsFront f file (front f file)
front_is_front f sh laws file small = record {
  begins = items_of_begins f laws f.begin (readable file).bytes (readable file).more (IsBytes-take limit file small);
  longest = λ others b. longest_at f sh laws f.begin (readable file) others b;
}

pub only_front : (f : Format) → Shrinks f → Laws f → (file : List ℕ) (items : List f.Item) → IsBytes file → IsFront f file items → front f file ≡ items
only_front f sh laws file items small h =
    let w = readable file in
    let b = h.begins in
    let all = items_begin f sh laws items (not w.more) f.begin w.bytes b.rest b.rules b.whole in
    let less = h.longest (front f file) (items_of_begins f laws f.begin w.bytes w.more (IsBytes-take limit file small)) in
    let others = items_of f (not w.more) (left_by f f.begin items) b.rest in
    let none : others ≡ [] = nil_from_length others (omega (arith, less, ap length all, length-append items others)) in
    all ∙ ap (λ (r : List f.Item). items ++ r) none ∙ append-nil items
