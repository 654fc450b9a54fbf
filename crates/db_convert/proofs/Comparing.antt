-- Comparisons skip what both texts begin with.
use Rattle.std.proofs.Common.{◌≡◌, ℕ, zero, suc, ◌+◌, ◌≤◌, Bool, true, false, cond, eqb, List, [], ◌∷◌, drop, refl, sym, ap, ◌∙◌, arith, Ordering}
use Rattle.std.specs.Prelude.{◌&&◌}
use Rattle.std.proofs.lemmas.Bool.{eqb-true}
use Rattle.std.proofs.lemmas.Cmp.{nat_cmp_total, tied_itself}
use Rattle.std.proofs.lemmas.Slice.Eq.{bytes_eq-Decides}
use Rattle.std.specs.Cmp.{both_ways, Equal-is}
use Rattle.std.specs.Ordering.{nat_cmp, ordering_then, is_eq, eq_by_cmp}
use Rattle.std.specs.Str.{bytes_eq}
use Rattle.path_order.specs.Order.{path_cmp, rank}
use Rattle.byte_feed.specs.Prefix.{common_prefix}
use Rattle.db_convert.specs.Blocks.{Entry, byte_cmp, entry_cmp}
use Rattle.db_convert.proofs.Directories.{first, second, both, entry_total, entry_apart}

past_first : (F : List ℕ → List ℕ → Ordering) → ((x : ℕ) (a b : List ℕ) → F (x ∷ a) (x ∷ b) ≡ F a b) → (n x y : ℕ) (a b : List ℕ) (same : Bool) → eqb x y ≡ same → suc n ≤ cond same (1 + common_prefix a b) 0 → (n ≤ common_prefix a b → F a b ≡ F (drop n a) (drop n b)) → F (x ∷ a) (y ∷ b) ≡ F (drop n a) (drop n b)
past_first F step n x y a b true is le go = ap (λ (z : ℕ). F (x ∷ a) (z ∷ b)) (sym (eqb-true x y is)) ∙ step x a b ∙ go (omega (arith, le))
past_first F step n x y a b false is le go = absurd (omega (arith, le))

past : (F : List ℕ → List ℕ → Ordering) → ((x : ℕ) (a b : List ℕ) → F (x ∷ a) (x ∷ b) ≡ F a b) → (n : ℕ) (a b : List ℕ) → n ≤ common_prefix a b → F a b ≡ F (drop n a) (drop n b)
past F step zero a b le = refl
past F step (suc n) [] b le = absurd (omega (arith, le))
past F step (suc n) (x ∷ a) [] le = absurd (omega (arith, le))
past F step (suc n) (x ∷ a) (y ∷ b) le = past_first F step n x y a b (eqb x y) refl le (past F step n a b)

tied : (x : ℕ) (o : Ordering) → ordering_then (nat_cmp x x) o ≡ o
tied x o = ap (λ (q : Ordering). ordering_then q o) (tied_itself nat_cmp_total x)

-- texts in path order, and in the order of their bytes
pub path_past : (n : ℕ) (a b : List ℕ) → n ≤ common_prefix a b → path_cmp a b ≡ path_cmp (drop n a) (drop n b)
path_past n a b le = past path_cmp (λ x a b. tied (rank x) (path_cmp a b)) n a b le

pub byte_past : (n : ℕ) (a b : List ℕ) → n ≤ common_prefix a b → byte_cmp a b ≡ byte_cmp (drop n a) (drop n b)
byte_past n a b le = past byte_cmp (λ x a b. tied x (byte_cmp a b)) n a b le

-- entries tie where both parts are the same
same_parts : (a b : Entry) → (bytes_eq a.1 b.1 && bytes_eq a.0 b.0) ≡ eq_by_cmp entry_cmp a b
same_parts a b =
    both_ways _ _
    (λ e.
    let name : a.1 ≡ b.1 = (bytes_eq-Decides a.1 b.1).0 (first _ _ e) in
    let dir : a.0 ≡ b.0 = (bytes_eq-Decides a.0 b.0).0 (second _ _ e) in
    let is : a ≡ b = λ i. (dir i, name i) in
    ap (λ (x : Entry). eq_by_cmp entry_cmp a x) (sym is) ∙ ap is_eq (tied_itself entry_total a))
    (λ e.
    let is : a ≡ b = entry_apart a b ((Equal-is (entry_cmp a b)).0 e) in
    both _ _ ((bytes_eq-Decides a.1 b.1).1 (ap (λ (x : Entry). x.1) is)) ((bytes_eq-Decides a.0 b.0).1 (ap (λ (x : Entry). x.0) is)))

pub with_name : (a b : Entry) (dirs : Bool) → bytes_eq a.1 b.1 ≡ true → dirs ≡ bytes_eq a.0 b.0 → dirs ≡ eq_by_cmp entry_cmp a b
with_name a b dirs name is = is ∙ ap (λ (t : Bool). t && bytes_eq a.0 b.0) (sym name) ∙ same_parts a b

pub with_other_name : (a b : Entry) (names : Bool) → names ≡ false → bytes_eq a.1 b.1 ≡ names → names ≡ eq_by_cmp entry_cmp a b
with_other_name a b names off is = off ∙ ap (λ (t : Bool). t && bytes_eq a.0 b.0) (sym (is ∙ off)) ∙ same_parts a b
