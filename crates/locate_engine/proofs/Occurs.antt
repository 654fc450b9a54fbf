-- Where a text occurs, and whether it does.
use Rattle.std.proofs.Common.{◌≡◌, ℕ, zero, suc, ◌+◌, ◌<◌, Bool, true, false, List, [], ◌∷◌, ◌++◌, length, take, drop, get_or, Option, Some, None, refl, sym, ap, ◌∙◌, arith, length-append, length-take}
use Rattle.std.specs.Prelude.{nat_eq, ◌||◌}
use Rattle.std.specs.Option.{is_some}
use Rattle.std.specs.List.{starts_with}
use Rattle.std.proofs.lemmas.Bool.Decides.{Decides-eqb}
use Rattle.std.proofs.lemmas.Slice.Eq.{starts_is}
use Rattle.std.proofs.lemmas.List.{get_or_append_left, take-append-drop, get_or-take}
use Rattle.std.proofs.lemmas.Grind.{same_number_lists}
use Rattle.memchr.specs.Find.{OccursAt, FindsNeedle}
use Rattle.locate_engine.specs.Wanted.{occurs}

-- the text stands at the front
stands : (path text : List ℕ) → OccursAt path text 0 → starts_with nat_eq path text ≡ true
stands path text at =
    let len : length (take (length text) path) ≡ length text = omega (arith, length-take (length text) path, at.fits) in
    let front : take (length text) path ≡ text = same_number_lists _ _ len (λ j lt. let below : j < length text = omega (arith, len, lt) in let same : 0 + j ≡ j = omega arith in get_or-take (length text) path j 0 below ∙ ap (λ (i : ℕ). get_or path i 0) (sym same) ∙ at.reads j below) in
    (starts_is Decides-eqb path text (starts_with nat_eq path text) refl).1 (drop (length text) path) (sym (take-append-drop (length text) path) ∙ ap (λ (l : List ℕ). l ++ drop (length text) path) front)

fronts : (path text : List ℕ) → starts_with nat_eq path text ≡ true → OccursAt path text 0
fronts path text is =
    let whole : path ≡ text ++ drop (length text) path = (starts_is Decides-eqb path text (starts_with nat_eq path text) refl).0 is in
    record {
      fits = omega (arith, ap length whole, length-append text (drop (length text) path));
      reads = λ j lt. let same : 0 + j ≡ j = omega arith in ap (λ (i : ℕ). get_or path i 0) same ∙ ap (λ (l : List ℕ). get_or l j 0) whole ∙ get_or_append_left text (drop (length text) path) 0 j lt;
    }

or_true : (a b : Bool) → b ≡ true → (a || b) ≡ true
or_true true b e = refl
or_true false b e = e

or_first : (a b : Bool) → a ≡ true → (a || b) ≡ true
or_first a b e = ap (λ (c : Bool). c || b) e

later_at : (byte : ℕ) (path text : List ℕ) (k : ℕ) → OccursAt (byte ∷ path) text (suc k) → OccursAt path text k
later_at byte path text k at = record {
  fits = omega (arith, at.fits);
  reads = λ j lt. let same : suc k + j ≡ suc (k + j) = omega arith in ap (λ (i : ℕ). get_or (byte ∷ path) i 0) (sym same) ∙ at.reads j lt;
}

earlier_at : (byte : ℕ) (path text : List ℕ) (k : ℕ) → OccursAt path text k → OccursAt (byte ∷ path) text (suc k)
earlier_at byte path text k at = record {
  fits = omega (arith, at.fits);
  reads = λ j lt. let same : suc k + j ≡ suc (k + j) = omega arith in ap (λ (i : ℕ). get_or (byte ∷ path) i 0) same ∙ at.reads j lt;
}

-- where it stands at a place, it occurs
pub occurs_at : (path text : List ℕ) (k : ℕ) → OccursAt path text k → occurs text path ≡ true
occurs_at [] text zero at = stands [] text at
occurs_at [] text (suc k) at = absurd (omega (arith, at.fits))
occurs_at (byte ∷ path) text zero at = or_first _ _ (stands (byte ∷ path) text at)
occurs_at (byte ∷ path) text (suc k) at = or_true (starts_with nat_eq (byte ∷ path) text) _ (occurs_at path text k (later_at byte path text k at))

-- where it occurs, it stands at a place
found_by : (byte : ℕ) (path text : List ℕ) (b : Bool) (P : Type 0) → starts_with nat_eq (byte ∷ path) text ≡ b → (b || occurs text path) ≡ true → ((k : ℕ) → OccursAt (byte ∷ path) text k → P) → ((occurs text path ≡ true) → P) → P
found_by byte path text true P is e here there = here 0 (fronts (byte ∷ path) text is)
found_by byte path text false P is e here there = there e

pub place_of : (path text : List ℕ) (P : Type 0) → occurs text path ≡ true → ((k : ℕ) → OccursAt path text k → P) → P
place_of [] text P e go = go 0 (fronts [] text e)
place_of (byte ∷ path) text P e go = found_by byte path text (starts_with nat_eq (byte ∷ path) text) P refl e go (λ later. place_of path text P later (λ k at. go (suc k) (earlier_at byte path text k at)))

nowhere : (b : Bool) → (b ≡ true → ⊥) → false ≡ b
nowhere true h = absurd (h refl)
nowhere false h = refl

-- what a search for its first place tells
pub found_occurs : (path text : List ℕ) (r : Option ℕ) → FindsNeedle path text 0 r → is_some r ≡ occurs text path
found_occurs path text None none = nowhere (occurs text path) (λ e. place_of path text ⊥ e (λ k at. none k (omega arith) (omega (arith, at.fits)) at))
found_occurs path text (Some k) found = sym (occurs_at path text k found.1)
