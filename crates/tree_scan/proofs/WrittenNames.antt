-- What was written, name by name.
use Rattle.std.proofs.Common.{◌≡◌, ℕ, zero, suc, ◌+◌, ◌≤◌, Bool, true, false, List, [], ◌∷◌, ◌++◌, length, take, drop, flat_map, slice_get, IsSomeAnd, IsTrue, All, sym, ◌∙◌, ap, subst, arith, Option, Some, None, Ok, Err, Result, append_assoc, append-nil, if◌then◌else◌, is_some, true≢false, add-one}
use Rattle.std.specs.Prelude.{IfErr, OnErr, OnOk, IsOk}
use Rattle.std.specs.Option.{option_map_or}
use Rattle.std.proofs.lemmas.List.{take_all}
use Rattle.std.proofs.KnownBytes.{Appends-nil, Appends-trans}
use Rattle.std.specs.Io.KnownBytes.{Appends}
use Rattle.path_order.specs.declared.kind.Kind.{Kind}
use Rattle.path_order.specs.NameList.{Listed}
use Rattle.loc_outside.specs.Outside.{AppendsPart}
use Rattle.loc_outside.proofs.PartTaken.{part_first, part_second}
use Rattle.tree_scan.specs.Admitted.{fits_in}
use Rattle.tree_scan.specs.Blocks.{line, lines_of}

abbrev pub Known : Type 0
Known = Option (List ℕ)

pub not_none : {A : Type 0} (x : A) → Some x ≡ None → ⊥
not_none x e = true≢false (ap is_some e)

pub some_is : {A : Type 0} (x y : A) → Some x ≡ Some y → x ≡ y
some_is x y e = ap (λ (o : Option _). option_map_or (λ z. z) o x) e

-- the elements up to a place, and the one there
pub flat_more : {A B : Type 0} (f : A → List B) (xs : List A) (i : ℕ) (x : A) → slice_get xs i ≡ Some x → flat_map f (take (suc i) xs) ≡ flat_map f (take i xs) ++ f x
flat_more f [] i x e = absurd (not_none x (sym e))
flat_more f (y ∷ ys) zero x e = append-nil (f y) ∙ ap f (some_is y x e)
flat_more f (y ∷ ys) (suc i) x e = ap (λ (l : List _). f y ++ l) (flat_more f ys i x e) ∙ sym (append_assoc (f y) (flat_map f (take i ys)) (f x))

-- and those after it
flat_rest : {A B : Type 0} (f : A → List B) (xs : List A) (i : ℕ) (x : A) → slice_get xs i ≡ Some x → (flat_map f (take i xs) ++ f x) ++ flat_map f (drop (suc i) xs) ≡ flat_map f xs
flat_rest f [] i x e = absurd (not_none x (sym e))
flat_rest f (y ∷ ys) zero x e = ap (λ (z : _). f z ++ flat_map f ys) (sym (some_is y x e))
flat_rest f (y ∷ ys) (suc i) x e =
    ap (λ (l : List _). l ++ flat_map f (drop (suc i) ys)) (append_assoc (f y) (flat_map f (take i ys)) (f x)) ∙ append_assoc (f y) (flat_map f (take i ys) ++ f x) (flat_map f (drop (suc i) ys))
    ∙ ap (λ (l : List _). f y ++ l) (flat_rest f ys i x e)

-- the name and the kind at a place are those of one entry
pub here_by : (o : Option (List ℕ × Kind)) (n : List ℕ) (k : Kind) → IsSomeAnd o (λ e. n ≡ e.0) → IsSomeAnd o (λ e. k ≡ e.1) → o ≡ Some (n, k)
here_by None n k h g = absurd h
here_by (Some e) n k h g = λ i. Some (sym h i, sym g i)

-- one more piece
pub pieces_more : (f : List ℕ × Kind → List ℕ) (u v w : Known) (names : Listed) (at : ℕ) (n : List ℕ) (k : Kind) → slice_get names at ≡ Some (n, k)
    → Appends u v (flat_map f (take at names)) → Appends v w (f (n, k)) → Appends u w (flat_map f (take (at + 1) names))
pieces_more f u v w names at n k here first more =
    let step : flat_map f (take (at + 1) names) ≡ flat_map f (take at names) ++ f (n, k) =
    ap (λ (i : ℕ). flat_map f (take i names)) (add-one at) ∙ flat_more {A = List ℕ × Kind} f names at (n, k) here in
    subst (λ (l : List ℕ). Appends u w l) (sym step) (Appends-trans u v w _ _ first more)

-- a first part of one more piece
pub pieces_part : (f : List ℕ × Kind → List ℕ) (u v w : Known) (names : Listed) (at : ℕ) (n : List ℕ) (k : Kind) → slice_get names at ≡ Some (n, k)
    → Appends u v (flat_map f (take at names)) → AppendsPart v w (f (n, k)) → AppendsPart u w (flat_map f names)
pieces_part f u v w names at n k here first more =
    subst (λ (l : List ℕ). AppendsPart u w l) (flat_rest {A = List ℕ × Kind} f names at (n, k) here)
    (part_first u w (flat_map f (take at names) ++ f (n, k)) (flat_map f (drop (suc at) names)) (part_second u v w (flat_map f (take at names)) (f (n, k)) first more))

pub pieces_all : (f : List ℕ × Kind → List ℕ) (u v : Known) (names : Listed) (at : ℕ) → length names ≤ at → Appends u v (flat_map f (take at names)) → Appends u v (flat_map f names)
pieces_all f u v names at h first = subst (λ (l : Listed). Appends u v (flat_map f l)) (take_all at names h) first

-- the same of the lines
pub lines_more : (verbose : Bool) (path : List ℕ) (u v w : Known) (names : Listed) (at : ℕ) (n : List ℕ) (k : Kind) → slice_get names at ≡ Some (n, k)
    → Appends u v (lines_of verbose path (take at names)) → Appends v w (if verbose then line path (n, k) else []) → Appends u w (lines_of verbose path (take (at + 1) names))
lines_more true path u v w names at n k here first more = pieces_more (line path) u v w names at n k here first more
lines_more false path u v w names at n k here first more = Appends-trans u v w [] [] first more

pub lines_part : (verbose : Bool) (path : List ℕ) (u v w : Known) (names : Listed) (at : ℕ) (n : List ℕ) (k : Kind) → slice_get names at ≡ Some (n, k)
    → Appends u v (lines_of verbose path (take at names)) → AppendsPart v w (if verbose then line path (n, k) else []) → AppendsPart u w (lines_of verbose path names)
lines_part true path u v w names at n k here first more = pieces_part (line path) u v w names at n k here first more
lines_part false path u v w names at n k here first more = part_second u v w [] [] first more

pub lines_all : (verbose : Bool) (path : List ℕ) (u v : Known) (names : Listed) (at : ℕ) → length names ≤ at → Appends u v (lines_of verbose path (take at names)) → Appends u v (lines_of verbose path names)
lines_all verbose path u v names at h first = subst (λ (l : Listed). Appends u v (lines_of verbose path l)) (take_all at names h) first

-- where nothing is echoed
pub lines_none : (verbose : Bool) (path : List ℕ) (names : Listed) (u : Known) → Appends u u (lines_of verbose path (take 0 names))
lines_none true path names u = Appends-nil u
lines_none false path names u = Appends-nil u

pub when_err : {A E : Type 0} (r : Result A E) (P : Type 0) → P → OnErr r P
when_err (Ok x) P p = tt
when_err (Err e) P p = p

pub if_err : {A E : Type 0} (r : Result A E) (e : E) (P : E → Type 0) → r ≡ Err e → P e → IfErr r P
if_err r e P is p = subst (λ (x : Result _ _). IfErr x P) (sym is) p

pub when_ok : {A E : Type 0} (r : Result A E) (P : Type 0) → IsOk r → OnOk r P → P
when_ok (Ok x) P h p = p
when_ok (Err e) P h p = absurd (true≢false (sym h))

-- a name at a place, among names that all fit
pub fits_at : (path : List ℕ) (names : Listed) (at : ℕ) (n : List ℕ) → All (λ e. IsTrue (fits_in path e.0)) names → IsSomeAnd (slice_get names at) (λ e. n ≡ e.0) → fits_in path n ≡ true
fits_at path [] at n all here = absurd here
fits_at path (e ∷ names) zero n all here = ap (fits_in path) here ∙ all zero e (omega arith)
fits_at path (e ∷ names) (suc at) n all here = fits_at path names at n (λ k d h. all (suc k) d (omega (arith, h))) here
