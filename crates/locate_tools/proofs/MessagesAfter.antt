-- What was told after a call that may have failed.
use Rattle.std.proofs.Common.{◌≡◌, ℕ, ◌+◌, ◌<◌, List, ◌∷◌, ◌++◌, length, take, drop, get_or, Option, Result, Ok, Err, OnOk, OnErr, subst, sym, ap, ◌∙◌, append_assoc}
use Rattle.std.specs.List.{flat_map}
use Rattle.std.specs.Io.KnownBytes.{Appends}
use Rattle.std.proofs.lemmas.Grind.{flat_map-append}
use Rattle.std.proofs.lemmas.List.{take-append-drop}
use Rattle.std.proofs.Math.Seq.{drop-cons}
use Rattle.std.proofs.Common.{add-one}
use Rattle.loc_outside.specs.Outside.{AppendsPart}
use Rattle.loc_outside.proofs.PartTaken.{part_first, part_second, part_all}

-- a fact holds for a failure too
pub on_err : {A E : Type 0} (r : Result A E) (P : Type 0) → P → OnErr r P
on_err (Ok x) P fact = tt
on_err (Err e) P fact = fact

pub on_err_by : {A E : Type 0} (r : Result A E) (P Q : Type 0) → (P → Q) → OnErr r P → OnErr r Q
on_err_by (Ok x) P Q go h = h
on_err_by (Err e) P Q go h = go h

-- the whole was told, or a first part
pub part_of : {A E : Type 0} (r : Result A E) (u w : Option (List ℕ)) (xs : List ℕ) → OnOk r (Appends u w xs) → OnErr r (AppendsPart u w xs) → AppendsPart u w xs
part_of (Ok x) u w xs ok err = part_all u w xs ok
part_of (Err e) u w xs ok err = err

-- the pieces before one, that one, and those after it
pub pieces_at : {X : Type 0} (f : X → List ℕ) (xs : List X) (i : ℕ) (d : X) → i < length xs → (flat_map f (take i xs) ++ f (get_or xs i d)) ++ flat_map f (drop (i + 1) xs) ≡ flat_map f xs
pieces_at f xs i d h =
    let split : take i xs ++ get_or xs i d ∷ drop (i + 1) xs ≡ xs = rw (add-one, ← drop-cons xs i d h) (take-append-drop i xs) in
    append_assoc (flat_map f (take i xs)) (f (get_or xs i d)) _ ∙ sym (flat_map-append f (take i xs) (get_or xs i d ∷ drop (i + 1) xs)) ∙ ap (flat_map f) split

-- of the piece at a place a first part was taken, after those before it
pub part_at : {X : Type 0} (f : X → List ℕ) (xs : List X) (i : ℕ) (d : X) (u v w : Option (List ℕ)) → i < length xs → Appends u v (flat_map f (take i xs)) → AppendsPart v w (f (get_or xs i d)) → AppendsPart u w (flat_map f xs)
part_at f xs i d u v w h before part =
    subst (AppendsPart u w) (pieces_at f xs i d h) (part_first u w _ _ (part_second u v w _ _ before part))
