-- What is held back, of which a first part is passed on.
use Rattle.std.proofs.Common.{◌≡◌, ℕ, List, [], ◌++◌, length, take, drop, Option, Some, None, refl, ap, ◌∙◌, append-nil, append_assoc, arith}
use Rattle.std.proofs.lemmas.List.{take-append-drop, take_all}
use Rattle.std.specs.Io.KnownBytes.{Appends, append_known}

-- what went on and what is held back then are together what was taken before
pub passed_on : (old new : Option (List ℕ)) (held : List ℕ) (count : ℕ) → (old ≡ None → new ≡ None) → Appends old new (take count held) → append_known new (drop count held) ≡ append_known old held
passed_on None new held count silent goes = ap (λ (o : Option (List ℕ)). append_known o (drop count held)) (silent refl)
passed_on (Some a) None held count silent goes = absurd goes
passed_on (Some a) (Some b) held count silent goes =
    ap (λ (l : List ℕ). Some l) (ap (λ (l : List ℕ). l ++ drop count held) goes ∙ append_assoc a (take count held) (drop count held) ∙ ap (λ (l : List ℕ). a ++ l) (take-append-drop count held))

-- all went on
pub all_on : (old new : Option (List ℕ)) (held : List ℕ) (count : ℕ) → count ≡ length held → (old ≡ None → new ≡ None) → Appends old new (take count held) → append_known new [] ≡ append_known old held
all_on None new held count all silent goes = ap (λ (o : Option (List ℕ)). append_known o []) (silent refl)
all_on (Some a) None held count all silent goes = absurd goes
all_on (Some a) (Some b) held count all silent goes =
    ap (λ (l : List ℕ). Some l) (append-nil b ∙ goes ∙ ap (λ (l : List ℕ). a ++ l) (take_all count held (omega (arith, all))))
