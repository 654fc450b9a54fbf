-- Known bytes that are taken or given part by part.
use Rattle.std.proofs.Common.{◌≡◌, ℕ, ◌+◌, ◌-◌, List, length, take, drop, Option, subst, arith, length-drop}
use Rattle.std.proofs.lemmas.List.{take_all}
use Rattle.std.proofs.Math.Seq.{take-add}
use Rattle.std.proofs.KnownBytes.{Appends-trans}
use Rattle.std.specs.Io.KnownBytes.{Appends}

-- what `&piece[i..]` is
pub rest_is : (i : ℕ) (piece : List ℕ) → take (length piece - i) (drop i piece) ≡ drop i piece
rest_is i piece = take_all _ _ (omega (arith, length-drop i piece))

-- the first i bytes were taken, and then n more
pub appends_more : (a b c : Option (List ℕ)) (piece : List ℕ) (i n : ℕ) → Appends a b (take i piece) → Appends b c (take n (take (length piece - i) (drop i piece))) → Appends a c (take (i + n) piece)
appends_more a b c piece i n first then =
    rw take-add (Appends-trans a b c _ _ first (subst (λ (rest : List ℕ). Appends b c (take n rest)) (rest_is i piece) then))
