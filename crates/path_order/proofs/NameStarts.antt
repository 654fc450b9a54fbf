-- What the place of a path's name tells.
use Rattle.std.proofs.Common.{◌≡◌, ℕ, ◌+◌, ◌-◌, List, not, length, drop, ap, arith, length-drop}
use Rattle.std.proofs.lemmas.List.Sums.{suffix_len_is}
use Rattle.std.specs.List.{suffix_len}
use Rattle.path_order.specs.Path.{is_slash, base_of}
use Rattle.path_order.specs.NameStarts.{IsNameStart}

pub name_from : (path : List ℕ) (start : ℕ) → IsNameStart path start → drop start path ≡ base_of path
name_from path start is =
    let rest : suffix_len (λ b. not (is_slash b)) path ≡ length path - start = suffix_len_is (λ b. not (is_slash b)) path start 0 is.within (λ k from to. ap not (is.after k from to)) (λ some. ap (λ (b : ℕ). not (is_slash b)) (is.slash some)) in
    ap (λ (n : ℕ). drop n path) (omega (arith, rest, is.within))

pub name_length : (path : List ℕ) (start : ℕ) → IsNameStart path start → start + length (base_of path) ≡ length path
name_length path start is = omega (arith, ap length (name_from path start is), length-drop start path, is.within)
