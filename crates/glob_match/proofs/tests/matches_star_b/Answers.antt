use Rattle.std.proofs.Common.{◌≡◌, ℕ, length, ap, ◌∙◌, arith}
use Rattle.glob_match.specs.Pattern.{Wanted, items_of}
use Rattle.glob_match.proofs.Units.{star_b-items}
use Rattle.glob_match.proofs.tests.matches_star_b.Goals as goal

pub returns : goal.returns
returns g c =
    let count : Wanted → ℕ = λ w. length (items_of w) in
    let two : length (items_of c.in_ok-glob.glob) ≡ 2 = ap count c.in_ok-glob.ensures ∙ star_b-items in
    omega (arith, c.matches.ensures.bound, two)
