use Rattle.std.proofs.Common.{◌≡◌, ℕ, ◌≤◌, Bool, true, false, Bor, List, length, map, sym, arith}
use Rattle.std.specs.Prelude.{◌||◌, nat_lt}
use Rattle.std.proofs.lemmas.Bool.{false≢true, ltb-false}
use Rattle.std.proofs.lemmas.List.{length-map}
use Rattle.tool_words.specs.Matches.{found_in}
use Rattle.tool_words.specs.Locate.{has_conflict, lacks_pattern}
use Rattle.tool_words.proofs.locate.settings_of.Goals as goal

few_of : (a b : Bool) (n : ℕ) → a || (b || nat_lt 4096 n) ≡ false → n ≤ 4096
few_of true b n e = absurd (false≢true (sym e))
few_of false true n e = absurd (false≢true (sym e))
few_of false false n e = ltb-false 4096 n e

pub settings_with-requires-clause-few : goal.settings_with-requires-clause-few
settings_with-requires-clause-few c =
    let m = found_in c.args.matches.now in
    let names = c.as_slice.result.now in
    let few = few_of (has_conflict m) (lacks_pattern m) (length (map (λ (t : Bor (List ℕ)). t.now) names)) (sym c.if-breaks_rule.ensures) in
    omega (arith, few, length-map names (λ (t : Bor (List ℕ)). t.now), c.as_slice.ensures.len)
