use Rattle.std.proofs.Common.{List, ap, ◌∙◌, map, Bor, ℕ, [], Option}
use Rattle.std.specs.Prelude.{unwrap_or}
use Rattle.std.proofs.lemmas.Result.{IfOk-weaker}
use Rattle.clap.specs.Words.{Text, found_of}
use Rattle.clap.proofs.WalkLemmas.{raw_values-rows}
use Rattle.tool_words.specs.Matches.{found_in, values_of}
use Rattle.tool_words.proofs.matches.values_of.Goals as goal

pub returns-in-Some : goal.returns-in-Some
unfolding found_in values_of
returns-in-Some c =
    let rows = ap (λ (o : Option (List Text)). unwrap_or o []) (c.in-Some.ensures ∙ raw_values-rows (found_of c.args.matches.now) c.args.id.now) in
    IfOk-weaker c.copied.result _ _ (λ v same. ap (λ (xs : List (Bor (List ℕ))). map (λ (t : Bor (List ℕ)). t.now) xs) same ∙ rows) c.copied.ensures

pub returns-in-None : goal.returns-in-None
unfolding found_in values_of
returns-in-None c =
    let rows = ap (λ (o : Option (List Text)). unwrap_or o []) (c.in-None.ensures ∙ raw_values-rows (found_of c.args.matches.now) c.args.id.now) in
    ap (λ (xs : List (Bor (List ℕ))). map (λ (t : Bor (List ℕ)). t.now) xs) c.new.ensures.items ∙ rows
