use Rattle.std.proofs.Common.{ap, ◌∙◌, map, Bor, ℕ, List}
use Rattle.tool_words.specs.Locate.{databases_of}
use Rattle.tool_words.proofs.WordLemmas.{map-joined}
use Rattle.tool_words.proofs.locate.databases_of.Goals as goal

pub returns : goal.returns
unfolding databases_of
returns c = map-joined _ _ _ _ _ _ c.in_ok-extend_from_slice.ensures.items c.in_ok-databases.ensures
    (ap (λ (xs : List (Bor (List ℕ))). map (λ (t : Bor (List ℕ)). t.now) xs) c.as_slice.ensures.value ∙ c.in_ok-more.ensures)
