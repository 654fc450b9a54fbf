use Rattle.std.proofs.Common.{ℕ, List, ◌++◌, ap, ◌∙◌, arith, ◌∷◌, []}
use Rattle.db_convert.proofs.RunPlaces.{place_more}
use Rattle.db_convert.proofs.order.push_places.Goals as goal

pub places-preserved : goal.places-preserved
places-preserved c = record {
  laid = c.in_ok-push.ensures.items ∙ ap (λ (l : List ℕ). l ++ c.places.at ∷ []) c.places.invariant.laid ∙ place_more _ c.args.run.first c.places.at c.places.auto.at;
  within = omega (arith, c.places-test.true, c.places.auto.at);
}
