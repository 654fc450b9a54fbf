use Rattle.std.proofs.Common.{ap, ◌∙◌, arith}
use Rattle.std.specs.List.{flat_map}
use Rattle.db_convert.specs.Runs.{places_in}
use Rattle.db_convert.proofs.RunPlaces.{run_more}
use Rattle.db_convert.proofs.order.all_runs.Goals as goal

pub runs-preserved : goal.runs-preserved
runs-preserved c = record {
  made = ap (flat_map places_in) c.in_ok-push.ensures.items ∙ run_more c.runs.runs.items c.runs.first c.run_end-end.result (omega (arith, c.run_end-end.ensures.behind)) c.runs.invariant.made;
  within = c.run_end-end.ensures.within;
}
