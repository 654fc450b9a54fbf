use Rattle.std.proofs.Common.{◌∙◌, ap, arith, is_some}
use Rattle.tree_scan.proofs.TreeAnswers.{gives_some, name_more, fit_more, few_more}
use Rattle.tree_scan.proofs.directory.read_names.Goals as goal

pub listing-preserved : goal.listing-preserved
listing-preserved g c = record {
  goes_on = c.in-Ok.ensures.listing ∙ ap is_some c.in-Some.is;
  within = omega (arith, c.if-given-limit.false);
  few = few_more c.args.path.now c.listing.names c.push_fitting.new.names c.bytes.result.now c.in-Some.kind c.listing.given c.listing.invariant.few c.in-Ok-push_fitting.ensures;
  told = λ listed told.
      let t = c.listing.invariant.told listed told in
      let s = gives_some (g.T.Tree.rest c.listing.tree) (g.T.Tree.rest c.next_name.new.self) c.in-Ok.next c.in-Some.kind c.next_name.new.into t.1 t.2 c.in-Some.is c.in-Ok.ensures.first in
      name_more c.args.path.now listed t.0 t.1 s.after (g.T.Tree.rest c.next_name.new.self) c.next_name.new.into c.bytes.result.now c.in-Some.kind c.listing.given c.listing.names c.push_fitting.new.names t.3 t.4 t.5 s.left s.is c.bytes.ensures.value c.in-Ok-push_fitting.ensures;
  fits = fit_more c.args.path.now c.listing.names c.push_fitting.new.names c.bytes.result.now c.in-Some.kind c.listing.invariant.fits c.in-Ok-push_fitting.ensures;
  openings = c.in-Ok.ensures.openings ∙ c.listing.invariant.openings;
  stats = c.in-Ok.ensures.stats ∙ c.listing.invariant.stats;
  faults = omega (arith, c.listing.invariant.faults, c.in-Ok.ensures.cause.later);
  kept = g.met.T.Tree.keeps_on _ _ _ c.listing.invariant.kept c.in-Ok.ensures.kept;
}
