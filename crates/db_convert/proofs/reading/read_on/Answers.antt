use Rattle.std.proofs.Common.{◌++◌, ◌∷◌, [], Bool, Ok, ap, subst, sym, ◌∙◌, refl, arith}
use Rattle.std.specs.List.{All}
use Rattle.std.proofs.lemmas.List.Elements.{All-nil, All-push}
use Rattle.byte_feed.specs.Paths.{IsPath}
use Rattle.byte_feed.proofs.Draws.{draws_none, draws_then}
use Rattle.byte_feed.proofs.Rests.{moved_none, moved_then, moved_same}
use Rattle.db_convert.proofs.ReadPaths.{fault_answers, whole_answers, any_answer, one_more, texts, texts_more}
use Rattle.db_convert.proofs.reading.read_on.Goals as goal

pub paths-init : goal.paths-init
paths-init g c = record {
  live = c.requires.live;
  given = ([], moved_none _ _ _, c.requires.empty, All-nil IsPath);
  drawn = draws_none _ _ _;
  src = g.met.S.Source.keeps_itself _;
  later = omega arith;
}

pub returns-in-Err-clause-gathered : goal.returns-in-Err-clause-gathered
returns-in-Err-clause-gathered g c =
    let before = c.paths.invariant.given in
    fault_answers _ _ before.0 _ _ _ _ _ _ _ c.in-Err.fault before.1 c.in-Err.ensures.err

pub returns-in-Err-clause-drawn : goal.returns-in-Err-clause-drawn
returns-in-Err-clause-drawn g c = draws_then _ _ _ _ _ _ _ _ _ c.paths.invariant.drawn c.in-Err.ensures.ahead.drawn

pub returns-then-not-more-clause-gathered : goal.returns-then-not-more-clause-gathered
returns-then-not-more-clause-gathered g c =
    let before = c.paths.invariant.given in
    (texts before.0, before.2, before.3, whole_answers _ _ before.0 _ _ _ _ _ _ _ (texts before.0) refl before.1 (c.in-Ok.ensures.end (ap (λ (b : Bool). Ok b) c.if-not-more.true)))

pub returns-then-not-more-clause-drawn : goal.returns-then-not-more-clause-drawn
returns-then-not-more-clause-drawn g c = draws_then _ _ _ _ _ _ _ _ _ c.paths.invariant.drawn c.in-Ok.ensures.ahead.drawn

pub returns-in_default-clause-gathered : goal.returns-in_default-clause-gathered
returns-in_default-clause-gathered g c = any_answer (g.P.PathStream.to_come c.args.stream.now) (g.P.PathStream.feed c.args.stream.now) (g.S.Source.left c.args.src.now)

pub returns-in_default-clause-drawn : goal.returns-in_default-clause-drawn
returns-in_default-clause-drawn g c = draws_then _ _ _ _ _ _ _ _ _ c.paths.invariant.drawn c.in-Ok.ensures.ahead.drawn

pub paths-preserved : goal.paths-preserved
paths-preserved g c =
    let before = c.paths.invariant.given in
    let p = g.P.PathStream.found c.next_path.new.self in
    let one = c.in-Ok.ensures.path c.if-not-more.false in
    let same = texts_more (texts before.0) before.0 p c.path.result.now refl c.path.ensures in
    record {
      live = c.in-Ok.ensures.live ∙ c.if-not-more.false;
      given = (
        before.0 ++ p ∷ [],
        moved_same _ _ _ _ _ _ _ _ (one_more before.0 p) (moved_then _ _ _ _ _ _ _ _ _ _ _ before.1 one),
        subst (g.C.Gathers.holds c.gather.new.self) same (c.in-Ok-gather.ensures.ok (texts before.0) before.2),
        subst (All IsPath) same (All-push IsPath _ _ before.3 (subst IsPath (sym c.path.ensures) (c.in-Ok.ensures.found c.if-not-more.false).text)),
      );
      drawn = draws_then _ _ _ _ _ _ _ _ _ c.paths.invariant.drawn c.in-Ok.ensures.ahead.drawn;
      src = g.met.S.Source.keeps_on _ _ _ c.paths.invariant.src c.in-Ok.ensures.kept;
      later = omega (arith, c.paths.invariant.later, c.in-Ok.ensures.later);
    }
