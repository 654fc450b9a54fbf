use Rattle.std.proofs.Common.{Option, refl, sym, subst}
use Rattle.byte_feed.specs.Front.{Window}
use Rattle.any_db.specs.Reader as any
use Rattle.any_db.specs.declared.any_reader.AnyReader.{AnyReader}
use Rattle.db_convert.specs.declared.format.Format.{Format}
use Rattle.db_convert.specs.Gathered.{Gathered}
use Rattle.db_convert.specs.Reading.{contents_in}
use Rattle.db_convert.proofs.ReadFiles.{drawn_once, stream_answers}
use Rattle.db_convert.proofs.ReadPaths.{gathered_by}
use Rattle.db_convert.proofs.reading.read_into.Goals as goal

pub returns-in-None-clause-gathered : goal.returns-in-None-clause-gathered
returns-in-None-clause-gathered g c =
    subst (λ (f : Option Format). Gathered (g.C.Gathers.holds c.read_stream.new.into) (contents_in f) (g.S.Source.left c.args.src.now) c.read_stream.result) (sym c.in-None.is)
    (gathered_by _ _ _ _ _ _ (λ q h. stream_answers (λ (r : AnyReader) (w : Window). any.paths_left r.stage w) (λ (r : AnyReader). any.feed_of r.stage) _ any.fresh c.new.ensures refl _ q h) c.read_stream.ensures.gathered)

pub returns-in-None-clause-once : goal.returns-in-None-clause-once
returns-in-None-clause-once g c = drawn_once _ _ _ _ _ _ c.read_stream.ensures.drawn
