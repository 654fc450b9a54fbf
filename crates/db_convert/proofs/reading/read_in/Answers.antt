use Rattle.std.proofs.Common.{Some, refl, sym, subst}
use Rattle.byte_feed.specs.Feed.{empty_at}
use Rattle.mlocate_db.specs.Reader as mlocate
use Rattle.locate02_db.specs.Reader as locate02
use Rattle.bigram_db.specs.Reader as bigram
use Rattle.path_list.specs.Reader as list
use Rattle.path_list.specs.declared.mark.Mark.TheVariants.{Newline, Zero}
use Rattle.db_convert.specs.declared.format.Format.{Format}
use Rattle.db_convert.specs.Gathered.{Gathered}
use Rattle.db_convert.specs.Reading.{contents_in}
use Rattle.db_convert.proofs.ReadFiles.{drawn_once, stream_answers}
use Rattle.db_convert.proofs.ReadPaths.{gathered_by}
use Rattle.db_convert.proofs.reading.read_in.Goals as goal

pub returns-in-Mlocate-clause-gathered : goal.returns-in-Mlocate-clause-gathered
returns-in-Mlocate-clause-gathered g c =
    subst (λ (f : Format). Gathered (g.C.Gathers.holds c.read_stream.new.into) (contents_in (Some f)) (g.S.Source.left c.args.src.now) c.read_stream.result) (sym c.in-Mlocate.is)
    (gathered_by _ _ _ _ _ _ (λ q h. stream_answers mlocate.paths_left (λ (r : mlocate.ReaderState). r.feed) _ (mlocate.fresh_on (empty_at 0)) c.new.ensures refl _ q h) c.read_stream.ensures.gathered)

pub returns-in-Locate02-clause-gathered : goal.returns-in-Locate02-clause-gathered
returns-in-Locate02-clause-gathered g c =
    subst (λ (f : Format). Gathered (g.C.Gathers.holds c.read_stream-in-Locate02.new.into) (contents_in (Some f)) (g.S.Source.left c.args.src.now) c.read_stream-in-Locate02.result) (sym c.in-Locate02.is)
    (gathered_by _ _ _ _ _ _ (λ q h. stream_answers locate02.paths_left (λ (r : locate02.ReaderState). r.feed) _ (locate02.fresh_on (empty_at 0)) c.new-in-Locate02.ensures refl _ q h) c.read_stream-in-Locate02.ensures.gathered)

pub returns-in-Bigram-clause-gathered : goal.returns-in-Bigram-clause-gathered
returns-in-Bigram-clause-gathered g c =
    subst (λ (f : Format). Gathered (g.C.Gathers.holds c.read_stream-in-Bigram.new.into) (contents_in (Some f)) (g.S.Source.left c.args.src.now) c.read_stream-in-Bigram.result) (sym c.in-Bigram.is)
    (gathered_by _ _ _ _ _ _ (λ q h. stream_answers bigram.paths_left (λ (r : bigram.ReaderState). r.feed) _ (bigram.fresh_on (empty_at 0)) c.new-in-Bigram.ensures refl _ q h) c.read_stream-in-Bigram.ensures.gathered)

pub returns-in-List-clause-gathered : goal.returns-in-List-clause-gathered
returns-in-List-clause-gathered g c =
    subst (λ (f : Format). Gathered (g.C.Gathers.holds c.read_stream-in-List.new.into) (contents_in (Some f)) (g.S.Source.left c.args.src.now) c.read_stream-in-List.result) (sym c.in-List.is)
    (gathered_by _ _ _ _ _ _ (λ q h. stream_answers list.paths_left (λ (r : list.ReaderState). r.feed) _ (list.fresh_on (empty_at 0) Newline) c.new-in-List.ensures refl _ q h) c.read_stream-in-List.ensures.gathered)

pub returns-in-List0-clause-gathered : goal.returns-in-List0-clause-gathered
returns-in-List0-clause-gathered g c =
    subst (λ (f : Format). Gathered (g.C.Gathers.holds c.read_stream-in-List0.new.into) (contents_in (Some f)) (g.S.Source.left c.args.src.now) c.read_stream-in-List0.result) (sym c.in-List0.is)
    (gathered_by _ _ _ _ _ _ (λ q h. stream_answers list.paths_left (λ (r : list.ReaderState). r.feed) _ (list.fresh_on (empty_at 0) Zero) c.new-in-List0.ensures refl _ q h) c.read_stream-in-List0.ensures.gathered)

pub returns-in-Mlocate-clause-once : goal.returns-in-Mlocate-clause-once
returns-in-Mlocate-clause-once g c = drawn_once _ _ _ _ _ _ c.read_stream.ensures.drawn

pub returns-in-Locate02-clause-once : goal.returns-in-Locate02-clause-once
returns-in-Locate02-clause-once g c = drawn_once _ _ _ _ _ _ c.read_stream-in-Locate02.ensures.drawn

pub returns-in-Bigram-clause-once : goal.returns-in-Bigram-clause-once
returns-in-Bigram-clause-once g c = drawn_once _ _ _ _ _ _ c.read_stream-in-Bigram.ensures.drawn

pub returns-in-List-clause-once : goal.returns-in-List-clause-once
returns-in-List-clause-once g c = drawn_once _ _ _ _ _ _ c.read_stream-in-List.ensures.drawn

pub returns-in-List0-clause-once : goal.returns-in-List0-clause-once
returns-in-List0-clause-once g c = drawn_once _ _ _ _ _ _ c.read_stream-in-List0.ensures.drawn
