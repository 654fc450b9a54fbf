use Rattle.std.proofs.Common.{◌∙◌}
use Rattle.mlocate_db.proofs.Starts.{preamble_whole_by, moved_by, preamble_lacks_by, ended_by, stays_by}
use Rattle.mlocate_db.proofs.db_reader.DbReaderPathStream.begin_paths.Goals as goal

pub returns-clause-preamble : goal.returns-clause-preamble
returns-clause-preamble g c = preamble_whole_by _ _ _ _ c.start.result c.requires c.start.ensures.started.place_before c.start.ensures.header

pub returns-clause-ok : goal.returns-clause-ok
returns-clause-ok g c = moved_by _ _ _ _ c.start.result c.requires c.start.ensures.started.heads c.start.ensures.header

pub returns-clause-refused : goal.returns-clause-refused
returns-clause-refused g c = preamble_lacks_by _ _ _ _ c.start.result c.requires c.start.ensures.header

pub returns-clause-err : goal.returns-clause-err
returns-clause-err g c = ended_by _ _ _ _ c.start.result c.start.ensures.started.place_before c.start.ensures.started.heads_before c.start.ensures.header

pub returns-clause-place : goal.returns-clause-place
returns-clause-place g c =
    let s = c.start.ensures.started in
    record {
      stays = stays_by c.args.self.now c.start.new.self c.start.result s.place_before s.stays;
      bound = s.bound;
      heads = s.heads ∙ s.heads_before;
    }
