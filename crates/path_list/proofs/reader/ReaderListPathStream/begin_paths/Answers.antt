use Rattle.byte_feed.proofs.Rests.{moved_none}
use Rattle.path_list.specs.Reader.{ReaderState, paths_left}
use Rattle.path_list.proofs.reader.ReaderListPathStream.begin_paths.Goals as goal

pub returns-clause-ok : goal.returns-clause-ok
returns-clause-ok g c =
    let s = c.self.inside in
    let r : ReaderState = record { feed = s.feed; mark = s.mark; path = s.path; stage = s.stage; place = s.place } in
    let left = moved_none (paths_left r) s.feed (g.S.Source.left c.args.src.now) in
    rw (← c.self.view_is) left
