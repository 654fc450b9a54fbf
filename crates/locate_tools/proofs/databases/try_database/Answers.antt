use Rattle.std.proofs.Common.{◌≡◌, refl, sym, ◌∙◌}
use Rattle.locate_tools.specs.declared.databases.Work.TheVariants as works
use Rattle.locate_tools.proofs.Counting.{count_tried, tried_counted, tried_searched}
use Rattle.locate_tools.proofs.databases.try_database.Goals as goal

pub returns-in-Search-clause-tried : goal.returns-in-Search-clause-tried
returns-in-Search-clause-tried g c =
    tried_searched c.args.work (g.M.Matcher.sought c.args.matcher.now) c.args.query.now c.args.name.now _ _ _ c.in-Search.is c.search_database.ensures.tried

pub returns-in-Search-clause-under : goal.returns-in-Search-clause-under
returns-in-Search-clause-under g c = λ is on. c.search_database.ensures.tried.under on

pub returns-in-Search-clause-files : goal.returns-in-Search-clause-files
returns-in-Search-clause-files g c = c.search_database.ensures.tried.answers.moves.files

pub returns-in-Statistics-clause-tried : goal.returns-in-Statistics-clause-tried
returns-in-Statistics-clause-tried g c =
    let said = c.count_database.ensures in
    tried_counted c.args.work (g.M.Matcher.sought c.args.matcher.now) c.args.query.now c.args.name.now
    (record { files = g.R.Reader.files c.args.reader.now; given = g.R.Source.given c.args.reader.now; reads_failed = g.R.Source.faults c.args.reader.now; tests = g.G.Gate.tests c.args.gate.now; asks = g.G.Gate.asks c.args.gate.now; gate_failed = g.G.Gate.faults c.args.gate.now; taken = g.P.Sink.taken c.args.out.now; held_back = g.P.BufferedSink.held_back c.args.out.now; writes_failed = g.P.Sink.faults c.args.out.now; matched = c.args.tally.now.matched })
    c.count_database.result
    (record { files = g.R.Reader.files c.count_database.new.reader; given = g.R.Source.given c.count_database.new.reader; reads_failed = g.R.Source.faults c.count_database.new.reader; tests = g.G.Gate.tests c.args.gate.now; asks = g.G.Gate.asks c.args.gate.now; gate_failed = g.G.Gate.faults c.args.gate.now; taken = g.P.Sink.taken c.count_database.new.out; held_back = g.P.BufferedSink.held_back c.count_database.new.out; writes_failed = g.P.Sink.faults c.count_database.new.out; matched = c.args.tally.now.matched })
    c.in-Statistics.is
    (count_tried c.args.name.now
    (record { files = g.R.Reader.files c.args.reader.now; given = g.R.Source.given c.args.reader.now; reads_failed = g.R.Source.faults c.args.reader.now; tests = g.G.Gate.tests c.args.gate.now; asks = g.G.Gate.asks c.args.gate.now; gate_failed = g.G.Gate.faults c.args.gate.now; taken = g.P.Sink.taken c.args.out.now; held_back = g.P.BufferedSink.held_back c.args.out.now; writes_failed = g.P.Sink.faults c.args.out.now; matched = c.args.tally.now.matched })
    c.count_database.result
    (record { files = g.R.Reader.files c.count_database.new.reader; given = g.R.Source.given c.count_database.new.reader; reads_failed = g.R.Source.faults c.count_database.new.reader; tests = g.G.Gate.tests c.args.gate.now; asks = g.G.Gate.asks c.args.gate.now; gate_failed = g.G.Gate.faults c.args.gate.now; taken = g.P.Sink.taken c.count_database.new.out; held_back = g.P.BufferedSink.held_back c.count_database.new.out; writes_failed = g.P.Sink.faults c.count_database.new.out; matched = c.args.tally.now.matched })
    refl refl refl refl said.moves said.counted said.reads said.missing said.absent said.reading said.unread)

pub returns-in-Statistics-clause-under : goal.returns-in-Statistics-clause-under
returns-in-Statistics-clause-under g c = λ is. let both : works.Statistics ≡ works.Search = sym c.in-Statistics.is ∙ is in absurd cc

pub returns-in-Statistics-clause-files : goal.returns-in-Statistics-clause-files
returns-in-Statistics-clause-files g c = c.count_database.ensures.moves.files
