use Rattle.locate_engine.proofs.files.search.Goals as goal

pub returns-clause-searches : goal.returns-clause-searches
returns-clause-searches g c = rw c.new.ensures at c.search_by.ensures.searches
