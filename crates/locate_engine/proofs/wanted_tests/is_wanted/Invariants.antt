use Rattle.locate_engine.proofs.wanted_tests.is_wanted.Given as goal

abbrev pub ghosts-wants : goal.ghosts-wants
ghosts-wants a = record { name = a.blank.name; parts = a.blank.parts }
