use Rattle.locate_tools.proofs.run.run_locate.Given as goal

-- a ledger of its own
abbrev pub ghosts-locate : goal.ghosts-locate
ghosts-locate g a = record { name = a.blank.name; parts = a.blank.parts }
