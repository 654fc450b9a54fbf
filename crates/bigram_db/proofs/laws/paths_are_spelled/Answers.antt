use Rattle.bigram_db.proofs.PathPieces.{given_is_spelled, spelled_is_given, bases_given}
use Rattle.bigram_db.proofs.laws.paths_are_spelled.Goals as goal

pub returns-clause-given : goal.returns-clause-given
returns-clause-given c = λ file paths small below. (given_is_spelled file paths small, λ h. spelled_is_given file paths below h.0 h.1 h.2)

pub returns-clause-bases : goal.returns-clause-bases
returns-clause-bases c = λ file. bases_given file
