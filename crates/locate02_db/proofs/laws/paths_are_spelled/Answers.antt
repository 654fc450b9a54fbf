use Rattle.locate02_db.proofs.PathPieces.{given_is_spelled, spelled_is_given, bases_given}
use Rattle.locate02_db.proofs.laws.paths_are_spelled.Goals as goal

pub returns : goal.returns
returns c = record {
  given = λ file paths small below. (given_is_spelled file paths small, λ h. spelled_is_given file paths below h.0 h.1);
  bases = λ file. bases_given file;
}
