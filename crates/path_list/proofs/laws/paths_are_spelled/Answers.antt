use Rattle.path_list.proofs.Lists.{given_is_spelled, spelled_is_given, bases_given}
use Rattle.path_list.proofs.laws.paths_are_spelled.Goals as goal

pub returns : goal.returns
returns c = record {
  given = λ mark file paths small below. (given_is_spelled mark file paths small, λ h. spelled_is_given mark file paths below h.0 h.1);
  bases = λ mark file. bases_given mark file;
}
