use Rattle.std.proofs.Common.{refl}
use Rattle.locate02_db.specs.Spelled.{encode02}
use Rattle.locate02_db.specs.Writer.{nothing_put}
use Rattle.locate02_db.proofs.Encoded.{encoded_spells, encode02-push, after_all-push}
use Rattle.locate02_db.proofs.PathPieces.{spelled_is_given}
use Rattle.locate02_db.proofs.laws.written_is_read_back.Goals as goal

pub returns : goal.returns
returns c = record {
  spells = λ paths all. encoded_spells paths all;
  again = λ paths all below. spelled_is_given (encode02 paths) paths below all (encoded_spells paths all);
  empty = refl;
  one_more = λ paths path. encode02-push paths path;
  goes_on = λ paths path. after_all-push paths nothing_put path;
}
