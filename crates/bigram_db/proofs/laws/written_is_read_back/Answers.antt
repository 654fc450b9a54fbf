use Rattle.std.proofs.Common.{append-nil}
use Rattle.bigram_db.specs.Chosen.{times, counted, table_for, encode_bigram}
use Rattle.bigram_db.specs.Spelled.{encode_with}
use Rattle.bigram_db.proofs.PathPieces.{spelled_is_given}
use Rattle.bigram_db.proofs.TableLaws.{chosen_table}
use Rattle.bigram_db.proofs.Written.{encoded_can, encoded_spells, encode_with-push, after_all-push}
use Rattle.bigram_db.proofs.laws.written_is_read_back.Goals as goal

pub returns-clause-spells : goal.returns-clause-spells
returns-clause-spells c = λ table paths is all. (encoded_can table paths is, encoded_spells table paths is all)

pub returns-clause-again : goal.returns-clause-again
returns-clause-again c = λ table paths is all below. spelled_is_given (encode_with table paths) paths below all (encoded_can table paths is) (encoded_spells table paths is all)

pub returns-clause-whole : goal.returns-clause-whole
returns-clause-whole c = λ paths all below.
    let is = chosen_table (times (counted paths)) in
    spelled_is_given (encode_bigram paths) paths below all (encoded_can (table_for paths) paths is) (encoded_spells (table_for paths) paths is all)

pub returns-clause-empty : goal.returns-clause-empty
returns-clause-empty c = append-nil

pub returns-clause-one_more : goal.returns-clause-one_more
returns-clause-one_more c = λ table paths path. encode_with-push table paths path

pub returns-clause-goes_on : goal.returns-clause-goes_on
returns-clause-goes_on c = λ w paths path. after_all-push paths w path
