use Rattle.any_db.proofs.Formats.{mlocate_format, locate02_format, bigram_format}
use Rattle.any_db.proofs.laws.written_is_of_its_format.Goals as goal

pub returns : goal.returns
returns c = record { mlocate = mlocate_format; locate02 = locate02_format; bigram = bigram_format }
