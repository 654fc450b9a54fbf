use Rattle.any_db.proofs.Formats.{same_first, readable_format}
use Rattle.any_db.proofs.laws.first_bytes_decide_the_format.Goals as goal

pub returns : goal.returns
returns c = record { first = same_first; readable = readable_format }
