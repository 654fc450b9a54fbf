use Rattle.any_db.proofs.Formats.{no_format_ends}
use Rattle.any_db.proofs.NoDatabase.{refused_has_none}
use Rattle.any_db.proofs.laws.no_format_is_no_database.Goals as goal

pub returns : goal.returns
returns c = record { none = no_format_ends; only = refused_has_none }
