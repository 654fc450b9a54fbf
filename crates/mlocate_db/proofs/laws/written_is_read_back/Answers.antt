use Rattle.byte_feed.proofs.ReadBack.{database_front, database_given}
use Rattle.mlocate_db.specs.Items.{mlocate}
use Rattle.mlocate_db.proofs.ItemLaws.{mlocate_laws}
use Rattle.mlocate_db.proofs.ItemSizes.{mlocate_shrinks}
use Rattle.mlocate_db.proofs.laws.written_is_read_back.Goals as goal

pub returns : goal.returns
returns c = record {
  front = λ items db. database_front mlocate mlocate_shrinks mlocate_laws items db;
  given = λ items db. database_given mlocate mlocate_shrinks mlocate_laws items db;
}
