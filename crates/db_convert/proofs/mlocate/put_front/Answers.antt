use Rattle.std.proofs.Common.{ℕ, ◌<◌, ◌^◌, List, length, sym, subst}
use Rattle.db_convert.proofs.DatabaseItems.{small_block}
use Rattle.db_convert.proofs.mlocate.put_front.Goals as goal

pub put_header-requires-clause-block : goal.put_header-requires-clause-block
put_header-requires-clause-block g c = subst (λ (conf : List ℕ). length conf < 2 ^ 32) (sym c.requires) small_block
