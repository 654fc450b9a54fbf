use Rattle.std.proofs.Common.{length, ap, arith}
use Rattle.db_convert.proofs.CutTexts.{texts_length}
use Rattle.db_convert.proofs.paths.Paths.len.Goals as goal

pub returns : goal.returns
returns c = omega (arith, c.len.ensures, texts_length c.self.inside.bytes.items 0 c.self.inside.ends.items, ap length c.self.view_is)
