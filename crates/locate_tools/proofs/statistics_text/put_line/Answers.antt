use Rattle.std.proofs.Common.{◌∷◌, []}
use Rattle.loc_outside.proofs.PartTaken.{part_second}
use Rattle.locate_tools.proofs.MessagesAfter.{on_err_by}
use Rattle.locate_tools.proofs.statistics_text.put_line.Goals as goal

pub returns-clause-part : goal.returns-clause-part
returns-clause-part g c = on_err_by c.put_all-2.result _ _ (part_second _ _ _ c.args.text.now (10 ∷ []) c.in_ok-put_all.ensures.ok) c.put_all-2.ensures.err
