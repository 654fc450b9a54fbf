use Rattle.db_convert.proofs.Targets.{all_listed}
use Rattle.db_convert.proofs.writing.put_paths.Goals as goal

pub put_list-requires : goal.put_list-requires
put_list-requires g c = record { listed = all_listed c.args.target c.in-List.mark c.args.paths.now c.in-List.is c.requires.readable c.requires.admitted }
