use Rattle.std.proofs.Common.{arith}
use Rattle.update_runs.proofs.SampleKept.{sample_kept}
use Rattle.update_runs.proofs.laws.sample_is_kept.Goals as goal

pub returns : goal.returns
returns c = λ plan planned devices. sample_kept c.args.seed c.args.rounds plan (omega arith) planned devices
