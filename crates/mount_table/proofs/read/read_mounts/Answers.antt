use Rattle.mount_table.specs.Line.{numbered_lines}
use Rattle.mount_table.proofs.TableLemmas.{no_long_fault}
use Rattle.mount_table.proofs.read.read_mounts.Goals as goal

pub returns-in-Err-clause-no_limit : goal.returns-in-Err-clause-no_limit
returns-in-Err-clause-no_limit c = λ long. no_long_fault (numbered_lines 1 c.args.text.now) c.in-Err.fault (c.in-Err.ensures.refused (λ out. cc)) long
