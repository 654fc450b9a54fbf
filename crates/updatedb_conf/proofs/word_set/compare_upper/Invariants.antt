use Rattle.std.proofs.Common.{◌≡◌, drop}
use Rattle.updatedb_conf.proofs.Uppers.{upper_cmp}
use Rattle.updatedb_conf.proofs.word_set.compare_upper.Given as goal

abbrev pub invariant-loop-i : goal.invariant-loop-i
invariant-loop-i l = upper_cmp l.word l.other ≡ upper_cmp (drop l.i l.word) (drop l.i l.other)
