use Rattle.std.proofs.Common.{◌≡◌, map, take, length}
use Rattle.std.specs.List.{filter, slice_split}
use Rattle.updatedb_conf.specs.Words.{is_nonempty, is_space}
use Rattle.updatedb_conf.proofs.words.words_in.Given as goal

abbrev pub invariant-loop-part : goal.invariant-loop-part
invariant-loop-part l =
    map (λ word. word.now) l.list.items ≡ filter is_nonempty (take (length l.yielded) (slice_split is_space l.text))
