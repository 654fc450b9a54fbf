use Rattle.std.proofs.Common.{◌≡◌, ◌++◌, take}
use Rattle.std.specs.List.{flat_map}
use Rattle.updatedb_conf.specs.Block.{zero_ended}
use Rattle.updatedb_conf.specs.Stored.{pieces}
use Rattle.updatedb_conf.proofs.word_set.WordSet.put_words.Given as goal

abbrev pub invariant-loop-span : goal.invariant-loop-span
invariant-loop-span l =
    l.block.items ≡ l.initial.block.items ++ flat_map zero_ended (pieces l.self-inside.text.items (take l.span-index l.span-items))
