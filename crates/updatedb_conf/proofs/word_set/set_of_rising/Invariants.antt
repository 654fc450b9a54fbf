use Rattle.std.proofs.Common.{◌≡◌, map, take, length}
use Rattle.updatedb_conf.specs.Stored.{pieces}
use Rattle.updatedb_conf.proofs.LaidWords.{Within}
use Rattle.updatedb_conf.proofs.word_set.set_of_rising.Given as goal

abbrev pub invariant-loop-word : goal.invariant-loop-word
invariant-loop-word l =
    record {
      laid : pieces l.text.items l.spans.items ≡ map (λ word. word.now) (take l.word-index l.list);
      within : Within (length l.text.items) l.spans.items;
    }
