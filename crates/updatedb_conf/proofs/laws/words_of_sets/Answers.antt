use Rattle.std.proofs.Common.{◌≡◌, ◌||◌, ap, ◌∙◌}
use Rattle.std.specs.List.{list_any}
use Rattle.std.specs.Str.{bytes_eq}
use Rattle.updatedb_conf.specs.Words.{set_of}
use Rattle.updatedb_conf.proofs.LaidWords.{texts}
use Rattle.updatedb_conf.proofs.Sets.{has-set_of-bytes, has-joined}
use Rattle.updatedb_conf.proofs.laws.words_of_sets.Goals as goal

pub returns-clause-made : goal.returns-clause-made
returns-clause-made c = has-set_of-bytes (texts c.args.list.now) c.args.word.now

pub returns-clause-joined : goal.returns-clause-joined
returns-clause-joined c =
    has-joined (set_of (texts c.args.list.now)) (texts c.args.more.now) c.args.word.now
    ∙ ap (λ b. b || list_any (bytes_eq c.args.word.now) (texts c.args.more.now)) (has-set_of-bytes (texts c.args.list.now) c.args.word.now)
