use Rattle.std.proofs.Common.{◌≡◌, ◌++◌, ap, ◌∙◌}
use Rattle.std.specs.List.{flat_map}
use Rattle.updatedb_conf.specs.declared.word_set.Span.{Span}
use Rattle.updatedb_conf.specs.Block.{zero_ended}
use Rattle.updatedb_conf.proofs.LaidWords.{put_next, put_all}
use Rattle.updatedb_conf.proofs.Sets.{stored_members}
use Rattle.updatedb_conf.specs.Stored.{pieces}
use Rattle.updatedb_conf.proofs.word_set.WordSet.put_words.Goals as goal

abbrev none : Span
none = record { start = 0; len = 0 }

pub loop-span-preserved : goal.loop-span-preserved
loop-span-preserved c =
    put_next c.self.inside.text.items c.deref-span-items.result.now c.loop-span.span-index none c.args.block.now.items c.loop-span.block.items c.extend_from_slice.new.self.items c.push.new.self.items c.piece.result.now c.loop-span-test.true (cc) c.in_ok-extend_from_slice.ensures.items c.in_ok-push.ensures.items c.loop-span.invariant

pub returns : goal.returns
returns c =
    put_all c.self.inside.text.items c.deref-span-items.result.now c.loop-span.span-index c.args.block.now.items c.loop-span.block.items c.loop-span-test.false c.loop-span.invariant
    ∙ ap (λ s. c.args.block.now.items ++ flat_map zero_ended (pieces c.self.inside.text.items s)) c.deref-span-items.ensures.value
    ∙ ap (λ l. c.args.block.now.items ++ flat_map zero_ended l) (stored_members c.self.inside.text.items c.self.inside.text.items c.self.inside.spans.items c.args.self.now (λ i. c.self.inside.text.items) c.self.invariant c.self.view_is)
