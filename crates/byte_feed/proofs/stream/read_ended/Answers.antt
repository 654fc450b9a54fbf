use Rattle.std.proofs.Common.{◌≡◌, ℕ, ◌-◌, ◌∷◌, [], ◌++◌, List, length, take, drop, sym, ap, subst, ◌∙◌, arith, length-append}
use Rattle.std.proofs.Math.Seq.{drop-append_seam}
use Rattle.byte_feed.specs.Field.{IsPlain, ended}
use Rattle.byte_feed.proofs.TakenOff.{took_held}
use Rattle.byte_feed.proofs.Streams.{ended_done}
use Rattle.byte_feed.proofs.HeldTexts.{text_parts, text_plain, text_len_is}
use Rattle.byte_feed.proofs.stream.read_ended.Goals as goal

-- what was appended
plain_of : (old new text : List ℕ) → new ≡ old ++ text → (drop (length old) new ≡ text)
plain_of old new text is = ap (drop (length old)) is ∙ drop-append_seam old text

pub returns-in-Some-clause-text : goal.returns-in-Some-clause-text
returns-in-Some-clause-text g c =
    let n = c.in-Some.len in
    let held = c.args.feed.now.held in
    let some = c.in-Some.ensures.some in
    let first = c.in-Some.ensures.first in
    let text = take n held in
    let parts = text_parts held n first in
    let len = text_len_is held n first in
    ended_done _ _ _ text _ _ _ _ (plain_of c.args.into.now c.take_held.new.into text some.0)
    (record { fits = omega (arith, c.in-Some.ensures.fits, ap length some.0, length-append c.args.into.now text); plain = text_plain held n first })
    (took_held _ _ _ (ended text) c.in-Some.ensures.ended (parts ∙ ap (λ (l : List ℕ). ended text ++ l) (sym some.1))
    (omega (arith, c.in-Some.ensures.offset, len, length-append text (0 ∷ []))) (omega (arith, c.in-Some.ensures.bound)))

pub returns-in-Some-clause-plain : goal.returns-in-Some-clause-plain
returns-in-Some-clause-plain g c =
    let n = c.in-Some.len in
    let held = c.args.feed.now.held in
    let some = c.in-Some.ensures.some in
    let text = take n held in
    subst (IsPlain (4096 - length c.args.into.now)) (sym (plain_of c.args.into.now c.take_held.new.into text some.0))
    (record { fits = omega (arith, c.in-Some.ensures.fits, ap length some.0, length-append c.args.into.now text); plain = text_plain held n c.in-Some.ensures.first })
