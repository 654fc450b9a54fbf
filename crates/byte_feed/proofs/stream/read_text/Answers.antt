use Rattle.std.proofs.Common.{◌≡◌, ◌<◌, length, drop, refl, arith, length-drop}
use Rattle.byte_feed.proofs.Streams.{text_some, text_none, text_err}
use Rattle.byte_feed.proofs.stream.read_text.Goals as goal

pub returns-in-Ok-eq0-clause-text : goal.returns-in-Ok-eq0-clause-text
returns-in-Ok-eq0-clause-text g c =
    let before = length c.args.into.now in
    let none : length (drop before c.read_ended.new.into) ≡ 0 = omega (arith, c.in-Ok-eq0.ensures.count, c.in-Ok-eq0.field-0-test, length-drop before c.read_ended.new.into) in
    text_none c.args.empty _ _ _ _ _ _ _ _ c.requires none c.in-Ok-eq0.ensures.text

pub returns-in-Ok-clause-text : goal.returns-in-Ok-clause-text
returns-in-Ok-clause-text g c =
    let before = length c.args.into.now in
    let some : 0 < length (drop before c.read_ended.new.into) = omega (arith, c.in-Ok.ensures.count, c.in-Ok.field-0-test.1, length-drop before c.read_ended.new.into) in
    text_some c.args.empty _ _ _ _ _ _ _ _ _ refl some c.in-Ok.ensures.text

pub returns-in-Err-clause-text : goal.returns-in-Err-clause-text
returns-in-Err-clause-text g c = text_err c.args.empty _ _ _ _ _ _ _ _ c.in-Err.ensures.text
