use Rattle.std.proofs.Common.{Ok, length, ap, arith}
use Rattle.byte_feed.specs.declared.damage.DamageCause.TheVariants.{EmptyPath}
use Rattle.byte_feed.specs.Field.{text_at}
use Rattle.byte_feed.proofs.Streams.{stream_then, stream_err, stream_ok, stream_same}
use Rattle.mlocate_db.specs.declared.item.Numbers.{Numbers}
use Rattle.mlocate_db.specs.Items.{Head, numbers_at, as_head, head_at}
use Rattle.byte_feed.proofs.AheadReads.{ahead_then}
use Rattle.mlocate_db.proofs.ItemSteps.{path_then, head_parts}
use Rattle.mlocate_db.proofs.stream.read_head.Goals as goal

pub returns-in-Err-clause-head : goal.returns-in-Err-clause-head
returns-in-Err-clause-head g c = stream_same _ _ head_at _ _ _ _ _ head_parts (stream_err (λ n. n) numbers_at path_then _ _ _ _ _ c.in-Err.cause c.in-Err.ensures.numbers)

pub returns-in-Ok-read_text-clause-head : goal.returns-in-Ok-read_text-clause-head
returns-in-Ok-read_text-clause-head g c =
    let n = c.in-Ok.numbers in
    let path = c.read_text.new.into in
    let u : Numbers → Head = λ m. as_head m path in
    let text = rw c.cut.ensures at c.in-Ok-read_text.ensures.text in
    stream_same u _ head_at _ _ _ _ _ head_parts
    (stream_then (λ m. m) numbers_at path_then u _ _ _ _ _ _ n (Ok n) c.in-Ok.ensures.numbers
    (stream_then (λ (_ : Unit {0}). path) (text_at EmptyPath 4096) (λ t rest. Ok (as_head n t, rest)) u _ _ _ _ _ _ tt (Ok n) text (stream_ok u n _ _)))

pub returns-in-Err-read_text-clause-head : goal.returns-in-Err-read_text-clause-head
returns-in-Err-read_text-clause-head g c =
    let n = c.in-Ok.numbers in
    let path = c.read_text.new.into in
    let u : Numbers → Head = λ m. as_head m path in
    let text = rw c.cut.ensures at c.in-Err-read_text.ensures.text in
    stream_same u _ head_at _ _ _ _ _ head_parts
    (stream_then (λ m. m) numbers_at path_then u _ _ _ _ _ _ n _ c.in-Ok.ensures.numbers
    (stream_err (λ (_ : Unit {0}). path) (text_at EmptyPath 4096) (λ t rest. Ok (as_head n t, rest)) u _ _ _ _ c.in-Err-read_text.cause text))

pub returns-in-Ok-read_text-clause-grows : goal.returns-in-Ok-read_text-clause-grows
returns-in-Ok-read_text-clause-grows g c = omega (arith, c.in-Ok.ensures.grows, c.in-Ok-read_text.ensures.grows, ap length c.cut.ensures)

pub returns-in-Ok-read_text-clause-ahead : goal.returns-in-Ok-read_text-clause-ahead
returns-in-Ok-read_text-clause-ahead g c =
    let e = c.in-Ok-read_text.ensures in
    ahead_then _ _ _ _ _ _ _ _ _ c.in-Ok.ensures.ahead.drawn e.drawn e.held e.reach

pub returns-in-Err-read_text-clause-ahead : goal.returns-in-Err-read_text-clause-ahead
returns-in-Err-read_text-clause-ahead g c =
    let e = c.in-Err-read_text.ensures in
    ahead_then _ _ _ _ _ _ _ _ _ c.in-Ok.ensures.ahead.drawn e.drawn e.held e.reach
