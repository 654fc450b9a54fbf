use Rattle.std.proofs.Common.{ℕ, take, Ok, Err, refl}
use Rattle.byte_feed.specs.declared.damage.DamageCause.TheVariants.{BadKind}
use Rattle.byte_feed.specs.declared.damage.Break.TheVariants.{Stopped}
use Rattle.byte_feed.specs.declared.damage.Stop.TheVariants.{Broken}
use Rattle.byte_feed.specs.Field.{byte_at}
use Rattle.byte_feed.proofs.Streams.{stream_then, stream_err, stream_ok, stream_stop}
use Rattle.mlocate_db.specs.declared.item.Listed.TheVariants as listeds
use Rattle.mlocate_db.specs.Items.{room_in, listed_at, entry_at}
use Rattle.byte_feed.proofs.AheadReads.{ahead_then}
use Rattle.mlocate_db.proofs.ItemSteps.{bad_kind}
use Rattle.mlocate_db.proofs.stream.read_entry.Goals as goal

pub returns-in-Err-clause-item : goal.returns-in-Err-clause-item
unfolding entry_at
returns-in-Err-clause-item g c = stream_err (λ (n : ℕ). n) byte_at (listed_at (room_in (take c.args.dir_len c.args.path.now))) _ _ _ _ _ c.in-Err.cause c.in-Err.ensures.byte

pub returns-then-kind-eq0-clause-item : goal.returns-then-kind-eq0-clause-item
unfolding entry_at
returns-then-kind-eq0-clause-item g c =
    stream_then (λ (n : ℕ). n) byte_at (listed_at (room_in (take c.args.dir_len c.args.path.now))) _ _ _ _ _ _ _ 0 c.read_name.result (rw c.if-kind-eq0.true at c.in-Ok.ensures.byte) c.read_name.ensures.item

pub returns-then-kind-eq1-clause-item : goal.returns-then-kind-eq1-clause-item
unfolding entry_at
returns-then-kind-eq1-clause-item g c =
    stream_then (λ (n : ℕ). n) byte_at (listed_at (room_in (take c.args.dir_len c.args.path.now))) _ _ _ _ _ _ _ 1 c.read_name-then-kind-eq1.result (rw c.if-kind-eq1.true at c.in-Ok.ensures.byte) c.read_name-then-kind-eq1.ensures.item

pub returns-then-kind-eq2-clause-item : goal.returns-then-kind-eq2-clause-item
unfolding entry_at
returns-then-kind-eq2-clause-item g c =
    stream_then (λ (n : ℕ). n) byte_at (listed_at (room_in (take c.args.dir_len c.args.path.now))) _ _ _ _ _ _ _ 2 (Ok listeds.End) (rw c.if-kind-eq2.true at c.in-Ok.ensures.byte) (stream_ok _ listeds.End _ _)

pub returns-clause-item : goal.returns-clause-item
unfolding entry_at
returns-clause-item g c =
    let room : ℕ = room_in (take c.args.dir_len c.args.path.now) in
    let bad = bad_kind room c.in-Ok.kind c.if-kind-eq0.false c.if-kind-eq1.false c.if-kind-eq2.false in
    stream_then (λ (n : ℕ). n) byte_at (listed_at room) _ _ _ _ _ _ _ c.in-Ok.kind (Err (Stopped (Broken BadKind))) c.in-Ok.ensures.byte (rw bad (stream_stop _ (Broken BadKind) _ _ refl))

pub returns-then-kind-eq0-clause-ahead : goal.returns-then-kind-eq0-clause-ahead
returns-then-kind-eq0-clause-ahead g c =
    let e = c.read_name.ensures.ahead in
    ahead_then _ _ _ _ _ _ _ _ _ c.in-Ok.ensures.drawn e.drawn e.held e.bound

pub returns-then-kind-eq1-clause-ahead : goal.returns-then-kind-eq1-clause-ahead
returns-then-kind-eq1-clause-ahead g c =
    let e = c.read_name-then-kind-eq1.ensures.ahead in
    ahead_then _ _ _ _ _ _ _ _ _ c.in-Ok.ensures.drawn e.drawn e.held e.bound
