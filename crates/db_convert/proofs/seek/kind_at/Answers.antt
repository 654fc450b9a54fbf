use Rattle.std.proofs.Common.{rules, tests, arith}
use Rattle.db_convert.proofs.Seeking.{directory_missing}
use Rattle.db_convert.proofs.seek.kind_at.Goals as goal
use Rattle.db_convert.proofs.seek.kind_at.Goals.{else-place-places-via-then-place-places+else-eq, else-place-places-via-else-place-places}

pub returns-else-place-places : goal.returns-else-place-places
returns-else-place-places c =
    directory_missing c.args.paths.now c.args.places.now c.requires.order c.args.path.now c.args.place c.requires.within c.requires.past c.requires.ahead
    (λ lt. elim c.else-place-places.branch [ else-place-places-via-then-place-places+else-eq w ↦ search (rules, tests) | else-place-places-via-else-place-places w ↦ absurd (omega (arith, lt, w.if-place-places.false)) ])
