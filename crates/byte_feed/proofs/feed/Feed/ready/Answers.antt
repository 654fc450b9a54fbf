use Rattle.std.proofs.Common.{ap, arith, length}
use Rattle.byte_feed.proofs.HeldBytes.{held_len}
use Rattle.byte_feed.proofs.feed.Feed.ready.Goals as goal

pub returns-clause-ready : goal.returns-clause-ready
returns-clause-ready g c =
    rw (← c.self.view_is) (λ none. absurd (omega (arith, ap length none, held_len c.self.inside.buffer c.self.inside.at c.self.inside.end (omega arith))))
