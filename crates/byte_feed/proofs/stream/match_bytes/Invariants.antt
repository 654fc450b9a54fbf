use Rattle.std.proofs.Common.{◌≡◌, ◌↔◌, ℕ, ◌+◌, ◌-◌, ◌≤◌, ◌^◌, true, List, length, take}
use Rattle.byte_feed.specs.Feed.{TookKnown, reach, Draws}
use Rattle.byte_feed.proofs.stream.match_bytes.Given as goal

abbrev pub invariant-pieces : goal.invariant-pieces
invariant-pieces g l = record {
  text : (text : List ℕ) × TookKnown l.fn.feed (g.S.Source.left l.fn.src) l.feed (g.S.Source.left l.src) text × (length text ≡ l.done) × ((l.same ≡ true) ↔ (text ≡ take l.done l.expected));
  done : l.done ≤ l.count;
  offset : l.feed.offset ≡ l.fn.feed.offset + l.done;
  held : length l.feed.held ≤ 4096;
  reach : reach l.feed ≤ 2 ^ 40;
  drawn : Draws l.fn.feed l.feed (g.S.Source.given l.fn.src) (g.S.Source.given l.src) (g.S.Source.left l.fn.src) (g.S.Source.left l.src);
  faults : g.S.Source.faults l.fn.src ≤ g.S.Source.faults l.src;
  kept : g.S.Source.kept l.fn.src l.src;
}

abbrev pub decreases-pieces : goal.decreases-pieces
decreases-pieces g l = l.count - l.done
