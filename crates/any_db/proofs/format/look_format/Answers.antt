use Rattle.std.proofs.Common.{ap, ◌∙◌}
use Rattle.byte_feed.specs.Feed.{FeedState}
use Rattle.any_db.proofs.FormatAhead.{LooksTen, format_told, to_come_told, preamble_told, nothing_given, no_preamble_told}
use Rattle.any_db.proofs.format.look_format.Goals as goal

pub returns-in_default-clause-none : goal.returns-in_default-clause-none
returns-in_default-clause-none g c = nothing_given _ c.look.new.self _ _ c.in_default.ensures.took c.in_default.ensures.going.1 c.in_default.ensures.few

pub returns-in_default-clause-refused : goal.returns-in_default-clause-refused
returns-in_default-clause-refused g c = no_preamble_told _ c.look.new.self _ _ c.in_default.ensures.took c.in_default.ensures.going.1 c.in_default.ensures.few

pub returns-clause-told : goal.returns-clause-told
returns-clause-told g c =
    let e = c.in-Ok.ensures in
    let looks : LooksTen c.look.new.self c.in-Ok.count = record {
      offset = e.offset ∙ ap (λ (f : FeedState). f.offset) c.requires;
      held = e.held;
      most = e.want;
      all = e.all;
      bound = e.bound;
    } in
    rw (c.read_by.ensures, c.ahead.ensures) (format_told _ _ _ _ _ e.took looks)

pub returns-clause-rest : goal.returns-clause-rest
returns-clause-rest g c =
    let e = c.in-Ok.ensures in
    let looks : LooksTen c.look.new.self c.in-Ok.count = record {
      offset = e.offset ∙ ap (λ (f : FeedState). f.offset) c.requires;
      held = e.held;
      most = e.want;
      all = e.all;
      bound = e.bound;
    } in
    rw (c.read_by.ensures, c.ahead.ensures) (to_come_told _ _ _ _ _ e.took looks)

pub returns-clause-first : goal.returns-clause-first
returns-clause-first g c =
    let e = c.in-Ok.ensures in
    let looks : LooksTen c.look.new.self c.in-Ok.count = record {
      offset = e.offset ∙ ap (λ (f : FeedState). f.offset) c.requires;
      held = e.held;
      most = e.want;
      all = e.all;
      bound = e.bound;
    } in
    rw (c.read_by.ensures, c.ahead.ensures) (preamble_told _ _ _ _ _ e.took looks)
