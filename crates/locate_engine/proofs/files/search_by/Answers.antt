use Rattle.locate_engine.proofs.Named.{named_failed, named_found, named_missing}
use Rattle.locate_engine.proofs.files.search_by.Goals as goal

pub returns-in-Ok-Found-clause-searches : goal.returns-in-Ok-Found-clause-searches
returns-in-Ok-Found-clause-searches g c =
    named_found (g.M.Matcher.sought c.args.matcher.now) c.args.query.now c.args.name.now _ _ _ _ c.in-Ok-Found.ensures.files c.in-Ok-Found.ensures.given c.in-Ok-Found.ensures.cause.later
    _ _ _ _ c.in-Ok-Found.field-0-is c.in-Ok-Found.ensures.opened c.search_open.ensures.searches c.search_open.ensures.there c.search_open.ensures.limit c.search_open.ensures.moves

pub returns-in-Ok-Missing-clause-searches : goal.returns-in-Ok-Missing-clause-searches
returns-in-Ok-Missing-clause-searches g c =
    named_missing (g.M.Matcher.sought c.args.matcher.now) c.args.query.now c.args.name.now _ _ _ _ c.in-Ok-Missing.ensures.files c.in-Ok-Missing.ensures.given c.in-Ok-Missing.ensures.cause.later
    c.requires.below _ _ c.in-Ok-Missing.field-0-is c.in-Ok-Missing.ensures.opened

pub returns-in-Err-clause-searches : goal.returns-in-Err-clause-searches
returns-in-Err-clause-searches g c =
    named_failed (g.M.Matcher.sought c.args.matcher.now) c.args.query.now c.args.name.now _ _ _ _ c.in-Err.ensures.files c.in-Err.ensures.given c.in-Err.ensures.cause.later
    c.requires.below c.in-Err.ensures.cause.failed
