use Rattle.std.proofs.Common.{◌≡◌, List, ℕ, All, Ok, sym, subst, ◌∙◌, ap}
use Rattle.std.specs.FinMap.{get}
use Rattle.std.specs.Option.{option_map}
use Rattle.byte_feed.specs.Paths.{IsPath}
use Rattle.db_convert.specs.declared.format.Format.{Format}
use Rattle.db_convert.specs.Conversion.{encode}
use Rattle.db_convert.specs.Converts.{with_file, read_found}
use Rattle.db_convert.proofs.Conversions.{was_stored}
use Rattle.db_convert.proofs.converting.convert_by_list.Goals as goal

pub returns-clause-does : goal.returns-clause-does
returns-clause-does g c =
    let read = c.in-Ok.ensures in
    let r = read.read in
    let paths = c.read_input.new.into in
    let ready = c.in-Ok-admit.ensures in
    let did = c.in-Ok-store.ensures in
    was_stored _ _ _ _ paths _
    (record { read = λ files told. subst (λ (ps : List (List ℕ)). read_found c.args.from (get files c.args.input.now) ≡ Ok ps) (sym r.1) (r.3 files told); readable = subst (All IsPath) (sym r.1) r.2; given = read.given; once = read.once; later = read.later })
    ready.admitted did.cause.later
    (did.stored ∙ ap (λ (f : Format). option_map (with_file c.args.target.now (encode f paths)) (g.O.Output.held c.args.output.now)) ready.format) did.begun c.len.ensures
