use Rattle.std.proofs.Common.{◌≡◌, ◌⊎◌, List, ℕ, length, None, refl, sym, subst, ◌∙◌, ap}
use Rattle.std.specs.Option.{option_map}
use Rattle.db_convert.specs.declared.format.Format.TheVariants.{Locate02}
use Rattle.db_convert.specs.Admission.{first_refused}
use Rattle.db_convert.specs.Converts.{PendsPart, with_file}
use Rattle.db_convert.proofs.Conversions.{not_written, was_stored}
use Rattle.db_convert.proofs.Refused.{refused_none}
use Rattle.db_convert.proofs.converting.convert_to_locate02.Goals as goal

none_refused : (paths : List (List ℕ)) → first_refused Locate02 paths ≡ None
none_refused paths = sym (refused_none Locate02 paths (length paths) refl (λ k lt. refl))

pub returns-in_default-store_text-clause-does : goal.returns-in_default-store_text-clause-does
returns-in_default-store_text-clause-does g c =
    let read = c.in-Ok-read_input.ensures in
    let r = read.read in
    let did = c.in_default-store_text.ensures in
    let text = c.bytes.ensures ∙ r.1.bytes in
    not_written _ _ _ _ r.0 (record { read = r.3; readable = r.2; given = read.given; once = read.once; later = read.later }) (none_refused r.0) did.cause.failed did.cause.later did.unstored
    (subst (λ (t : List ℕ). (g.O.Output.held c.store_text.new.output ≡ g.O.Output.held c.args.output.now) ⊎ PendsPart c.args.target.now t (g.O.Output.held c.args.output.now) (g.O.Output.held c.store_text.new.output)) text did.left)
    did.begins

pub returns-clause-does : goal.returns-clause-does
returns-clause-does g c =
    let read = c.in-Ok-read_input.ensures in
    let r = read.read in
    let did = c.in-Ok-store_text.ensures in
    let text = c.bytes.ensures ∙ r.1.bytes in
    was_stored _ _ _ _ r.0 _ (record { read = r.3; readable = r.2; given = read.given; once = read.once; later = read.later }) (none_refused r.0) did.cause.later
    (did.stored ∙ ap (λ (t : List ℕ). option_map (with_file c.args.target.now t) (g.O.Output.held c.args.output.now)) text) did.begun (c.count.ensures ∙ r.1.count)
