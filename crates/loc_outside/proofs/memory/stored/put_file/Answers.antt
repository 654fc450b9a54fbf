use Rattle.std.proofs.Common.{rules, ◌≡◌, ◌+◌, ◌<◌, ◌∷◌, List, ℕ, length, string_bytes, sym, ◌∙◌, ap, subst}
use Rattle.std.specs.FinMap as map
use Rattle.std.specs.List.{remove}
use Rattle.loc_outside.specs.Stored.{files_of, name_at}
use Rattle.loc_outside.specs.declared.memory.stored.StoredFile.{StoredFile}
use Rattle.loc_outside.proofs.StoredLemmas.{replaced}
use Rattle.loc_outside.proofs.memory.stored.put_file.Goals as goal

pub returns-clause-ok : goal.returns-clause-ok
returns-clause-ok c =
    let lent : c.deref.result.now ≡ c.args.files.now.items = c.deref.ensures.value in
    let here : c.in-Some.place < length c.args.files.now.items = subst (λ (l : List StoredFile). c.in-Some.place < length l) lent c.in-Some.ensures.found.0 in
    let named : name_at c.args.files.now.items c.in-Some.place ≡ c.args.name.now = ap (λ (l : List StoredFile). name_at l c.in-Some.place) (sym lent) ∙ c.in-Some.ensures.named in
    let name : string_bytes c.in_ok-from_str.field-0 ≡ c.args.name.now = search rules in
    let bytes : c.in_ok-to_vec.field-0.items ≡ c.args.bytes.now = search rules in
    let file : StoredFile = record { name = c.in_ok-from_str.field-0; bytes = c.in_ok-to_vec.field-0 } in
    let put : c.insert-2.new.self.items ≡ file ∷ c.args.files.now.items = c.in_ok-insert-2.ensures.items in
    ap files_of (c.remove.ensures.items ∙ ap (λ (l : List StoredFile). remove l (c.in-Some.place + 1)) put)
    ∙ replaced file c.args.files.now.items c.in-Some.place c.args.name.now here named name
    ∙ ap (λ (b : List ℕ). map.insert (files_of c.args.files.now.items) c.args.name.now b) bytes
