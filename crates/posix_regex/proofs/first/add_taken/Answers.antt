use Rattle.std.proofs.Common.{sym, ◌∙◌, inl, inr, ⊎_elim}
use Rattle.std.proofs.lemmas.Bool.{or_cases, or_left, or_right}
use Rattle.byte_class.specs.ByteSet.{has}
use Rattle.byte_class.proofs.Members.{members_pass, members_with}
use Rattle.posix_regex.proofs.first.add_taken.Goals as goal

pub returns-in-Set : goal.returns-in-Set
returns-in-Set c = λ byte fits.
    let set = has c.in-Set.set in
    let old = has c.args.bytes.now in
    rw c.in-Set.is (
      λ t. ⊎_elim (λ e. inl e) (λ e. inr (members_with set byte fits e)) (or_cases (old byte) (set byte) (sym (c.add_all.ensures byte fits) ∙ t)),
      λ h. c.add_all.ensures byte fits ∙ ⊎_elim (λ e. or_left (old byte) (set byte) e) (λ m. or_right (old byte) (set byte) (members_pass set byte m)) h,
    )
