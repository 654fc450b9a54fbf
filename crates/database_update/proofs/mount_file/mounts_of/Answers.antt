use Rattle.std.proofs.Common.{sym, ap, ◌∙◌, Err}
use Rattle.database_update.proofs.FileLemmas.{mounts_none, mounts_long, mounts_ok, mounts_refused}
use Rattle.database_update.proofs.mount_file.mounts_of.Goals as goal

pub returns-in-Ok-None-clause-ok : goal.returns-in-Ok-None-clause-ok
returns-in-Ok-None-clause-ok g c = λ files told. mounts_none files _ (sym c.in-Ok-None.field-0-is ∙ c.in-Ok-None.ensures.text files told) c.none.ensures

pub returns-in-Err-TooLong-clause-refused : goal.returns-in-Err-TooLong-clause-refused
returns-in-Err-TooLong-clause-refused g c = λ yes files told. mounts_long files (c.in-Err-TooLong.ensures.too_long (ap (λ f. Err f) c.in-Err-TooLong.field-0-is) files told)

pub returns-in-Ok-clause-ok : goal.returns-in-Ok-clause-ok
returns-in-Ok-clause-ok g c = λ files told. mounts_ok files _ _ _ _ c.in-Ok-Some.field-0-is (c.in-Ok-Some.ensures.text files told) c.in-Ok-Some.ensures.within c.as_slice.ensures c.in-Ok.ensures.ok

pub returns-clause-refused : goal.returns-clause-refused
returns-clause-refused g c = λ yes files told.
    mounts_refused files _ _ _ _ _ c.in-Ok-Some.field-0-is (c.in-Ok-Some.ensures.text files told) c.in-Ok-Some.ensures.within c.as_slice.ensures
    (c.in-Err.ensures.refused (c.refusal.ensures.memory yes)) (c.refusal.ensures.refused yes)
