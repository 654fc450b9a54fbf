use Rattle.std.proofs.Common.{sym, ap, ◌∙◌, Err}
use Rattle.database_update.proofs.FileLemmas.{conf_changed, conf_none, conf_long, conf_read, conf_refused}
use Rattle.database_update.specs.Settings.{conf_or_fault}
use Rattle.database_update.proofs.conf_file.read_file.Goals as goal

pub returns-in-Ok-None-clause-ok : goal.returns-in-Ok-None-clause-ok
returns-in-Ok-None-clause-ok g c = λ files changes told. conf_none _ _ changes (sym c.in-Ok-None.field-0-is ∙ c.in-Ok-None.ensures.text files told) c.defaults.ensures.value

pub returns-in-Err-TooLong-clause-refused : goal.returns-in-Err-TooLong-clause-refused
returns-in-Err-TooLong-clause-refused g c = λ yes files changes told. conf_long _ changes (c.in-Err-TooLong.ensures.too_long (ap (λ f. Err f) c.in-Err-TooLong.field-0-is) files told)

pub returns-in-Ok-clause-ok : goal.returns-in-Ok-clause-ok
returns-in-Ok-clause-ok g c = λ files changes told.
    conf_read _ _ _ _ changes c.in-Ok-Some.field-0-is (c.in-Ok-Some.ensures.text files told) c.in-Ok-Some.ensures.within c.as_slice.ensures ∙ conf_changed _ changes _ c.in-Ok.ensures.ok

pub returns-clause-refused : goal.returns-clause-refused
returns-clause-refused g c = λ yes files changes told.
    ap conf_or_fault (conf_read _ _ _ _ changes c.in-Ok-Some.field-0-is (c.in-Ok-Some.ensures.text files told) c.in-Ok-Some.ensures.within c.as_slice.ensures)
    ∙ conf_refused c.as_slice.result.now changes _ _ c.in-Err.ensures.err (c.refusal.ensures.memory yes) (c.refusal.ensures.refused yes)
