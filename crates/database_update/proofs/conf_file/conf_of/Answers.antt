use Rattle.tool_words.specs.UpdatedbSeen.{seen}
use Rattle.database_update.specs.Settings.{changes_of}
use Rattle.database_update.proofs.FileLemmas.{conf_in_err, conf_in_ok}
use Rattle.database_update.proofs.conf_file.conf_of.Goals as goal

pub returns-in-Err-clause-refused : goal.returns-in-Err-clause-refused
returns-in-Err-clause-refused g c = λ yes files told. conf_in_err files (seen c.args.asked.now) _ (c.in-Err.ensures.refused yes files (changes_of (seen c.args.asked.now)) told)

pub returns-clause-ok : goal.returns-clause-ok
returns-clause-ok g c = λ files told.
    conf_in_ok files (seen c.args.asked.now) _ _ _ (c.in-Ok.ensures.ok files _ told) c.in-Ok-changes_of.ensures.ok c.in-Ok-apply.ensures.ok
