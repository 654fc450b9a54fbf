use Rattle.std.proofs.Common.{ap, ◌∙◌, Ok, sym}
use Rattle.tool_words.specs.UpdatedbSeen.{seen}
use Rattle.tree_scan.specs.Plans.{plan_of}
use Rattle.database_update.proofs.FileLemmas.{plan_bad_conf, plan_bad_mounts, plan_ok}
use Rattle.database_update.proofs.settings.read_settings.Goals as goal

pub returns-in-Err-clause-refused : goal.returns-in-Err-clause-refused
returns-in-Err-clause-refused g c = λ yes files told. plan_bad_conf files (seen c.args.asked.now) _ (c.in-Err.ensures.refused yes files told)

pub returns-in-Err-mounts_of-clause-refused : goal.returns-in-Err-mounts_of-clause-refused
returns-in-Err-mounts_of-clause-refused g c = λ yes files told.
    plan_bad_mounts files (seen c.args.asked.now) _ _ (c.in-Ok.ensures.ok files told) (c.in-Err-mounts_of.ensures.refused yes files (c.in-Ok.ensures.files ∙ told))

pub returns-clause-accepted : goal.returns-clause-accepted
returns-clause-accepted g c = λ files told.
    plan_ok files (seen c.args.asked.now) _ _ (c.in-Ok.ensures.ok files told) (c.in-Ok-mounts_of.ensures.ok files (c.in-Ok.ensures.files ∙ told))
    ∙ ap (λ r. Ok (plan_of r)) (sym c.rules_of.ensures.value)
