use Rattle.std.proofs.Common.{inl, inr, ap, rules}
use Rattle.clap.specs.Words.{app_of, is_simple}
use Rattle.clap.specs.Faults.{is_free_app}
use Rattle.clap.specs.Simple.{built}
use Rattle.tool_words.specs.Matches.{has_fault, found, found_in, refuses}
use Rattle.tool_words.proofs.MatchLemmas.{first_of_both, has_fault-among}
use Rattle.tool_words.proofs.matches.taken.Goals as goal

pub returns-in-Ok : goal.returns-in-Ok
unfolding refuses found found_in
returns-in-Ok c =
    let simple = first_of_both (is_simple (app_of c.args.command)) (is_free_app (built (app_of c.args.command))) c.requires in
    (ap has_fault (c.in-Ok.ensures.kinds c.requires), (c.in-Ok.ensures.matches simple).0)

pub returns : goal.returns
unfolding refuses
returns c = elim (c.in-Err.ensures.kinds c.requires) [
  | inl memory ↦ absurd (search (rules, memory))
  | inr among ↦ has_fault-among _ _ among
]
