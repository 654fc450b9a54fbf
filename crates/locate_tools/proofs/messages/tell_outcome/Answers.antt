use Rattle.locate_tools.proofs.messages.tell_outcome.Goals as goal

pub returns-in-Missing-clause-part : goal.returns-in-Missing-clause-part
returns-in-Missing-clause-part g c = rw c.in-Missing.is c.tell_about.ensures.part

pub returns-in-NotADatabase-clause-ok : goal.returns-in-NotADatabase-clause-ok
returns-in-NotADatabase-clause-ok g c = rw c.in-NotADatabase.is c.tell_about-in-NotADatabase.ensures.ok

pub returns-in-NotADatabase-clause-part : goal.returns-in-NotADatabase-clause-part
returns-in-NotADatabase-clause-part g c = rw c.in-NotADatabase.is c.tell_about-in-NotADatabase.ensures.part

pub returns-in-GateFault-clause-ok : goal.returns-in-GateFault-clause-ok
returns-in-GateFault-clause-ok g c = rw c.in-GateFault.is c.tell_about-in-GateFault.ensures.ok

pub returns-in-GateFault-clause-part : goal.returns-in-GateFault-clause-part
returns-in-GateFault-clause-part g c = rw c.in-GateFault.is c.tell_about-in-GateFault.ensures.part
