use Rattle.locate_tools.proofs.messages.tell_cause.Goals as goal

pub returns-in-RootMissing-clause-part : goal.returns-in-RootMissing-clause-part
returns-in-RootMissing-clause-part g c = rw c.in-RootMissing.is c.tell_about.ensures.part

pub returns-in-TooManyDirectories-clause-ok : goal.returns-in-TooManyDirectories-clause-ok
returns-in-TooManyDirectories-clause-ok g c = rw c.in-TooManyDirectories.is c.tell-in-TooManyDirectories.ensures.ok

pub returns-in-TooManyDirectories-clause-part : goal.returns-in-TooManyDirectories-clause-part
returns-in-TooManyDirectories-clause-part g c = rw c.in-TooManyDirectories.is c.tell-in-TooManyDirectories.ensures.part

pub returns-in-Missing-clause-part : goal.returns-in-Missing-clause-part
returns-in-Missing-clause-part g c = rw c.in-Missing.is c.tell_about-in-Missing.ensures.part

pub returns-in-NotADatabase-clause-ok : goal.returns-in-NotADatabase-clause-ok
returns-in-NotADatabase-clause-ok g c = rw c.in-NotADatabase.is c.tell_about-in-NotADatabase.ensures.ok

pub returns-in-NotADatabase-clause-part : goal.returns-in-NotADatabase-clause-part
returns-in-NotADatabase-clause-part g c = rw c.in-NotADatabase.is c.tell_about-in-NotADatabase.ensures.part
