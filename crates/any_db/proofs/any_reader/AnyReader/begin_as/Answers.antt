use Rattle.any_db.proofs.any_reader.AnyReader.begin_as.Goals as goal

pub returns-in-Mlocate-clause-preamble : goal.returns-in-Mlocate-clause-preamble
returns-in-Mlocate-clause-preamble g c = rw c.in-Mlocate.is (rw c.on-reader.ensures at c.begin_paths-begun.ensures.preamble)

pub returns-in-Mlocate-clause-ok : goal.returns-in-Mlocate-clause-ok
returns-in-Mlocate-clause-ok g c = rw c.in-Mlocate.is (rw c.on-reader.ensures at c.begin_paths-begun.ensures.ok)

pub returns-in-Mlocate-clause-refused : goal.returns-in-Mlocate-clause-refused
returns-in-Mlocate-clause-refused g c = rw c.in-Mlocate.is (rw c.on-reader.ensures at c.begin_paths-begun.ensures.refused)

pub returns-in-Mlocate-clause-err : goal.returns-in-Mlocate-clause-err
returns-in-Mlocate-clause-err g c = rw c.in-Mlocate.is (rw c.on-reader.ensures at c.begin_paths-begun.ensures.err)

pub returns-in-Locate02-clause-preamble : goal.returns-in-Locate02-clause-preamble
returns-in-Locate02-clause-preamble g c = rw c.in-Locate02.is (rw c.on-reader-in-Locate02.ensures at c.begin_paths-begun-in-Locate02.ensures.preamble)

pub returns-in-Locate02-clause-ok : goal.returns-in-Locate02-clause-ok
returns-in-Locate02-clause-ok g c = rw c.in-Locate02.is (rw c.on-reader-in-Locate02.ensures at c.begin_paths-begun-in-Locate02.ensures.ok)

pub returns-in-Locate02-clause-refused : goal.returns-in-Locate02-clause-refused
returns-in-Locate02-clause-refused g c = rw c.in-Locate02.is (rw c.on-reader-in-Locate02.ensures at c.begin_paths-begun-in-Locate02.ensures.refused)

pub returns-in-Locate02-clause-err : goal.returns-in-Locate02-clause-err
returns-in-Locate02-clause-err g c = rw c.in-Locate02.is (rw c.on-reader-in-Locate02.ensures at c.begin_paths-begun-in-Locate02.ensures.err)

pub returns-in-Ok-clause-preamble : goal.returns-in-Ok-clause-preamble
returns-in-Ok-clause-preamble g c = rw c.in-Bigram.is (rw c.on-reader-in-Bigram.ensures at c.in-Ok.ensures.preamble)

pub returns-in-Ok-clause-ok : goal.returns-in-Ok-clause-ok
returns-in-Ok-clause-ok g c = rw c.in-Bigram.is (rw c.on-reader-in-Bigram.ensures at c.in-Ok.ensures.ok)

pub returns-in-Err-clause-refused : goal.returns-in-Err-clause-refused
returns-in-Err-clause-refused g c = rw c.in-Bigram.is (rw c.on-reader-in-Bigram.ensures at c.in-Err.ensures.refused)

pub returns-in-Err-clause-err : goal.returns-in-Err-clause-err
returns-in-Err-clause-err g c = rw c.in-Bigram.is (rw c.on-reader-in-Bigram.ensures at c.in-Err.ensures.err)
