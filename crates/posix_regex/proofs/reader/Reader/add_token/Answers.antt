use Rattle.byte_class.specs.ByteSet.{has, members}
use Rattle.posix_regex.specs.Expression.{OneOf, Start, End}
use Rattle.posix_regex.proofs.reader.Reader.add_token.Goals as goal

pub returns-in-Set : goal.returns-in-Set
returns-in-Set c = λ read h. rw c.in-Set.is (c.add_atom.ensures (OneOf (members (has c.in-Set.set))) c.args.place read c.one_of.ensures h)

pub returns-in-Start : goal.returns-in-Start
returns-in-Start c = λ read h. rw c.in-Start.is (c.add_atom-in-Start.ensures Start c.args.place read c.start.ensures h)

pub returns-in-End : goal.returns-in-End
returns-in-End c = λ read h. rw c.in-End.is (c.add_atom-in-End.ensures End c.args.place read c.end.ensures h)

pub returns-in-Suffix : goal.returns-in-Suffix
returns-in-Suffix c = λ read h. rw c.in-Suffix.is (c.add_suffix.ensures c.args.place read h)

pub returns-in-Bar : goal.returns-in-Bar
returns-in-Bar c = λ read h. rw c.in-Bar.is (c.add_bar.ensures c.args.place read h)

pub returns-in-Close : goal.returns-in-Close
returns-in-Close c = λ read h. rw c.in-Close.is (c.close.ensures c.args.place read h)
