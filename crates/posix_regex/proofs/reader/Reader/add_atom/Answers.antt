use Rattle.posix_regex.proofs.reader.Reader.add_atom.Goals as goal

pub returns-in-Ok-add_atom : goal.returns-in-Ok-add_atom
returns-in-Ok-add_atom c = λ e place read ha h. record {
  its_inner = c.in-Ok-add_atom.ensures e read.inner (rw c.in-Ok.is at ha) h.its_inner;
  its_outer = h.its_outer;
}
