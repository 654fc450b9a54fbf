-- What a voucher keeps while it is asked, over no question and over one question after another.
use Rattle.std.specs.Prelude.{ℕ, List, Option, refl}
use Rattle.std.proofs.Common.{◌∙◌}
use Rattle.byte_feed.proofs.Draws.{draws_none, draws_then}
use Rattle.dir_reuse.specs.declared.cursor.Cursor.{Cursor}
use Rattle.dir_reuse.specs.Faults.{at_most_itself, at_most_trans, rose_first, rose_last}
use Rattle.dir_reuse.specs.Stream.{ReadsOn}

pub reads_none : (c : Cursor) (faults given : ℕ) (left : Option (List ℕ)) → ReadsOn c c faults faults given given left left
reads_none c faults given left = record {
  later = at_most_itself faults;
  unbroken = λ still. refl;
  drawn = draws_none c.reader.feed given left;
  shut = λ e. (e, refl);
}

pub reads_then : (c c' c'' : Cursor) (f f' f'' g g' g'' : ℕ) (l l' l'' : Option (List ℕ)) → ReadsOn c c' f f' g g' l l' → ReadsOn c' c'' f' f'' g' g'' l' l'' → ReadsOn c c'' f f'' g g'' l l''
reads_then c c' c'' f f' f'' g g' g'' l l' l'' first then = record {
  later = at_most_trans f f' f'' first.later then.later;
  unbroken = λ still. then.unbroken (λ r. still (rose_last f f' f'' first.later r)) ∙ first.unbroken (λ r. still (rose_first f f' f'' r then.later));
  drawn = draws_then c.reader.feed c'.reader.feed c''.reader.feed g g' g'' l l' l'' first.drawn then.drawn;
  shut = λ e. let p = first.shut e in let q = then.shut p.0 in (q.0, q.1 ∙ p.1);
}
