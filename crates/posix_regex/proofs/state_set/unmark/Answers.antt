use Rattle.std.proofs.Common.{◌<◌, length, get_or, false, refl, ◌∙◌, length-set, arith}
use Rattle.posix_regex.proofs.Inserted.{contains_at}
use Rattle.posix_regex.proofs.Marks.{unmarked_next, unmarked_last}
use Rattle.posix_regex.proofs.state_set.unmark.Goals as goal

pub index_mut-requires : goal.index_mut-requires
index_mut-requires c =
    let s = get_or c.args.listed.now c.loop-k.k 0 in
    omega (arith, c.loop-k.invariant.same_length, c.requires.below s (contains_at c.args.listed.now c.loop-k.k s c.loop-k-test.true refl))

pub loop-k-preserved : goal.loop-k-preserved
loop-k-preserved c =
    let s = get_or c.args.listed.now c.loop-k.k 0 in
    let fits : s < length c.loop-k.marks.items = omega (arith, c.loop-k.invariant.same_length, c.requires.below s (contains_at c.args.listed.now c.loop-k.k s c.loop-k-test.true refl)) in
    record {
      same_length = length-set c.loop-k.marks.items s false ∙ c.loop-k.invariant.same_length;
      left = unmarked_next c.args.listed.now c.loop-k.marks.items c.loop-k.k c.loop-k-test.true fits c.loop-k.invariant.left;
    }

pub returns-clause-none : goal.returns-clause-none
returns-clause-none c = unmarked_last c.args.listed.now c.loop-k.marks.items c.loop-k.k c.loop-k-test.false c.loop-k.invariant.left
