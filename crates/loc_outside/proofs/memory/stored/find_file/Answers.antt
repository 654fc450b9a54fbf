use Rattle.std.proofs.Common.{◌≡◌, arith, true, false}
use Rattle.loc_outside.proofs.StoredLemmas.{has_name, get_here, found_after, get_nowhere, named_here}
use Rattle.loc_outside.proofs.memory.stored.find_file.Goals as goal

pub returns-then-eq : goal.returns-then-eq
returns-then-eq c =
    let named : has_name c.args.name.now c.index-files-i.result ≡ true = cc in
    record {
      found = (c.loop-i-test.true, get_here _ _ _ c.index-files-i.result c.loop-i-test.true c.index-files-i.is c.loop-i.invariant named);
      named = named_here _ _ _ c.index-files-i.result c.loop-i-test.true c.index-files-i.is named;
    }

pub loop-i-preserved : goal.loop-i-preserved
loop-i-preserved c =
    let other : has_name c.args.name.now c.index-files-i.result ≡ false = cc in
    found_after _ _ _ c.index-files-i.result c.loop-i-test.true c.index-files-i.is c.loop-i.invariant other

pub returns-clause-found : goal.returns-clause-found
returns-clause-found c = get_nowhere _ _ _ (omega arith) c.loop-i.invariant
