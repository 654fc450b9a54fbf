use Rattle.std.proofs.Common.{rules, arith, IsTrue}
use Rattle.std.specs.FinMap.{entries}
use Rattle.std.proofs.lemmas.List.Sorted.{length_permutation}
use Rattle.tree_scan.specs.Admitted.{fits_in}
use Rattle.tree_scan.proofs.TreeAnswers.{shown_listing}
use Rattle.tree_scan.proofs.Sorting.{sorted_admitted, all_sorted}
use Rattle.tree_scan.proofs.directory.list_names.Goals as goal

pub returns-clause-shown : goal.returns-clause-shown
returns-clause-shown g c = λ dirs dir told found.
    let s = shown_listing _ dirs c.args.path.now dir c.in-Ok.listing (g.T.Tree.rest c.open_dir.new.self) told found c.in-Shown.is c.in-Ok.ensures.found in
    (s.shown, sorted_admitted c.args.path.now dir s.listed c.read_names.new.names c.sort.new.self s.perm (c.in_ok-read_names.ensures.ok s.listed s.told) c.in-Ok-sort.ensures.ok)

pub returns-clause-fitting : goal.returns-clause-fitting
returns-clause-fitting g c = λ t. record {
  fit = all_sorted (λ e. IsTrue (fits_in c.args.path.now e.0)) c.read_names.new.names c.sort.new.self c.in-Ok-sort.ensures.ok c.in_ok-read_names.ensures.fits;
  rise = c.in-Ok-sort.ensures.ok.rises;
  few = omega (arith, c.sort.ensures.fewer, c.in_ok-read_names.ensures.within, c.requires);
}

pub returns-in_err-read_names-clause-many : goal.returns-in_err-read_names-clause-many
returns-in_err-read_names-clause-many g c = λ e dirs dir told found.
    let s = shown_listing _ dirs c.args.path.now dir c.in-Ok.listing (g.T.Tree.rest c.open_dir.new.self) told found c.in-Shown.is c.in-Ok.ensures.found in
    let size = length_permutation s.listed (entries dir.names) s.perm in
    (s.shown, omega (arith, size, c.in_err-read_names.ensures.many (search rules) s.listed s.told))

pub returns-clause-kept_limit : goal.returns-clause-kept_limit
returns-clause-kept_limit g c = λ dirs dir told found shown.
    let s = shown_listing _ dirs c.args.path.now dir c.in-Ok.listing (g.T.Tree.rest c.open_dir.new.self) told found c.in-Shown.is c.in-Ok.ensures.found in
    let size = length_permutation s.listed (entries dir.names) s.perm in
    omega (arith, size, c.in_ok-read_names.ensures.kept_limit s.listed s.told)
