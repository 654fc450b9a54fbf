use Rattle.std.proofs.Common.{◌≡◌, ◌+◌, ◌≤◌, true, take, sum_by}
use Rattle.std.specs.List.{list_all}
use Rattle.locate_tools.specs.Regexes.{found_in, steps_of}
use Rattle.locate_tools.proofs.regex_matcher.all_match.Given as goal

abbrev pub invariant-loop-at : goal.invariant-loop-at
invariant-loop-at g l = record {
  same : l.regexes.items ≡ l.initial.regexes.items;
  all : list_all (found_in l.text) (take l.at l.initial.regexes.items) ≡ true;
  later : l.initial.steps ≤ l.steps;
  within : l.steps ≤ l.initial.steps + sum_by (steps_of l.text) (take l.at l.initial.regexes.items);
}
