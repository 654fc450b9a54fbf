use Rattle.std.proofs.Common.{◌≡◌, map, take, drop}
use Rattle.locate_tools.specs.RegexesAsked.{first_refused, regexes_by}
use Rattle.locate_tools.proofs.regexes.read_all.Given as goal

-- none of the patterns so far is refused
abbrev pub invariant-loop-pattern : goal.invariant-loop-pattern
invariant-loop-pattern l = record {
  read : l.regexes.items ≡ regexes_by l.extended l.fold (map (λ t. t.now) (take l.pattern-index l.patterns));
  none : first_refused 0 (regexes_by l.extended l.fold (map (λ t. t.now) l.patterns))
      ≡ first_refused l.pattern-index (regexes_by l.extended l.fold (map (λ t. t.now) (drop l.pattern-index l.patterns)));
}
