use Rattle.std.proofs.Common.{◌≡◌, ◌≤◌, true, take}
use Rattle.std.specs.Char.{is_ascii_digit}
use Rattle.std.specs.List.{list_all}
use Rattle.updatedb_conf.specs.Value.{number_of}
use Rattle.updatedb_conf.proofs.value.number_written.Given as goal

abbrev pub invariant-loop-byte : goal.invariant-loop-byte
invariant-loop-byte l =
    record {
      digits : list_all is_ascii_digit (take l.byte-index l.text) ≡ true;
      number : l.number ≡ number_of (take l.byte-index l.text);
      none : l.byte-index ≤ 0 → l.number ≤ 0;
      one : l.byte-index ≤ 1 → l.number ≤ 9;
      two : l.byte-index ≤ 2 → l.number ≤ 99;
      three : l.byte-index ≤ 3 → l.number ≤ 999;
      four : l.byte-index ≤ 4 → l.number ≤ 9999;
    }
