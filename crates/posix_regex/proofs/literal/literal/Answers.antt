use Rattle.std.proofs.Common.{◌<◌, ◌≤◌, length, ⊎_elim, arith}
use Rattle.std.specs.Vec.{vec_len}
use Rattle.std.proofs.lemmas.Bool.{cases_lt}
use Rattle.posix_regex.proofs.literal.literal.Goals as goal

pub returns : goal.returns
returns c = record {
  place = c.longest.result;
  stretch = record { gate = c.longest.ensures.gate; in_turn = c.in_ok-bytes.ensures.in_turn };
  longest = λ other more stretch. ⊎_elim
      (λ (longer : length c.in_ok-bytes.bytes.items < length more).
      let counted : vec_len c.in_ok-bytes.bytes < length more = omega arith in
      let there = c.longest.ensures.longest other more stretch (vec_len c.in_ok-bytes.bytes) counted in
      absurd (c.in_ok-bytes.ensures.ends there.0 there.1))
      (λ (fine : length more ≤ length c.in_ok-bytes.bytes.items). fine)
      (cases_lt (length c.in_ok-bytes.bytes.items) (length more));
}
