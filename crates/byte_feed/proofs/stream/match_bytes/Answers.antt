use Rattle.std.proofs.Common.{◌≡◌, ◌≤◌, ℕ, ◌∷◌, [], ◌++◌, List, length, drop, refl, sym, ap, ◌∙◌, arith, length-append, length-take}
use Rattle.std.proofs.lemmas.List.{take-append-drop}
use Rattle.byte_feed.specs.Field.{bytes_at}
use Rattle.byte_feed.proofs.TakenOff.{took_then, took_held}
use Rattle.byte_feed.proofs.Draws.{draws_then, draws_still}
use Rattle.byte_feed.proofs.Streams.{byte_took, cut_off}
use Rattle.byte_feed.proofs.Compared.{short_of, matches_cut, same_on}
use Rattle.byte_feed.proofs.stream.match_bytes.Goals as goal

pub returns-in-Err-clause-matches : goal.returns-in-Err-clause-matches
returns-in-Err-clause-matches g c =
    let t = c.pieces.invariant.text in
    matches_cut {X = ℕ} c.args.count c.args.expected.now (λ n. []) _ _ _ _ c.in-Err.cause
    (cut_off (bytes_at c.args.count) (λ n. []) t.0 _ _ _ _ _ _ c.in-Err.cause (short_of c.args.count t.0 (omega (arith, t.2, c.pieces-test.true))) t.1 c.in-Err.ensures.byte)

pub pieces-preserved : goal.pieces-preserved
pieces-preserved g c =
    let t = c.pieces.invariant.text in
    let b = c.in-Ok.byte in
    let n = c.min-len.result in
    let held = c.read_byte.new.feed.held in
    let piece = c.ahead.result.now in
    let within : n ≤ length held = omega (arith, c.min-len.ensures, ap length c.held.ensures.value) in
    let len : length piece ≡ n = omega (arith, ap length c.ahead.ensures, length-take n held, within) in
    let parts : held ≡ piece ++ c.pass.new.self.held = sym (take-append-drop n held) ∙ ap (λ (l : List ℕ). l ++ drop n held) (sym c.ahead.ensures) ∙ ap (λ (l : List ℕ). piece ++ l) (sym c.pass.ensures.held) in
    record {
      text = (
        t.0 ++ b ∷ piece,
        took_then _ _ _ _ _ _ t.0 (b ∷ piece) t.1 (took_then _ _ _ _ _ _ (b ∷ []) piece (byte_took _ _ _ _ b c.in-Ok.ensures.byte) (took_held _ _ _ piece c.pass.ensures.ended parts (omega (arith, len, c.pass.ensures.offset)) (omega (arith, c.pass.ensures.bound)))),
        omega (arith, t.2, len, length-append t.0 (b ∷ piece)),
        same_on t.0 piece c.args.expected.now b c.pieces.done n c.pieces.same c.continues-same.result t.2 len t.3 c.continues-same.ensures,
      );
      done = omega (arith, c.min-len.ensures, c.pieces-test.true);
      offset = omega (arith, c.pieces.invariant.offset, c.in-Ok.ensures.grows, c.pass.ensures.offset);
      held = c.pass.ensures.most;
      drawn = draws_then _ _ _ _ _ _ _ _ _ c.pieces.invariant.drawn (draws_then _ _ _ _ _ _ _ _ _ c.in-Ok.ensures.drawn
          (draws_still _ _ _ _ _ _ (omega (arith, c.pass.ensures.offset, ap length parts, length-append piece c.pass.new.self.held, len)) c.pass.ensures.ended refl refl));
      reach = omega (arith, c.in-Ok.ensures.reach, c.pass.ensures.offset, ap length parts, length-append piece c.pass.new.self.held, len);
      faults = omega (arith, c.pieces.invariant.faults, c.in-Ok.ensures.later);
      kept = g.met.S.Source.keeps_on _ _ _ c.pieces.invariant.kept c.in-Ok.ensures.kept;
    }
