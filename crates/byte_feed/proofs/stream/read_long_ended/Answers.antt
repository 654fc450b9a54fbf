use Rattle.std.proofs.Common.{◌≡◌, ℕ, ◌+◌, ◌<◌, ◌≤◌, ◌∷◌, [], ◌++◌, All, inl, inr, length, take, drop, refl, sym, ap, subst, ◌∙◌, arith, length-append, length-drop}
use Rattle.std.proofs.lemmas.Bool.{ne_eqb, cases_lt}
use Rattle.std.proofs.lemmas.List.{take-append-le, drop-append-le}
use Rattle.std.proofs.lemmas.List.Elements.{All-push}
use Rattle.byte_feed.proofs.TakenOff.{took_as, took_then}
use Rattle.byte_feed.proofs.Draws.{draws_then}
use Rattle.byte_feed.proofs.Streams.{byte_took, ended_done, ended_cut, ended_long}
use Rattle.byte_feed.proofs.stream.read_long_ended.Goals as goal

pub returns-in-Err-clause-text : goal.returns-in-Err-clause-text
returns-in-Err-clause-text g c =
    let before = length c.args.into.now in
    let text = drop before c.bytes.into in
    ended_cut _ _ text _ _ _ _ _ _ c.in-Err.cause c.bytes.invariant.plain (omega (arith, c.bytes.invariant.fits, length-drop before c.bytes.into)) c.bytes.invariant.took c.in-Err.ensures.byte

pub returns-then-byte-eq0-clause-text : goal.returns-then-byte-eq0-clause-text
returns-then-byte-eq0-clause-text g c =
    let before = length c.args.into.now in
    let text = drop before c.bytes.into in
    let zero = byte_took _ _ _ _ 0 (rw c.if-byte-eq0.true at c.in-Ok.ensures.byte) in
    ended_done _ _ _ text _ _ _ _ refl
    (record { fits = omega (arith, c.bytes.invariant.fits, length-drop before c.bytes.into); plain = c.bytes.invariant.plain })
    (took_then _ _ _ _ _ _ text (0 ∷ []) c.bytes.invariant.took zero)

pub bytes-preserved : goal.bytes-preserved
bytes-preserved g c =
    let before = length c.args.into.now in
    let text = drop before c.bytes.into in
    let b = c.in-Ok.byte in
    let byte = byte_took _ _ _ _ b c.in-Ok.ensures.byte in
    let pushed = c.in-Ok-push_byte.ensures.ok in
    let more : drop before c.push_byte.new.self ≡ text ++ b ∷ [] = ap (drop before) pushed ∙ drop-append-le before c.bytes.into (b ∷ []) c.bytes.invariant.grows in
    let len : length c.push_byte.new.self ≡ length c.bytes.into + 1 = omega (arith, ap length pushed, length-append c.bytes.into (b ∷ [])) in
    record {
      begins = ap (take before) pushed ∙ take-append-le before c.bytes.into (b ∷ []) c.bytes.invariant.grows ∙ c.bytes.invariant.begins;
      took = took_as _ _ _ _ (text ++ b ∷ []) _ more (took_then _ _ _ _ _ _ text (b ∷ []) c.bytes.invariant.took byte);
      plain = subst (All (λ n. 0 < n)) (sym more) (All-push (λ n. 0 < n) text b c.bytes.invariant.plain (omega (arith, c.if-byte-eq0.false)));
      start = c.bytes.invariant.start;
      grows = omega (arith, len, c.bytes.invariant.grows);
      fits = omega (arith, len, c.in-Ok-push_byte.ensures.variant.0 refl);
      offset = omega (arith, len, c.bytes.invariant.offset, c.in-Ok.ensures.grows);
      drawn = draws_then _ _ _ _ _ _ _ _ _ c.bytes.invariant.drawn c.in-Ok.ensures.drawn;
      faults = omega (arith, c.bytes.invariant.faults, c.in-Ok.ensures.later);
      kept = g.met.S.Source.keeps_on _ _ _ c.bytes.invariant.kept c.in-Ok.ensures.kept;
    }

full : (n : ℕ) (P : Type 0) → (n + 1 ≤ 4096 → P) → (P → ⊥) → 4096 ≤ n
full n P fits not =
    elim (cases_lt n 4096) [
      | inl lt ↦ absurd (not (fits (omega (arith, lt))))
      | inr le ↦ le
    ]

pub returns-in_default-clause-text : goal.returns-in_default-clause-text
returns-in_default-clause-text g c =
    let before = length c.args.into.now in
    let text = drop before c.bytes.into in
    let b = c.in-Ok.byte in
    let byte = byte_took _ _ _ _ b c.in-Ok.ensures.byte in
    ended_long _ _ text b _ _ _ _ c.bytes.invariant.plain
    (omega (arith, full (length c.bytes.into) _ c.in_default.ensures.variant.1 (λ is. absurd cc), length-drop before c.bytes.into))
    (ne_eqb b 0 c.if-byte-eq0.false)
    (took_then _ _ _ _ _ _ text (b ∷ []) c.bytes.invariant.took byte)
