use Rattle.std.proofs.Common.{◌≡◌, ℕ, ◌+◌, ◌≤◌, ◌∷◌, [], ◌++◌, inl, inr, length, refl, sym, ap, subst, ◌∙◌, arith, length-append}
use Rattle.std.proofs.lemmas.Bool.{cases_lt, eqb-true}
use Rattle.std.proofs.lemmas.List.{nil_from_length}
use Rattle.byte_feed.proofs.TakenOff.{took_as, took_then}
use Rattle.byte_feed.proofs.Draws.{draws_then}
use Rattle.path_list.proofs.PathSteps.{Part, part_more, path_empty, path_long, path_zero, path_fault, path_large}
use Rattle.path_list.proofs.stream.read_long_path.Goals as goal

pub returns-in-Err-ReadFault-clause-path : goal.returns-in-Err-ReadFault-clause-path
returns-in-Err-ReadFault-clause-path g c =
    let e = c.in-Err-ReadFault.ensures in
    path_fault c.args.mark c.bytes.path _ _ _ _ _ _ _ c.bytes.invariant.part c.bytes.invariant.took e.refused e.left e.empty ((rw c.in-Err-ReadFault.field-0-is at e.goes_on) refl)

pub returns-in-Err-TooLarge-clause-path : goal.returns-in-Err-TooLarge-clause-path
returns-in-Err-TooLarge-clause-path g c =
    let e = c.in-Err-TooLarge.ensures in
    path_large c.args.mark c.bytes.path _ _ _ _ _ _ _ c.bytes.invariant.part c.bytes.invariant.took e.refused e.left ((rw c.in-Err-TooLarge.field-0-is at e.large) refl)

pub returns-then-is_empty-clause-path : goal.returns-then-is_empty-clause-path
returns-then-is_empty-clause-path g c =
    let took = rw c.in-Ok-Some.field-0-is at c.in-Ok-Some.ensures.took in
    let mark = rw c.if-byte-mark.true at took in
    let none : length c.bytes.path ≡ 0 = rw c.bytes-then-byte-mark.ensures.value at (eqb-true _ 0 (sym c.is_empty-then-byte-mark.ensures ∙ c.if-is_empty.true)) in
    path_empty c.args.mark c.bytes.path _ _ _ _ _ _ (nil_from_length c.bytes.path none) c.bytes.invariant.took mark

full : (n : ℕ) (P : Type 0) → n ≤ 4096 → (n + 1 ≤ 4096 → P) → (P → ⊥) → 4096 ≡ n
full n P most fits not =
    elim (cases_lt n 4096) [
      | inl lt ↦ absurd (not (fits (omega (arith, lt))))
      | inr le ↦ omega (arith, most, le)
    ]

pub returns-in_default-clause-path : goal.returns-in_default-clause-path
returns-in_default-clause-path g c =
    let took = rw c.in-Ok-Some.field-0-is at c.in-Ok-Some.ensures.took in
    path_long c.args.mark c.bytes.path _ c.in-Ok-Some.byte _ _ _ _ _ _ c.bytes.invariant.part c.if-byte-mark.false (omega (arith, c.if-byte-eq0.false))
    (full (length c.bytes.path) _ c.bytes.invariant.part.fits c.in_default.ensures.variant.1 (λ is. absurd cc)) c.bytes.invariant.took took

pub returns-then-byte-eq0-clause-path : goal.returns-then-byte-eq0-clause-path
returns-then-byte-eq0-clause-path g c =
    let took = rw c.in-Ok-Some.field-0-is at c.in-Ok-Some.ensures.took in
    let zero = rw c.if-byte-eq0.true at took in
    let other = rw c.if-byte-eq0.true at c.if-byte-mark.false in
    path_zero c.args.mark c.bytes.path _ _ _ _ _ _ _ c.bytes.invariant.part other c.bytes.invariant.took zero

pub bytes-preserved : goal.bytes-preserved
bytes-preserved g c =
    let b = c.in-Ok-Some.byte in
    let took = rw c.in-Ok-Some.field-0-is at c.in-Ok-Some.ensures.took in
    let pushed = c.in-Ok.ensures.ok in
    let len : length c.push_byte.new.self ≡ length c.bytes.path + 1 = omega (arith, ap length pushed, length-append c.bytes.path (b ∷ [])) in
    let one : c.next.new.self.offset ≡ c.bytes.feed.offset + 1 = rw c.in-Ok-Some.field-0-is at c.in-Ok-Some.ensures.offset in
    record {
      took = took_as _ _ _ _ (c.bytes.path ++ b ∷ []) _ pushed (took_then _ _ _ _ _ _ c.bytes.path (b ∷ []) c.bytes.invariant.took took);
      part = subst (Part c.args.mark) (sym pushed) (part_more c.args.mark c.bytes.path b c.bytes.invariant.part c.if-byte-mark.false (omega (arith, c.if-byte-eq0.false)) (omega (arith, c.in-Ok.ensures.variant.0 refl)));
      offset = omega (arith, len, c.bytes.invariant.offset, one);
      drawn = draws_then _ _ _ _ _ _ _ _ _ c.bytes.invariant.drawn c.in-Ok-Some.ensures.drawn;
      faults = omega (arith, c.bytes.invariant.faults, c.in-Ok-Some.ensures.later);
      kept = g.met.S.Source.keeps_on _ _ _ c.bytes.invariant.kept c.in-Ok-Some.ensures.kept;
    }
