use Rattle.std.proofs.Common.{◌≡◌, ◌+◌, ◌-◌, ◌<◌, length, refl, sym, ap, subst, arith}
use Rattle.std.proofs.lemmas.Bool.{false≢true}
use Rattle.memchr.specs.Find.{Nowhere, NoneBefore}
use Rattle.glob_match.specs.Needle.{Stands}
use Rattle.glob_match.proofs.Needles.{skipped, skipped_all, found_below, none_left, passed_one}
use Rattle.glob_match.proofs.needle.Needle.first_from.Goals as goal

pub returns-in_default : goal.returns-in_default
returns-in_default c =
    let fold = c.self.inside.fold in
    let bytes = c.self.inside.bytes.items in
    let text = c.args.text.now in
    let len : length c.as_slice-bytes.result.now ≡ length bytes = ap length c.as_slice-bytes.ensures.value in
    let past = length text - length c.as_slice-bytes.result.now + 1 in
    let looks = c.self.invariant (subst (λ n. 0 < length n.1) (sym c.self.view_is) c.requires) in
    let passed = skipped_all fold bytes text c.self.inside.rare c.self.inside.small c.self.inside.big looks c.args.from c.loop-at.at past (omega arith) (omega arith) (omega arith) c.in_default.ensures c.loop-at.invariant.passed in
    subst (λ n. Nowhere (Stands n.0 n.1 text) c.args.from (length text + 1)) c.self.view_is
    (none_left fold bytes text c.self.inside.rare c.self.inside.small c.self.inside.big looks c.args.from past (omega arith) (omega arith) passed (length text + 1))

pub returns-then-stands_at : goal.returns-then-stands_at
returns-then-stands_at c =
    let fold = c.self.inside.fold in
    let bytes = c.self.inside.bytes.items in
    let text = c.args.text.now in
    let place = c.loop-at.at + c.in-Some.more in
    let on = c.loop-at.invariant.on in
    let len : length c.as_slice-bytes.result.now ≡ length bytes = ap length c.as_slice-bytes.ensures.value in
    let past = length text - length c.as_slice-bytes.result.now + 1 in
    let looks = c.self.invariant (subst (λ n. 0 < length n.1) (sym c.self.view_is) c.requires) in
    let below : place < past = found_below fold bytes text c.self.inside.rare c.self.inside.small c.self.inside.big looks c.loop-at.at past c.in-Some.more (omega arith) (omega arith) c.in-Some.ensures.0.high in
    let passed : Nowhere (Stands fold bytes text) c.args.from place = skipped fold bytes text c.self.inside.rare c.self.inside.small c.self.inside.big looks c.args.from c.loop-at.at past c.in-Some.more (omega arith) c.in-Some.ensures.0.before c.loop-at.invariant.passed in
    let there : Stands fold bytes text place = subst (λ b. Stands fold b text place) c.as_slice-bytes.ensures.value (c.if-stands_at.ensures.0 refl) in
    subst (λ n. NoneBefore (Stands n.0 n.1 text) c.args.from (length text + 1) place × Stands n.0 n.1 text place) c.self.view_is
    (record { low = omega arith; high = omega arith; before = passed }, there)

pub loop-at-preserved : goal.loop-at-preserved
loop-at-preserved c =
    let fold = c.self.inside.fold in
    let bytes = c.self.inside.bytes.items in
    let text = c.args.text.now in
    let place = c.loop-at.at + c.in-Some.more in
    let on = c.loop-at.invariant.on in
    let len : length c.as_slice-bytes.result.now ≡ length bytes = ap length c.as_slice-bytes.ensures.value in
    let past = length text - length c.as_slice-bytes.result.now + 1 in
    let looks = c.self.invariant (subst (λ n. 0 < length n.1) (sym c.self.view_is) c.requires) in
    let below : place < past = found_below fold bytes text c.self.inside.rare c.self.inside.small c.self.inside.big looks c.loop-at.at past c.in-Some.more (omega arith) (omega arith) c.in-Some.ensures.0.high in
    let passed : Nowhere (Stands fold bytes text) c.args.from place = skipped fold bytes text c.self.inside.rare c.self.inside.small c.self.inside.big looks c.args.from c.loop-at.at past c.in-Some.more (omega arith) c.in-Some.ensures.0.before c.loop-at.invariant.passed in
    record {
      on = omega arith;
      passed = passed_one fold bytes text c.args.from place passed (λ h. false≢true (c.if-stands_at.ensures.1 (subst (λ b. Stands fold b text place) (sym c.as_slice-bytes.ensures.value) h)));
    }
