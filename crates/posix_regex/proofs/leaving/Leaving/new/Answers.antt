use Rattle.std.proofs.Common.{◌≡◌, ◌==◌, ℕ, Bool, not, filter, slice_index, sym, ap, ◌∙◌, arith}
use Rattle.std.specs.List.{range_with_len}
use Rattle.std.proofs.lemmas.Bool.{eq-eqb, ne_eqb}
use Rattle.byte_class.specs.ByteSet.{members}
use Rattle.posix_regex.specs.Leaving.{few}
use Rattle.posix_regex.proofs.Leavings.{passes_more, passes_same}
use Rattle.posix_regex.proofs.leaving.Leaving.new.Goals as goal
use Rattle.posix_regex.proofs.leaving.Leaving.new.Goals.{then-next-byte, else-next-byte}

pub loop-byte-preserved : goal.loop-byte-preserved
loop-byte-preserved c =
    let byte = c.loop-byte.byte in
    let next = c.args.next.now in
    let number = c.args.number in
    let test : ℕ → Bool = λ b. not (slice_index next b == number) in
    elim c.if-next-byte.branch [
      | then-next-byte w ↦ w.leaving-is ∙ w.with-leaving.ensures (filter test (range_with_len 0 byte)) c.loop-byte.invariant ∙ ap few (sym (passes_more test byte (ap not (ne_eqb (slice_index next byte) number w.if-next-byte.true))))
      | else-next-byte w ↦ w.leaving-is ∙ c.loop-byte.invariant ∙ ap few (sym (passes_same test byte (ap not (eq-eqb (slice_index next byte) number w.if-next-byte.false))))
    ]

pub returns : goal.returns
unfolding members
returns c =
    let all : c.loop-byte.byte ≡ 256 = omega (arith, c.loop-byte-test.false, c.loop-byte.auto.byte-end) in
    c.loop-byte.invariant ∙ ap (λ n. few (filter (λ b. not (slice_index c.args.next.now b == c.args.number)) (range_with_len 0 n))) all
