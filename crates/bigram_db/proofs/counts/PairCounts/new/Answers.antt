use Rattle.std.proofs.Common.{◌≡◌, ℕ, List, get_or, ap, ◌∙◌, inl, inr, arith}
use Rattle.std.specs.Prelude.{replicate}
use Rattle.std.proofs.lemmas.Bool.{cases_lt}
use Rattle.std.proofs.lemmas.List.{get_or-replicate, get_or_past}
use Rattle.std.proofs.Math.ListN.{length-replicate}
use Rattle.bigram_db.specs.Counts.{index_of}
use Rattle.bigram_db.proofs.PairPlaces.{count_zero}
use Rattle.bigram_db.proofs.counts.PairCounts.new.Goals as goal

zero_at : (n i : ℕ) → get_or (replicate {A = ℕ} n 0) i 0 ≡ 0
zero_at n i = elim (cases_lt i n) [
  | inl below ↦ get_or-replicate n i 0 0 below
  | inr past ↦ get_or_past (replicate {A = ℕ} n 0) i 0 (omega (arith, past, length-replicate {A = ℕ} n 0))
]

zero_in : (n i : ℕ) (items : List ℕ) → items ≡ replicate {A = ℕ} n 0 → get_or items i 0 ≡ 0
zero_in n i items e = ap (λ (l : List ℕ). get_or l i 0) e ∙ zero_at n i

pub returns : goal.returns
returns c = λ p. count_zero c.in_ok-vec.field-0.items p (zero_in 9216 (index_of p) c.in_ok-vec.field-0.items (c.in_ok-vec.ensures.items_if_clones_equal (λ y e. e)))
