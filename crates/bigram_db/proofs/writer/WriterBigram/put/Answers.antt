use Rattle.std.proofs.Common.{◌≡◌, ◌+◌, ◌-◌, ◌≤◌, ◌++◌, ℕ, Result, Ok, Err, List, length, take, drop, ap, ◌∙◌, arith, length-take, length-drop}
use Rattle.std.specs.Prelude.{OnOk, IsOk, ◌↔◌}
use Rattle.bigram_db.specs.Items.{spell_count, spell_units}
use Rattle.byte_feed.specs.Prefix.{common_prefix}
use Rattle.bigram_db.specs.Spelled.{count_between, units_for}
use Rattle.bigram_db.specs.Writer.{WriterState, piece}
use Rattle.byte_feed.proofs.CommonPrefix.{left_of, with_rest}
use Rattle.bigram_db.proofs.writer.WriterBigram.put.Goals as goal

-- what stands in the buffer is the piece
piece_is : (table before path items : List ℕ) (old shared : ℕ) → shared ≡ common_prefix before path → items ≡ spell_count (count_between old shared) ++ spell_units (units_for table (take (length path - shared) (drop shared path)))
    → items ≡ piece (record { table = table; path = before; shared = old }) path
piece_is table before path items old shared is e =
    e ∙ ap (λ (rest : List ℕ). spell_count (count_between old shared) ++ spell_units (units_for table rest)) (left_of shared path)
    ∙ ap (λ (n : ℕ). spell_count (count_between old n) ++ spell_units (units_for table (drop n path))) is

pub returns-clause-ok : goal.returns-clause-ok
returns-clause-ok g c =
    let s = c.self.inside in
    let n = c.common_prefix-shared.result in
    let is : n ≡ common_prefix s.path c.args.path.now = rw c.bytes.ensures.value at c.common_prefix-shared.ensures.value in
    let rest : List ℕ = spell_units (units_for s.table (take (length c.args.path.now - n) (drop n c.args.path.now))) in
    let whole = piece_is s.table s.path c.args.path.now c.as_slice.result.now s.shared n is (c.as_slice.ensures.value ∙ c.push_units.ensures ∙ ap (λ (l : List ℕ). l ++ rest) c.push_count.ensures.bytes) in
    let put = rw whole at c.put_all.ensures.ok in
    rw (← c.self.view_is) put

pub returns-clause-err : goal.returns-clause-err
returns-clause-err g c =
    let s = c.self.inside in
    let n = c.common_prefix-shared.result in
    let is : n ≡ common_prefix s.path c.args.path.now = rw c.bytes.ensures.value at c.common_prefix-shared.ensures.value in
    let rest : List ℕ = spell_units (units_for s.table (take (length c.args.path.now - n) (drop n c.args.path.now))) in
    let whole = piece_is s.table s.path c.args.path.now c.as_slice.result.now s.shared n is (c.as_slice.ensures.value ∙ c.push_units.ensures ∙ ap (λ (l : List ℕ). l ++ rest) c.push_count.ensures.bytes) in
    let put = rw whole at c.put_all.ensures.short in
    rw (← c.self.view_is) put

on_ok : {A E : Type 0} (r : Result A E) (P : Type 0) → IsOk r → OnOk r P → P
on_ok (Ok x) P is h = h
on_ok (Err e) P is h = absurd cc

-- the path that is remembered
path_is : {A E : Type 0} (r : Result A E) (before path cut new : List ℕ) (n : ℕ) → n ≡ common_prefix before path → n ≤ length before → n ≤ length path → length path ≤ 4096 → cut ≡ take n before
    → IsOk r ↔ (length cut + length (take (length path - n) (drop n path)) ≤ 4096) → OnOk r (new ≡ cut ++ take (length path - n) (drop n path)) → new ≡ path
path_is r before path cut new n is low high fits kept variant ok =
    let room : length cut + length (take (length path - n) (drop n path)) ≤ 4096 = omega (arith, ap length kept, length-take n before, length-take (length path - n) (drop n path), length-drop n path) in
    on_ok r _ (variant.1 room) ok ∙ ap (λ (l : List ℕ). l ++ take (length path - n) (drop n path)) kept ∙ ap (λ (l : List ℕ). take n before ++ l) (left_of n path)
    ∙ with_rest n before path (omega (arith, is))

pub returns-clause-after : goal.returns-clause-after
returns-clause-after g c =
    let s = c.self.inside in
    let n = c.common_prefix-shared.result in
    let is : n ≡ common_prefix s.path c.args.path.now = rw c.bytes.ensures.value at c.common_prefix-shared.ensures.value in
    let low : n ≤ length s.path = rw c.bytes.ensures.value at c.common_prefix-shared.ensures.left in
    let path = path_is c.append.result s.path c.args.path.now c.cut.new.self c.append.new.self n is low c.common_prefix-shared.ensures.right c.requires.path.fits c.cut.ensures c.append.ensures.variant c.append.ensures.ok in
    let state : List ℕ → ℕ → WriterState = λ p m. record { table = s.table; path = p; shared = m } in
    rw (← c.self.view_is) (λ i. state (path i) (is i))
