use Rattle.std.proofs.Common.{◌≡◌, ℕ, ◌-◌, ◌<◌, ◌≤◌, List, [], ◌∷◌, length, get_or, take, drop, ap, sym, ◌∙◌, arith}
use Rattle.std.proofs.lemmas.List.{get_or_default}
use Rattle.db_convert.specs.Texts.{texts_from, IsCut}
use Rattle.db_convert.proofs.CutTexts.{cut_at, text_at, texts_length}
use Rattle.db_convert.proofs.paths.Paths.at.Goals as goal

-- where a text stands
record Stands (bytes ends : List ℕ) (k start end : ℕ) : Type 0 where
  forth : start ≤ end
  within : end ≤ length bytes
  text : take (end - start) (drop start bytes) ≡ get_or (texts_from bytes 0 ends) k []

stands : (bytes ends lent : List ℕ) (k start end : ℕ) → IsCut 0 ends (length bytes) → k < length ends → lent ≡ ends → start ≡ get_or (0 ∷ lent) k 0 → end ≡ get_or ends k end → Stands bytes ends k start end
stands bytes ends lent k start end cut lt is from to =
    let begins : start ≡ get_or (0 ∷ ends) k 0 = from ∙ ap (λ (l : List ℕ). get_or (0 ∷ l) k 0) is in
    let stops : end ≡ get_or ends k 0 = to ∙ get_or_default ends k end 0 lt in
    let found = cut_at 0 ends (length bytes) k cut lt in
    record {
      forth = omega (arith, begins, stops, found.0);
      within = omega (arith, stops, found.1);
      text = (λ i. take (stops i - begins i) (drop (begins i) bytes)) ∙ sym (text_at bytes 0 ends k lt);
    }

pub start_of-start-requires : goal.start_of-start-requires
start_of-start-requires c =
    omega (arith, c.requires, ap length c.deref.ensures.value, texts_length c.self.inside.bytes.items 0 c.self.inside.ends.items, ap length c.self.view_is)

pub index-end-requires : goal.index-end-requires
index-end-requires c =
    omega (arith, c.requires, texts_length c.self.inside.bytes.items 0 c.self.inside.ends.items, ap length c.self.view_is)

pub text_in-requires : goal.text_in-requires
text_in-requires c =
    let lt : c.args.at < length c.self.inside.ends.items = omega (arith, c.requires, texts_length c.self.inside.bytes.items 0 c.self.inside.ends.items, ap length c.self.view_is) in
    let s = stands c.self.inside.bytes.items c.self.inside.ends.items c.deref.result.now c.args.at _ _ c.self.invariant lt c.deref.ensures.value c.start_of-start.ensures c.index-end.ensures in
    record { forth = s.forth; within = omega (arith, s.within, ap length c.deref-2.ensures.value) }

pub returns : goal.returns
returns c =
    let lt : c.args.at < length c.self.inside.ends.items = omega (arith, c.requires, texts_length c.self.inside.bytes.items 0 c.self.inside.ends.items, ap length c.self.view_is) in
    let s = stands c.self.inside.bytes.items c.self.inside.ends.items c.deref.result.now c.args.at _ _ c.self.invariant lt c.deref.ensures.value c.start_of-start.ensures c.index-end.ensures in
    c.text_in.ensures ∙ ap (λ (b : List ℕ). take (c.index-end.result.now - c.start_of-start.result) (drop c.start_of-start.result b)) c.deref-2.ensures.value
    ∙ s.text ∙ ap (λ (l : List (List ℕ)). get_or l c.args.at []) c.self.view_is
