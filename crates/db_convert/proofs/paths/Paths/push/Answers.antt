use Rattle.std.proofs.Common.{◌≡◌, ℕ, ◌+◌, Bool, true, false, cond, List, [], ◌∷◌, ◌++◌, length, Result, Ok, Err, sym, subst, ap, ◌∙◌, arith, length-append}
use Rattle.std.specs.Result.{is_ok, is_err}
use Rattle.db_convert.specs.Texts.{texts_from, IsCut}
use Rattle.db_convert.proofs.CutTexts.{cut_push, texts_push}
use Rattle.db_convert.proofs.paths.Paths.push.Goals as goal

-- what a push leaves that did not fail
pushed : {T E X : Type 0} (r : Result T E) (b : Bool) (xs ys zs : List X) → b ≡ is_err r → b ≡ false → xs ≡ (cond (is_ok r) ys zs) → xs ≡ ys
pushed (Ok x) b xs ys zs is ok e = e
pushed (Err x) b xs ys zs is ok e = absurd cc

unpushed : {T E X : Type 0} (r : Result T E) (b : Bool) (xs ys zs : List X) → b ≡ is_err r → b ≡ true → xs ≡ (cond (is_ok r) ys zs) → xs ≡ zs
unpushed (Ok x) b xs ys zs is ok e = absurd cc
unpushed (Err x) b xs ys zs is ok e = e

pub invariant_of-self-else-is_err : goal.invariant_of-self-else-is_err
invariant_of-self-else-is_err c =
    let bytes = c.self.inside.bytes.items in
    let grown = c.in_ok-extend_from_slice.ensures.items in
    let ends = pushed c.push.result c.is_err.result _ _ _ c.is_err.ensures.value c.if-is_err.false c.push.ensures.items in
    let size : c.len-end.result ≡ length bytes + length c.args.path.now = omega (arith, ap length grown, length-append bytes c.args.path.now) in
    subst (λ (l : List ℕ). IsCut 0 l (length c.extend_from_slice.new.self.items)) (sym ends)
    (subst (λ (n : ℕ). IsCut 0 (c.self.inside.ends.items ++ c.len-end.result ∷ []) n) (size ∙ sym (length-append bytes c.args.path.now) ∙ sym (ap length grown))
    (cut_push 0 c.self.inside.ends.items (length bytes) c.len-end.result (omega (arith, size)) c.self.invariant))

pub returns-clause-ok : goal.returns-clause-ok
returns-clause-ok c =
    let bytes = c.self.inside.bytes.items in
    let grown = c.in_ok-extend_from_slice.ensures.items in
    let ends = pushed c.push.result c.is_err.result _ _ _ c.is_err.ensures.value c.if-is_err.false c.push.ensures.items in
    let size : c.len-end.result ≡ length bytes + length c.args.path.now = omega (arith, ap length grown, length-append bytes c.args.path.now) in
    (λ i. texts_from (grown i) 0 (ends i)) ∙ texts_push bytes c.args.path.now 0 c.self.inside.ends.items c.len-end.result c.self.invariant size
    ∙ ap (λ (l : List (List ℕ)). l ++ c.args.path.now ∷ []) c.self.view_is
