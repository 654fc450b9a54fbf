use Rattle.std.proofs.Common.{◌≢◌, ℕ, List, length, not, sym, ◌∙◌, ap}
use Rattle.std.proofs.lemmas.Bool.{eqb-true, eqb-false}
use Rattle.std.specs.Prelude.{bytes_eq}
use Rattle.mount_table.proofs.PrefixLemmas.{with_rest-nil, with_rest-root, with_rest-other, append_eq-some, append_eq-none}
use Rattle.mount_table.proofs.prefix.differs.Goals as goal

pub returns-then-is_empty : goal.returns-then-is_empty
returns-then-is_empty c =
    let none = eqb-true _ _ (sym c.is_empty.ensures ∙ c.if-is_empty.true) in
    c.ne.ensures ∙ ap (λ (l : List ℕ). not (bytes_eq l c.args.path.now)) (sym (with_rest-nil c.args.point.now c.args.rest.now none))

pub returns-then-is_root : goal.returns-then-is_root
returns-then-is_root c =
    let some : length c.args.rest.now ≢ 0 = eqb-false _ _ (sym c.is_empty.ensures ∙ c.if-is_empty.false) in
    c.ne-then-is_root.ensures
    ∙ ap (λ (l : List ℕ). not (bytes_eq l c.args.path.now)) (sym (with_rest-root c.args.point.now c.args.rest.now some (sym c.is_root.ensures ∙ c.if-is_root.true)))

pub returns-in-Some : goal.returns-in-Some
returns-in-Some c =
    let some : length c.args.rest.now ≢ 0 = eqb-false _ _ (sym c.is_empty.ensures ∙ c.if-is_empty.false) in
    let cases = c.in-Some.ensures.cases in
    c.ne-in-Some.ensures
    ∙ ap not (append_eq-some c.args.point.now c.args.rest.now c.args.path.now _ cases.0 cases.1)
    ∙ ap (λ (l : List ℕ). not (bytes_eq l c.args.path.now)) (sym (with_rest-other c.args.point.now c.args.rest.now some (sym c.is_root.ensures ∙ c.if-is_root.false)))

pub returns-in-None : goal.returns-in-None
returns-in-None c =
    let some : length c.args.rest.now ≢ 0 = eqb-false _ _ (sym c.is_empty.ensures ∙ c.if-is_empty.false) in
    ap not (sym (append_eq-none c.args.point.now c.args.rest.now c.args.path.now c.in-None.ensures.cases))
    ∙ ap (λ (l : List ℕ). not (bytes_eq l c.args.path.now)) (sym (with_rest-other c.args.point.now c.args.rest.now some (sym c.is_root.ensures ∙ c.if-is_root.false)))
