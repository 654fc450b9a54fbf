use Rattle.std.proofs.Common.{◌≡◌, ℕ, Bool, true, false, List, Option, Some, None, refl, sym, subst, ◌∙◌, arith}
use Rattle.std.specs.Prelude.{is_some}
use Rattle.std.specs.List.{list_any}
use Rattle.std.proofs.lemmas.List.{get_or_default}
use Rattle.std.proofs.lemmas.List.Folds.{list_any_at, list_any_none}
use Rattle.memchr.specs.Find.{IsFirstByte, is_byte}
use Rattle.db_convert.proofs.admission.has_newline.Goals as goal

off : (b : Bool) → (b ≡ true → ⊥) → b ≡ false
off true h = absurd (h refl)
off false h = refl

found : (mark : ℕ) (text : List ℕ) (r : Option ℕ) → IsFirstByte (is_byte mark) text r → is_some r ≡ list_any (is_byte mark) text
found mark text None none =
    sym (list_any_none (is_byte mark) text (λ k d lt. off _ (λ e. none k (omega arith) lt (subst (λ (b : ℕ). is_byte mark b ≡ true) (get_or_default text k d 0 lt) e))))
found mark text (Some k) first = sym (list_any_at (is_byte mark) text k 0 first.0.high first.1)

pub returns : goal.returns
returns c = c.is_some.ensures ∙ found 10 c.args.path.now c.memchr.result c.memchr.ensures
