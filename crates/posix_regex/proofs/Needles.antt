-- What a search for bytes tells.
use Rattle.std.proofs.Common.{◌≡◌, ℕ, Bool, true, false, not, List, Option, Some, None, refl, sym, arith}
use Rattle.std.specs.Prelude.{is_some}
use Rattle.std.proofs.lemmas.Bool.{false≢true}
use Rattle.memchr.specs.Find.{FindsNeedle}
use Rattle.posix_regex.specs.Literal.{Occurs}

-- `none` tells that the search found no place
pub none_if_lacking : (text bytes : List ℕ) (r : Option ℕ) (none : Bool) → is_some r ≡ not none → FindsNeedle text bytes 0 r
    → (none ≡ true → Occurs text bytes → ⊥) × ((Occurs text bytes → ⊥) → none ≡ true)
none_if_lacking text bytes None true e h = (λ t o. h o.0 (omega arith) (omega (arith, o.1.fits)) o.1, λ n. refl)
none_if_lacking text bytes None false e h = absurd (false≢true e)
none_if_lacking text bytes (Some k) true e h = absurd (false≢true (sym e))
none_if_lacking text bytes (Some k) false e h = (λ t o. absurd (false≢true t), λ n. absurd (n (k, h.1)))
