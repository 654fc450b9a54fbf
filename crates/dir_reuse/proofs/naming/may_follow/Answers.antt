use Rattle.std.proofs.Common.{◌≡◌, Ordering, Less, Equal, Greater, is_lt, false, refl, sym, arith, ◌∙◌, ap}
use Rattle.dir_reuse.proofs.Names.{usable_push}
use Rattle.dir_reuse.proofs.naming.may_follow.Goals as goal

pub returns-in-Less : goal.returns-in-Less
returns-in-Less c = λ kind.
    usable_push c.args.names.now _ c.name.result.now c.args.name.now kind c.requires (omega arith) (sym c.if-not-is_name.ensures) (omega arith) c.name.ensures
    ∙ ap is_lt (sym c.in-Less.ensures)

other : (r : Ordering) → (r ≡ Less → ⊥) → is_lt r ≡ false
other Less h = absurd (h refl)
other Equal h = refl
other Greater h = refl

pub returns-in_default : goal.returns-in_default
returns-in_default c = λ kind.
    usable_push c.args.names.now _ c.name.result.now c.args.name.now kind c.requires (omega arith) (sym c.if-not-is_name.ensures) (omega arith) c.name.ensures
    ∙ ap is_lt (sym c.cmp.ensures) ∙ other _ c.in_default.not-Less
