use Rattle.std.proofs.Common.{◌≡◌, ◌-◌, get_or, length, take, drop, None, refl, sym, ap, rules}
use Rattle.glob_match.specs.Bracket.{bracket}
use Rattle.glob_match.proofs.BracketParts.{rest_is}
use Rattle.glob_match.proofs.Units.{item_at-star, item_at-any, item_at-quoted_whole, item_at-bracket, item_at-open, item_at-other, bracket_rest}
use Rattle.glob_match.proofs.reading.push_item.Goals as goal

pub returns-in_ok-push_star-in-42-clause-pushed : goal.returns-in_ok-push_star-in-42-clause-pushed
returns-in_ok-push_star-in-42-clause-pushed c =
    let x = get_or c.args.text.now 0 0 in
    let after = drop 1 c.args.text.now in
    rw (item_at-star c.args.fold x after c.in-42.is) c.in_ok-push_star-in-42.ensures

pub returns-in_ok-push_star-in-42-clause-rest : goal.returns-in_ok-push_star-in-42-clause-rest
returns-in_ok-push_star-in-42-clause-rest c =
    let x = get_or c.args.text.now 0 0 in
    let after = drop 1 c.args.text.now in
    rw (item_at-star c.args.fold x after c.in-42.is) refl

pub returns-in_ok-push_set-in-63-clause-pushed : goal.returns-in_ok-push_set-in-63-clause-pushed
returns-in_ok-push_set-in-63-clause-pushed c =
    let x = get_or c.args.text.now 0 0 in
    let after = drop 1 c.args.text.now in
    rw (item_at-any c.args.fold x after c.all.result c.in-63.is c.all.ensures) c.in_ok-push_set-in-63.ensures

pub returns-in_ok-push_set-in-63-clause-rest : goal.returns-in_ok-push_set-in-63-clause-rest
returns-in_ok-push_set-in-63-clause-rest c =
    let x = get_or c.args.text.now 0 0 in
    let after = drop 1 c.args.text.now in
    rw (item_at-any c.args.fold x after c.all.result c.in-63.is c.all.ensures) refl

pub returns-in_ok-push_literal-in-92-clause-pushed : goal.returns-in_ok-push_literal-in-92-clause-pushed
returns-in_ok-push_literal-in-92-clause-pushed c =
    let x = get_or c.args.text.now 0 0 in
    let after = drop 1 c.args.text.now in
    rw (item_at-quoted_whole c.args.fold c.args.text.now c.requires c.in-92.is) (rw c.read_byte-byte.ensures.value at c.in_ok-push_literal-in-92.ensures)

pub returns-in_ok-push_literal-in-92-clause-rest : goal.returns-in_ok-push_literal-in-92-clause-rest
returns-in_ok-push_literal-in-92-clause-rest c =
    let x = get_or c.args.text.now 0 0 in
    let after = drop 1 c.args.text.now in
    rw (item_at-quoted_whole c.args.fold c.args.text.now c.requires c.in-92.is) (ap (λ r. drop r.1 c.args.text.now) (sym c.read_byte-byte.ensures.value))

pub returns-in_ok-push_set-in-Some-clause-pushed : goal.returns-in_ok-push_set-in-Some-clause-pushed
returns-in_ok-push_set-in-Some-clause-pushed c =
    let x = get_or c.args.text.now 0 0 in
    let after = drop 1 c.args.text.now in
    let whole = rest_is c.args.text.now 1 in
    rw (item_at-bracket c.args.fold x after _ c.in-91.is (rw whole at c.in-Some.ensures.value)) c.in_ok-push_set-in-Some.ensures

pub returns-in_ok-push_set-in-Some-clause-rest : goal.returns-in_ok-push_set-in-Some-clause-rest
returns-in_ok-push_set-in-Some-clause-rest c =
    let x = get_or c.args.text.now 0 0 in
    let after = drop 1 c.args.text.now in
    let whole = rest_is c.args.text.now 1 in
    rw (item_at-bracket c.args.fold x after _ c.in-91.is (rw whole at c.in-Some.ensures.value)) (bracket_rest c.args.text.now c.in-Some.taken)

pub returns-in_ok-push_literal-in-None-clause-pushed : goal.returns-in_ok-push_literal-in-None-clause-pushed
returns-in_ok-push_literal-in-None-clause-pushed c =
    let x = get_or c.args.text.now 0 0 in
    let after = drop 1 c.args.text.now in
    let none : bracket c.args.fold (take (length c.args.text.now - 1) after) ≡ None = search rules in
    rw (item_at-open c.args.fold x after c.in-91.is (rw (rest_is c.args.text.now 1) at none), c.in-91.is) c.in_ok-push_literal-in-None.ensures

pub returns-in_ok-push_literal-in-None-clause-rest : goal.returns-in_ok-push_literal-in-None-clause-rest
returns-in_ok-push_literal-in-None-clause-rest c =
    let x = get_or c.args.text.now 0 0 in
    let after = drop 1 c.args.text.now in
    let none : bracket c.args.fold (take (length c.args.text.now - 1) after) ≡ None = search rules in
    rw (item_at-open c.args.fold x after c.in-91.is (rw (rest_is c.args.text.now 1) at none)) refl

pub returns-in_ok-push_literal-in_default-clause-pushed : goal.returns-in_ok-push_literal-in_default-clause-pushed
returns-in_ok-push_literal-in_default-clause-pushed c =
    let x = get_or c.args.text.now 0 0 in
    let after = drop 1 c.args.text.now in
    rw (item_at-other c.args.fold x after (search rules) (search rules) (search rules) (search rules)) c.in_ok-push_literal-in_default.ensures

pub returns-in_ok-push_literal-in_default-clause-rest : goal.returns-in_ok-push_literal-in_default-clause-rest
returns-in_ok-push_literal-in_default-clause-rest c =
    let x = get_or c.args.text.now 0 0 in
    let after = drop 1 c.args.text.now in
    rw (item_at-other c.args.fold x after (search rules) (search rules) (search rules) (search rules)) refl
