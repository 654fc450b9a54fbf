use Rattle.std.proofs.Common.{rules, tests, ◌≡◌, ◌<◌, ℕ, List, [], Bool, true, false, sym, length, MatchBool}
use Rattle.std.proofs.lemmas.Iterator.{cases_from_all}
use Rattle.std.proofs.lemmas.Iterator.Splits.{YieldsList-from_slice_split}
use Rattle.std.proofs.lemmas.List.Elements.{All-from_all_within}
use Rattle.std.proofs.lemmas.List.Folds.{list_all_at}
use Rattle.std.proofs.lemmas.List.Sums.{list_all-from_AllPass}
use Rattle.std.specs.List.{AllWithin, HoldsAt, list_all, slice_split}
use Rattle.path_order.specs.Names.{is_name}
use Rattle.path_order.specs.Path.{is_slash}
use Rattle.path_order.proofs.parts.are_names.Goals as goal

-- what a test of each text has answered
all_is : (p : List ℕ → Bool) (r : Bool) (xs : List (List ℕ)) → MatchBool r (AllWithin (λ x. p x ≡ true) xs 0 (length xs)) ((k : ℕ) × (k < length xs) × HoldsAt (λ x. p x ≡ false) xs k) → r ≡ list_all p xs
all_is p true xs each = sym (list_all-from_AllPass p xs (All-from_all_within (λ x. p x ≡ true) xs each))
all_is p false xs some = sym (list_all_at p xs some.0 [] some.1 (some.2 []))

pub returns : goal.returns
returns c =
    all_is is_name c.all.result (slice_split is_slash c.args.text.now)
    (cases_from_all _ _ _ (λ x. is_name x ≡ true) (λ x. is_name x ≡ false) c.all.ensures.ran (YieldsList-from_slice_split _ _ c.args.text.now c.split.ensures.rest c.split.ensures.done c.split.ensures.closure (λ x r q k. search (rules, tests))) (λ x q k. search (rules, tests)) (λ x q k. search (rules, tests)))
