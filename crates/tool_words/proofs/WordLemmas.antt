-- Words of a list.
use Rattle.std.proofs.Common.{◌≡◌, ℕ, true, false, List, ◌++◌, map, nat_eq, rules, tests}
use Rattle.std.proofs.lemmas.List.{map-append}
use Rattle.updatedb_conf.specs.Words.{is_blank, is_space}

-- what is seen of two lists in a row
pub map-joined : {A B : Type 0} (f : A → B) (all front back : List A) (seen_front seen_back : List B) → all ≡ front ++ back
    → map f front ≡ seen_front → map f back ≡ seen_back → map f all ≡ seen_front ++ seen_back
map-joined f all front back seen_front seen_back joined first second =
    let appended = map-append f front back in cc

-- what stands between words is no slash
pub no_slash_between : (x : ℕ) → is_space x ≡ true → nat_eq x 47 ≡ false
unfolding is_blank
no_slash_between x h = search (rules, tests)
