-- The parts of a text, one after another.
use Rattle.std.proofs.Common.{◌≡◌, ℕ, ◌+◌, ◌<◌, ◌≤◌, Bool, true, false, cond, not, List, [], ◌∷◌, ◌++◌, length, take, drop, get_or, Result, Ok, Err, refl, ap, sym, ◌∙◌, arith, nat_eq}
use Rattle.std.specs.List.{filter}
use Rattle.std.proofs.lemmas.List.{length_push, at_drop_more, at_drop_all}
use Rattle.std.proofs.lemmas.List.Elements.{filter_more}
use Rattle.updatedb_conf.specs.declared.fault.ConfFault.{ConfFault}
use Rattle.updatedb_conf.specs.Value.{Given, with_line}
use Rattle.updatedb_conf.specs.Settings.{given_by, at_line}
use Rattle.updatedb_conf.specs.Line.{◌>>=◌}
use Rattle.updatedb_conf.specs.Words.{is_nonempty}

-- one more part
pub filter_next : {A : Type 0} (parts : List (List ℕ)) (done : List A) (y : A) (part : List ℕ) (so_far : List (List ℕ)) → (length done < length parts) × (part ≡ get_or parts (length done) part) → so_far ≡ filter is_nonempty (take (length done) parts) → so_far ++ filter is_nonempty (part ∷ []) ≡ filter is_nonempty (take (length (done ++ y ∷ [])) parts)
filter_next parts done y part so_far here is =
    ap (λ l. l ++ filter is_nonempty (part ∷ [])) is
    ∙ ap (λ p. filter is_nonempty (take (length done) parts) ++ filter is_nonempty (p ∷ [])) here.1
    ∙ sym (filter_more is_nonempty parts (length done) part here.0)
    ∙ sym (ap (λ n. filter is_nonempty (take n parts)) (length_push done y))

-- a fold over what is left of the lines takes the next one
pub given_by_next : {A : Type 0} (lines : List (List ℕ)) (done : List A) (y : A) (line : List ℕ) (number : ℕ) (given : Given) (whole : Result Given ConfFault) → (length done < length lines) × (line ≡ get_or lines (length done) line) → given_by number given (drop (length done) lines) ≡ whole → (at_line number (with_line given line) >>= λ more. given_by (number + 1) more (drop (length (done ++ y ∷ [])) lines)) ≡ whole
given_by_next lines done y line number given whole here is =
    ap (λ n. at_line number (with_line given line) >>= λ more. given_by (number + 1) more (drop n lines)) (length_push done y)
    ∙ ap (λ l. at_line number (with_line given l) >>= λ more. given_by (number + 1) more (drop (length done + 1) lines)) here.1
    ∙ sym (at_drop_more (given_by number given) lines (length done) line here.0)
    ∙ is

-- and ends with the last
pub given_by_end : (lines : List (List ℕ)) (n number : ℕ) (given : Given) (whole : Result Given ConfFault) → n ≡ length lines → given_by number given (drop n lines) ≡ whole → Ok given ≡ whole
given_by_end lines n number given whole e is = sym (at_drop_all (given_by number given) lines n (omega arith)) ∙ is
