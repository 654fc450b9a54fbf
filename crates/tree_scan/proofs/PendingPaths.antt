-- The first of the pending paths in their text.
use Rattle.std.proofs.Common.{◌≡◌, ℕ, suc, ◌≤◌, List, [], ◌∷◌, ◌++◌, IsTrue, true, length, take, drop, ◌∙◌, ap, subst, arith}
use Rattle.std.proofs.lemmas.List.{reverse-append, length-drop}
use Rattle.std.specs.Prelude.{reverse}
use Rattle.path_order.specs.Path.{is_normal}
use Rattle.tree_scan.specs.Stack.{paths_at, AllNormal}
use Rattle.tree_scan.proofs.Texts.{normal_fits, normal_long}

-- the path that begins at the last place, and those before it
pub record Top (text : List ℕ) (starts : List ℕ) (start : ℕ) (rest : List ℕ) : Type 0 where
  pub are : paths_at text (reverse starts) ≡ drop start text ∷ paths_at (take start text) (reverse rest)
  pub normal : IsTrue (is_normal (drop start text))
  pub others : AllNormal (paths_at (take start text) (reverse rest))
  pub there : start ≤ length text
  pub fits : length (drop start text) ≤ 4096

pub top : (text starts rest : List ℕ) (start : ℕ) → starts ≡ rest ++ start ∷ [] → AllNormal (paths_at text (reverse starts)) → Top text starts start rest
top text starts rest start is all =
    let are : paths_at text (reverse starts) ≡ drop start text ∷ paths_at (take start text) (reverse rest) = ap (λ (l : List ℕ). paths_at text (reverse l)) is ∙ ap (paths_at text) (reverse-append rest (start ∷ [])) in
    let each : AllNormal (drop start text ∷ paths_at (take start text) (reverse rest)) = subst AllNormal are all in
    let normal : is_normal (drop start text) ≡ true = each 0 [] (omega arith) in
    let long = normal_long (drop start text) normal in
    record {
      are = are;
      normal = normal;
      others = λ k d h. each (suc k) d (omega (arith, h));
      there = omega (arith, long, length-drop start text);
      fits = normal_fits (drop start text) normal;
    }
