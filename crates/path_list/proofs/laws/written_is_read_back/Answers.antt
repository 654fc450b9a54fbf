use Rattle.std.proofs.Common.{List, ℕ, ◌++◌, [], ◌∷◌, refl, inl, ap, ◌∙◌, append-nil}
use Rattle.std.proofs.lemmas.Grind.{flat_map-append}
use Rattle.path_list.specs.Items.{marked}
use Rattle.path_list.specs.Spelled.{encode_list}
use Rattle.path_list.proofs.Lists.{spelled_is_given}
use Rattle.path_list.proofs.laws.written_is_read_back.Goals as goal

pub returns : goal.returns
returns c = record {
  again = λ mark paths all below. spelled_is_given mark (encode_list mark paths) paths below all (inl refl);
  empty = λ mark. refl;
  one_more = λ mark paths path. flat_map-append (marked mark) paths (path ∷ []) ∙ ap (λ (b : List ℕ). encode_list mark paths ++ b) (append-nil (marked mark path));
}
