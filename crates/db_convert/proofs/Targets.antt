-- What is written in a format, and how much of it is pending.
use Rattle.std.proofs.Common.{◌≡◌, ℕ, List, length, get_or, All, Option, Some, None, refl, sym, ap, ◌∙◌, arith}
use Rattle.std.specs.Option.{option_map}
use Rattle.std.proofs.lemmas.List.{take_all}
use Rattle.loc_outside.specs.Held.{Held, begun, grown}
use Rattle.byte_feed.specs.Paths.{IsPath}
use Rattle.path_list.specs.declared.mark.Mark.{Mark}
use Rattle.path_list.specs.declared.mark.Mark.TheVariants.{Newline, Zero}
use Rattle.path_list.specs.Items.{IsListed}
use Rattle.path_list.specs.Marks.{byte_of}
use Rattle.db_convert.specs.declared.format.Format.TheVariants as formats
use Rattle.db_convert.specs.declared.writing.Target.{Target}
use Rattle.db_convert.specs.declared.writing.Target.TheVariants as targets
use Rattle.db_convert.specs.Admission.{first_refused}
use Rattle.db_convert.specs.Converts.{PendsPart}
use Rattle.db_convert.specs.Plans.{format_of}
use Rattle.db_convert.proofs.ReadBack.{all_admitted, line_listed, zero_listed}

listed_by : (mark : Mark) (paths : List (List ℕ)) → All IsPath paths → first_refused (format_of (targets.List mark)) paths ≡ None → All (IsListed (byte_of mark)) paths
listed_by Newline paths all e = λ k d lt. line_listed (get_or paths k d) (all k d lt) (all_admitted formats.List paths e k d lt)
listed_by Zero paths all e = λ k d lt. zero_listed (get_or paths k d) (all k d lt)

-- paths that a list can hold
pub all_listed : (target : Target) (mark : Mark) (paths : List (List ℕ)) → target ≡ targets.List mark → All IsPath paths → first_refused (format_of target) paths ≡ None → All (IsListed (byte_of mark)) paths
all_listed target mark paths is all e = listed_by mark paths all (ap (λ (t : Target). first_refused (format_of t) paths) (sym is) ∙ e)

twice : (name text : List ℕ) (o : Option Held) → option_map (grown text) (option_map (begun name) o) ≡ option_map (λ held. grown text (begun name held)) o
twice name text None = refl
twice name text (Some held) = refl

-- a name was begun, and the whole text was taken
pub part_whole : (name text : List ℕ) (old one two new : Option Held) → one ≡ option_map (begun name) old → two ≡ option_map (grown text) one → new ≡ two → PendsPart name text old new
part_whole name text old one two new first next last = (
  length text,
  omega arith,
  last ∙ next ∙ ap (option_map (grown text)) first ∙ twice name text old ∙ ap (λ (t : List ℕ). option_map (λ held. grown t (begun name held)) old) (sym (take_all (length text) text (omega arith))),
)
