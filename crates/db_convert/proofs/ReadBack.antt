-- What is written in each format is read back.
use Rattle.std.proofs.Common.{◌≡◌, ℕ, suc, ◌<◌, Bool, true, false, cond, not, All, List, [], ◌∷◌, length, get_or, Some, None, refl, subst, inl, arith}
use Rattle.std.specs.Option.{option_map, IfSome}
use Rattle.std.specs.List.{flat_map, list_any, position_or_len}
use Rattle.std.proofs.lemmas.Bool.{ltb-false, eq-eqb, and_parts}
use Rattle.std.proofs.lemmas.List.Folds.{list_any_at}
use Rattle.std.proofs.lemmas.List.Sums.{fails_before_first}
use Rattle.path_order.specs.Path.{is_normal, is_root}
use Rattle.path_order.proofs.ParentLemmas.{has_parent}
use Rattle.byte_feed.specs.Front.{limit, spelling, front}
use Rattle.byte_feed.specs.Paths.{contents, GivesWhole, IsPath}
use Rattle.mlocate_db.specs.Items.{mlocate}
use Rattle.locate02_db.specs.Spelled.{encode02}
use Rattle.locate02_db.proofs.Encoded.{encoded_spells}
use Rattle.locate02_db.proofs.PathPieces as pieces02
use Rattle.bigram_db.specs.Chosen.{times, counted, table_for, encode_bigram}
use Rattle.bigram_db.proofs.PathPieces as pieces
use Rattle.bigram_db.proofs.TableLaws.{chosen_table}
use Rattle.bigram_db.proofs.Written as written
use Rattle.any_db.specs.Formats.{format_of}
use Rattle.any_db.proofs.Formats.{mlocate_format, locate02_format, bigram_format}
use Rattle.path_list.specs.Items.{IsListed, is_mark}
use Rattle.path_list.specs.Spelled.{encode_list}
use Rattle.path_list.proofs.Lists as lists
use Rattle.db_convert.specs.declared.format.Format.{Format}
use Rattle.db_convert.specs.declared.format.Format.TheVariants as formats
use Rattle.db_convert.specs.declared.format.AdmitCause.{AdmitCause}
use Rattle.db_convert.specs.Admission.{is_admitted, first_refused}
use Rattle.db_convert.specs.Blocks.{header, block_items, parents, database_items, encode_mlocate}
use Rattle.db_convert.proofs.Sets.{Each}
use Rattle.db_convert.proofs.DatabaseItems.{Good, parts_of, items_back, database_back}
use Rattle.db_convert.proofs.Directories.{by_directory_is}
use Rattle.db_convert.specs.Conversion.{grammar_of, encode, as_read, database_format}

-- ---- admission

abbrev refused_at : AdmitCause → ℕ → ℕ × AdmitCause
refused_at cause index = (index, cause)

none_first : (b : Bool) (n : ℕ) (cause : AdmitCause) → option_map (refused_at cause) (cond b (Some n) None) ≡ None → b ≡ false
none_first true n cause e = absurd cc
none_first false n cause e = refl

not_false : (b : Bool) → not b ≡ false → b ≡ true
not_false true e = refl
not_false false e = absurd cc

pub all_admitted : (to : Format) (paths : List (List ℕ)) → first_refused to paths ≡ None → (k : ℕ) (d : List ℕ) → k < length paths → is_admitted to (get_or paths k d) ≡ true
all_admitted to paths e k d lt =
    let refused : List ℕ → Bool = λ path. not (is_admitted to path) in
    let outside = ltb-false (position_or_len refused paths) (length paths) (none_first _ _ _ e) in
    not_false _ (fails_before_first refused paths k d (omega (arith, outside, lt)))

true_not : (b : Bool) → b ≡ true → not b ≡ true → ⊥
true_not b is off = absurd cc

pub line_listed : (path : List ℕ) → IsPath path → is_admitted formats.List path ≡ true → IsListed 10 path
line_listed path h e = record { is_path = h; bare = λ k d lt z. true_not (list_any (is_mark 10) path) (list_any_at (is_mark 10) path k d lt (eq-eqb _ _ z)) e }

pub zero_listed : (path : List ℕ) → IsPath path → IsListed 0 path
zero_listed path h = record { is_path = h; bare = λ k d lt z. absurd (omega (arith, h.plain k d lt, z)) }

-- ---- each format

list_back : (paths : List (List ℕ)) → All IsPath paths → first_refused formats.List paths ≡ None → length (encode formats.List paths) < limit → GivesWhole (contents (grammar_of formats.List) (encode formats.List paths)) paths
list_back paths all e below =
    lists.spelled_is_given 10 (encode_list 10 paths) paths below (λ k d lt. line_listed (get_or paths k d) (all k d lt) (all_admitted formats.List paths e k d lt)) (inl refl)

list0_back : (paths : List (List ℕ)) → All IsPath paths → length (encode formats.List0 paths) < limit → GivesWhole (contents (grammar_of formats.List0) (encode formats.List0 paths)) paths
list0_back paths all below = lists.spelled_is_given 0 (encode_list 0 paths) paths below (λ k d lt. zero_listed (get_or paths k d) (all k d lt)) (inl refl)

locate02_back : (paths : List (List ℕ)) → All IsPath paths → length (encode formats.Locate02 paths) < limit → GivesWhole (contents (grammar_of formats.Locate02) (encode formats.Locate02 paths)) paths
locate02_back paths all below = pieces02.spelled_is_given (encode02 paths) paths below all (encoded_spells paths all)

bigram_back : (paths : List (List ℕ)) → All IsPath paths → length (encode formats.Bigram paths) < limit → GivesWhole (contents (grammar_of formats.Bigram) (encode formats.Bigram paths)) paths
bigram_back paths all below =
    let is = chosen_table (times (counted paths)) in
    pieces.spelled_is_given (encode_bigram paths) paths below all (written.encoded_can (table_for paths) paths is) (written.encoded_spells (table_for paths) paths is all)

pub not_root : (path : List ℕ) → is_admitted formats.Mlocate path ≡ true → (is_normal path ≡ true) × (is_root path ≡ false)
not_root path e =
    let p = and_parts (is_normal path) (not (is_root path)) e in
    (p.0, turned (is_root path) p.1)
  where
    turned : (b : Bool) → not b ≡ true → b ≡ false
    turned true e = absurd cc
    turned false e = refl

pub each_of : (P : List ℕ → Type 0) (paths : List (List ℕ)) → ((k : ℕ) (d : List ℕ) → k < length paths → P (get_or paths k d)) → Each P paths
each_of P [] h = tt
each_of P (path ∷ paths) h = (h 0 path (omega arith), each_of P paths (λ k d lt. h (suc k) d (omega (arith, lt))))

all_good : (paths : List (List ℕ)) → All IsPath paths → first_refused formats.Mlocate paths ≡ None → Each Good paths
all_good paths all e = each_of Good paths (λ k d lt.
    let n = not_root (get_or paths k d) (all_admitted formats.Mlocate paths e k d lt) in
    parts_of (get_or paths k d) (all k d lt) (has_parent (get_or paths k d) n.0 n.1))

mlocate_back : (paths : List (List ℕ)) → All IsPath paths → first_refused formats.Mlocate paths ≡ None → length (encode formats.Mlocate paths) < limit → GivesWhole (contents (grammar_of formats.Mlocate) (encode formats.Mlocate paths)) (as_read formats.Mlocate paths)
mlocate_back paths all e below = subst (GivesWhole (contents mlocate (encode_mlocate paths))) (by_directory_is paths) (database_back paths (all_good paths all e) below)

pub mlocate_items : (paths : List (List ℕ)) → All IsPath paths → first_refused formats.Mlocate paths ≡ None → length (encode_mlocate paths) < limit → front mlocate (encode_mlocate paths) ≡ database_items paths
mlocate_items paths all e below = items_back paths (all_good paths all e) below

pub all_back : (to : Format) (paths : List (List ℕ)) → All IsPath paths → first_refused to paths ≡ None → length (encode to paths) < limit → GivesWhole (contents (grammar_of to) (encode to paths)) (as_read to paths)
all_back formats.Mlocate paths all e below = mlocate_back paths all e below
all_back formats.Locate02 paths all e below = locate02_back paths all below
all_back formats.Bigram paths all e below = bigram_back paths all below
all_back formats.List paths all e below = list_back paths all e below
all_back formats.List0 paths all e below = list0_back paths all below

-- ---- as which format it is told

pub all_told : (to : Format) (paths : List (List ℕ)) → IfSome (database_format to) (λ format. format_of (encode to paths) ≡ Some format)
all_told formats.Mlocate paths = mlocate_format header (spelling mlocate (flat_map (block_items paths) (parents paths)))
all_told formats.Locate02 paths = locate02_format paths
all_told formats.Bigram paths = bigram_format paths
all_told formats.List paths = tt
all_told formats.List0 paths = tt
