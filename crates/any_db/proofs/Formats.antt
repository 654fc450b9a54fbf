-- The formats of files that were written, and what a file of no format gives.
use Rattle.std.proofs.Common.{◌≡◌, ℕ, ◌≤◌, Bool, true, false, List, [], ◌∷◌, ◌++◌, length, get_or, take, not, Option, Some, None, Err, refl, sym, ap, ◌∙◌, eqb, inl, inr, arith}
use Rattle.std.specs.Prelude.{nat_eq, unwrap_or, replicate, if◌then◌else◌}
use Rattle.std.specs.List.{starts_with}
use Rattle.std.proofs.lemmas.Bool.{and_parts, eqb-true, cases_Bool}
use Rattle.std.proofs.lemmas.List.{take-take}
use Rattle.byte_feed.specs.declared.damage.DbFault.TheVariants as faults
use Rattle.byte_feed.specs.declared.damage.Stop.TheVariants.{NotADatabase}
use Rattle.byte_feed.specs.Front.{Window, limit, readable}
use Rattle.byte_feed.specs.Endings.{end_at}
use Rattle.byte_feed.specs.Paths.{no_paths, as_paths}
use Rattle.byte_feed.proofs.Rests.{nothing_path}
use Rattle.byte_feed.proofs.Steps.{rest_none}
use Rattle.mlocate_db.specs.Items.{Header, HeaderItem, spell, magic as mlocate_magic}
use Rattle.locate02_db.specs.Items.{magic as locate02_magic}
use Rattle.locate02_db.specs.Spelled.{encode02}
use Rattle.bigram_db.specs.Spelled.{encode_after}
use Rattle.bigram_db.specs.Pairs.{is_bigram, is_table}
use Rattle.bigram_db.specs.Items.{bigram, item_at, AtStart, table_at}
use Rattle.bigram_db.specs.Chosen.{table_for, counted, times, encode_bigram}
use Rattle.bigram_db.proofs.TableLaws.{chosen_table, chosen_unused}
use Rattle.bigram_db.proofs.Written.{encoded_can}
use Rattle.any_db.specs.declared.format.DatabaseFormat.{DatabaseFormat}
use Rattle.any_db.specs.declared.format.DatabaseFormat.TheVariants.{Mlocate, Locate02, Bigram}
use Rattle.any_db.specs.Formats.{format_of, to_come_in, to_come_by}

-- ---- the first bytes

first_alike : (xs ys magic : List ℕ) → length magic ≤ 256 → take 256 xs ≡ take 256 ys → starts_with nat_eq xs magic ≡ starts_with nat_eq ys magic
first_alike xs ys magic le e =
    let first : (zs : List ℕ) → take (length magic) zs ≡ take (length magic) (take 256 zs) = λ zs. sym (take-take (length magic) 256 zs le) in
    rw (first xs ∙ ap (take (length magic)) e ∙ sym (first ys)) refl

pub same_first : (xs ys : List ℕ) → take 256 xs ≡ take 256 ys → format_of xs ≡ format_of ys
unfolding format_of
same_first xs ys e =
    let table : is_bigram xs ≡ is_bigram ys = ap is_table e in
    rw (first_alike xs ys mlocate_magic (omega arith) e, first_alike xs ys locate02_magic (omega arith) e, table) refl

pub readable_format : (file : List ℕ) → format_of (readable file).bytes ≡ format_of file
readable_format file = same_first (take limit file) file (take-take 256 limit file (omega arith))

-- ---- what was written

pub mlocate_format : (header : Header) (rest : List ℕ) → format_of (spell (HeaderItem header) ++ rest) ≡ Some Mlocate
unfolding format_of
mlocate_format header rest = refl

pub locate02_format : (paths : List (List ℕ)) → format_of (encode02 paths) ≡ Some Locate02
unfolding format_of
locate02_format paths = refl

-- A table of which the first byte is zero is all zero, so no other format begins as it does.
other_magic : (table rest more : List ℕ) (b : ℕ) → 2 ≤ length table → (get_or table 0 0 ≡ 0 → table ≡ replicate 256 0) → eqb b 0 ≡ false → starts_with nat_eq (table ++ rest) (0 ∷ b ∷ more) ≡ false
other_magic [] rest more b le unused some = absurd (omega (arith, le))
other_magic (x ∷ []) rest more b le unused some = absurd (omega (arith, le))
other_magic (x ∷ y ∷ table) rest more b le unused some =
    elim (cases_Bool (eqb 0 x)) [
      | inl same ↦
          let next : y ≡ 0 = ap (λ (l : List ℕ). get_or l 1 0) (unused (sym (eqb-true 0 x same))) in
          let differs : eqb b y ≡ false = ap (λ (n : ℕ). eqb b n) next ∙ some in
          rw (same, differs) refl
      | inr other ↦ rw other refl
    ]

by_tests : (a b c : Bool) → a ≡ false → b ≡ false → c ≡ true → (if a then Some Mlocate else if b then Some Locate02 else if c then Some Bigram else None) ≡ Some Bigram
by_tests a b c first second third = rw (first, second, third) refl

pub bigram_format : (paths : List (List ℕ)) → format_of (encode_bigram paths) ≡ Some Bigram
unfolding format_of
bigram_format paths =
    let table : List ℕ = table_for paths in
    let is : is_table table ≡ true = chosen_table (times (counted paths)) in
    let size : length table ≡ 256 = eqb-true (length table) 256 (and_parts (eqb (length table) 256) _ is).0 in
    let rest : List ℕ = encode_after table [] 0 paths in
    let unused = chosen_unused (times (counted paths)) in
    let big : 2 ≤ length table = omega (arith, size) in
    let mlocate = other_magic table rest (108 ∷ 111 ∷ 99 ∷ 97 ∷ 116 ∷ 101 ∷ []) 109 big unused refl in
    let locate02 = other_magic table rest (79 ∷ 67 ∷ 65 ∷ 84 ∷ 69 ∷ 48 ∷ 50 ∷ 0 ∷ []) 76 big unused refl in
    by_tests _ _ _ mlocate locate02 (encoded_can table paths is)

-- ---- what is no database

no_table : (w : Window) → is_bigram w.bytes ≡ false → to_come_by Bigram w ≡ no_paths 0 0 (Err faults.NotADatabase)
unfolding table_at
no_table w none =
    let stop : item_at (not w.more) AtStart w.bytes ≡ Err NotADatabase = rw none refl in
    ap (as_paths bigram AtStart 0 0) (rest_none bigram AtStart 0 w NotADatabase stop) ∙ nothing_path bigram AtStart 0 0 0 (end_at bigram 0 AtStart w.bytes w.more)
    ∙ rw none refl

none_by : (a b c : Bool) → (if a then Some Mlocate else if b then Some Locate02 else if c then Some Bigram else None) ≡ None → c ≡ false
none_by true b c e = absurd cc
none_by false true c e = absurd cc
none_by false false true e = absurd cc
none_by false false false e = refl

no_bigram : (bytes : List ℕ) → format_of bytes ≡ None → is_bigram bytes ≡ false
unfolding format_of
no_bigram bytes e = none_by (starts_with nat_eq bytes mlocate_magic) (starts_with nat_eq bytes locate02_magic) (is_bigram bytes) e

pub no_format_ends : (w : Window) → format_of w.bytes ≡ None → to_come_in w ≡ no_paths 0 0 (Err faults.NotADatabase)
unfolding to_come_in
no_format_ends w none = ap (λ (o : Option DatabaseFormat). to_come_by (unwrap_or o Bigram) w) none ∙ no_table w (no_bigram w.bytes none)
