-- Which format a file has, by whether its first item is whole in the format that it is read in.
use Rattle.std.proofs.Common.{◌≡◌, ℕ, Bool, true, false, cond, List, Option, Some, None, Result, Ok, Err, OnOk, IfSome, IfErr, refl, sym, ap, ◌∙◌, inl, inr}
use Rattle.std.specs.Prelude.{unwrap_or, if◌then◌else◌, nat_eq, is_ok, IsErrOf}
use Rattle.std.specs.List.{starts_with}
use Rattle.std.proofs.lemmas.Bool.{cases_Bool}
use Rattle.byte_feed.specs.declared.damage.DbFault.{DbFault}
use Rattle.byte_feed.specs.declared.damage.DbFault.TheVariants as faults
use Rattle.byte_feed.specs.Front.{Window}
use Rattle.byte_feed.specs.Feed.{window, empty_at}
use Rattle.byte_feed.specs.Calls.{PreambleKnown, NoPreambleKnown}
use Rattle.mlocate_db.specs.Items.{magic as mlocate_magic}
use Rattle.locate02_db.specs.Items.{magic as locate02_magic}
use Rattle.bigram_db.specs.Pairs.{is_bigram}
use Rattle.bigram_db.specs.Items.{table_at}
use Rattle.any_db.specs.declared.format.DatabaseFormat.{DatabaseFormat}
use Rattle.any_db.specs.declared.format.DatabaseFormat.TheVariants.{Mlocate, Locate02, Bigram}
use Rattle.any_db.specs.declared.any_reader.Stage.{Stage}
use Rattle.any_db.specs.declared.any_reader.Stage.TheVariants as stages
use Rattle.any_db.specs.Formats.{format_of, read_as, preamble_in, preamble_by}
use Rattle.any_db.specs.Reader.{is_fresh, feed_of, known_after, FormatKnown, ReadAsKnown}

-- ---- a file that is read as a bigram database

by_tests : (a b c : Bool) → unwrap_or (if a then Some Mlocate else if b then Some Locate02 else if c then Some Bigram else None) Bigram ≡ Bigram
    → (if a then Some Mlocate else if b then Some Locate02 else if c then Some Bigram else None) ≡ (if c then Some Bigram else None)
by_tests true b c e = absurd cc
by_tests false true c e = absurd cc
by_tests false false c e = refl

pub bigram_or_none : (bytes : List ℕ) → read_as bytes ≡ Bigram → format_of bytes ≡ (if is_bigram bytes then Some Bigram else None)
unfolding format_of
bigram_or_none bytes e = by_tests (starts_with nat_eq bytes mlocate_magic) (starts_with nat_eq bytes locate02_magic) (is_bigram bytes) e

table_whole : (w : Window) (b : Bool) → is_bigram w.bytes ≡ b → preamble_by Bigram w ≡ cond b (preamble_by Bigram w) None
unfolding table_at
table_whole w true e = refl
table_whole w false e = rw e refl

pub preamble_table : (w : Window) (x : ℕ × Bool) → preamble_by Bigram w ≡ Some x → is_bigram w.bytes ≡ true
preamble_table w x e = elim (cases_Bool (is_bigram w.bytes)) [ inl is ↦ is | inr other ↦ let none = table_whole w false other in absurd cc ]

pub no_preamble_table : (w : Window) → preamble_by Bigram w ≡ None → is_bigram w.bytes ≡ false
unfolding table_at
no_preamble_table w e = elim (cases_Bool (is_bigram w.bytes)) [ inl is ↦ let some = rw is at e in absurd cc | inr other ↦ other ]

-- ---- the format of a file by its preamble_in

its_own : (o : Option DatabaseFormat) (d : DatabaseFormat) → unwrap_or o Bigram ≡ d → (d ≡ Bigram → ⊥) → o ≡ Some d
its_own None d e not = absurd (not (sym e))
its_own (Some f) d e not = ap (λ (g : DatabaseFormat). Some g) e

pub preamble_named : (d : DatabaseFormat) (w : Window) (x : ℕ × Bool) → d ≡ read_as w.bytes → preamble_by d w ≡ Some x → Some d ≡ format_of w.bytes
preamble_named Mlocate w x e b = sym (its_own (format_of w.bytes) Mlocate (sym e) (λ no. absurd cc))
preamble_named Locate02 w x e b = sym (its_own (format_of w.bytes) Locate02 (sym e) (λ no. absurd cc))
preamble_named Bigram w x e b = sym (bigram_or_none w.bytes (sym e) ∙ ap (λ (t : Bool). cond t (Some Bigram) None) (preamble_table w x b))

pub no_preamble_named : (d : DatabaseFormat) (w : Window) → d ≡ read_as w.bytes → preamble_by d w ≡ None → known_after false d ≡ format_of w.bytes
no_preamble_named Mlocate w e b = sym (its_own (format_of w.bytes) Mlocate (sym e) (λ no. absurd cc))
no_preamble_named Locate02 w e b = sym (its_own (format_of w.bytes) Locate02 (sym e) (λ no. absurd cc))
no_preamble_named Bigram w e b = sym (bigram_or_none w.bytes (sym e) ∙ ap (λ (t : Bool). cond t (Some Bigram) None) (no_preamble_table w b))

magic_named : (d : DatabaseFormat) (w : Window) → d ≡ read_as w.bytes → IfSome (known_after false d) (λ f. Some f ≡ format_of w.bytes)
magic_named Mlocate w e = sym (its_own (format_of w.bytes) Mlocate (sym e) (λ no. absurd cc))
magic_named Locate02 w e = sym (its_own (format_of w.bytes) Locate02 (sym e) (λ no. absurd cc))
magic_named Bigram w e = tt

preamble_read : (d : DatabaseFormat) (w : Window) → d ≡ read_as w.bytes → preamble_in w ≡ preamble_by d w
unfolding preamble_in
preamble_read d w e = ap (λ (f : DatabaseFormat). preamble_by f w) (sym e)

-- ---- behind the preamble_in, of a reader that had read nothing

pub known_behind : (s : Stage) (l l'' : Option (List ℕ)) (d : DatabaseFormat) (told : Option DatabaseFormat) (place : ℕ) (gated : Bool) (result : Result (Unit {0}) DbFault) → is_fresh s ≡ true
    → told ≡ known_after (is_ok result) d → ReadAsKnown (empty_at 0) l d → OnOk result (PreambleKnown preamble_in (feed_of s) l place gated)
    → IfErr result (λ e. NoPreambleKnown preamble_in (feed_of s) l l'' e) → (IsErrOf result faults.ReadFault → ⊥) → FormatKnown (feed_of s) l told
known_behind stages.Fresh None l'' d told place gated result fresh is read begun not fault = tt
known_behind stages.Fresh (Some l) l'' d told place gated (Ok u) fresh is read begun not fault =
    is ∙ preamble_named d (window (empty_at 0) l) (place, gated) read (sym (preamble_read d (window (empty_at 0) l) read) ∙ begun)
known_behind stages.Fresh (Some l) None d told place gated (Err e) fresh is read begun not fault = absurd not
known_behind stages.Fresh (Some l) (Some l'') d told place gated (Err faults.ReadFault) fresh is read begun not fault = absurd (fault refl)
known_behind stages.Fresh (Some l) (Some l'') d told place gated (Err e) fresh is read begun not fault =
    is ∙ no_preamble_named d (window (empty_at 0) l) read (sym (preamble_read d (window (empty_at 0) l) read) ∙ not)
known_behind s l l'' d told place gated result fresh is read begun not fault = absurd cc

anything : (o : Option DatabaseFormat) → IfSome o (λ f. Unit {0})
anything None = tt
anything (Some f) = tt

pub right_behind : (s : Stage) (l : Option (List ℕ)) (d : DatabaseFormat) (told : Option DatabaseFormat) (place : ℕ) (gated : Bool) (result : Result (Unit {0}) DbFault) → is_fresh s ≡ true
    → told ≡ known_after (is_ok result) d → ReadAsKnown (empty_at 0) l d → OnOk result (PreambleKnown preamble_in (feed_of s) l place gated) → IfSome told (λ f. FormatKnown (feed_of s) l (Some f))
right_behind stages.Fresh None d told place gated result fresh is read begun = anything told
right_behind stages.Fresh (Some l) d told place gated (Ok u) fresh is read begun =
    rw is (preamble_named d (window (empty_at 0) l) (place, gated) read (sym (preamble_read d (window (empty_at 0) l) read) ∙ begun))
right_behind stages.Fresh (Some l) d told place gated (Err e) fresh is read begun = rw is (magic_named d (window (empty_at 0) l) read)
right_behind s l d told place gated result fresh is read begun = absurd cc
