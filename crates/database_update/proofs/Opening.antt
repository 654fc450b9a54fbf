-- What the opening of the old database has told.
use Rattle.std.specs.Prelude.{is_some, not, ◌&&◌, IsSomeAnd, MatchBool}
use Rattle.std.specs.Option.{option_map_or}
use Rattle.std.proofs.Common.{Bool, true, false, ◌≡◌, ℕ, ◌≤◌, ◌+◌, ◌-◌, List, [], length, refl, sym, ap, subst, ◌∙◌, ◌⊎◌, inl, inr, Option, Some, None, IsTrue, IsSome, arith}
use Rattle.std.proofs.lemmas.Bool.{and_from}
use Rattle.loc_outside.specs.Causes.{Rose, raised}
use Rattle.byte_feed.specs.Feed.{Draws, LeftAfter, empty_at, reach}
use Rattle.mlocate_db.specs.Items.{Header, HeaderItem}
use Rattle.mlocate_db.specs.Reader.{ReaderState, is_live}
use Rattle.tree_scan.specs.Plan.{Plan}
use Rattle.tree_scan.specs.Records.{Record, answers_all}
use Rattle.dir_reuse.specs.declared.cursor.Cursor.{Cursor}
use Rattle.dir_reuse.specs.Faults.{rose_first, rose_last}
use Rattle.dir_reuse.specs.Answering.{is_open}
use Rattle.dir_reuse.specs.Coming.{size}
use Rattle.dir_reuse.specs.Stream.{HeaderRead, HeaderReadKnown, OpensKnown, is_known_ordered, known}
use Rattle.dir_reuse.specs.Usable.{has_setup, header_of, is_ordered, records}
use Rattle.database_update.specs.OldDatabase.{header_most, is_foreign, is_reused_whole, old_records, old_size}
use Rattle.database_update.proofs.Reusing.{Reuses, all_ordered, all_unfailed}

-- ---- it was not found

pub unopened : (old : Option (List ℕ)) (plan : Plan) (f f' f0 f3 : ℕ) → f0 ≤ f → f' ≤ f3 → (old ≡ None) ⊎ Rose f f' → Reuses (Some []) true (old_records old plan) (is_reused_whole old plan f0 f3)
unopened None plan f f' f0 f3 before after why = record { from = inl refl; whole = λ yes. (refl, refl) }
unopened (Some file) plan f f' f0 f3 before after (inl gone) = absurd cc
unopened (Some file) plan f f' f0 f3 before after (inr rose) = record {
  from = inr refl;
  whole = λ yes. absurd (all_unfailed file plan f0 f3 yes (rose_last f0 f f3 before (rose_first f f' f3 rose after)));
}

-- ---- it was found

is_told : (o : Option (List Record)) (rs : List Record) → o ≡ Some rs → is_some o ≡ true
is_told o rs is = ap is_some is

all_true : (a b c : Bool) → a ≡ true → b ≡ true → c ≡ true → IsTrue (a && (b && c))
all_true a b c p q r = and_from a (b && c) p (and_from b c q r)

-- the header was read, unless the source failed
abbrev Opens : Bool → List ℕ → Option (List ℕ) → Plan → Cursor → Type 0
Opens u file l plan c = MatchBool u ((known c l ≡ Some (records plan.root plan.block file)) × (is_known_ordered c l ≡ is_ordered plan.root plan.block file)) (known c l ≡ Some [])

opened_by : (u : Bool) (file : List ℕ) (l : Option (List ℕ)) (plan : Plan) (c c' : Cursor) (f0 f1 f2 f3 : ℕ) → c.unbroken ≡ u → OpensKnown plan.root plan.block (Some file) c l → (c.unbroken ≡ false → Rose f1 f2)
    → f0 ≤ f1 → f1 ≤ f2 → f2 ≤ f3 → ((Rose f2 f3 → ⊥) → c'.unbroken ≡ c.unbroken)
    → Reuses (known c l) (answers_all (known c l) (is_known_ordered c l) c'.unbroken) (old_records (Some file) plan) (is_reused_whole (Some file) plan f0 f3)
opened_by true file l plan c c' f0 f1 f2 f3 is opened broke ab bc cd still =
    let told : (known c l ≡ Some (records plan.root plan.block file)) × (is_known_ordered c l ≡ is_ordered plan.root plan.block file)
    = subst (λ (u : Bool). Opens u file l plan c) is opened in
    record {
      from = inl told.0;
      whole = λ yes. (told.0, all_true _ _ _ (is_told _ _ told.0) (told.1 ∙ all_ordered file plan f0 f3 yes) (still (λ r. all_unfailed file plan f0 f3 yes (rose_last f0 f2 f3 (omega (arith, ab, bc)) r)) ∙ is));
    }
opened_by false file l plan c c' f0 f1 f2 f3 is opened broke ab bc cd still = record {
  from = inr (subst (λ (u : Bool). Opens u file l plan c) is opened);
  whole = λ yes. absurd (all_unfailed file plan f0 f3 yes (rose_last f0 f1 f3 ab (rose_first f1 f2 f3 (broke is) cd)));
}

pub opened : (file : Option (List ℕ)) (old : Option (List ℕ)) (l : Option (List ℕ)) (plan : Plan) (c c' : Cursor) (f0 f1 f2 f3 : ℕ) → IsSome file → file ≡ old → OpensKnown plan.root plan.block file c l → (c.unbroken ≡ false → Rose f1 f2)
    → f0 ≤ f1 → f1 ≤ f2 → f2 ≤ f3 → ((Rose f2 f3 → ⊥) → c'.unbroken ≡ c.unbroken)
    → Reuses (known c l) (answers_all (known c l) (is_known_ordered c l) c'.unbroken) (old_records old plan) (is_reused_whole old plan f0 f3)
opened None old l plan c c' f0 f1 f2 f3 some is o broke ab bc cd still = absurd cc
opened (Some file) old l plan c c' f0 f1 f2 f3 some is o broke ab bc cd still =
    subst (λ (x : Option (List ℕ)). Reuses (known c l) (answers_all (known c l) (is_known_ordered c l) c'.unbroken) (old_records x plan) (is_reused_whole x plan f0 f3)) is
    (opened_by c.unbroken file l plan c c' f0 f1 f2 f3 refl o broke ab bc cd still)

-- ---- how much was read

pub given_least : (g0 g1 g3 both n : ℕ) → g1 ≡ raised g0 both → g3 ≡ raised g1 n → raised g0 both ≤ g3
given_least g0 g1 g3 both n first then = omega (arith, first, then)

within_left : (n : ℕ) (file l : Option (List ℕ)) → IsSome file → LeftAfter n file l → n ≤ old_size file
within_left n None l some rest = absurd cc
within_left n (Some file) None some rest = absurd rest
within_left n (Some file) (Some left) some rest = rest.0

pub given_most : (g0 g1 g3 both n : ℕ) (file old l : Option (List ℕ)) → IsSome file → file ≡ old → LeftAfter n file l → g1 ≡ raised g0 both → g3 ≡ raised g1 n → g3 ≤ g0 + both + old_size old
given_most g0 g1 g3 both n file old l some is rest first then =
    let few : n ≤ old_size old = subst (λ (x : Option (List ℕ)). n ≤ old_size x) is (within_left n file l some rest) in
    omega (arith, first, then, few)

-- ---- how much was read for the header

header_left : (n place : ℕ) (file : List ℕ) (h : Option Header) → n ≤ place + 4096 → IsSomeAnd h (λ header. place ≡ size (HeaderItem header)) → n ≤ option_map_or (λ header. size (HeaderItem header) + 4096) h (length file)
header_left n place file None near stands = absurd stands
header_left n place file (Some header) near stands = omega (arith, near, stands)

lacking_left : (n : ℕ) (file : List ℕ) (h : Option Header) → n ≤ length file → h ≡ None → n ≤ option_map_or (λ header. size (HeaderItem header) + 4096) h (length file)
lacking_left n file None few none = few
lacking_left n file (Some header) few none = absurd cc

header_within : (n : ℕ) (file : List ℕ) (root block : List ℕ) (c : Cursor) (live : Bool) → is_live c.reader.stage ≡ live → (is_live c.reader.stage ≡ true → n ≤ c.reader.place + 4096) → n ≤ length file → IsTrue c.unbroken → HeaderRead root block file c
    → n ≤ header_most (Some file)
header_within n file root block c true is near few whole h = header_left n c.reader.place file (header_of file) (near is) (h.stands is)
header_within n file root block c false is near few whole h = lacking_left n file (header_of file) few (h.lacks is whole)

-- what was drawn of a file whose header was read, and nothing behind it
drawn_most : (file l : Option (List ℕ)) (root block : List ℕ) (c : Cursor) (g g' : ℕ) → IsSome file → Draws (empty_at 0) c.reader.feed g g' file l → (is_live c.reader.stage ≡ true → reach c.reader.feed ≤ c.reader.place + 4096) → IsTrue c.unbroken
    → HeaderReadKnown root block file c → reach c.reader.feed - 0 ≤ header_most file
drawn_most None l root block c g g' some drawn near whole h = absurd cc
drawn_most (Some file) l root block c g g' some drawn near whole h =
    header_within (reach c.reader.feed - 0) file root block c (is_live c.reader.stage) refl (λ live. let most : reach c.reader.feed ≤ c.reader.place + 4096 = near live in omega (arith, most))
    (within_left (reach c.reader.feed - 0) (Some file) l some drawn.rest) whole h

whole_by : (u : Bool) (c : Cursor) (f0 f1 f2 f3 : ℕ) → c.unbroken ≡ u → (c.unbroken ≡ false → Rose f1 f2) → f0 ≤ f1 → f2 ≤ f3 → (Rose f0 f3 → ⊥) → IsTrue c.unbroken
whole_by true c f0 f1 f2 f3 is broke ab cd none = is
whole_by false c f0 f1 f2 f3 is broke ab cd none = absurd (none (rose_last f0 f1 f3 ab (rose_first f1 f2 f3 (broke is) cd)))

pub header_given : (file old l : Option (List ℕ)) (root block : List ℕ) (c : Cursor) (f0 f1 f2 f3 g0 g1 g2 g3 both : ℕ) → IsSome file → file ≡ old → Draws (empty_at 0) c.reader.feed g1 g2 file l
    → (is_live c.reader.stage ≡ true → reach c.reader.feed ≤ c.reader.place + 4096) → HeaderReadKnown root block file c → (c.unbroken ≡ false → Rose f1 f2) → f0 ≤ f1 → f2 ≤ f3 → (Rose f0 f3 → ⊥) → g1 ≡ raised g0 both → g3 ≡ g2
    → g3 ≤ g0 + both + header_most old
header_given file old l root block c f0 f1 f2 f3 g0 g1 g2 g3 both some is drawn near h broke ab cd none first same =
    let few : reach c.reader.feed - 0 ≤ header_most file = drawn_most file l root block c g1 g2 some drawn near (whole_by c.unbroken c f0 f1 f2 f3 refl broke ab cd none) h in
    let most : reach c.reader.feed - 0 ≤ header_most old = subst (λ (x : Option (List ℕ)). reach c.reader.feed - 0 ≤ header_most x) is few in
    omega (arith, most, first, same, drawn.count)

-- where the header has another root or configuration block, nothing can come
shut_by : (file : List ℕ) (plan : Plan) (c : Cursor) (t : Bool) → has_setup plan.root plan.block file ≡ t → IsTrue (not t) → is_open c ≡ (c.unbroken && t) → is_open c ≡ false
shut_by file plan c true is foreign opens = absurd cc
shut_by file plan c false is foreign opens = opens ∙ none c.unbroken
  where
    none : (u : Bool) → (u && false) ≡ false
    none true = refl
    none false = refl

pub foreign_shut : (file old : Option (List ℕ)) (plan : Plan) (c : Cursor) → IsSome file → file ≡ old → HeaderReadKnown plan.root plan.block file c → IsTrue (is_foreign old plan) → is_open c ≡ false
foreign_shut None old plan c some is h foreign = absurd cc
foreign_shut (Some file) old plan c some is h foreign =
    shut_by file plan c (has_setup plan.root plan.block file) refl (subst (λ (x : Option (List ℕ)). IsTrue (is_foreign x plan)) (sym is) foreign) h.opens

-- the same reader has drawn nothing more
pub drawn_none : (r r' : ReaderState) (g g' : ℕ) (l l' : Option (List ℕ)) → Draws r.feed r'.feed g g' l l' → r' ≡ r → g' ≡ g
drawn_none r r' g g' l l' drawn same =
    let at : reach r'.feed ≡ reach r.feed = ap (λ (x : ReaderState). reach x.feed) same in
    omega (arith, drawn.count, at)
