-- Items as the pieces of paths, and back.
use Rattle.std.proofs.Common.{◌≡◌, ℕ, ◌+◌, ◌-◌, ◌<◌, ◌≤◌, Bool, true, false, cond, not, All, List, [], ◌∷◌, ◌++◌, length, take, drop, Ok, Err, refl, sym, ap, subst, ◌∙◌, length-append, length-take, length-drop, arith, Result, eqb}
use Rattle.std.specs.Prelude.{◌&&◌, map}
use Rattle.std.proofs.lemmas.Bool.{and_from, eq-eqb, lt-leb}
use Rattle.std.proofs.lemmas.List.{append-nil, take_all, drop_at}
use Rattle.std.proofs.lemmas.List.Elements.{All-nil, All-cons, All-head, All-tail, All-append, All-take, All-drop}
use Rattle.std.specs.List.{suffix_len}
use Rattle.path_order.specs.Path.{base_of, is_slash}
use Rattle.byte_feed.specs.declared.damage.DbFault.TheVariants as faults
use Rattle.byte_feed.specs.declared.damage.Stop.{Stop}
use Rattle.byte_feed.specs.Field.{IsPlain, ended, max_path}
use Rattle.byte_feed.specs.Front.{Follow, spelling, left_by, limit, readable, front, items_within, items_of, IsBytes}
use Rattle.byte_feed.specs.Endings.{end_by}
use Rattle.byte_feed.specs.Paths.{PathAt, IsPath, paths_of, rest_of, contents, before_base, GivesWhole}
use Rattle.byte_feed.proofs.Fronts.{items_begin, items_of_begins, IsBytes-take}
use Rattle.byte_feed.proofs.Endings.{whole_iff}
use Rattle.locate02_db.specs.declared.change.Change.{Change}
use Rattle.locate02_db.specs.Items.{Item, PreambleItem, PathItem, State, AtStart, After, magic, spell, spell_change, shared_by, at_least_zero, path_with, may_end, IsEntry, item_at, locate02}
use Rattle.locate02_db.specs.Spelled.{IsPiece, SpellsAfter, Spells02}
use Rattle.byte_feed.proofs.CommonPrefix.{common_fits, with_rest, kept_common}
use Rattle.locate02_db.proofs.ItemLaws.{locate02_laws}
use Rattle.locate02_db.proofs.ItemSizes.{locate02_shrinks}

abbrev pub texts : List PathAt → List (List ℕ)
texts paths = map (λ (p : PathAt). p.text) paths

-- the paths of entries behind this one
abbrev pub texts_of : List ℕ → ℕ → ℕ → ℕ → List Item → List (List ℕ)
texts_of path old place heads items = texts (paths_of locate02 (After path old) place heads items)

-- ---- from items to pieces

length_kept : (n : ℕ) (path rest : List ℕ) → n ≤ length path → length (path_with path n rest) ≡ n + length rest
length_kept n path rest le = omega (arith, length-append (take n path) rest, length-take n path, le)

-- the path of an entry is a path
pub entry_path : (path : List ℕ) (old : ℕ) (change : Change) (rest : List ℕ) (shared : ℕ) → IsPlain max_path path → IsEntry path old change rest shared → IsPath (path_with path shared rest)
entry_path path old change rest shared plain h =
    let len = length_kept shared path rest h.within in
    record {
      some = omega (arith, len, h.some);
      fits = omega (arith, len, h.within, h.plain.fits, plain.fits);
      plain = All-append (λ b. 0 < b) (take shared path) rest (All-take (λ b. 0 < b) shared path plain.plain) h.plain.plain;
    }

rest_kept : (n : ℕ) (path rest : List ℕ) → n ≤ length path → drop n (path_with path n rest) ≡ rest
rest_kept n path rest le = drop_at (take n path) rest n (omega (arith, length-take n path, le))

-- an entry is a piece
entry_piece : (path : List ℕ) (old : ℕ) (change : Change) (rest : List ℕ) (shared : ℕ) → IsEntry path old change rest shared → IsPiece path old (path_with path shared rest) shared (spell (PathItem change rest))
entry_piece path old change rest shared h = record {
  change = change;
  fits = h.fits;
  leads = h.leads;
  common = kept_common shared path rest h.within;
  bytes = ap (λ (t : List ℕ). spell_change change ++ ended t) (sym (rest_kept shared path rest h.within));
}

plain_of : (path : List ℕ) → IsPath path → IsPlain max_path path
plain_of path h = record { fits = h.fits; plain = h.plain }

pub pieces_of : (items : List Item) (path : List ℕ) (old place heads : ℕ) (last : Bool) (rest : List ℕ) → IsPlain max_path path → Follow locate02 (After path old) items last rest
    → All IsPath (texts_of path old place heads items) × SpellsAfter path old (texts_of path old place heads items) (spelling locate02 items)
pieces_of [] path old place heads last rest plain rules = (All-nil IsPath, refl)
pieces_of (PreambleItem ∷ items) path old place heads last rest plain rules = absurd rules.0
pieces_of (PathItem change text ∷ items) path old place heads last rest plain rules =
    let shared : ℕ = shared_by old change in
    let entry = entry_path path old change text shared plain rules.0 in
    let later = pieces_of items (path_with path shared text) shared (place + length (spell (PathItem change text))) (heads + 0) last rest (plain_of (path_with path shared text) entry) rules.1 in
    (All-cons IsPath (path_with path shared text) _ entry later.0, (shared, spell (PathItem change text), spelling locate02 items, refl, entry_piece path old change text shared rules.0, later.1))

-- ---- from pieces to items

-- entries behind a path that are spelled so and give these paths
pub record Entries (path : List ℕ) (old : ℕ) (paths : List (List ℕ)) (bytes : List ℕ) : Type 0 where
  pub items : List Item
  pub spelled : spelling locate02 items ≡ bytes
  pub rules : (last : Bool) (rest : List ℕ) → Follow locate02 (After path old) items last rest
  pub given : (place heads : ℕ) → texts_of path old place heads items ≡ paths

abbrev both : ℕ → List ℕ → State
both shared path = After path shared

-- the first piece is an entry
one_entry : (path : List ℕ) (old : ℕ) (next : List ℕ) (new : ℕ) (piece rest : List ℕ) (paths : List (List ℕ)) → IsPath next → (p : IsPiece path old next new piece) → Entries next new paths rest → Entries path old (next ∷ paths) (piece ++ rest)
one_entry path old next new piece rest paths h p later =
    let text : List ℕ = drop new next in
    let item : Item = PathItem p.change text in
    let fits = common_fits path next in
    let is : shared_by old p.change ≡ new = ap at_least_zero p.leads in
    let whole : path_with path new text ≡ next = with_rest new path next p.common in
    let entry : IsEntry path old p.change text (shared_by old p.change) = rw is (record {
      fits = p.fits;
      leads = p.leads;
      within = omega (arith, p.common, fits);
      plain = record { fits = omega (arith, length-drop new next, h.fits); plain = All-drop (λ b. 0 < b) new next h.plain };
      some = omega (arith, length-drop new next, h.some, p.common, fits);
    }) in
    let state : After (path_with path (shared_by old p.change) text) (shared_by old p.change) ≡ After next new = λ i. After (((ap (λ (n : ℕ). path_with path n text) is) ∙ whole) i) (is i) in
    record {
      items = item ∷ later.items;
      spelled = ap (λ (r : List ℕ). spell item ++ r) later.spelled ∙ ap (λ (r : List ℕ). r ++ rest) (sym p.bytes);
      rules = λ last behind. (entry, subst (λ (s : State). Follow locate02 s later.items last behind) (sym state) (later.rules last behind));
      given = λ place heads.
          let at : ℕ = place + length (spell item) in
          (λ i. ((ap (λ (n : ℕ). path_with path n text) is) ∙ whole) i ∷ texts (paths_of locate02 (state i) at (heads + 0) later.items))
          ∙ ap (λ (r : List (List ℕ)). next ∷ r) (later.given at (heads + 0));
    }

pub entries_of : (paths : List (List ℕ)) (path : List ℕ) (old : ℕ) (bytes : List ℕ) → All IsPath paths → SpellsAfter path old paths bytes → Entries path old paths bytes
entries_of [] path old bytes all spells = record { items = []; spelled = sym spells; rules = λ last rest. tt; given = λ place heads. refl }
entries_of (next ∷ paths) path old bytes all spells =
    let later = entries_of paths next spells.0 spells.2 (All-tail IsPath next paths all) spells.5 in
    subst (Entries path old (next ∷ paths)) (sym spells.3) (one_entry path old next spells.0 spells.1 spells.2 paths (All-head IsPath next paths all) spells.4 later)

-- ---- whole files

-- the state after entries is one in which the file may end
pub may_end_after : (items : List Item) (path : List ℕ) (old : ℕ) → may_end (left_by locate02 (After path old) items) ≡ true
may_end_after [] path old = refl
may_end_after (PreambleItem ∷ items) path old = may_end_after items path old
may_end_after (PathItem change text ∷ items) path old = may_end_after items (path_with path (shared_by old change) text) (shared_by old change)

empty_plain : IsPlain max_path []
empty_plain = record { fits = omega arith; plain = All-nil (λ b. 0 < b) }

-- what the items of a whole file spell
whole_by : (items : List Item) (file : List ℕ) (last : Bool) (rest : List ℕ) (paths : List (List ℕ)) → Follow locate02 AtStart items last rest → may_end (left_by locate02 AtStart items) ≡ true → spelling locate02 items ≡ file
    → texts (paths_of locate02 AtStart 0 0 items) ≡ paths → All IsPath paths × Spells02 paths file
whole_by [] file last rest paths rules may spelled given = absurd (let e : false ≡ true = may in cc)
whole_by (PathItem change text ∷ items) file last rest paths rules may spelled given = absurd rules.0
whole_by (PreambleItem ∷ items) file last rest paths rules may spelled given =
    let p = pieces_of items [] 0 (0 + length magic) (0 + 0) last rest empty_plain rules.1 in
    subst (λ (l : List (List ℕ)). All IsPath l × Spells02 l file) given (p.0, record { rest = spelling locate02 items; begins = sym spelled; pieces = p.1 })

pub given_is_spelled : (file : List ℕ) (paths : List (List ℕ)) → IsBytes file → GivesWhole (contents locate02 file) paths → All IsPath paths × Spells02 paths file
unfolding rest_of
given_is_spelled file paths small h =
    let w = readable file in
    let whole = (whole_iff locate02 locate02_shrinks locate02_laws file small).0 h.ends in
    let b = items_of_begins locate02 locate02_laws AtStart w.bytes w.more (IsBytes-take limit file small) in
    whole_by (front locate02 file) file (not w.more) b.rest paths b.rules whole.may whole.spelled h.texts

nothing_read : (last : Bool) (s : State) → items_of locate02 last s [] ≡ []
unfolding items_of items_within
nothing_read last s = refl

end_from : {A : Type 0} (b more : Bool) (place : ℕ) (r : Result A Stop) → b ≡ true → more ≡ false → cond b (cond more (Err faults.TooLarge) (Ok tt)) (end_by place more r) ≡ Ok tt
end_from b more place r done below = rw (done, below) refl

-- a file that is the spelling of its front ends whole below the limit
ends_whole : (file : List ℕ) → length file < limit → spelling locate02 (front locate02 file) ≡ file → may_end (left_by locate02 AtStart (front locate02 file)) ≡ true → (contents locate02 file).ending ≡ Ok tt
unfolding rest_of
ends_whole file below spelled may =
    let w = readable file in
    let items : List Item = front locate02 file in
    let len : ℕ = length (spelling locate02 items) in
    let s : State = left_by locate02 AtStart items in
    let goes_on : w.more ≡ false = lt-leb limit (length file) below in
    let all : take limit file ≡ file = take_all limit file (omega (arith, below)) in
    let none : length (drop len w.bytes) ≡ 0 = length-drop len w.bytes ∙ omega (arith, ap length all, ap length spelled) in
    let done : (may_end s && eqb (length (drop len w.bytes)) 0) ≡ true = and_from (may_end s) (eqb (length (drop len w.bytes)) 0) may (eq-eqb (length (drop len w.bytes)) 0 none) in
    end_from (may_end s && eqb (length (drop len w.bytes)) 0) w.more (0 + len) (item_at s (drop len w.bytes)) done goes_on

-- the front of a file that spells paths
pub spelled_is_given : (file : List ℕ) (paths : List (List ℕ)) → length file < limit → All IsPath paths → Spells02 paths file → GivesWhole (contents locate02 file) paths
unfolding rest_of
spelled_is_given file paths below all h =
    let w = readable file in
    let e = entries_of paths [] 0 h.rest all h.pieces in
    let items : List Item = PreambleItem ∷ e.items in
    let goes_on : w.more ≡ false = lt-leb limit (length file) below in
    let bytes : w.bytes ≡ file = take_all limit file (omega (arith, below)) in
    let spelled : spelling locate02 items ≡ file = ap (λ (r : List ℕ). magic ++ r) e.spelled ∙ sym h.begins in
    let all_of : front locate02 file ≡ items =
    items_begin locate02 locate02_shrinks locate02_laws items (not w.more) AtStart w.bytes [] (tt, e.rules (not w.more) []) (bytes ∙ sym spelled ∙ sym (append-nil (spelling locate02 items)))
    ∙ ap (λ (r : List Item). items ++ r) (nothing_read (not w.more) (left_by locate02 AtStart items)) ∙ append-nil items in
    record {
      texts = ap (λ (is : List Item). texts (paths_of locate02 AtStart 0 0 is)) all_of ∙ e.given (0 + length magic) (0 + 0);
      ends = ends_whole file below (ap (spelling locate02) all_of ∙ spelled) (ap (λ (is : List Item). may_end (left_by locate02 AtStart is)) all_of ∙ may_end_after e.items [] 0);
    }

-- ---- base names

abbrev BaseBehind : PathAt → Type 0
BaseBehind p = p.dir_len + length (base_of p.text) ≡ length p.text

before_is : (path : List ℕ) → before_base path + length (base_of path) ≡ length path
before_is path = omega (arith, length-drop (length path - suffix_len (λ b. not (is_slash b)) path) path)

bases_of : (items : List Item) (s : State) (place heads : ℕ) → All BaseBehind (paths_of locate02 s place heads items)
bases_of [] s place heads = All-nil BaseBehind
bases_of (i ∷ items) AtStart place heads = bases_of items (After [] 0) (place + length (spell i)) (heads + 0)
bases_of (PreambleItem ∷ items) (After path old) place heads = bases_of items (After path old) (place + length (spell PreambleItem)) (heads + 0)
bases_of (PathItem change text ∷ items) (After path old) place heads =
    All-cons BaseBehind _ _ (before_is (path_with path (shared_by old change) text)) (bases_of items (After (path_with path (shared_by old change) text) (shared_by old change)) (place + length (spell (PathItem change text))) (heads + 0))

pub bases_given : (file : List ℕ) → All BaseBehind (contents locate02 file).paths
unfolding rest_of
bases_given file = bases_of (front locate02 file) AtStart 0 0
