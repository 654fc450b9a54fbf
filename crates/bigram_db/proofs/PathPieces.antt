-- Items as the pieces of paths, and back.
use Rattle.std.proofs.Common.{◌≡◌, ℕ, ◌+◌, ◌-◌, ◌<◌, ◌≤◌, Bool, true, false, cond, not, eqb, ltb, leb, All, List, [], ◌∷◌, ◌++◌, length, take, drop, Result, Ok, Err, refl, sym, ap, subst, ◌∙◌, append_assoc, append-nil, length-append, length-take, length-drop, arith}
use Rattle.std.specs.Prelude.{◌&&◌, map}
use Rattle.std.specs.List.{suffix_len}
use Rattle.std.proofs.lemmas.Bool.{and_parts, and_from, eq-eqb, lt-leb, ltb-true, leb-true}
use Rattle.std.proofs.lemmas.List.{take_all, take_at, drop_at}
use Rattle.std.proofs.lemmas.List.Elements.{All-nil, All-cons, All-head, All-tail, All-append, All-take}
use Rattle.path_order.specs.Path.{base_of, is_slash}
use Rattle.byte_feed.specs.Front.{Follow, spelling, left_by, limit, readable, front, items_within, items_of, IsBytes}
use Rattle.byte_feed.specs.declared.damage.DbFault.TheVariants as faults
use Rattle.byte_feed.specs.declared.damage.Stop.{Stop}
use Rattle.byte_feed.specs.Endings.{end_by}
use Rattle.byte_feed.specs.Paths.{PathAt, IsPath, paths_of, rest_of, contents, GivesWhole, before_base}
use Rattle.byte_feed.proofs.Fronts.{items_begin, items_of_begins, IsBytes-take}
use Rattle.byte_feed.proofs.Endings.{whole_iff}
use Rattle.bigram_db.specs.Pairs.{is_table, is_bigram, is_plain, pair_at}
use Rattle.byte_feed.specs.Field.{max_path}
use Rattle.bigram_db.specs.Items.{Count, TextUnit, Plain, Escaped, Paired, Item, TableItem, PathItem, State, AtStart, After, spell, spell_count, spell_units, unit_bytes, text_of, IsUnit, ends, IsEntry, at_least_zero, shared_by, path_with, may_end, item_at, bigram}
use Rattle.bigram_db.specs.Spelled.{IsPiece, SpellsAfter, SpellsBigram}
use Rattle.byte_feed.proofs.CommonPrefix.{common_fits, with_rest, kept_common}
use Rattle.bigram_db.proofs.EntryLaws.{count_ends, table_len, bigram_shrinks, bigram_laws}

abbrev pub texts : List PathAt → List (List ℕ)
texts paths = map (λ (p : PathAt). p.text) paths

-- the paths of entries behind this one
abbrev pub texts_of : List ℕ → List ℕ → ℕ → ℕ → ℕ → List Item → List (List ℕ)
texts_of table path old place heads items = texts (paths_of bigram (After table path old) place heads items)

-- ---- from items to pieces

abbrev Above : ℕ → Type 0
Above b = 0 < b

plain_above : (b : ℕ) → is_plain b ≡ true → 0 < b
plain_above b e = omega (arith, leb-true 32 b (and_parts (leb 32 b) (ltb b 128) e).0)

unit_above : (table : List ℕ) (u : TextUnit) → IsUnit table u → All Above (unit_bytes table u)
unit_above table (Plain b) is = All-cons Above b [] (plain_above b is) (All-nil Above)
unit_above table (Escaped b) is = All-cons Above b [] is (All-nil Above)
unit_above table (Paired n) is =
    let p = pair_at table n in
    let both = and_parts (ltb 0 p.0) (ltb 0 p.1) is in
    All-cons Above p.0 (p.1 ∷ []) (ltb-true 0 p.0 both.0) (All-cons Above p.1 [] (ltb-true 0 p.1 both.1) (All-nil Above))

-- no zero byte comes of units
text_above : (table : List ℕ) (units : List TextUnit) → All (IsUnit table) units → All Above (text_of table units)
text_above table [] each = All-nil Above
text_above table (u ∷ units) each =
    All-append Above (unit_bytes table u) (text_of table units) (unit_above table u (All-head (IsUnit table) u units each)) (text_above table units (All-tail (IsUnit table) u units each))

-- What a path behind another may keep: at most 4,096 bytes, none of them zero.
record Kept (path : List ℕ) : Type 0 where
  fits : length path ≤ max_path
  above : All Above path

length_kept : (n : ℕ) (path rest : List ℕ) → n ≤ length path → length (path_with path n rest) ≡ n + length rest
length_kept n path rest le = omega (arith, length-append (take n path) rest, length-take n path, le)

-- the path of an entry is a path
entry_path : (table path : List ℕ) (old : ℕ) (count : Count) (units : List TextUnit) (shared : ℕ) → Kept path → IsEntry table path old count units shared → IsPath (path_with path shared (text_of table units))
entry_path table path old count units shared kept h =
    let len = length_kept shared path (text_of table units) h.within in
    record {
      some = omega (arith, len, h.some);
      fits = omega (arith, len, h.within, h.fits, kept.fits);
      plain = All-append Above (take shared path) (text_of table units) (All-take Above shared path kept.above) (text_above table units h.each);
    }

rest_kept : (n : ℕ) (path rest : List ℕ) → n ≤ length path → drop n (path_with path n rest) ≡ rest
rest_kept n path rest le = drop_at (take n path) rest n (omega (arith, length-take n path, le))

-- an entry is a piece
entry_piece : (table path : List ℕ) (old : ℕ) (count : Count) (units : List TextUnit) (shared : ℕ) → IsEntry table path old count units shared → IsPiece table path old (path_with path shared (text_of table units)) shared (spell (PathItem count units))
entry_piece table path old count units shared h = record {
  count = count;
  units = units;
  is_count = h.is_count;
  leads = h.leads;
  common = kept_common shared path (text_of table units) h.within;
  each = h.each;
  makes = sym (rest_kept shared path (text_of table units) h.within);
  bytes = refl;
}

kept_of : (path : List ℕ) → IsPath path → Kept path
kept_of path h = record { fits = h.fits; above = h.plain }

pieces_of : (items : List Item) (table path : List ℕ) (old place heads : ℕ) (last : Bool) (rest : List ℕ) → Kept path → Follow bigram (After table path old) items last rest
    → All IsPath (texts_of table path old place heads items) × SpellsAfter table path old (texts_of table path old place heads items) (spelling bigram items)
pieces_of [] table path old place heads last rest kept rules = (All-nil IsPath, refl)
pieces_of (TableItem other ∷ items) table path old place heads last rest kept rules = absurd rules.0
pieces_of (PathItem count units ∷ items) table path old place heads last rest kept rules =
    let shared : ℕ = shared_by old count in
    let text : List ℕ = text_of table units in
    let entry = entry_path table path old count units shared kept rules.0.0 in
    let later = pieces_of items table (path_with path shared text) shared (place + length (spell (PathItem count units))) (heads + 0) last rest (kept_of (path_with path shared text) entry) rules.1 in
    (All-cons IsPath (path_with path shared text) _ entry later.0, (shared, spell (PathItem count units), spelling bigram items, refl, entry_piece table path old count units shared rules.0.0, later.1))

-- ---- from pieces to items

-- entries behind a path that are spelled so and give these paths
record Entries (table path : List ℕ) (old : ℕ) (paths : List (List ℕ)) (bytes : List ℕ) : Type 0 where
  items : List Item
  spelled : spelling bigram items ≡ bytes
  seam : ends true bytes ≡ true
  rules : Follow bigram (After table path old) items true []
  given : (place heads : ℕ) → texts_of table path old place heads items ≡ paths

-- the first piece is an entry
one_entry : (table path : List ℕ) (old : ℕ) (next : List ℕ) (new : ℕ) (piece rest : List ℕ) (paths : List (List ℕ)) → IsPath next → (p : IsPiece table path old next new piece) → Entries table next new paths rest → Entries table path old (next ∷ paths) (piece ++ rest)
one_entry table path old next new piece rest paths h p later =
    let text : List ℕ = text_of table p.units in
    let item : Item = PathItem p.count p.units in
    let fits = common_fits path next in
    let is : shared_by old p.count ≡ new = ap at_least_zero p.leads in
    let whole : path_with path new text ≡ next = ap (path_with path new) p.makes ∙ with_rest new path next p.common in
    let len : length text ≡ length next - new = ap length p.makes ∙ length-drop new next in
    let entry : IsEntry table path old p.count p.units (shared_by old p.count) = subst (IsEntry table path old p.count p.units) (sym is) (record {
      is_count = p.is_count;
      leads = p.leads;
      within = omega (arith, p.common, fits);
      each = p.each;
      fits = omega (arith, len, h.fits);
      some = omega (arith, len, h.some, p.common, fits);
    }) in
    let state : After table (path_with path (shared_by old p.count) text) (shared_by old p.count) ≡ After table next new = λ i. After table (((ap (λ (n : ℕ). path_with path n text) is) ∙ whole) i) (is i) in
    let behind : spelling bigram later.items ++ [] ≡ rest = append-nil (spelling bigram later.items) ∙ later.spelled in
    let spelled : spell item ++ rest ≡ piece ++ rest = ap (λ (r : List ℕ). r ++ rest) (sym p.bytes) in
    record {
      items = item ∷ later.items;
      spelled = ap (λ (r : List ℕ). spell item ++ r) later.spelled ∙ spelled;
      seam = ap (ends true) (sym spelled ∙ append_assoc (spell_count p.count) (spell_units p.units) rest) ∙ count_ends true p.count (spell_units p.units ++ rest) p.is_count;
      rules = ((entry, ap (ends true) behind ∙ later.seam), subst (λ (s : State). Follow bigram s later.items true []) (sym state) later.rules);
      given = λ place heads.
          let at : ℕ = place + length (spell item) in
          (λ i. ((ap (λ (n : ℕ). path_with path n text) is) ∙ whole) i ∷ texts (paths_of bigram (state i) at (heads + 0) later.items))
          ∙ ap (λ (r : List (List ℕ)). next ∷ r) (later.given at (heads + 0));
    }

entries_of : (paths : List (List ℕ)) (table path : List ℕ) (old : ℕ) (bytes : List ℕ) → All IsPath paths → SpellsAfter table path old paths bytes → Entries table path old paths bytes
entries_of [] table path old bytes all spells = record { items = []; spelled = sym spells; seam = ap (ends true) spells; rules = tt; given = λ place heads. refl }
entries_of (next ∷ paths) table path old bytes all spells =
    let later = entries_of paths table next spells.0 spells.2 (All-tail IsPath next paths all) spells.5 in
    subst (Entries table path old (next ∷ paths)) (sym spells.3) (one_entry table path old next spells.0 spells.1 spells.2 paths (All-head IsPath next paths all) spells.4 later)

-- ---- whole files

-- the state after entries is one in which the file may end
may_end_after : (items : List Item) (table path : List ℕ) (old : ℕ) → may_end (left_by bigram (After table path old) items) ≡ true
may_end_after [] table path old = refl
may_end_after (TableItem other ∷ items) table path old = may_end_after items other [] 0
may_end_after (PathItem count units ∷ items) table path old = may_end_after items table (path_with path (shared_by old count) (text_of table units)) (shared_by old count)

none_kept : Kept []
none_kept = record { fits = omega arith; above = All-nil Above }

-- a file with a table in front
pub table_first : (table rest file : List ℕ) → is_table table ≡ true → file ≡ table ++ rest → is_bigram file ≡ true
table_first table rest file is e = ap (λ (bytes : List ℕ). is_table (take 256 bytes)) e ∙ ap is_table (take_at table rest 256 (table_len table is)) ∙ is

-- what the items of a whole file spell
whole_by : (items : List Item) (file : List ℕ) (last : Bool) (rest : List ℕ) (paths : List (List ℕ)) → Follow bigram AtStart items last rest → may_end (left_by bigram AtStart items) ≡ true → spelling bigram items ≡ file
    → texts (paths_of bigram AtStart 0 0 items) ≡ paths → All IsPath paths × (is_bigram file ≡ true) × SpellsBigram paths file
whole_by [] file last rest paths rules may spelled given = absurd (let e : false ≡ true = may in cc)
whole_by (PathItem count units ∷ items) file last rest paths rules may spelled given = absurd rules.0
whole_by (TableItem table ∷ items) file last rest paths rules may spelled given =
    let p = pieces_of items table [] 0 (0 + length table) (0 + 0) last rest none_kept rules.1 in
    subst (λ (l : List (List ℕ)). All IsPath l × (is_bigram file ≡ true) × SpellsBigram l file) given
    (p.0, table_first table (spelling bigram items) file rules.0 (sym spelled), record { table = table; rest = spelling bigram items; size = table_len table rules.0; begins = sym spelled; pieces = p.1 })

pub given_is_spelled : (file : List ℕ) (paths : List (List ℕ)) → IsBytes file → GivesWhole (contents bigram file) paths → All IsPath paths × (is_bigram file ≡ true) × SpellsBigram paths file
unfolding rest_of
given_is_spelled file paths small h =
    let w = readable file in
    let whole = (whole_iff bigram bigram_shrinks bigram_laws file small).0 h.ends in
    let b = items_of_begins bigram bigram_laws AtStart w.bytes w.more (IsBytes-take limit file small) in
    whole_by (front bigram file) file (not w.more) b.rest paths b.rules whole.may whole.spelled h.texts

nothing_read : (last : Bool) (s : State) → items_of bigram last s [] ≡ []
unfolding items_of items_within
nothing_read last s = refl

end_from : {A : Type 0} (b more : Bool) (place : ℕ) (r : Result A Stop) → b ≡ true → more ≡ false → cond b (cond more (Err faults.TooLarge) (Ok tt)) (end_by place more r) ≡ Ok tt
end_from b more place r done below = rw (done, below) refl

-- a file that is the spelling of its front ends whole below the limit
ends_whole : (file : List ℕ) → length file < limit → spelling bigram (front bigram file) ≡ file → may_end (left_by bigram AtStart (front bigram file)) ≡ true → (contents bigram file).ending ≡ Ok tt
unfolding rest_of
ends_whole file below spelled may =
    let w = readable file in
    let items : List Item = front bigram file in
    let len : ℕ = length (spelling bigram items) in
    let s : State = left_by bigram AtStart items in
    let goes_on : w.more ≡ false = lt-leb limit (length file) below in
    let all : take limit file ≡ file = take_all limit file (omega (arith, below)) in
    let none : length (drop len w.bytes) ≡ 0 = length-drop len w.bytes ∙ omega (arith, ap length all, ap length spelled) in
    let done : (may_end s && eqb (length (drop len w.bytes)) 0) ≡ true = and_from (may_end s) (eqb (length (drop len w.bytes)) 0) may (eq-eqb (length (drop len w.bytes)) 0 none) in
    end_from (may_end s && eqb (length (drop len w.bytes)) 0) w.more (0 + len) (item_at (not w.more) s (drop len w.bytes)) done goes_on

is_first : (table rest file : List ℕ) → length table ≡ 256 → file ≡ table ++ rest → is_bigram file ≡ true → is_table table ≡ true
is_first table rest file len e is = ap is_table (sym (take_at table rest 256 len)) ∙ ap (λ (bytes : List ℕ). is_table (take 256 bytes)) (sym e) ∙ is

-- the front of a file that spells paths
pub spelled_is_given : (file : List ℕ) (paths : List (List ℕ)) → length file < limit → All IsPath paths → is_bigram file ≡ true → SpellsBigram paths file → GivesWhole (contents bigram file) paths
unfolding rest_of
spelled_is_given file paths below all can h =
    let w = readable file in
    let e = entries_of paths h.table [] 0 h.rest all h.pieces in
    let items : List Item = TableItem h.table ∷ e.items in
    let last : not w.more ≡ true = ap not (lt-leb limit (length file) below) in
    let bytes : w.bytes ≡ file = take_all limit file (omega (arith, below)) in
    let spelled : spelling bigram items ≡ file = ap (λ (r : List ℕ). h.table ++ r) e.spelled ∙ sym h.begins in
    let all_of : front bigram file ≡ items =
    ap (λ (b : Bool). items_of bigram b AtStart w.bytes) last
    ∙ items_begin bigram bigram_shrinks bigram_laws items true AtStart w.bytes [] (is_first h.table h.rest file h.size h.begins can, e.rules) (bytes ∙ sym spelled ∙ sym (append-nil (spelling bigram items)))
    ∙ ap (λ (r : List Item). items ++ r) (nothing_read true (left_by bigram AtStart items)) ∙ append-nil items in
    record {
      texts = ap (λ (is : List Item). texts (paths_of bigram AtStart 0 0 is)) all_of ∙ e.given (0 + length h.table) (0 + 0);
      ends = ends_whole file below (ap (spelling bigram) all_of ∙ spelled) (ap (λ (is : List Item). may_end (left_by bigram AtStart is)) all_of ∙ may_end_after e.items h.table [] 0);
    }

-- ---- base names

abbrev BaseBehind : PathAt → Type 0
BaseBehind p = p.dir_len + length (base_of p.text) ≡ length p.text

before_is : (path : List ℕ) → before_base path + length (base_of path) ≡ length path
before_is path = omega (arith, length-drop (length path - suffix_len (λ b. not (is_slash b)) path) path)

bases_of : (items : List Item) (s : State) (place heads : ℕ) → All BaseBehind (paths_of bigram s place heads items)
bases_of [] s place heads = All-nil BaseBehind
bases_of (TableItem table ∷ items) AtStart place heads = bases_of items (After table [] 0) (place + length table) (heads + 0)
bases_of (PathItem count units ∷ items) AtStart place heads = bases_of items AtStart (place + length (spell (PathItem count units))) (heads + 0)
bases_of (TableItem other ∷ items) (After table path old) place heads = bases_of items (After other [] 0) (place + length other) (heads + 0)
bases_of (PathItem count units ∷ items) (After table path old) place heads =
    let shared : ℕ = shared_by old count in
    let next : List ℕ = path_with path shared (text_of table units) in
    All-cons BaseBehind _ _ (before_is next) (bases_of items (After table next shared) (place + length (spell (PathItem count units))) (heads + 0))

pub bases_given : (file : List ℕ) → All BaseBehind (contents bigram file).paths
unfolding rest_of
bases_given file = bases_of (front bigram file) AtStart 0 0
