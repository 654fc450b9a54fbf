-- Items as the paths of a list, and back, and how a list ends.
use Rattle.std.proofs.Common.{◌≡◌, ℕ, ◌+◌, ◌-◌, ◌<◌, Bool, true, not, All, List, [], ◌∷◌, ◌++◌, length, refl, sym, ap, subst, ◌∙◌, inl, inr, append_assoc, append-nil, length-append, length-drop, arith}
use Rattle.std.specs.Prelude.{map}
use Rattle.std.specs.List.{suffix_len}
use Rattle.std.proofs.lemmas.List.{append_cancel_right}
use Rattle.std.proofs.lemmas.List.Elements.{All-nil, All-cons, All-head, All-tail}
use Rattle.path_order.specs.Path.{base_of, is_slash}
use Rattle.byte_feed.specs.Front.{Follow, spelling, limit, front, IsBytes, IsDatabase, readable}
use Rattle.byte_feed.specs.Paths.{PathAt, contents, paths_of, rest_of, before_base, GivesWhole}
use Rattle.byte_feed.proofs.Fronts.{items_of_begins, IsBytes-take}
use Rattle.byte_feed.proofs.Endings.{whole_iff}
use Rattle.byte_feed.proofs.ReadBack.{database_given}
use Rattle.path_list.specs.Items.{Item, Marked, Unmarked, path_in, marked, spell, IsListed, list_by}
use Rattle.path_list.specs.Spelled.{encode_list, SpellsList}
use Rattle.path_list.proofs.ItemLaws.{spell_above, list_laws, list_shrinks}

abbrev pub texts : List PathAt → List (List ℕ)
texts paths = map (λ (p : PathAt). p.text) paths

abbrev texts_of : ℕ → ℕ → ℕ → List Item → List (List ℕ)
texts_of mark place heads items = texts (paths_of (list_by mark) tt place heads items)

-- ---- from items to paths

-- behind a path without its mark no item comes
last_alone : (mark : ℕ) (items : List Item) (last : Bool) (rest : List ℕ) → Follow (list_by mark) tt items last rest → spelling (list_by mark) items ++ rest ≡ [] → items ≡ []
last_alone mark [] last rest rules e = refl
last_alone mark (i ∷ items) last rest rules e =
    absurd (omega (arith, ap length e, length-append (spelling (list_by mark) (i ∷ items)) rest, length-append (spell mark i) (spelling (list_by mark) items), spell_above mark i last (spelling (list_by mark) items ++ rest) rules.0))

spells_more : (mark : ℕ) (path : List ℕ) (paths : List (List ℕ)) (bytes : List ℕ) → SpellsList mark paths bytes → SpellsList mark (path ∷ paths) (marked mark path ++ bytes)
spells_more mark path paths bytes (inl e) = inl (ap (λ (b : List ℕ). marked mark path ++ b) e)
spells_more mark path paths bytes (inr e) = inr (append_assoc (marked mark path) bytes (mark ∷ []) ∙ ap (λ (b : List ℕ). marked mark path ++ b) e)

pub lines_of : (mark : ℕ) (items : List Item) (place heads : ℕ) (last : Bool) (rest : List ℕ) → Follow (list_by mark) tt items last rest
    → All (IsListed mark) (texts_of mark place heads items) × SpellsList mark (texts_of mark place heads items) (spelling (list_by mark) items)
lines_of mark [] place heads last rest rules = (All-nil (IsListed mark), inl refl)
lines_of mark (Marked path ∷ items) place heads last rest rules =
    let later = lines_of mark items (place + length (marked mark path)) (heads + 0) last rest rules.1 in
    (All-cons (IsListed mark) path _ rules.0 later.0, spells_more mark path _ _ later.1)
lines_of mark (Unmarked path ∷ items) place heads last rest rules =
    let none = last_alone mark items last rest rules.1 rules.0.2 in
    subst (λ (is : List Item). All (IsListed mark) (texts_of mark place heads (Unmarked path ∷ is)) × SpellsList mark (texts_of mark place heads (Unmarked path ∷ is)) (spelling (list_by mark) (Unmarked path ∷ is))) (sym none)
    (All-cons (IsListed mark) path [] rules.0.0 (All-nil (IsListed mark)), inr (ap (marked mark) (append-nil path) ∙ sym (append-nil (marked mark path))))

-- ---- from paths to items

-- items that are spelled so and give these paths
record Lines (mark : ℕ) (paths : List (List ℕ)) (bytes : List ℕ) : Type 0 where
  items : List Item
  spelled : spelling (list_by mark) items ≡ bytes
  rules : Follow (list_by mark) tt items true []
  given : (place heads : ℕ) → texts_of mark place heads items ≡ paths

lines_more : (mark : ℕ) (path : List ℕ) (paths : List (List ℕ)) (bytes : List ℕ) → IsListed mark path → Lines mark paths bytes → Lines mark (path ∷ paths) (marked mark path ++ bytes)
lines_more mark path paths bytes h l = record {
  items = Marked path ∷ l.items;
  spelled = ap (λ (b : List ℕ). marked mark path ++ b) l.spelled;
  rules = (h, l.rules);
  given = λ place heads. ap (λ (r : List (List ℕ)). path ∷ r) (l.given (place + length (marked mark path)) (heads + 0));
}

all_marked : (mark : ℕ) (paths : List (List ℕ)) → All (IsListed mark) paths → Lines mark paths (encode_list mark paths)
all_marked mark [] all = record { items = []; spelled = refl; rules = tt; given = λ place heads. refl }
all_marked mark (path ∷ paths) all = lines_more mark path paths (encode_list mark paths) (All-head (IsListed mark) path paths all) (all_marked mark paths (All-tail (IsListed mark) path paths all))

-- paths of which the last lacks its mark
record Open (mark : ℕ) (paths : List (List ℕ)) : Type 0 where
  bytes : List ℕ
  lines : Lines mark paths bytes
  whole : marked mark bytes ≡ encode_list mark paths

last_open : (mark : ℕ) (path : List ℕ) (paths : List (List ℕ)) → All (IsListed mark) (path ∷ paths) → Open mark (path ∷ paths)
last_open mark path [] all = record {
  bytes = path;
  lines = record { items = Unmarked path ∷ []; spelled = append-nil path; rules = ((All-head (IsListed mark) path [] all, refl, refl), tt); given = λ place heads. refl };
  whole = sym (append-nil (marked mark path));
}
last_open mark path (next ∷ paths) all =
    let o = last_open mark next paths (All-tail (IsListed mark) path (next ∷ paths) all) in
    record {
      bytes = marked mark path ++ o.bytes;
      lines = lines_more mark path (next ∷ paths) o.bytes (All-head (IsListed mark) path (next ∷ paths) all) o.lines;
      whole = append_assoc (marked mark path) o.bytes (mark ∷ []) ∙ ap (λ (b : List ℕ). marked mark path ++ b) o.whole;
    }

open_lines : (mark : ℕ) (paths : List (List ℕ)) (file : List ℕ) → All (IsListed mark) paths → marked mark file ≡ encode_list mark paths → Lines mark paths file
open_lines mark [] file all e = absurd (omega (arith, ap length e, length-append file (mark ∷ [])))
open_lines mark (path ∷ paths) file all e =
    let o = last_open mark path paths all in
    subst (Lines mark (path ∷ paths)) (append_cancel_right o.bytes file (mark ∷ []) (o.whole ∙ sym e)) o.lines

lines_for : (mark : ℕ) (paths : List (List ℕ)) (file : List ℕ) → All (IsListed mark) paths → SpellsList mark paths file → Lines mark paths file
lines_for mark paths file all (inl e) = subst (Lines mark paths) (sym e) (all_marked mark paths all)
lines_for mark paths file all (inr e) = open_lines mark paths file all e

-- ---- whole files

pub spelled_is_given : (mark : ℕ) (file : List ℕ) (paths : List (List ℕ)) → length file < limit → All (IsListed mark) paths → SpellsList mark paths file → GivesWhole (contents (list_by mark) file) paths
spelled_is_given mark file paths below all spells =
    let l = lines_for mark paths file all spells in
    let db : IsDatabase (list_by mark) l.items = record { rules = l.rules; may_end = refl; below = omega (arith, ap length l.spelled, below) } in
    let given = database_given (list_by mark) (list_shrinks mark) (list_laws mark) l.items db in
    subst (λ (f : List ℕ). GivesWhole (contents (list_by mark) f) paths) l.spelled (rw given (record { texts = l.given 0 0; ends = refl }))

pub given_is_spelled : (mark : ℕ) (file : List ℕ) (paths : List (List ℕ)) → IsBytes file → GivesWhole (contents (list_by mark) file) paths → All (IsListed mark) paths × SpellsList mark paths file
unfolding rest_of
given_is_spelled mark file paths small h =
    let f = list_by mark in
    let w = readable file in
    let whole = (whole_iff f (list_shrinks mark) (list_laws mark) file small).0 h.ends in
    let b = items_of_begins f (list_laws mark) tt w.bytes w.more (IsBytes-take limit file small) in
    let lines = lines_of mark (front f file) 0 0 (not w.more) b.rest b.rules in
    subst (λ (l : List (List ℕ)). All (IsListed mark) l × SpellsList mark l file) h.texts (lines.0, subst (SpellsList mark (texts_of mark 0 0 (front f file))) whole.spelled lines.1)

-- ---- base names

abbrev BaseBehind : PathAt → Type 0
BaseBehind p = p.dir_len + length (base_of p.text) ≡ length p.text

before_is : (path : List ℕ) → before_base path + length (base_of path) ≡ length path
before_is path = omega (arith, length-drop (length path - suffix_len (λ b. not (is_slash b)) path) path)

bases_of : (mark : ℕ) (items : List Item) (place heads : ℕ) → All BaseBehind (paths_of (list_by mark) tt place heads items)
bases_of mark [] place heads = All-nil BaseBehind
bases_of mark (i ∷ items) place heads = All-cons BaseBehind _ _ (before_is (path_in i)) (bases_of mark items (place + length (spell mark i)) (heads + 0))

pub bases_given : (mark : ℕ) (file : List ℕ) → All BaseBehind (contents (list_by mark) file).paths
unfolding rest_of
bases_given mark file = bases_of mark (front (list_by mark) file) 0 0
