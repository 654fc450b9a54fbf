-- The text of entries, one after the other.
use Rattle.std.proofs.Common.{◌≡◌, ℕ, zero, suc, ◌+◌, ◌-◌, ◌<◌, ◌≤◌, Bool, true, false, cond, All, List, [], ◌∷◌, ◌++◌, length, get_or, drop, Option, Some, None, sym, ap, subst, ◌∙◌, append-nil, arith, Result, Ok, Err, OnOk, OnErr}
use Rattle.std.specs.Str.{bytes_eq}
use Rattle.std.proofs.lemmas.Grind.{flat_map-append}
use Rattle.path_order.specs.declared.kind.Kind.{Kind}
use Rattle.path_order.specs.Path.{joined, parent_of, base_of}
use Rattle.path_order.proofs.ParentLemmas.{HasParent, has_parent}
use Rattle.byte_feed.specs.Field.{IsText, max_path}
use Rattle.byte_feed.specs.Front.{spelling}
use Rattle.byte_feed.specs.Paths.{IsPath}
use Rattle.mlocate_db.specs.Items.{Item, EntryItem, EndItem, mlocate, spell}
use Rattle.db_convert.specs.declared.format.Format.TheVariants.{Mlocate}
use Rattle.db_convert.specs.Admission.{first_refused}
use Rattle.db_convert.specs.Blocks.{Entry, entry_item, entries_of, kind_in}
use Rattle.db_convert.specs.Orders.{IsOrder, entry_at}
use Rattle.db_convert.specs.Turns.{head_item, opening, turn, closing, items_from, open_at}
use Rattle.db_convert.proofs.Pieces.{drop_next, drop_end}
use Rattle.db_convert.proofs.DatabaseItems.{Parts, parts_of}
use Rattle.db_convert.proofs.ReadBack.{all_admitted, not_root}
use Rattle.db_convert.proofs.Seeking.{order_length, ordered_entry}

pub one_item : (i : Item) → spell i ≡ spelling mlocate (i ∷ [])
one_item i = sym (append-nil (spell i))

pub two_items : (i j : Item) → spell i ++ spell j ≡ spelling mlocate (i ∷ j ∷ [])
two_items i j = ap (λ (l : List ℕ). spell i ++ l) (one_item j)

pub on_ok : {T E : Type 0} (r : Result T E) (A B : Type 0) → (A → B) → OnOk r A → OnOk r B
on_ok (Ok x) A B f h = f h
on_ok (Err e) A B f h = tt

pub on_err : {T E : Type 0} (r : Result T E) (A B : Type 0) → (A → B) → OnErr r A → OnErr r B
on_err (Ok x) A B f h = tt
on_err (Err e) A B f h = f h

-- ---- the directory that is open

pub open_before : (paths : List (List ℕ)) (places : List ℕ) (at : ℕ) → 0 < at → open_at paths places at ≡ Some (entry_at paths (get_or places (at - 1) 0)).0
open_before paths places zero some = absurd (omega (arith, some))
open_before paths places (suc at) some = ap (λ (k : ℕ). Some (entry_at paths (get_or places k 0)).0) (omega arith)

pub first_opening : (paths : List (List ℕ)) (places : List ℕ) (at : ℕ) (dir : List ℕ) → at ≡ 0 → spell (head_item dir) ≡ spelling mlocate (opening (open_at paths places at) dir)
first_opening paths places at dir first = one_item (head_item dir) ∙ ap (λ (k : ℕ). spelling mlocate (opening (open_at paths places k) dir)) (sym first)

opening_by : (paths : List (List ℕ)) (places : List ℕ) (at : ℕ) (dir : List ℕ) (b : Bool) → 0 < at → bytes_eq (entry_at paths (get_or places (at - 1) 0)).0 dir ≡ b → cond b [] (EndItem ∷ head_item dir ∷ []) ≡ opening (open_at paths places at) dir
opening_by paths places at dir b some e = ap (λ (t : Bool). cond t [] (EndItem ∷ head_item dir ∷ [])) (sym e) ∙ ap (λ (o : Option (List ℕ)). opening o dir) (sym (open_before paths places at some))

pub same_opening : (paths : List (List ℕ)) (places : List ℕ) (at : ℕ) (dir : List ℕ) → 0 < at → bytes_eq (entry_at paths (get_or places (at - 1) 0)).0 dir ≡ true → [] ≡ spelling mlocate (opening (open_at paths places at) dir)
same_opening paths places at dir some e = ap (spelling mlocate) (opening_by paths places at dir true some e)

pub other_opening : (paths : List (List ℕ)) (places : List ℕ) (at : ℕ) (dir : List ℕ) → 0 < at → bytes_eq (entry_at paths (get_or places (at - 1) 0)).0 dir ≡ false → spell EndItem ++ spell (head_item dir) ≡ spelling mlocate (opening (open_at paths places at) dir)
other_opening paths places at dir some e = two_items EndItem (head_item dir) ∙ ap (spelling mlocate) (opening_by paths places at dir false some e)

pub some_closing : (paths : List (List ℕ)) (places : List ℕ) (at : ℕ) → 0 < at → spell EndItem ≡ spelling mlocate (closing (open_at paths places at))
some_closing paths places at some = one_item EndItem ∙ ap (λ (o : Option (List ℕ)). spelling mlocate (closing o)) (sym (open_before paths places at some))

pub no_closing : (paths : List (List ℕ)) (places : List ℕ) (at : ℕ) → at ≡ 0 → [] ≡ spelling mlocate (closing (open_at paths places at))
no_closing paths places at none = ap (λ (k : ℕ). spelling mlocate (closing (open_at paths places k))) (sym none)

-- ---- an entry

pub turn_text : (paths : List (List ℕ)) (opened : Option (List ℕ)) (e : Entry) → spelling mlocate (opening opened e.0) ++ spell (entry_item paths e.0 e.1) ≡ spelling mlocate (turn paths opened e)
turn_text paths opened e =
    ap (λ (l : List ℕ). spelling mlocate (opening opened e.0) ++ l) (one_item (entry_item paths e.0 e.1)) ∙ sym (flat_map-append spell (opening opened e.0) (entry_item paths e.0 e.1 ∷ []))

pub turn_is : (paths : List (List ℕ)) (places : List ℕ) (at : ℕ) (path dir name : List ℕ) (kind : Kind) → path ≡ get_or paths (get_or places at 0) [] → dir ≡ parent_of path → name ≡ base_of path → kind ≡ kind_in paths path → joined (parent_of path) (base_of path) ≡ path
    → spelling mlocate (opening (open_at paths places at) dir) ++ spell (EntryItem kind name) ≡ spelling mlocate (turn paths (open_at paths places at) (entry_at paths (get_or places at 0)))
turn_is paths places at path dir name kind is dir_is name_is kind_is again =
    let e : Entry = entry_at paths (get_or places at 0) in
    let d : dir ≡ e.0 = dir_is ∙ ap parent_of is in
    let n : name ≡ e.1 = name_is ∙ ap base_of is in
    let k : kind ≡ kind_in paths (joined e.0 e.1) = kind_is ∙ ap (kind_in paths) (sym again) ∙ ap (λ (p : List ℕ). kind_in paths (joined (parent_of p) (base_of p))) is in
    (λ i. spelling mlocate (opening (open_at paths places at) (d i)) ++ spell (EntryItem (k i) (n i))) ∙ turn_text paths (open_at paths places at) e

-- an admitted path: its directory and its name can be written, and make the path
pub record Writes (path : List ℕ) : Type 0 where
  pub dir : IsText max_path (parent_of path)
  pub name : IsText max_path (base_of path)
  pub again : joined (parent_of path) (base_of path) ≡ path

writes_by : (path : List ℕ) → HasParent path → Parts (parent_of path) (base_of path) → Writes path
writes_by path h p = record {
  dir = p.text;
  name = record { some = p.named.some; fits = omega (arith, p.named.fits); plain = p.named.plain };
  again = h.joined_again;
}

pub writes_at : (paths : List (List ℕ)) (places : List ℕ) → IsOrder paths places → All IsPath paths → first_refused Mlocate paths ≡ None → (at : ℕ) (path : List ℕ) → at < length places → path ≡ get_or paths (get_or places at 0) [] → Writes path
writes_at paths places order all none at path lt is =
    let k : ℕ = get_or places at 0 in
    let within : k < length paths = order.within at 0 lt in
    let n = not_root (get_or paths k []) (all_admitted Mlocate paths none k [] within) in
    let h = has_parent (get_or paths k []) n.0 n.1 in
    subst Writes (sym is) (writes_by (get_or paths k []) h (parts_of (get_or paths k []) (all k [] within) h))

-- ---- all entries

-- what is left to be written before this place of the order
abbrev pub text_from : List (List ℕ) → List ℕ → ℕ → List ℕ
text_from paths places at = spelling mlocate (items_from paths (open_at paths places at) (drop at (entries_of paths)))

pub next_turn : (paths : List (List ℕ)) (places : List ℕ) → IsOrder paths places → (at : ℕ) → at < length places
    → text_from paths places at ≡ spelling mlocate (turn paths (open_at paths places at) (entry_at paths (get_or places at 0))) ++ text_from paths places (at + 1)
next_turn paths places order at lt =
    let e : Entry = entry_at paths (get_or places at 0) in
    let es : List Entry = entries_of paths in
    let next : drop at es ≡ e ∷ drop (at + 1) es = drop_next es at ([], []) (omega (arith, lt, order_length paths places order)) ∙ ap (λ (x : Entry). x ∷ drop (at + 1) es) (ordered_entry paths places order at lt) in
    let opened : Some e.0 ≡ open_at paths places (at + 1) = sym (open_before paths places (at + 1) (omega arith) ∙ ap (λ (k : ℕ). Some (entry_at paths (get_or places k 0)).0) (omega arith)) in
    ap (λ (l : List Entry). spelling mlocate (items_from paths (open_at paths places at) l)) next
    ∙ flat_map-append spell (turn paths (open_at paths places at) e) (items_from paths (Some e.0) (drop (at + 1) es))
    ∙ ap (λ (o : Option (List ℕ)). spelling mlocate (turn paths (open_at paths places at) e) ++ spelling mlocate (items_from paths o (drop (at + 1) es))) opened

pub last_turn : (paths : List (List ℕ)) (places : List ℕ) → IsOrder paths places → (at : ℕ) → length places ≤ at → at ≤ length places → text_from paths places at ≡ spelling mlocate (closing (open_at paths places (length places)))
last_turn paths places order at past within =
    ap (λ (l : List Entry). spelling mlocate (items_from paths (open_at paths places at) l)) (drop_end (entries_of paths) at (omega (arith, past, order_length paths places order)))
    ∙ ap (λ (k : ℕ). spelling mlocate (closing (open_at paths places k))) (omega (arith, past, within))
