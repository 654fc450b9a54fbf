-- Files of a list, looked up by their names.
use Rattle.std.proofs.Common.{rules, ◌≡◌, ℕ, suc, ◌+◌, ◌<◌, ◌≤◌, List, [], ◌∷◌, length, get_or, drop, Option, Some, None, refl, sym, ◌∙◌, ap, add-one, drop-cons, string_bytes, Bool, true, false, cond, zero, arith}
use Rattle.std.proofs.lemmas.List.{drop_all}
use Rattle.std.proofs.lemmas.Map.Text.{is_eq-slice_cmp}
use Rattle.std.specs.Str.{bytes_eq}
use Rattle.std.specs.Cmp.Lexicographic.{nat_list_cmp_total}
use Rattle.std.proofs.lemmas.Slice.Eq.{bytes_eq-Decides}
use Rattle.std.specs.List.{remove}
use Rattle.std.specs.Ordering.{nat_cmp, eq_by_cmp}
use Rattle.std.specs.Cmp.Lexicographic.{slice_cmp}
use Rattle.std.specs.FinMap.{find, get, insert, get-insert, get-from_entries, same_map, nat_cmp-IsAntisymmetric, slice_cmp-IsAntisymmetric}
use Rattle.loc_outside.specs.Stored.{pairs_of, files_of, first_bytes, bytes_at, first_name, name_at}
use Rattle.loc_outside.specs.declared.memory.stored.StoredFile.{StoredFile}

-- the bytes of the first file of this name
abbrev pub found : List ℕ → List StoredFile → Option (List ℕ)
found name files = find (slice_cmp nat_cmp) name (pairs_of files)

-- the test of a file's name
abbrev pub has_name : List ℕ → StoredFile → Bool
has_name name file = bytes_eq name (string_bytes file.name)

pub rest_at : (files : List StoredFile) (i : ℕ) (file : StoredFile) → i < length files → file ≡ get_or files i file → drop i files ≡ file ∷ drop (i + 1) files
rest_at files i file here is =
    drop-cons files i file here ∙ ap (λ (f : StoredFile). f ∷ drop (suc i) files) (sym is) ∙ ap (λ (n : ℕ). file ∷ drop n files) (sym (add-one i))

pub found_first : (name : List ℕ) (file : StoredFile) (rest : List StoredFile) → has_name name file ≡ true → found name (file ∷ rest) ≡ Some file.bytes.items
found_first name file rest is = ap (λ (b : Bool). cond b (Some file.bytes.items) (found name rest)) (is_eq-slice_cmp name (string_bytes file.name) ∙ is)

pub found_later : (name : List ℕ) (file : StoredFile) (rest : List StoredFile) → has_name name file ≡ false → found name (file ∷ rest) ≡ found name rest
found_later name file rest is = ap (λ (b : Bool). cond b (Some file.bytes.items) (found name rest)) (is_eq-slice_cmp name (string_bytes file.name) ∙ is)

-- what the map of a list has at a name
pub get_is : (files : List StoredFile) (name : List ℕ) → get (files_of files) name ≡ found name files
get_is files name = get-from_entries nat_list_cmp_total (pairs_of files) name

pub get_here : (files : List StoredFile) (name : List ℕ) (i : ℕ) (file : StoredFile) → i < length files → file ≡ get_or files i file → found name files ≡ found name (drop i files) → has_name name file ≡ true → get (files_of files) name ≡ Some (bytes_at files i)
get_here files name i file here is before named =
    let rest = rest_at files i file here is in
    get_is files name ∙ before ∙ ap (found name) rest ∙ found_first name file (drop (i + 1) files) named ∙ ap (λ (l : List StoredFile). Some (first_bytes l)) (sym rest)

pub found_after : (files : List StoredFile) (name : List ℕ) (i : ℕ) (file : StoredFile) → i < length files → file ≡ get_or files i file → found name files ≡ found name (drop i files) → has_name name file ≡ false → found name files ≡ found name (drop (i + 1) files)
found_after files name i file here is before other = before ∙ ap (found name) (rest_at files i file here is) ∙ found_later name file (drop (i + 1) files) other

pub get_nowhere : (files : List StoredFile) (name : List ℕ) (i : ℕ) → length files ≤ i → found name files ≡ found name (drop i files) → get (files_of files) name ≡ None
get_nowhere files name i past before = get_is files name ∙ before ∙ ap (found name) (drop_all i files past)

same_bytes : (xs ys : List ℕ) → bytes_eq xs ys ≡ true → xs ≡ ys
same_bytes xs ys e = search (rules, bytes_eq-Decides)

-- the file at a place has the name for which it was found
pub named_here : (files : List StoredFile) (name : List ℕ) (i : ℕ) (file : StoredFile) → i < length files → file ≡ get_or files i file → has_name name file ≡ true → name_at files i ≡ name
named_here files name i file here is named =
    ap first_name (rest_at files i file here is) ∙ sym (same_bytes name (string_bytes file.name) named)

-- whether a file's name is this one, by the order of names
abbrev pub is_named : List ℕ → List ℕ → Bool
is_named = eq_by_cmp (slice_cmp nat_cmp)

-- a file of another name is found where one is taken out
found_without : (files : List StoredFile) (i : ℕ) (name other : List ℕ) → i < length files → name_at files i ≡ name → is_named other name ≡ false → found other (remove files i) ≡ found other files
found_without [] i name other here is apart = absurd (omega arith)
found_without (file ∷ files) zero name other here is apart =
    sym (ap (λ (b : Bool). cond b (Some file.bytes.items) (found other files)) (ap (is_named other) is ∙ apart))
found_without (file ∷ files) (suc i) name other here is apart =
    ap (cond (is_named other (string_bytes file.name)) (Some file.bytes.items)) (found_without files i name other (omega arith) is apart)

-- a file is the same in a map to which another is put, whether the older one of its name is there or not
same_without : (files : List StoredFile) (i : ℕ) (name bytes : List ℕ) → i < length files → name_at files i ≡ name → insert (files_of (remove files i)) name bytes ≡ insert (files_of files) name bytes
same_without files i name bytes here is =
    same_map nat_list_cmp_total (slice_cmp-IsAntisymmetric nat_cmp-IsAntisymmetric) _ _ (λ other. get-insert nat_list_cmp_total _ name bytes other ∙ by other (is_named other name) refl ∙ sym (get-insert nat_list_cmp_total _ name bytes other))
  where
    by : (other : List ℕ) (b : Bool) → is_named other name ≡ b → cond (is_named other name) (Some bytes) (get (files_of (remove files i)) other) ≡ cond (is_named other name) (Some bytes) (get (files_of files) other)
    by other true e =
        ap (λ (b : Bool). cond b (Some bytes) (get (files_of (remove files i)) other)) e ∙ sym (ap (λ (b : Bool). cond b (Some bytes) (get (files_of files) other)) e)
    by other false e =
        ap (cond (is_named other name) (Some bytes)) (get_is (remove files i) other ∙ found_without files i name other here is e ∙ sym (get_is files other))

-- a file that is put first, and the older one of its name taken out
pub replaced : (file : StoredFile) (files : List StoredFile) (i : ℕ) (name : List ℕ) → i < length files → name_at files i ≡ name → string_bytes file.name ≡ name → files_of (remove (file ∷ files) (i + 1)) ≡ insert (files_of files) name file.bytes.items
replaced file files i name here is named =
    ap (λ (n : ℕ). files_of (remove (file ∷ files) n)) (add-one i)
    ∙ ap (λ (n : List ℕ). insert (files_of (remove files i)) n file.bytes.items) named
    ∙ same_without files i name file.bytes.items here is
