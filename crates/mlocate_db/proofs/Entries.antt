-- The path of an entry, out of its directory's and its name.
use Rattle.std.proofs.Common.{◌≡◌, ℕ, ◌+◌, ◌<◌, ◌≤◌, All, List, [], ◌∷◌, ◌++◌, length, refl, sym, ap, ◌∙◌, subst, inl, inr, append_assoc, length-append, arith}
use Rattle.std.proofs.lemmas.Bool.{cases_Bool}
use Rattle.std.proofs.lemmas.List.Elements.{All-append, All-push}
use Rattle.path_order.specs.Path.{is_root, joined}
use Rattle.byte_feed.specs.Field.{IsText}
use Rattle.byte_feed.specs.Paths.{IsPath}
use Rattle.mlocate_db.specs.Items.{in_directory, room_in}

pub joined-append : (path name : List ℕ) → joined path name ≡ in_directory path ++ name
joined-append path name = elim (cases_Bool (is_root path)) [
  | inl root ↦ rw root refl
  | inr other ↦ rw other (sym (append_assoc path (47 ∷ []) name))
]

in_directory_plain : (path : List ℕ) → All (λ b. 0 < b) path → All (λ b. 0 < b) (in_directory path)
in_directory_plain path plain = elim (cases_Bool (is_root path)) [
  | inl root ↦ rw root plain
  | inr other ↦ rw other (All-push (λ b. 0 < b) path 47 plain (omega arith))
]

pub length-in_directory-le : (path : List ℕ) → length path ≤ length (in_directory path)
length-in_directory-le path = elim (cases_Bool (is_root path)) [
  | inl root ↦ rw root (omega arith)
  | inr other ↦ rw other (omega (arith, length-append path (47 ∷ [])))
]

-- the path of an entry is a path, and longer than its directory's
pub entry_path : (path name : List ℕ) → All (λ b. 0 < b) path → IsText (room_in path) name → IsPath (joined path name) × (length path < length (joined path name))
entry_path path name plain h =
    let len : length (joined path name) ≡ length (in_directory path) + length name = ap length (joined-append path name) ∙ length-append (in_directory path) name in (
      record {
        some = omega (arith, len, h.some);
        fits = omega (arith, len, h.some, h.fits);
        plain = subst (All (λ b. 0 < b)) (sym (joined-append path name)) (All-append (λ b. 0 < b) (in_directory path) name (in_directory_plain path plain) h.plain);
      },
      omega (arith, len, h.some, length-in_directory-le path),
    )
