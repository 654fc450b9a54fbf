-- The row of a line by the parts that the code cuts off.
use Rattle.std.proofs.Common.{◌≡◌, ℕ, ◌+◌, ◌<◌, List, length, drop, refl, sym, ◌∙◌, ap, arith, true, false, Some, Ok, Err, Option}
use Rattle.std.proofs.lemmas.Bool.{lt-ltb, le-ltb}
use Rattle.std.specs.List.{after_first}
use Rattle.std.specs.Prelude.{bytes_eq, codes, slice_get}
use Rattle.mount_table.specs.declared.fault.MountCause.TheVariants.{FewFields, BadPath}
use Rattle.path_order.specs.Path.{begins_at_root}
use Rattle.mount_table.specs.Device.{device_numbers}
use Rattle.mount_table.specs.Escape.{unescaped}
use Rattle.mount_table.specs.Line.{fields}
use Rattle.mount_table.specs.Row.{nth_field, row_or_cause, row_of_fields, row_of}

-- a line of few fields
pub row_of-few : (line : List ℕ) → length (fields line) < 6 → row_of line ≡ Err FewFields
unfolding row_of_fields
row_of-few line few = rw (lt-ltb (length (fields line)) 6 few) refl

-- a line of enough fields
pub row_of-parts : (line device root point rest : List ℕ) (kind : Option (List ℕ)) (numbers : Option (ℕ × ℕ)) (r p : Option (List ℕ)) → (length (fields line) ≡ 6 + length (fields rest)) × (nth_field (fields line) 3 ≡ device) × (nth_field (fields line) 4 ≡ root) × (nth_field (fields line) 5 ≡ point) × (drop 6 (fields line) ≡ fields rest) → kind ≡ slice_get (after_first (bytes_eq (codes "-")) (fields rest)) 0 → numbers ≡ device_numbers device → r ≡ unescaped root → p ≡ unescaped point → row_of line ≡ row_or_cause kind numbers r p
unfolding row_of_fields
row_of-parts line device root point rest kind numbers r p parts is_kind is_numbers is_root is_point =
    let kind_is = ap (λ (l : List (List ℕ)). slice_get (after_first (bytes_eq (codes "-")) l) 0) parts.4 ∙ sym is_kind in
    let numbers_is = ap device_numbers parts.1 ∙ sym is_numbers in
    let root_is = ap unescaped parts.2 ∙ sym is_root in
    let point_is = ap unescaped parts.3 ∙ sym is_point in
    rw (le-ltb (length (fields line)) 6 (omega (arith, parts.0))) (λ i. row_or_cause (kind_is i) (numbers_is i) (root_is i) (point_is i))

-- a mount point that begins at the root, and one that does not
pub at_root : (kind : List ℕ) (major minor : ℕ) (root point : List ℕ) → begins_at_root point ≡ true → row_or_cause (Some kind) (Some (major, minor)) (Some root) (Some point) ≡ Ok (record { major = major; minor = minor; root = root; point = point; kind = kind })
at_root kind major minor root point e = rw e refl

pub not_at_root : (kind : List ℕ) (major minor : ℕ) (root point : List ℕ) → begins_at_root point ≡ false → row_or_cause (Some kind) (Some (major, minor)) (Some root) (Some point) ≡ Err BadPath
not_at_root kind major minor root point e = rw e refl
