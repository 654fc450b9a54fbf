-- What a writer writes for a path, and remembers.
use Rattle.std.proofs.Common.{◌≡◌, ℕ, ◌+◌, ◌-◌, ◌≤◌, false, true, List, ◌++◌, length, take, drop, Result, Ok, Err, ap, ◌∙◌, length-append, length-drop, arith}
use Rattle.std.specs.Prelude.{IsOk, OnOk}
use Rattle.std.proofs.lemmas.List.{take_all}
use Rattle.byte_feed.specs.Field.{ended}
use Rattle.byte_feed.specs.Prefix.{common_prefix}
use Rattle.locate02_db.specs.declared.change.Change.{Change}
use Rattle.locate02_db.specs.Items.{spell_change}
use Rattle.locate02_db.specs.Spelled.{change_between}
use Rattle.locate02_db.specs.Writer.{WriterState, piece, after_put}
use Rattle.byte_feed.proofs.CommonPrefix.{common_fits, with_rest}

abbrev remainder : ℕ → List ℕ → List ℕ
remainder n path = take (length path - n) (drop n path)

remainder_is : (n : ℕ) (path : List ℕ) → remainder n path ≡ drop n path
remainder_is n path = take_all (length path - n) (drop n path) (omega (arith, length-drop n path))

pub piece_is : (w : WriterState) (path : List ℕ) (n : ℕ) (change : Change) → n ≡ common_prefix w.path path → change ≡ change_between w.shared n → spell_change change ++ ended (remainder n path) ≡ piece w path
piece_is w path n change same between =
    (λ i. spell_change (between i) ++ ended (remainder_is n path i)) ∙ ap (λ (m : ℕ). spell_change (change_between w.shared m) ++ ended (drop m path)) same

stored_by : {E : Type 0} (r : Result (Unit {0}) E) (P : Type 0) → IsOk r → OnOk r P → P
stored_by (Ok u) P ok p = p
stored_by (Err e) P ok p = absurd (let no : false ≡ true = ok in cc)

abbrev kept : List ℕ → ℕ → WriterState
kept path shared = record { path = path; shared = shared }

pub after_is : {E : Type 0} (w : WriterState) (path first path' : List ℕ) (n : ℕ) (r : Result (Unit {0}) E) → n ≡ common_prefix w.path path → length path ≤ 4096 → first ≡ take n w.path
    → (length first + length (remainder n path) ≤ 4096 → IsOk r) → OnOk r (path' ≡ first ++ remainder n path) → kept path' n ≡ after_put w path
after_is w path first path' n r same fits first_is room stored =
    let common = common_fits w.path path in
    let whole : first ++ remainder n path ≡ path = (λ i. first_is i ++ remainder_is n path i) ∙ with_rest n w.path path (omega (arith, same)) in
    let len = length-append first (remainder n path) in
    let is = stored_by r (path' ≡ first ++ remainder n path) (room (omega (arith, len, ap length whole, fits))) stored in
    λ i. kept ((is ∙ whole) i) (same i)
