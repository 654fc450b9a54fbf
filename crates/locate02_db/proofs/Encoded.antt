-- What is written for paths spells them.
use Rattle.std.proofs.Common.{◌≡◌, ℕ, ◌+◌, ◌≤◌, Bool, true, false, cond, All, List, [], ◌∷◌, ◌++◌, refl, sym, ap, ◌∙◌, append_assoc, append-nil, arith}
use Rattle.std.specs.Prelude.{◌&&◌, pos, ◌+ℤ◌, ◌-ℤ◌, nat_le, ℤ}
use Rattle.std.proofs.lemmas.Bool.{leb-true}
use Rattle.std.proofs.lemmas.Int.{ints}
use Rattle.std.proofs.lemmas.List.Elements.{All-head, All-tail}
use Rattle.byte_feed.specs.Paths.{IsPath}
use Rattle.byte_feed.specs.Prefix.{common_prefix}
use Rattle.locate02_db.specs.declared.change.Change.TheVariants.{Short, Long}
use Rattle.locate02_db.specs.Items.{magic, IsChange, amount}
use Rattle.locate02_db.specs.Spelled.{IsPiece, SpellsAfter, Spells02, change_between, encode_path, encode_after, encode02}
use Rattle.locate02_db.specs.Writer.{WriterState, nothing_put, piece, after_put, after_all}
use Rattle.byte_feed.proofs.CommonPrefix.{common_fits}

-- ---- the change between two lengths

leads_to : (old new : ℕ) → pos old +ℤ (pos new -ℤ pos old) ≡ pos new
leads_to old new = omega (arith, ints)

amount_by : (z : ℤ) (short : Bool) → amount (cond short (Short z) (Long z)) ≡ z
amount_by z true = refl
amount_by z false = refl

pub change_leads : (old new : ℕ) → pos old +ℤ amount (change_between old new) ≡ pos new
change_leads old new = ap (λ (z : ℤ). pos old +ℤ z) (amount_by (pos new -ℤ pos old) (nat_le new (old + 127) && nat_le old (new + 127))) ∙ leads_to old new

fits_by : (old new : ℕ) (a b : Bool) → nat_le new (old + 127) ≡ a → nat_le old (new + 127) ≡ b → old ≤ 4096 → new ≤ 4096 → IsChange (cond (a && b) (Short (pos new -ℤ pos old)) (Long (pos new -ℤ pos old)))
fits_by old new true true up down low high =
    let above = leb-true new (old + 127) up in
    let below = leb-true old (new + 127) down in
    grind (arith, ints)
fits_by old new true false up down low high = grind (arith, ints)
fits_by old new false b up down low high = grind (arith, ints)

pub change_fits : (old new : ℕ) → old ≤ 4096 → new ≤ 4096 → IsChange (change_between old new)
change_fits old new low high = fits_by old new (nat_le new (old + 127)) (nat_le old (new + 127)) refl refl low high

-- ---- pieces

encoded_piece : (before : List ℕ) (old : ℕ) (path : List ℕ) → old ≤ 4096 → IsPath path → IsPiece before old path (common_prefix before path) (encode_path before old path)
encoded_piece before old path low h =
    let new : ℕ = common_prefix before path in
    record {
      change = change_between old new;
      fits = change_fits old new low (omega (arith, common_fits before path, h.fits));
      leads = change_leads old new;
      common = omega arith;
      bytes = refl;
    }

encoded_after : (paths : List (List ℕ)) (before : List ℕ) (old : ℕ) → old ≤ 4096 → All IsPath paths → SpellsAfter before old paths (encode_after before old paths)
encoded_after [] before old low all = refl
encoded_after (path ∷ paths) before old low all =
    let h = All-head IsPath path paths all in
    let new : ℕ = common_prefix before path in
    (new, encode_path before old path, encode_after path new paths, refl, encoded_piece before old path low h, encoded_after paths path new (omega (arith, common_fits before path, h.fits)) (All-tail IsPath path paths all))

pub encoded_spells : (paths : List (List ℕ)) → All IsPath paths → Spells02 paths (encode02 paths)
encoded_spells paths all = record { rest = encode_after [] 0 paths; begins = refl; pieces = encoded_after paths [] 0 (omega arith) all }

-- ---- one path more

encode_after-push : (paths : List (List ℕ)) (w : WriterState) (path : List ℕ) → encode_after w.path w.shared (paths ++ path ∷ []) ≡ encode_after w.path w.shared paths ++ piece (after_all w paths) path
encode_after-push [] w path = append-nil (piece w path)
encode_after-push (next ∷ paths) w path =
    ap (λ (r : List ℕ). piece w next ++ r) (encode_after-push paths (after_put w next) path)
    ∙ sym (append_assoc (piece w next) (encode_after next (common_prefix w.path next) paths) (piece (after_all (after_put w next) paths) path))

pub encode02-push : (paths : List (List ℕ)) (path : List ℕ) → encode02 (paths ++ path ∷ []) ≡ encode02 paths ++ piece (after_all nothing_put paths) path
encode02-push paths path =
    ap (λ (r : List ℕ). magic ++ r) (encode_after-push paths nothing_put path)
    ∙ sym (append_assoc magic (encode_after [] 0 paths) (piece (after_all nothing_put paths) path))

pub after_all-push : (paths : List (List ℕ)) (w : WriterState) (path : List ℕ) → after_all w (paths ++ path ∷ []) ≡ after_put (after_all w paths) path
after_all-push [] w path = refl
after_all-push (next ∷ paths) w path = after_all-push paths (after_put w next) path
