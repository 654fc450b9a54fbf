-- The words of counts.
use Rattle.std.proofs.Common.{◌≡◌, ℕ, ◌≤◌, true, false, ltb, List, [], ◌∷◌, length, get_or, take, drop, Option, Some, Ok, refl, sym, ap, ◌∙◌, arith}
use Rattle.std.specs.Prelude.{ℤ, pos, negsuc, is_some, unwrap_or}
use Rattle.std.specs.Int.{w32}
use Rattle.std.specs.Int.RustNames.{FitsSigned}
use Rattle.std.proofs.lemmas.Bool.{leb-true, ltb-true, le-ltb}
use Rattle.std.proofs.lemmas.Int.{to_z-of_z}
use mir.Val.{to_z, of_z}
use Rattle.byte_feed.specs.declared.damage.DamageCause.TheVariants.{BadWord}
use Rattle.bigram_db.specs.Items.{Word, word_value, is_in_range}
use Rattle.bigram_db.specs.Entries.{WordIs}
use Rattle.bigram_db.proofs.EntryLaws.{done, with_rest, demand_yes}

pub range_fits : (v : ℤ) → is_in_range v ≡ true → FitsSigned w32 v
range_fits (pos n) e = record { sfits = omega (arith, leb-true n 4110 e) }
range_fits (negsuc n) e = record { sfits = omega (arith, ltb-true n 4096 e) }

pub range_same : (v : ℤ) → is_in_range v ≡ true → to_z w32 (of_z w32 v) ≡ v
range_same v e = to_z-of_z w32 v (range_fits v e)

four_first : (bytes : List ℕ) → 4 ≤ length bytes → take 4 bytes ≡ get_or bytes 0 0 ∷ get_or bytes 1 0 ∷ get_or bytes 2 0 ∷ get_or bytes 3 0 ∷ []
four_first [] le = absurd (omega (arith, le))
four_first (a ∷ []) le = absurd (omega (arith, le))
four_first (a ∷ b ∷ []) le = absurd (omega (arith, le))
four_first (a ∷ b ∷ c ∷ []) le = absurd (omega (arith, le))
four_first (a ∷ b ∷ c ∷ d ∷ bytes) le = refl

is_some_at : {A : Type 0} (o : Option A) (x : A) → Some x ≡ o → is_some o ≡ true
is_some_at o x e = ap is_some (sym e)

value_at : (o : Option ℤ) (x : ℤ) → Some x ≡ o → unwrap_or o (pos 0) ≡ x
value_at o x e = ap (λ (p : Option ℤ). unwrap_or p (pos 0)) (sym e)

-- four bytes of this value
pub word_some : (bytes : List ℕ) (v w : ℤ) → 4 ≤ length bytes → Some v ≡ word_value (get_or bytes 0 0 ∷ get_or bytes 1 0 ∷ get_or bytes 2 0 ∷ get_or bytes 3 0 ∷ []) → v ≡ w → WordIs bytes (Ok w)
word_some bytes v w le e same =
    let here : Some v ≡ word_value (take 4 bytes) = e ∙ ap word_value (sym (four_first bytes le)) in
    let fits : ltb (length bytes) 4 ≡ false = le-ltb (length bytes) 4 le in
    (Word (take 4 bytes), drop 4 bytes, rw fits (demand_yes (is_some (word_value (take 4 bytes))) BadWord (done (with_rest (Word (take 4 bytes)) (drop 4 bytes))) (is_some_at (word_value (take 4 bytes)) v here)), value_at (word_value (take 4 bytes)) v here ∙ same)
