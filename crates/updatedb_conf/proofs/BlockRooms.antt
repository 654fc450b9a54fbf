-- The length of a configuration block.
use Rattle.std.proofs.Common.{◌≡◌, ℕ, ◌+◌, ◌^◌, ◌<◌, ◌≤◌, Bool, true, false, cond, List, [], ◌∷◌, ◌++◌, length, refl, ap, sym, ◌∙◌, arith, length-append, codes, decimal, nat_eq}
use Rattle.std.specs.List.{flat_map}
use Rattle.std.proofs.lemmas.Fmt.{length-decimal-le}
use Rattle.updatedb_conf.specs.Block.{zero_ended, variable, flag_text, margin_variable, block}
use Rattle.updatedb_conf.specs.Settings.{Settings, settings_room}
use Rattle.updatedb_conf.specs.Words.{WordSet, members, room_of}

length-ended : (list : List (List ℕ)) → length (flat_map zero_ended list) ≡ room_of list
length-ended [] = refl
length-ended (word ∷ list) = omega (arith, length-append (zero_ended word) (flat_map zero_ended list), length-append word (0 ∷ []), length-ended list)

length-variable : (name : List ℕ) (values : List (List ℕ)) → length (variable name values) ≡ length name + room_of values + 2
length-variable name values =
    omega (arith, length-append (zero_ended name) (flat_map zero_ended values ++ 0 ∷ []), length-append name (0 ∷ []), length-append (flat_map zero_ended values) (0 ∷ []), length-ended values)

length-flag_text : (flag : Bool) → length (flag_text flag) ≡ 1
length-flag_text true = refl
length-flag_text false = refl

length-margin_variable : (margin : ℕ) → margin < 2 ^ 16 → length (margin_variable margin) ≤ 21
length-margin_variable margin small =
    let digits = length-decimal-le 5 margin (omega arith) (omega arith) (omega arith) in
    elim (nat_eq margin 3) as (λ b. length (cond b [] (variable (codes "recent_margin") (decimal margin ∷ []))) ≤ 21) [
      | true ↦ omega arith
      | false ↦ omega (arith, length-variable (codes "recent_margin") (decimal margin ∷ []))
    ]

-- 75 bytes besides the words, each with one more
pub length_block : (settings : Settings) → settings.margin < 2 ^ 16 → length (block settings) ≤ 75 + settings_room settings
unfolding block
length_block settings small =
    let mounts = variable (codes "prune_bind_mounts") (flag_text settings.bind ∷ []) in
    let types = variable (codes "prunefs") (members settings.fs) in
    let names = variable (codes "prunenames") (members settings.names) in
    let paths = variable (codes "prunepaths") (members settings.paths) in
    let margin = margin_variable settings.margin in
    omega (arith, length-append (mounts ++ types ++ names ++ paths) margin, length-append (mounts ++ types ++ names) paths, length-append (mounts ++ types) names, length-append mounts types, length-variable (codes "prune_bind_mounts") (flag_text settings.bind ∷ []), length-flag_text settings.bind, length-variable (codes "prunefs") (members settings.fs), length-variable (codes "prunenames") (members settings.names), length-variable (codes "prunepaths") (members settings.paths), length-margin_variable settings.margin small)

-- a block that was written variable by variable
pub block_made : (s : Settings) (flag b0 b1 b2 b3 b4 b5 : List ℕ) (fs names paths : WordSet) (margin : ℕ) → flag ≡ flag_text s.bind → fs ≡ s.fs → names ≡ s.names → paths ≡ s.paths → margin ≡ s.margin → b0 ≡ [] → b1 ≡ b0 ++ variable (codes "prune_bind_mounts") (flag ∷ []) → b2 ≡ b1 ++ variable (codes "prunefs") (members fs) → b3 ≡ b2 ++ variable (codes "prunenames") (members names) → b4 ≡ b3 ++ variable (codes "prunepaths") (members paths) → b5 ≡ b4 ++ margin_variable margin → b5 ≡ block s
unfolding block
block_made s flag b0 b1 b2 b3 b4 b5 fs names paths margin flag_is fs_is names_is paths_is margin_is e0 e1 e2 e3 e4 e5 =
    let f1 : b1 ≡ variable (codes "prune_bind_mounts") (flag_text s.bind ∷ []) = e1 ∙ (λ i. e0 i ++ variable (codes "prune_bind_mounts") (flag_is i ∷ [])) in
    let f2 = e2 ∙ (λ i. f1 i ++ variable (codes "prunefs") (members (fs_is i))) in
    let f3 = e3 ∙ (λ i. f2 i ++ variable (codes "prunenames") (members (names_is i))) in
    let f4 = e4 ∙ (λ i. f3 i ++ variable (codes "prunepaths") (members (paths_is i))) in
    e5 ∙ (λ i. f4 i ++ margin_variable (margin_is i))
