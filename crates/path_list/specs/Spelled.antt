-- Which files spell a list of paths, and the one of them that is written.
use Rattle.std.specs.Prelude.{◌≡◌, ℕ, List, ◌⊎◌}
use Rattle.std.specs.List.{flat_map}
use Rattle.byte_feed.specs.declared.damage.DamageCause.TheVariants.{LongPath, EmptyPath, ZeroChar}
use Rattle.byte_feed.specs.declared.damage.DbFault.{DbFault}
use Rattle.byte_feed.specs.declared.damage.DbFault.TheVariants as faults
use Rattle.path_list.specs.Items.{marked}

-- what is written: each path and its mark
abbrev pub encode_list : ℕ → List (List ℕ) → List ℕ
encode_list mark paths = flat_map (marked mark) paths

-- what is written for these paths, or that without its last mark
abbrev pub SpellsList : ℕ → List (List ℕ) → List ℕ → Type 0
SpellsList mark paths file = (file ≡ encode_list mark paths) ⊎ (marked mark file ≡ encode_list mark paths)

-- how a list may end that does not end whole
abbrev pub EndsList : DbFault → Type 0
EndsList (faults.Damage d) = (d.cause ≡ EmptyPath) ⊎ (d.cause ≡ LongPath) ⊎ (d.cause ≡ ZeroChar)
EndsList faults.TooLarge = Unit {0}
EndsList fault = ⊥
