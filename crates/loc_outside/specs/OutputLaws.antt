-- What stays of an output while it takes bytes.
use Rattle.std.specs.Prelude.{◌≡◌, ℕ, List, [], ◌++◌, Some}
use Rattle.loc_outside.specs.Held.{Held, emptied, grown}

-- where the stored files and the name are the same, an output is known by its pending bytes
pub keeps_stored : (s t : Held) (bytes : List ℕ) → t.stored ≡ s.stored → t.name ≡ s.name → t.pending ≡ s.pending ++ bytes → Some t ≡ Some (grown bytes s)
keeps_stored s t bytes stored name pending = λ i. Some (record { stored = stored i; name = name i; pending = pending i })

-- where they are the same, so is what is held but for the pending bytes
pub keeps_name : (s t : Held) → t.stored ≡ s.stored → t.name ≡ s.name → Some (emptied t) ≡ Some (emptied s)
keeps_name s t stored name = λ i. Some (record { stored = stored i; name = name i; pending = [] })
