-- What an update leaves of an output.
use Rattle.std.specs.Prelude.{◌≡◌, ◌≤◌, ◌⊎◌, ℕ, List, [], length, take, Option, None, Some, option_map}
use Rattle.std.specs.FinMap.{insert}
use Rattle.loc_outside.specs.Causes.{raised}
use Rattle.loc_outside.specs.Files.{Files}
use Rattle.loc_outside.specs.Held.{Held, grown}
use Rattle.database_update.specs.declared.fault.UpdateFault.{UpdateFault}
use Rattle.database_update.specs.declared.fault.UpdateFault.TheVariants.{BadConf, BadMount, ReadFault, RootMissing, TreeFault, WriteFault, TooManyNames, TooManyDirectories, OutOfMemory}

-- a file of this name and these bytes is stored, and no name is begun
abbrev pub with_file : List ℕ → List ℕ → Held → Held
with_file name bytes held = record { stored = insert held.stored name bytes; name = None; pending = bytes }

-- this name is begun, and these bytes are pending; the stored files are the same
abbrev pub with_pending : List ℕ → List ℕ → Held → Held
with_pending name bytes held = record { stored = held.stored; name = Some name; pending = bytes }

-- the stored files, and the pending bytes, where they are known
abbrev pub stored_in : Option Held → Option Files
stored_in held = option_map (λ h. h.stored) held

abbrev pub pending_in : Option Held → Option (List ℕ)
pending_in held = option_map (λ h. h.pending) held

-- no byte is pending, where that is known
abbrev pub none_pending : Option Held → Option (List ℕ)
none_pending held = option_map (λ _. []) held

-- the name is begun, and a first part of the text is pending
abbrev pub PendsPart : List ℕ → List ℕ → Option Held → Option Held → Type 0
PendsPart name text old new = (n : ℕ) × (n ≤ length text) × (new ≡ option_map (with_pending name (take n text)) old)

-- the pending bytes have grown by a first part of the text
abbrev pub GrowsPart : List ℕ → Option Held → Option Held → Type 0
GrowsPart text old new = (n : ℕ) × (n ≤ length text) × (new ≡ option_map (grown (take n text)) old)

-- What a fault leaves of the output: a refusal of the settings leaves all as it was; after a fault of the scan the name is
-- begun. A write fault, and running out of memory, may come before and after.
abbrev pub LeavesHeld : UpdateFault → List ℕ → List ℕ → Option Held → Option Held → Type 0
LeavesHeld (BadConf line cause) name text old new = new ≡ old
LeavesHeld (BadMount line cause) name text old new = new ≡ old
LeavesHeld (ReadFault file) name text old new = new ≡ old
LeavesHeld RootMissing name text old new = new ≡ option_map (with_pending name []) old
LeavesHeld TreeFault name text old new = PendsPart name text old new
LeavesHeld WriteFault name text old new = (new ≡ old) ⊎ PendsPart name text old new
LeavesHeld TooManyNames name text old new = PendsPart name text old new
LeavesHeld TooManyDirectories name text old new = PendsPart name text old new
LeavesHeld OutOfMemory name text old new = (new ≡ old) ⊎ PendsPart name text old new

-- How many names a fault finds begun: none more after a refusal of the settings, one more after a fault of the scan. A write
-- fault, and running out of memory, may come before and after.
abbrev pub Begins : UpdateFault → ℕ → ℕ → Type 0
Begins (BadConf line cause) old new = new ≡ old
Begins (BadMount line cause) old new = new ≡ old
Begins (ReadFault file) old new = new ≡ old
Begins RootMissing old new = new ≡ raised old 1
Begins TreeFault old new = new ≡ raised old 1
Begins WriteFault old new = (new ≡ old) ⊎ (new ≡ raised old 1)
Begins TooManyNames old new = new ≡ raised old 1
Begins TooManyDirectories old new = new ≡ raised old 1
Begins OutOfMemory old new = (new ≡ old) ⊎ (new ≡ raised old 1)
