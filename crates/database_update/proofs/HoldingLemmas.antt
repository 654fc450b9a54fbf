-- What an output holds after a name was begun and bytes were taken.
use Rattle.std.proofs.Common.{◌≡◌, ℕ, List, [], length, take, refl, sym, ap, subst, ◌∙◌, inr, IsTrue, Option, Some, None, IfSome, IsSome, arith}
use Rattle.std.proofs.Math.Seq.{take-length}
use Rattle.std.specs.Option.{option_map}
use Rattle.std.specs.Io.KnownBytes.{Appends}
use Rattle.loc_outside.specs.Held.{Held, begun, committed, emptied, grown}
use Rattle.loc_outside.specs.Outside.{AppendsPart}
use Rattle.database_update.specs.declared.fault.UpdateFault.{UpdateFault}
use Rattle.database_update.specs.declared.fault.UpdateFault.TheVariants.{BadConf, BadMount, ReadFault, RootMissing, TreeFault, WriteFault, TooManyNames, TooManyDirectories, OutOfMemory}
use Rattle.database_update.specs.Faults.{is_of_scan}
use Rattle.database_update.specs.Holding.{GrowsPart, LeavesHeld, PendsPart, none_pending, pending_in, stored_in, with_file, with_pending}

-- ---- bytes that are pending

-- an output of which bytes were taken has them pending
pub pending_grows : (old new : Option Held) (bytes : List ℕ) → new ≡ option_map (grown bytes) old → Appends (pending_in old) (pending_in new) bytes
pending_grows None new bytes e = tt
pending_grows (Some held) new bytes e = subst (λ (h : Option Held). Appends (pending_in (Some held)) (pending_in h) bytes) (sym e) refl

-- where a name was begun, no byte is pending
pub pending_begun : (name : List ℕ) (old new : Option Held) → new ≡ option_map (begun name) old → pending_in new ≡ none_pending old
pending_begun name None new e = ap pending_in e
pending_begun name (Some held) new e = ap pending_in e

pub grown_begun : (name bytes : List ℕ) (old : Option Held) → option_map (grown bytes) (option_map (begun name) old) ≡ option_map (with_pending name bytes) old
grown_begun name bytes None = refl
grown_begun name bytes (Some held) = refl

pub stored_after : (name bytes : List ℕ) (old : Option Held) → option_map committed (option_map (grown bytes) (option_map (begun name) old)) ≡ option_map (with_file name bytes) old
stored_after name bytes None = refl
stored_after name bytes (Some held) = refl

-- ---- the name and the stored files

stored_empty : (held : Option Held) → stored_in (option_map emptied held) ≡ stored_in held
stored_empty None = refl
stored_empty (Some held) = refl

stored_begun : (name : List ℕ) (held : Option Held) → stored_in (option_map (begun name) held) ≡ stored_in held
stored_begun name None = refl
stored_begun name (Some held) = refl

-- to begin a name and to take bytes changes no stored file
pub same_stored : (name : List ℕ) (a b c : Option Held) → b ≡ option_map (begun name) a → option_map emptied c ≡ option_map emptied b → stored_in c ≡ stored_in a
same_stored name a b c e k = sym (stored_empty c) ∙ ap stored_in k ∙ stored_empty b ∙ ap stored_in e ∙ stored_begun name a

named_by : (name : List ℕ) (a c : Option Held) → option_map emptied c ≡ option_map emptied (option_map (begun name) a) → IfSome c (λ held. IsSome held.name)
named_by name a None k = tt
named_by name None (Some held) k = absurd cc
named_by name (Some old) (Some held) k =
    subst (λ (o : Option Held). IfSome o (λ h. IsSome h.name)) (sym k) refl

-- a name that was begun stays so while bytes are taken
pub named : (name : List ℕ) (a b c : Option Held) → b ≡ option_map (begun name) a → option_map emptied c ≡ option_map emptied b → IfSome c (λ held. IsSome held.name)
named name a b c e k = named_by name a c (k ∙ ap (option_map emptied) e)

-- ---- after a fault

part_after : (name text : List ℕ) (a b c : Option Held) → b ≡ option_map (begun name) a → GrowsPart text b c → PendsPart name text a c
part_after name text a b c e (n, fits, g) = (n, fits, g ∙ ap (option_map (grown (take n text))) e ∙ grown_begun name (take n text) a)

none_after : (name : List ℕ) (a b c : Option Held) → b ≡ option_map (begun name) a → c ≡ b → c ≡ option_map (with_pending name []) a
none_after name None b c e s = s ∙ e
none_after name (Some held) b c e s = s ∙ e

pub leaves_scan : (fault : UpdateFault) (name text : List ℕ) (a b c : Option Held) → IsTrue (is_of_scan fault) → b ≡ option_map (begun name) a → GrowsPart text b c → (fault ≡ RootMissing → c ≡ b)
    → LeavesHeld fault name text a c
leaves_scan (BadConf line cause) name text a b c scan e part none = absurd cc
leaves_scan (BadMount line cause) name text a b c scan e part none = absurd cc
leaves_scan (ReadFault file) name text a b c scan e part none = absurd cc
leaves_scan RootMissing name text a b c scan e part none = none_after name a b c e (none refl)
leaves_scan TreeFault name text a b c scan e part none = part_after name text a b c e part
leaves_scan WriteFault name text a b c scan e part none = inr (part_after name text a b c e part)
leaves_scan TooManyNames name text a b c scan e part none = part_after name text a b c e part
leaves_scan TooManyDirectories name text a b c scan e part none = part_after name text a b c e part
leaves_scan OutOfMemory name text a b c scan e part none = inr (part_after name text a b c e part)

-- where the whole text was taken, and the commit failed
pub leaves_whole : (fault : UpdateFault) (name text : List ℕ) (a b c d : Option Held) → fault ≡ WriteFault → b ≡ option_map (begun name) a → c ≡ option_map (grown text) b → d ≡ c
    → LeavesHeld fault name text a d
leaves_whole fault name text a b c d w e g s =
    let pends : d ≡ option_map (with_pending name text) a = s ∙ g ∙ ap (option_map (grown text)) e ∙ grown_begun name text a in
    let part : PendsPart name text a d = (length text, omega arith, pends ∙ ap (λ (t : List ℕ). option_map (with_pending name t) a) (sym (take-length text))) in
    subst (λ (f : UpdateFault). LeavesHeld f name text a d) (sym w) (inr part)

-- the whole of a text is a first part of it
pub appends_whole : (a b c : Option (List ℕ)) (text : List ℕ) → Appends a b text → c ≡ b → AppendsPart a c text
appends_whole a b c text grows same =
    (length text, omega arith, subst (λ (o : Option (List ℕ)). Appends a o (take (length text) text)) (sym same) (subst (Appends a b) (sym (take-length text)) grows))
