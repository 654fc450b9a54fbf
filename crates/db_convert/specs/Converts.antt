-- What a conversion does.
use Rattle.std.specs.Prelude.{◌≡◌, ◌≢◌, ℕ, ◌+◌, ◌^◌, ◌≤◌, ◌<◌, ◌⊎◌, Bool, true, false, List, length, take, map, Option, Some, None, Result, Ok, Err, option_map, IfErr, IfOk, IsErrAnd, IsOk, IsOkUnless, IsTrue}
use Rattle.std.specs.FinMap.{get}
use Rattle.loc_outside.specs.Causes.{Rose, raised}
use Rattle.loc_outside.specs.Files.{Files}
use Rattle.loc_outside.specs.Held.{Held, begun, grown, committed}
use Rattle.byte_feed.specs.declared.damage.DbFault.{DbFault}
use Rattle.byte_feed.specs.declared.damage.DbFault.TheVariants as file_faults
use Rattle.byte_feed.specs.Endings.{Ending}
use Rattle.byte_feed.specs.Front as feed
use Rattle.byte_feed.specs.Paths.{PathAt, ToCome, GivesWhole, contents}
use Rattle.db_convert.specs.declared.format.Format.{Format}
use Rattle.db_convert.specs.declared.format.AdmitCause.{AdmitCause}
use Rattle.db_convert.specs.declared.fault.ListFault.{ListFault}
use Rattle.db_convert.specs.declared.fault.ListFault.TheVariants as list_faults
use Rattle.db_convert.specs.declared.fault.ConvertFault.{ConvertFault}
use Rattle.db_convert.specs.declared.fault.ConvertFault.TheVariants.{Missing, NotADatabase, Damage, ReadFault, TooLarge, NotAdmitted, WriteFault, OutOfMemory}
use Rattle.db_convert.specs.Admission.{first_refused}
use Rattle.db_convert.specs.Conversion.{grammar_of, encode, as_read}
use Rattle.db_convert.specs.Reading.{contents_in}

-- a fault of a file as a conversion answers it
abbrev pub fault_of_file : DbFault → ConvertFault
fault_of_file file_faults.NotADatabase = NotADatabase
fault_of_file (file_faults.Damage damage) = Damage damage
fault_of_file file_faults.ReadFault = ReadFault
fault_of_file file_faults.TooLarge = TooLarge

-- a fault of the reading of a list as a conversion answers it
abbrev pub fault_of_list : ListFault → ConvertFault
fault_of_list (list_faults.File fault) = fault_of_file fault
fault_of_list list_faults.OutOfMemory = OutOfMemory

-- The input is refused: it is missing, or doesn't end whole, or one of its paths has no form in the target.
abbrev pub is_refusal : ConvertFault → Bool
is_refusal Missing = true
is_refusal NotADatabase = true
is_refusal (Damage damage) = true
is_refusal ReadFault = false
is_refusal TooLarge = true
is_refusal (NotAdmitted index cause) = true
is_refusal WriteFault = false
is_refusal OutOfMemory = false

-- It may come while the input is read.
abbrev pub is_of_reading : ConvertFault → Bool
is_of_reading Missing = true
is_of_reading NotADatabase = true
is_of_reading (Damage damage) = true
is_of_reading ReadFault = true
is_of_reading TooLarge = true
is_of_reading (NotAdmitted index cause) = false
is_of_reading WriteFault = false
is_of_reading OutOfMemory = true

-- these paths, where the file ends whole
abbrev pub whole_or_fault : List (List ℕ) → Ending → Result (List (List ℕ)) ConvertFault
whole_or_fault paths (Ok whole) = Ok paths
whole_or_fault paths (Err fault) = Err (fault_of_file fault)

-- the paths of a file that gives so much, where it ends whole; else why it does not
abbrev pub read_whole : ToCome → Result (List (List ℕ)) ConvertFault
read_whole given = whole_or_fault (map (λ (p : PathAt). p.text) given.paths) given.ending

-- the same of the file that is there under a name, if there is one
abbrev pub read_found : Option Format → Option (List ℕ) → Result (List (List ℕ)) ConvertFault
read_found from None = Err Missing
read_found from (Some file) = read_whole (contents_in from file)

abbrev pub none_or_fault : List (List ℕ) → Option (ℕ × AdmitCause) → Result (List (List ℕ)) ConvertFault
none_or_fault paths None = Ok paths
none_or_fault paths (Some refused) = Err (NotAdmitted refused.0 refused.1)

-- these paths, where the format can hold all; else which it can't hold, and why
abbrev pub admitted_to : Format → List (List ℕ) → Result (List (List ℕ)) ConvertFault
admitted_to to paths = none_or_fault paths (first_refused to paths)

-- the same of paths that were read, if they were
abbrev pub then_admitted : Format → Result (List (List ℕ)) ConvertFault → Result (List (List ℕ)) ConvertFault
then_admitted to (Ok paths) = admitted_to to paths
then_admitted to (Err fault) = Err fault

-- What is converted: the paths of the input, read in this format, or in the one that its first bytes tell; or why there is
-- nothing to convert.
abbrev pub paths_in : Files → List ℕ → Option Format → Format → Result (List (List ℕ)) ConvertFault
paths_in files input from to = then_admitted to (read_found from (get files input))

-- this text is stored under a name, and no name is begun; the other files are the same
abbrev pub with_file : List ℕ → List ℕ → Held → Held
with_file name text held = committed (grown text (begun name held))

-- the name is begun, and a first part of the text is pending; the stored files are the same
abbrev pub PendsPart : List ℕ → List ℕ → Option Held → Option Held → Type 0
PendsPart name text old new = (n : ℕ) × (n ≤ length text) × (new ≡ option_map (λ held. grown (take n text) (begun name held)) old)

-- the stored files, where they are known
abbrev pub stored_in : Option Held → Option Files
stored_in held = option_map (λ h. h.stored) held

-- What a conversion sees of the outside: the reader and the output.
pub record Around : Type 0 where
  pub files : Option Files
  pub given : ℕ
  pub reads_failed : ℕ
  pub held : Option Held
  pub begins : ℕ
  pub output_failed : ℕ

-- how many bytes a file has, if it is there
abbrev pub size_of : Option (List ℕ) → ℕ
size_of None = 0
size_of (Some file) = length file

-- what is asked for: the format of the input, where it is named, and that of the target, and the names of both
pub record Asked : Type 0 where
  pub from : Option Format
  pub to : Format
  pub input : List ℕ
  pub target : List ℕ

-- what holds of the paths that are converted, where the files are known and there are such paths
abbrev pub WhereTold : Asked → Around → (List (List ℕ) → Type 0) → Type 0
WhereTold asked a holds = (files : Files) (paths : List (List ℕ)) → a.files ≡ Some files → paths_in files asked.input asked.from asked.to ≡ Ok paths → holds paths

-- what holds of the fault, where the files are known and the input is refused with it
abbrev pub WhereRefused : Asked → Around → (ConvertFault → Type 0) → Type 0
WhereRefused asked a holds = (files : Files) (fault : ConvertFault) → a.files ≡ Some files → paths_in files asked.input asked.from asked.to ≡ Err fault → holds fault

-- there are paths to convert, where the files are known
abbrev pub IsAccepted : Asked → Around → Type 0
IsAccepted asked a = (files : Files) → a.files ≡ Some files → IsOk (paths_in files asked.input asked.from asked.to)

-- After Ok: the stored files are those at entry, with the text of all paths of the input under the name of the target; no
-- other name was begun; the paths were counted. Where the text is below the limit, what `as_read` names is read back from it.
pub record Stored (asked : Asked) (count : ℕ) (a a' : Around) : Type 0 where
  pub accepted : IsAccepted asked a
  pub stored : WhereTold asked a (λ paths. a'.held ≡ option_map (with_file asked.target (encode asked.to paths)) a.held)
  pub counted : WhereTold asked a (λ paths. count ≡ length paths)
  pub read_back : WhereTold asked a (λ paths. length (encode asked.to paths) < feed.limit → GivesWhole (contents (grammar_of asked.to) (encode asked.to paths)) (as_read asked.to paths))
  pub begun_once : a'.begins ≡ raised a.begins 1

-- After a fault the stored files are as they were. Only with a fault of writing was anything done to the output: then it holds
-- what it held, or a first part of the text is pending under the target's name, and one name was begun at most. `same` says
-- that the output is unchanged.
pub record AfterFault (asked : Asked) (a a' : Around) (same : Type 0) (fault : ConvertFault) : Type 0 where
  pub unstored : stored_in a'.held ≡ stored_in a.held
  pub early : fault ≢ WriteFault → same
  pub left : WhereTold asked a (λ paths. (a'.held ≡ a.held) ⊎ PendsPart asked.target (encode asked.to paths) a.held a'.held)
  pub begins : (a'.begins ≡ a.begins) ⊎ (a'.begins ≡ raised a.begins 1)

-- Each fault comes only so: a refusal where the input is refused so; a fault of reading or writing where such a call failed, and
-- that of writing only where the input was accepted. For lack of memory nothing is said.
pub record Caused (asked : Asked) (a a' : Around) (fault : ConvertFault) : Type 0 where
  pub refused : IsTrue (is_refusal fault) → (files : Files) → a.files ≡ Some files → paths_in files asked.input asked.from asked.to ≡ Err fault
  pub read_fault : fault ≡ ReadFault → Rose a.reads_failed a'.reads_failed
  pub write_fault : fault ≡ WriteFault → Rose a.output_failed a'.output_failed × IsAccepted asked a

-- Which results are required: the refusal where the input is refused, unless a read failed or memory ran out; Ok where it is
-- accepted and no call failed, unless memory ran out.
pub record Required (asked : Asked) (a a' : Around) (result : Result ℕ ConvertFault) : Type 0 where
  pub refuses : WhereRefused asked a (λ fault. IsErrAnd result (λ e. (e ≡ fault) ⊎ ((e ≡ OutOfMemory) ⊎ (e ≡ ReadFault))))
  pub complete : WhereTold asked a (λ paths. (Rose a.reads_failed a'.reads_failed → ⊥) → (Rose a.output_failed a'.output_failed → ⊥) → IsOkUnless result OutOfMemory)

-- What holds on every answer: that nothing was done to the output where the input is refused, that no more was read than the
-- input once, and that no count of faults fell.
pub record Bounded (asked : Asked) (a a' : Around) (same : Type 0) : Type 0 where
  pub unready : WhereRefused asked a (λ fault. same)
  pub given_most : a'.given ≤ a.given + 2 ^ 40
  pub read_once : (files : Files) → a.files ≡ Some files → a'.given ≤ a.given + size_of (get files asked.input)
  pub reads_later : a.reads_failed ≤ a'.reads_failed
  pub output_later : a.output_failed ≤ a'.output_failed

-- What a conversion does that gives this answer: what it has stored or a fault has left, when each answer comes, and what
-- holds of all.
pub record ConvertDoes (asked : Asked) (a a' : Around) (same : Type 0) (result : Result ℕ ConvertFault) : Type 0 where
  pub stored : IfOk result (λ count. Stored asked count a a')
  pub after_fault : IfErr result (λ fault. AfterFault asked a a' same fault)
  pub caused : IfErr result (λ fault. Caused asked a a' fault)
  pub required : Required asked a a' result
  pub bounded : Bounded asked a a' same
