-- What a conversion does, by where it ended.
use Rattle.std.proofs.Common.{◌≡◌, ℕ, ◌+◌, ◌^◌, ◌≤◌, ◌⊎◌, true, false, All, List, length, Option, Some, None, Result, Ok, Err, inl, inr, refl, sym, ap, subst, ◌∙◌}
use Rattle.std.specs.Prelude.{◌≢◌, IsOk, IsTrue, option_map}
use Rattle.std.specs.FinMap.{get}
use Rattle.loc_outside.specs.Causes.{Rose, raised}
use Rattle.loc_outside.specs.Files.{Files}
use Rattle.byte_feed.specs.Paths.{IsPath}
use Rattle.db_convert.specs.declared.format.Format.{Format}
use Rattle.db_convert.specs.declared.format.AdmitCause.{AdmitCause}
use Rattle.db_convert.specs.declared.fault.ConvertFault.{ConvertFault}
use Rattle.db_convert.specs.declared.fault.ConvertFault.TheVariants.{Missing, NotADatabase, Damage, ReadFault, TooLarge, NotAdmitted, WriteFault, OutOfMemory}
use Rattle.db_convert.specs.Admission.{first_refused}
use Rattle.db_convert.specs.Conversion.{encode}
use Rattle.db_convert.specs.Converts.{Around, Asked, ConvertDoes, PendsPart, Required, WhereTold, admitted_to, is_of_reading, is_refusal, none_or_fault, paths_in, read_found, size_of, stored_in, then_admitted, with_file}
use Rattle.db_convert.proofs.ReadBack.{all_back}

abbrev Paths : Type 0
Paths = Result (List (List ℕ)) ConvertFault

-- ---- which fault

not_hidden : (fault : ConvertFault) → IsTrue (is_refusal fault) → (fault ≢ OutOfMemory) × (fault ≢ ReadFault)
not_hidden fault h = (λ e. absurd (off OutOfMemory refl (subst (λ (f : ConvertFault). IsTrue (is_refusal f)) e h)), λ e. absurd (off ReadFault refl (subst (λ (f : ConvertFault). IsTrue (is_refusal f)) e h)))
  where
    off : (f : ConvertFault) → is_refusal f ≡ false → IsTrue (is_refusal f) → ⊥
    off f e t = let both : true ≡ false = sym t ∙ e in cc

no_write : (fault : ConvertFault) → IsTrue (is_of_reading fault) → fault ≢ WriteFault
no_write fault h e = let both : false ≡ true = subst (λ (f : ConvertFault). is_of_reading f ≡ true) e h in absurd cc

-- a format refuses paths with no other fault
only_refused : (paths : List (List ℕ)) (refused : Option (ℕ × AdmitCause)) (fault : ConvertFault) → none_or_fault paths refused ≡ Err fault → (fault ≢ WriteFault) × (fault ≢ ReadFault)
only_refused paths None fault e = absurd cc
only_refused paths (Some refused) fault e =
    let is : NotAdmitted refused.0 refused.1 ≡ fault = cc in
    (λ w. let both : NotAdmitted refused.0 refused.1 ≡ WriteFault = is ∙ w in cc, λ r. let both : NotAdmitted refused.0 refused.1 ≡ ReadFault = is ∙ r in cc)

same_fault : (r : Paths) (f e : ConvertFault) → r ≡ Err f → r ≡ Err e → f ≡ e
same_fault r f e is too = let both : ◌≡◌ {A = Paths} (Err f) (Err e) = sym is ∙ too in cc

not_both : (r : Paths) (paths : List (List ℕ)) (e : ConvertFault) → r ≡ Ok paths → r ≡ Err e → ⊥
not_both r paths e is too = let both : ◌≡◌ {A = Paths} (Ok paths) (Err e) = sym is ∙ too in cc

is_ok : (r : Paths) (paths : List (List ℕ)) → r ≡ Ok paths → IsOk r
is_ok r paths is = subst (λ (q : Paths). IsOk q) (sym is) refl

-- ---- before the output was begun

-- It ended with a refusal of the input, with a failed read or out of memory, and the output is as it was.
pub record EndsEarly (asked : Asked) (a a' : Around) (fault : ConvertFault) : Type 0 where
  pub refused : fault ≢ OutOfMemory → fault ≢ ReadFault → (files : Files) → a.files ≡ Some files → paths_in files asked.input asked.from asked.to ≡ Err fault
  pub read_fault : fault ≡ ReadFault → Rose a.reads_failed a'.reads_failed
  pub written : fault ≢ WriteFault
  pub given : a'.given ≤ a.given + 2 ^ 40
  pub once : (files : Files) → a.files ≡ Some files → a'.given ≤ a.given + size_of (get files asked.input)
  pub later : a.reads_failed ≤ a'.reads_failed
  pub output_later : a.output_failed ≤ a'.output_failed
  pub held : a'.held ≡ a.held
  pub begins : a'.begins ≡ a.begins

required_by : (asked : Asked) (a a' : Around) (fault : ConvertFault) → EndsEarly asked a a' fault → ((fault ≢ OutOfMemory → fault ≢ ReadFault → ⊥) ⊎ ((fault ≢ OutOfMemory) × (fault ≢ ReadFault))) → Required asked a a' (Err fault)
required_by asked a a' fault h other = record { refuses = refuses other; complete = complete }
  where
    refuses : (fault ≢ OutOfMemory → fault ≢ ReadFault → ⊥) ⊎ ((fault ≢ OutOfMemory) × (fault ≢ ReadFault)) → (files : Files) (e : ConvertFault) → a.files ≡ Some files → paths_in files asked.input asked.from asked.to ≡ Err e → (fault ≡ e) ⊎ ((fault ≡ OutOfMemory) ⊎ (fault ≡ ReadFault))
    refuses (inr p) files e told is = inl (same_fault _ fault e (h.refused p.0 p.1 files told) is)
    refuses (inl p) files e told is = hidden fault p
      where
        hidden : (f : ConvertFault) → (f ≢ OutOfMemory → f ≢ ReadFault → ⊥) → (f ≡ e) ⊎ ((f ≡ OutOfMemory) ⊎ (f ≡ ReadFault))
        hidden OutOfMemory never = inr (inl refl)
        hidden ReadFault never = inr (inr refl)
        hidden Missing never = absurd (never (λ x. cc) (λ x. cc))
        hidden NotADatabase never = absurd (never (λ x. cc) (λ x. cc))
        hidden (Damage damage) never = absurd (never (λ x. cc) (λ x. cc))
        hidden TooLarge never = absurd (never (λ x. cc) (λ x. cc))
        hidden (NotAdmitted index cause) never = absurd (never (λ x. cc) (λ x. cc))
        hidden WriteFault never = absurd (never (λ x. cc) (λ x. cc))

    complete : (files : Files) (paths : List (List ℕ)) → a.files ≡ Some files → paths_in files asked.input asked.from asked.to ≡ Ok paths → (Rose a.reads_failed a'.reads_failed → ⊥) → (Rose a.output_failed a'.output_failed → ⊥) → fault ≡ OutOfMemory
    complete files paths told is reads outputs = whole other
      where
        whole : (fault ≢ OutOfMemory → fault ≢ ReadFault → ⊥) ⊎ ((fault ≢ OutOfMemory) × (fault ≢ ReadFault)) → fault ≡ OutOfMemory
        whole (inr p) = absurd (not_both _ paths fault is (h.refused p.0 p.1 files told))
        whole (inl p) = named fault p h.read_fault
          where
            named : (f : ConvertFault) → (f ≢ OutOfMemory → f ≢ ReadFault → ⊥) → (f ≡ ReadFault → Rose a.reads_failed a'.reads_failed) → f ≡ OutOfMemory
            named OutOfMemory never rose = refl
            named ReadFault never rose = absurd (reads (rose refl))
            named Missing never rose = absurd (never (λ x. cc) (λ x. cc))
            named NotADatabase never rose = absurd (never (λ x. cc) (λ x. cc))
            named (Damage damage) never rose = absurd (never (λ x. cc) (λ x. cc))
            named TooLarge never rose = absurd (never (λ x. cc) (λ x. cc))
            named (NotAdmitted index cause) never rose = absurd (never (λ x. cc) (λ x. cc))
            named WriteFault never rose = absurd (never (λ x. cc) (λ x. cc))

which : (fault : ConvertFault) → (fault ≢ OutOfMemory → fault ≢ ReadFault → ⊥) ⊎ ((fault ≢ OutOfMemory) × (fault ≢ ReadFault))
which OutOfMemory = inl (λ memory read. memory refl)
which ReadFault = inl (λ memory read. read refl)
which Missing = inr (λ x. cc, λ x. cc)
which NotADatabase = inr (λ x. cc, λ x. cc)
which (Damage damage) = inr (λ x. cc, λ x. cc)
which TooLarge = inr (λ x. cc, λ x. cc)
which (NotAdmitted index cause) = inr (λ x. cc, λ x. cc)
which WriteFault = inr (λ x. cc, λ x. cc)

pub ended_early : (asked : Asked) (a a' : Around) (same : Type 0) (fault : ConvertFault) → EndsEarly asked a a' fault → same → ConvertDoes asked a a' same (Err fault)
ended_early asked a a' same fault h s = record {
  stored = tt;
  after_fault = record { unstored = ap stored_in h.held; early = λ not. s; left = λ files paths told is. inl h.held; begins = inl h.begins };
  caused = record {
    refused = λ so files told. let p = not_hidden fault so in h.refused p.0 p.1 files told;
    read_fault = h.read_fault;
    write_fault = λ e. absurd (h.written e);
  };
  required = required_by asked a a' fault h (which fault);
  bounded = record { unready = λ files e told is. s; given_most = h.given; read_once = h.once; reads_later = h.later; output_later = h.output_later };
}

-- the input was not read
pub not_read : (asked : Asked) (a a' : Around) (fault : ConvertFault) → IsTrue (is_of_reading fault)
    → (fault ≢ OutOfMemory → fault ≢ ReadFault → (files : Files) → a.files ≡ Some files → read_found asked.from (get files asked.input) ≡ Err fault)
    → (fault ≡ ReadFault → Rose a.reads_failed a'.reads_failed) → a'.given ≤ a.given + 2 ^ 40 → ((files : Files) → a.files ≡ Some files → a'.given ≤ a.given + size_of (get files asked.input)) → a.reads_failed ≤ a'.reads_failed → a.output_failed ≤ a'.output_failed → a'.held ≡ a.held → a'.begins ≡ a.begins → EndsEarly asked a a' fault
not_read asked a a' fault reading refused read_fault given once later output_later held begins = record {
  refused = λ memory read files told. ap (then_admitted asked.to) (refused memory read files told);
  read_fault = read_fault;
  written = no_write fault reading;
  given = given;
  once = once;
  later = later;
  output_later = output_later;
  held = held;
  begins = begins;
}

-- ---- once the input was read

-- The input was read whole, and these are its paths.
pub record WasRead (asked : Asked) (a a' : Around) (paths : List (List ℕ)) : Type 0 where
  pub read : (files : Files) → a.files ≡ Some files → read_found asked.from (get files asked.input) ≡ Ok paths
  pub readable : All IsPath paths
  pub given : a'.given ≤ a.given + 2 ^ 40
  pub once : (files : Files) → a.files ≡ Some files → a'.given ≤ a.given + size_of (get files asked.input)
  pub later : a.reads_failed ≤ a'.reads_failed

pub not_admitted : (asked : Asked) (a a' : Around) (paths : List (List ℕ)) (fault : ConvertFault) → WasRead asked a a' paths → (fault ≡ OutOfMemory) ⊎ (admitted_to asked.to paths ≡ Err fault)
    → a.output_failed ≤ a'.output_failed → a'.held ≡ a.held → a'.begins ≡ a.begins → EndsEarly asked a a' fault
not_admitted asked a a' paths fault w why output_later held begins = record {
  refused = λ memory read files told. ap (then_admitted asked.to) (w.read files told) ∙ refused why memory;
  read_fault = λ e. absurd (no_read why e);
  written = no_written why;
  given = w.given;
  once = w.once;
  later = w.later;
  output_later = output_later;
  held = held;
  begins = begins;
}
  where
    refused : (fault ≡ OutOfMemory) ⊎ (admitted_to asked.to paths ≡ Err fault) → fault ≢ OutOfMemory → admitted_to asked.to paths ≡ Err fault
    refused (inl e) memory = absurd (memory e)
    refused (inr e) memory = e

    no_read : (fault ≡ OutOfMemory) ⊎ (admitted_to asked.to paths ≡ Err fault) → fault ≢ ReadFault
    no_read (inl e) r = let both : OutOfMemory ≡ ReadFault = sym e ∙ r in cc
    no_read (inr e) r = (only_refused paths (first_refused asked.to paths) fault e).1 r

    no_written : (fault ≡ OutOfMemory) ⊎ (admitted_to asked.to paths ≡ Err fault) → fault ≢ WriteFault
    no_written (inl e) r = let both : OutOfMemory ≡ WriteFault = sym e ∙ r in cc
    no_written (inr e) r = (only_refused paths (first_refused asked.to paths) fault e).0 r

admitted_is : (to : Format) (paths : List (List ℕ)) → first_refused to paths ≡ None → admitted_to to paths ≡ Ok paths
admitted_is to paths e = ap (none_or_fault paths) e

-- these are the paths that are converted
converted : (asked : Asked) (a a' : Around) (paths : List (List ℕ)) → WasRead asked a a' paths → first_refused asked.to paths ≡ None → (files : Files) → a.files ≡ Some files → paths_in files asked.input asked.from asked.to ≡ Ok paths
converted asked a a' paths w none files told = ap (then_admitted asked.to) (w.read files told) ∙ admitted_is asked.to paths none

same_paths : (r : Paths) (paths others : List (List ℕ)) → r ≡ Ok paths → r ≡ Ok others → paths ≡ others
same_paths r paths others is too = let both : ◌≡◌ {A = Paths} (Ok paths) (Ok others) = sym is ∙ too in cc

-- what holds of them holds where the files are known
where_told : (asked : Asked) (a a' : Around) (paths : List (List ℕ)) (P : List (List ℕ) → Type 0) → WasRead asked a a' paths → first_refused asked.to paths ≡ None → P paths → WhereTold asked a P
where_told asked a a' paths P w none h files others told is = subst P (same_paths _ paths others (converted asked a a' paths w none files told) is) h

pub not_written : (asked : Asked) (a a' : Around) (same : Type 0) (paths : List (List ℕ)) → WasRead asked a a' paths → first_refused asked.to paths ≡ None → Rose a.output_failed a'.output_failed → a.output_failed ≤ a'.output_failed
    → stored_in a'.held ≡ stored_in a.held → (a'.held ≡ a.held) ⊎ PendsPart asked.target (encode asked.to paths) a.held a'.held → (a'.begins ≡ a.begins) ⊎ (a'.begins ≡ raised a.begins 1)
    → ConvertDoes asked a a' same (Err WriteFault)
not_written asked a a' same paths w none rose later unstored left begins = record {
  stored = tt;
  after_fault = record {
    unstored = unstored;
    early = λ not. absurd (not refl);
    left = where_told asked a a' paths (λ ps. (a'.held ≡ a.held) ⊎ PendsPart asked.target (encode asked.to ps) a.held a'.held) w none left;
    begins = begins;
  };
  caused = record {
    refused = λ so files told. absurd cc;
    read_fault = λ e. absurd cc;
    write_fault = λ e. (rose, λ files told. is_ok _ paths (converted asked a a' paths w none files told));
  };
  required = record {
    refuses = λ files e told is. absurd (not_both _ paths e (converted asked a a' paths w none files told) is);
    complete = λ files ps told is reads outputs. absurd (outputs rose);
  };
  bounded = record { unready = λ files e told is. absurd (not_both _ paths e (converted asked a a' paths w none files told) is); given_most = w.given; read_once = w.once; reads_later = w.later; output_later = later };
}

pub was_stored : (asked : Asked) (a a' : Around) (same : Type 0) (paths : List (List ℕ)) (count : ℕ) → WasRead asked a a' paths → first_refused asked.to paths ≡ None → a.output_failed ≤ a'.output_failed
    → a'.held ≡ option_map (with_file asked.target (encode asked.to paths)) a.held → a'.begins ≡ raised a.begins 1 → count ≡ length paths → ConvertDoes asked a a' same (Ok count)
was_stored asked a a' same paths count w none later stored begins counted = record {
  stored = record {
    accepted = λ files told. is_ok _ paths (converted asked a a' paths w none files told);
    stored = where_told asked a a' paths (λ ps. a'.held ≡ option_map (with_file asked.target (encode asked.to ps)) a.held) w none stored;
    counted = where_told asked a a' paths (λ ps. count ≡ length ps) w none counted;
    read_back = where_told asked a a' paths _ w none (λ below. all_back asked.to paths w.readable none below);
    begun_once = begins;
  };
  after_fault = tt;
  caused = tt;
  required = record {
    refuses = λ files e told is. absurd (not_both _ paths e (converted asked a a' paths w none files told) is);
    complete = λ files ps told is reads outputs. tt;
  };
  bounded = record { unready = λ files e told is. absurd (not_both _ paths e (converted asked a a' paths w none files told) is); given_most = w.given; read_once = w.once; reads_later = w.later; output_later = later };
}
