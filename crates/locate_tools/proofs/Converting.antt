-- Runs of `convert`, from what a conversion does.
use Rattle.std.specs.Prelude.{IfErr, ◌≢◌, option_map}
use Rattle.std.proofs.Common.{◌≡◌, ℕ, Option, Result, Ok, Err, inl, inr, refl, ap, subst, ◌∙◌, arith}
use Rattle.tool_words.specs.Convert.{ConvertAsked}
use Rattle.db_convert.specs.Converts.{AfterFault, Around, Asked, ConvertDoes}
use Rattle.db_convert.specs.declared.format.Format.{Format}
use Rattle.db_convert.specs.declared.fault.ConvertFault.{ConvertFault}
use Rattle.db_convert.specs.declared.fault.ConvertFault.TheVariants as faults
use Rattle.locate_tools.specs.declared.answer.Cause.{Cause}
use Rattle.locate_tools.specs.declared.answer.Cause.TheVariants as causes
use Rattle.locate_tools.specs.ConvertRun.{ConvertRun, cause_of, conversion_of, format_of, same_in}

-- ---- that the output is as it was, in other words

fault_as : (asked : Asked) (a a' : Around) (S S' : Type 0) → (S → S') → (fault : ConvertFault) → AfterFault asked a a' S fault → AfterFault asked a a' S' fault
fault_as asked a a' S S' same fault after = record {
  unstored = after.unstored;
  early = λ early. same (after.early early);
  left = after.left;
  begins = after.begins;
}

err_as : (r : Result ℕ ConvertFault) (P Q : ConvertFault → Type 0) → ((fault : ConvertFault) → P fault → Q fault) → IfErr r P → IfErr r Q
err_as (Ok count) P Q f h = tt
err_as (Err fault) P Q f h = f fault h

same_as : (asked : Asked) (a a' : Around) (S S' : Type 0) (r : Result ℕ ConvertFault) → (S → S') → ConvertDoes asked a a' S r → ConvertDoes asked a a' S' r
same_as asked a a' S S' r same does = record {
  stored = does.stored;
  after_fault = err_as r _ _ (fault_as asked a a' S S' same) does.after_fault;
  caused = does.caused;
  required = does.required;
  bounded = record {
    unready = λ files fault fs refused. same (does.bounded.unready files fault fs refused);
    given_most = does.bounded.given_most;
    read_once = does.bounded.read_once;
    reads_later = does.bounded.reads_later;
    output_later = does.bounded.output_later;
  };
}

-- ---- the conversion that words ask for, by its two formats

abbrev asked_with : Option Format → Format → ConvertAsked → Asked
asked_with from to asked = record { from = from; to = to; input = asked.input; target = asked.output }

asked_same : (asked : ConvertAsked) (from : Option Format) (to : Format) → from ≡ option_map format_of asked.from → to ≡ format_of asked.to → asked_with from to asked ≡ conversion_of asked
asked_same asked from to is_from is_to =
    ap (λ (f : Option Format). asked_with f to asked) is_from ∙ ap (λ (t : Format). asked_with (option_map format_of asked.from) t asked) is_to

pub does_as : (asked : ConvertAsked) (from : Option Format) (to : Format) (a a' : Around) (S S' : Type 0) (r : Result ℕ ConvertFault) → from ≡ option_map format_of asked.from → to ≡ format_of asked.to
    → (S → S') → ConvertDoes (asked_with from to asked) a a' S r → ConvertDoes (conversion_of asked) a a' S' r
does_as asked from to a a' S S' r is_from is_to same does =
    subst (λ (x : Asked). ConvertDoes x a a' S' r) (asked_same asked from to is_from is_to) (same_as (asked_with from to asked) a a' S S' r same does)

-- unless a write failed, the output is as it was
pub unwritten_after : (asked : Asked) (a a' : Around) (S : Type 0) (fault : ConvertFault) → AfterFault asked a a' S fault → cause_of fault ≢ causes.WriteFault → S
unwritten_after asked a a' S fault after other = after.early (λ is. other (ap cause_of is))

-- ---- where there was no memory for the words, nothing was done

does_none : (asked : Asked) (a : Around) → ConvertDoes asked a a (same_in a a) (Err faults.OutOfMemory)
does_none asked a = record {
  stored = tt;
  after_fault = record {
    unstored = refl;
    early = λ early. (refl, refl, refl);
    left = λ files paths fs is. inl refl;
    begins = inl refl;
  };
  caused = record {
    refused = λ so. absurd cc;
    read_fault = λ so. absurd cc;
    write_fault = λ so. absurd cc;
  };
  required = record {
    refuses = λ files fault fs refused. inr (inl refl);
    complete = λ files paths fs is reads writes. refl;
  };
  bounded = record {
    unready = λ files fault fs refused. (refl, refl, refl);
    given_most = omega arith;
    read_once = λ files fs. omega arith;
    reads_later = omega arith;
    output_later = omega arith;
  };
}

pub converts_none : (asked : ConvertAsked) (a : Around) (cause : Cause) → cause ≡ causes.OutOfMemory → ConvertRun asked a a cause
converts_none asked a cause is = record { result = Err faults.OutOfMemory; ended = is; does = does_none (conversion_of asked) a }
