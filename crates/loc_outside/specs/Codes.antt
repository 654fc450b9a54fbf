-- How the states are stored.
use Rattle.std.specs.Prelude.{ℕ, List, refl}
use Rattle.std.specs.declared.option.Option.{Option}
use Rattle.std.specs.Coded.{Coded, code_by, coded×, coded_ℕ, coded_list, coded_option}
use Rattle.std.specs.FinMap as map
use Rattle.loc_outside.specs.Files.{Files}
use Rattle.loc_outside.specs.Held.{Held}
use Rattle.loc_outside.specs.Memory.{Failures, FilesState, OutputState}

abbrev pub bytes_code : Coded (List ℕ)
bytes_code = coded_list coded_ℕ

abbrev pub files_code : Coded Files
files_code = map.code bytes_code bytes_code

abbrev pub failures_code : Coded Failures
failures_code =
    code_by (List ℕ × (ℕ × ℕ)) (coded× bytes_code (coded× coded_ℕ coded_ℕ)) (λ f. (f.due, (f.calls, f.faults))) (λ p. record { due = p.0; calls = p.1.0; faults = p.1.1 }) (λ _. refl)

abbrev pub files_state_code : Coded FilesState
files_state_code =
    code_by (Files × (List ℕ × (ℕ × Failures))) (coded× files_code (coded× bytes_code (coded× coded_ℕ failures_code))) (λ s. (s.files, (s.left, (s.given, s.failures)))) (λ p. record { files = p.0; left = p.1.0; given = p.1.1.0; failures = p.1.1.1 }) (λ _. refl)

abbrev pub held_code : Coded Held
held_code =
    code_by (Files × (Option (List ℕ) × List ℕ)) (coded× files_code (coded× (coded_option bytes_code) bytes_code)) (λ h. (h.stored, (h.name, h.pending))) (λ p. record { stored = p.0; name = p.1.0; pending = p.1.1 }) (λ _. refl)

abbrev pub output_state_code : Coded OutputState
output_state_code =
    code_by (Held × (ℕ × Failures)) (coded× held_code (coded× coded_ℕ failures_code)) (λ s. (s.held, (s.begins, s.failures))) (λ p. record { held = p.0; begins = p.1.0; failures = p.1.1 }) (λ _. refl)
