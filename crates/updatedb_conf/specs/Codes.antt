-- How settings are stored.
use Rattle.std.specs.Prelude.{ℕ, Bool, List, refl}
use Rattle.std.specs.Coded.{Coded, code_by, coded×, coded_ℕ, coded_bool, coded_list}
use Rattle.std.specs.FinSet.{code}
use Rattle.updatedb_conf.specs.Words.{WordSet}
use Rattle.updatedb_conf.specs.Settings.{Settings}

abbrev pub set_code : Coded WordSet
set_code = code (coded_list coded_ℕ)

abbrev pub settings_code : Coded Settings
settings_code =
    code_by (Bool × (WordSet × (WordSet × (WordSet × ℕ)))) (coded× coded_bool (coded× set_code (coded× set_code (coded× set_code coded_ℕ)))) (λ s. (s.bind, (s.fs, (s.names, (s.paths, s.margin))))) (λ p. record { bind = p.0; fs = p.1.0; names = p.1.1.0; paths = p.1.1.1.0; margin = p.1.1.1.1 }) (λ _. refl)
