-- How the state of a tree is stored.
use Rattle.std.specs.Prelude.{ℕ, Bool, true, false, refl, ◌≡◌}
use Rattle.std.specs.Coded.{Coded, code_by, coded×, coded_ℕ, coded_bool, coded_list}
use Rattle.std.specs.FinMap as fin
use Rattle.path_order.specs.declared.kind.Kind.{Kind}
use Rattle.path_order.specs.declared.kind.Kind.TheVariants.{File, Directory}
use Rattle.path_order.specs.NameList.{Listed}
use Rattle.path_order.specs.Stamp.{Moment}
use Rattle.loc_outside.specs.declared.traits.tree.Times.{Times}
use Rattle.loc_outside.specs.Codes.{bytes_code, failures_code}
use Rattle.loc_outside.specs.Memory.{Failures, TreeState}
use Rattle.loc_outside.specs.Trees.{Names, Dir, Dirs}

abbrev pub is_file : Kind → Bool
is_file File = true
is_file Directory = false

abbrev pub kind_of : Bool → Kind
kind_of true = File
kind_of false = Directory

pub same_kind : (k : Kind) → kind_of (is_file k) ≡ k
same_kind File = refl
same_kind Directory = refl

abbrev pub kind_code : Coded Kind
kind_code = code_by Bool coded_bool is_file kind_of same_kind

abbrev pub names_code : Coded Names
names_code = fin.code bytes_code kind_code

abbrev pub moment_code : Coded Moment
moment_code = code_by (ℕ × ℕ) (coded× coded_ℕ coded_ℕ) (λ m. (m.seconds, m.nanos)) (λ p. record { seconds = p.0; nanos = p.1 }) (λ _. refl)

abbrev pub times_code : Coded Times
times_code = code_by (Moment × Moment) (coded× moment_code moment_code) (λ t. (t.modified, t.changed)) (λ p. record { modified = p.0; changed = p.1 }) (λ _. refl)

abbrev pub dir_code : Coded Dir
dir_code =
    code_by (Times × (Bool × Names)) (coded× times_code (coded× coded_bool names_code)) (λ d. (d.times, (d.hidden, d.names))) (λ p. record { times = p.0; hidden = p.1.0; names = p.1.1 }) (λ _. refl)

abbrev pub dirs_code : Coded Dirs
dirs_code = fin.code bytes_code dir_code

abbrev pub listed_code : Coded Listed
listed_code = coded_list (coded× bytes_code kind_code)

abbrev pub tree_state_code : Coded TreeState
tree_state_code =
    code_by (Dirs × (Listed × (Bool × (ℕ × (ℕ × Failures))))) (coded× dirs_code (coded× listed_code (coded× coded_bool (coded× coded_ℕ (coded× coded_ℕ failures_code)))))
    (λ s. (s.dirs, (s.rest, (s.listing, (s.openings, (s.stats, s.failures))))))
    (λ p. record { dirs = p.0; rest = p.1.0; listing = p.1.1.0; openings = p.1.1.1.0; stats = p.1.1.1.1.0; failures = p.1.1.1.1.1 }) (λ _. refl)
