-- What a writer remembers between two paths.
use Rattle.std.specs.Prelude.{ℕ, List, [], ◌∷◌}
use Rattle.byte_feed.specs.Prefix.{common_prefix}
use Rattle.bigram_db.specs.Spelled.{encode_path}

-- the table, the path that was written last, and how many bytes it shared with the one before it
pub record WriterState : Type 0 where
  pub table : List ℕ
  pub path : List ℕ
  pub shared : ℕ

-- no path was written
abbrev pub nothing_put : List ℕ → WriterState
nothing_put table = record { table = table; path = []; shared = 0 }

-- the piece that is written for a path
abbrev pub piece : WriterState → List ℕ → List ℕ
piece w path = encode_path w.table w.path w.shared path

abbrev pub after_put : WriterState → List ℕ → WriterState
after_put w path = record { table = w.table; path = path; shared = common_prefix w.path path }

-- after these paths
abbrev pub after_all : WriterState → List (List ℕ) → WriterState
after_all w [] = w
after_all w (path ∷ paths) = after_all (after_put w path) paths
