-- What is written for a list of paths in each format, and what is read back.
use Rattle.std.specs.Prelude.{◌≡◌, ℕ, ◌<◌, List, length, Option, Some, None, All}
use Rattle.byte_feed.specs.Front as feed
use Rattle.byte_feed.specs.Paths.{IsPath}
use Rattle.mlocate_db.specs.Items.{mlocate}
use Rattle.locate02_db.specs.Items.{locate02}
use Rattle.locate02_db.specs.Spelled.{encode02}
use Rattle.bigram_db.specs.Items.{bigram}
use Rattle.bigram_db.specs.Chosen.{encode_bigram}
use Rattle.path_list.specs.Marks.{list, list0}
use Rattle.path_list.specs.Spelled.{encode_list}
use Rattle.any_db.specs.declared.format.DatabaseFormat.{DatabaseFormat}
use Rattle.any_db.specs.declared.format.DatabaseFormat.TheVariants as databases
use Rattle.db_convert.specs.declared.format.Format.{Format}
use Rattle.db_convert.specs.declared.format.Format.TheVariants as formats
use Rattle.db_convert.specs.Admission.{first_refused}
use Rattle.db_convert.specs.Blocks.{encode_mlocate, by_directory}

-- which items a format has, and how they are read and spelled
abbrev pub grammar_of : Format → feed.Format
grammar_of formats.Mlocate = mlocate
grammar_of formats.Locate02 = locate02
grammar_of formats.Bigram = bigram
grammar_of formats.List = list
grammar_of formats.List0 = list0

-- what is written for admitted paths
abbrev pub encode : Format → List (List ℕ) → List ℕ
encode formats.Mlocate paths = encode_mlocate paths
encode formats.Locate02 paths = encode02 paths
encode formats.Bigram paths = encode_bigram paths
encode formats.List paths = encode_list 10 paths
encode formats.List0 paths = encode_list 0 paths

-- What is read back of admitted paths: the same paths; from mlocate's database each once, by their directories in path
-- order, and then by their names.
abbrev pub as_read : Format → List (List ℕ) → List (List ℕ)
as_read formats.Mlocate paths = by_directory paths
as_read to paths = paths

-- These paths can be written: each is one that a reader gives, all are admitted, and the text is below the limit.
pub record CanWrite (to : Format) (paths : List (List ℕ)) : Type 0 where
  pub readable : All IsPath paths
  pub admitted : first_refused to paths ≡ None
  pub below : length (encode to paths) < feed.limit

-- the databases among the formats, which are known from their bytes
abbrev pub database_format : Format → Option DatabaseFormat
database_format formats.Mlocate = Some databases.Mlocate
database_format formats.Locate02 = Some databases.Locate02
database_format formats.Bigram = Some databases.Bigram
database_format to = None
