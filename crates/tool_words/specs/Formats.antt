-- The formats that `convert` reads and writes, by their names.
use Rattle.std.specs.Prelude.{Option, Some, None, codes, if◌then◌else◌}
use Rattle.std.specs.Str.{bytes_eq}
use Rattle.clap.specs.Words.{Text}
use Rattle.tool_words.specs.declared.format.Format.{Format}
use Rattle.tool_words.specs.declared.format.Format.TheVariants.{Mlocate, Locate02, Bigram, List, List0}

-- the format of a name
unfoldable pub format_word : Text → Option Format
format_word word =
    if bytes_eq word (codes "mlocate") then Some Mlocate
    else (if bytes_eq word (codes "locate02") then Some Locate02
    else (if bytes_eq word (codes "bigram") then Some Bigram
    else (if bytes_eq word (codes "list") then Some List
    else (if bytes_eq word (codes "list0") then Some List0 else None))))
