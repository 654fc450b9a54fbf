-- The tools, by their names.
use Rattle.std.specs.Prelude.{List, Option, Some, None, codes, slice_get, if◌then◌else◌}
use Rattle.std.specs.Str.{bytes_eq}
use Rattle.clap.specs.Words.{Text}
use Rattle.tool_words.specs.Values.{◌>>=◌}
use Rattle.tool_words.specs.declared.tool.Tool.{Tool}
use Rattle.tool_words.specs.declared.tool.Tool.TheVariants.{Updatedb, Locate, Convert, Exercise}

-- a tool's name
abbrev pub name_of : Tool → Text
name_of Updatedb = codes "updatedb"
name_of Locate = codes "locate"
name_of Convert = codes "convert"
name_of Exercise = codes "exercise"

-- the tool of a name
unfoldable pub tool_named : Text → Option Tool
tool_named word =
    if bytes_eq word (codes "updatedb") then Some Updatedb
    else (if bytes_eq word (codes "locate") then Some Locate
    else (if bytes_eq word (codes "convert") then Some Convert
    else (if bytes_eq word (codes "exercise") then Some Exercise else None)))

-- the tool that the first of the words names
abbrev pub tool_of : List Text → Option Tool
tool_of words = slice_get words 0 >>= tool_named

-- the name that messages begin with
abbrev pub speaker : Option Tool → Text
speaker (Some tool) = name_of tool
speaker None = codes "locate_tools"
