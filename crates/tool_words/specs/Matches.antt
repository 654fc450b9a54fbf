-- What clap makes of the words of a command, under one name each.
use Rattle.std.specs.Prelude.{Bool, true, false, List, [], ◌∷◌, Option, None, nat_lt, is_some, unwrap_or, if◌then◌else◌}
use Rattle.clap.specs.Words.{App, Kinds, Row, Text, all_of, count_of, fault_of, first_of, found_of, matches_of, rows_of}
use Rattle.clap.specs.declared.parser.matches.ArgMatches.{ArgMatches}

-- there is some fault
abbrev pub has_fault : Kinds → Bool
has_fault [] = false
has_fault (kind ∷ kinds) = true

-- clap refuses the words, of which the first is the command's own name
unfoldable pub refuses : App → List Text → Bool
refuses command words = has_fault (fault_of command words)

-- what clap finds in words that it takes
unfoldable pub found : App → List Text → List Row
found command words = matches_of command words

-- what stands in clap's answer
unfoldable pub found_in : ArgMatches → List Row
found_in matches = rows_of (found_of matches)

-- a flag is given, once or more
unfoldable pub is_used : Text → List Row → Bool
is_used id rows = nat_lt 0 (count_of id rows)

-- the value of an option, where it is given
unfoldable pub value_of : Text → List Row → Option Text
value_of id rows = first_of id rows

-- an option is given
abbrev pub is_given : Text → List Row → Bool
is_given id rows = is_some (value_of id rows)

-- the words left for an argument that takes any number
unfoldable pub values_of : Text → List Row → List Text
values_of id rows = unwrap_or (all_of id rows) []

-- what the words ask of a command: nothing where clap refuses them, and else what the tool's own rules make of them
abbrev pub asked_by : {S : Type 0} → App → (List Row → Option S) → List Text → Option S
asked_by command settings words = if refuses command words then None else settings (found command words)
