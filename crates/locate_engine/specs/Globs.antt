-- Which paths the patterns of a query want, and in how many steps that is told.
use Rattle.std.specs.Prelude.{ℕ, ◌+◌, ◌*◌, Bool, true, false, ◌&&◌, nat_eq, List, [], ◌∷◌, length, if◌then◌else◌, All, Any, sum_by, MatchBool}
use Rattle.std.specs.List.{list_any, list_all}
use Rattle.path_order.specs.Path.{base_of}
use Rattle.glob_match.specs.Item.{Item, Star, OneOf}
use Rattle.glob_match.specs.Pattern.{Wanted, Plain, Listed, InGlob}
use Rattle.locate_engine.specs.declared.query.Query.{Query}
use Rattle.locate_engine.specs.Sought.{Sought}
use Rattle.locate_engine.specs.Wanted.{occurs}

-- the text that the patterns are asked of: what follows the last slash of the path, or the whole path
abbrev pub judged : Bool → List ℕ → List ℕ
judged base path = if base then base_of path else path

-- A query wants a path where every pattern matches, or where one does.
abbrev pub Wants : Query → List ℕ → Type 0
Wants q path =
    let Matches : Wanted → Type 0 = λ glob. InGlob glob (judged q.base path) in
    MatchBool q.all (All Matches q.globs) (Any Matches q.globs)

-- ---- the same, told by a test

-- a text, then what follows its first byte, and so on down to no byte
abbrev pub tails : List ℕ → List (List ℕ)
tails [] = [] ∷ []
tails (byte ∷ text) = (byte ∷ text) ∷ tails text

-- whether the items match the whole text
abbrev pub match_whole : List Item → List ℕ → Bool
match_whole [] [] = true
match_whole [] (byte ∷ text) = false
match_whole (Star ∷ items) text = list_any (match_whole items) (tails text)
match_whole (OneOf bytes ∷ items) [] = false
match_whole (OneOf bytes ∷ items) (byte ∷ text) = list_any (nat_eq byte) bytes && match_whole items text

-- whether the text is one that a pattern stands for
abbrev pub in_glob : Wanted → List ℕ → Bool
in_glob (Plain bytes) text = occurs bytes text
in_glob (Listed items) text = match_whole items text

-- whether every pattern matches, or one
abbrev pub wanted_by : List Wanted → Bool → List ℕ → Bool
wanted_by globs all text = if all then list_all (λ glob. in_glob glob text) globs else list_any (λ glob. in_glob glob text) globs

abbrev pub wanted : Query → List ℕ → Bool
wanted q path = wanted_by q.globs q.all (judged q.base path)

-- ---- steps

-- the most steps that one pattern takes on a text
abbrev pub steps_of : List ℕ → Wanted → ℕ
steps_of text (Plain bytes) = 0
steps_of text (Listed items) = 2 * (length items + 1) * (length text + 1)

-- the most steps that all patterns of a query take on a path
abbrev pub steps_on : Query → List ℕ → ℕ
steps_on q path = sum_by (steps_of (judged q.base path)) q.globs

-- ---- what is sought

-- what a query's patterns want, and the steps that this takes
abbrev pub sought_of : Query → Sought
sought_of q = record { wanted = wanted q; bound = steps_on q }
