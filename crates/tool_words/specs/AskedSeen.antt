-- What words ask for, as contracts see it.
use Rattle.tool_words.specs.Asked.{Asked, Convert, Exercise, Locate, Updatedb}
use Rattle.tool_words.specs.ConvertSeen.{seen as convert_seen}
use Rattle.tool_words.specs.ExerciseSeen.{seen as exercise_seen}
use Rattle.tool_words.specs.LocateSeen.{seen as locate_seen}
use Rattle.tool_words.specs.UpdatedbSeen.{seen as updatedb_seen}
use Rattle.tool_words.specs.declared.request.Request.{Request}
use Rattle.tool_words.specs.declared.request.Request.TheVariants as requests

abbrev pub seen : Request → Asked
seen (requests.Updatedb s) = Updatedb (updatedb_seen s)
seen (requests.Locate s) = Locate (locate_seen s)
seen (requests.Convert s) = Convert (convert_seen s)
seen (requests.Exercise s) = Exercise (exercise_seen s)
