-- What is told of a run, by what it was to do.
use Rattle.std.proofs.Common.{◌≡◌, ℕ, Bool, true, false, List, [], ◌++◌, Option, Some, None, refl, sym, ap, ◌∙◌}
use Rattle.std.specs.Prelude.{option_map}
use Rattle.locate_engine.specs.declared.outcome.Outcome.{Outcome}
use Rattle.tool_words.specs.Asked.{Asked, Updatedb, Locate, Convert, Exercise, asked, asked_of}
use Rattle.tool_words.specs.Convert.{ConvertAsked}
use Rattle.tool_words.specs.Exercise.{ExerciseAsked}
use Rattle.tool_words.specs.Locate.{LocateAsked, locate_asked}
use Rattle.tool_words.specs.Updatedb.{UpdatedbAsked, updatedb_asked}
use Rattle.tool_words.specs.Convert.{convert_asked}
use Rattle.tool_words.specs.Exercise.{exercise_asked}
use Rattle.tool_words.specs.Values.{◌>>=◌}
use Rattle.tool_words.specs.Tools.{speaker, tool_of}
use Rattle.tool_words.specs.declared.tool.Tool.{Tool}
use Rattle.tool_words.specs.declared.tool.Tool.TheVariants as tools
use Rattle.locate_tools.specs.declared.answer.Cause.{Cause}
use Rattle.locate_tools.specs.declared.answer.Cause.TheVariants as causes
use Rattle.locate_tools.specs.Calls.{CallMade, request_of, subject_of, tool_called, update_subject}
use Rattle.locate_tools.specs.LocateExact.{databases_of}
use Rattle.locate_tools.specs.Messages.{cause_message}
use Rattle.locate_tools.specs.Told.{messages, messages_of, told}

-- ---- the tool of a request

-- which tool has this work
abbrev tool_for : Asked → Tool
tool_for (Updatedb u) = tools.Updatedb
tool_for (Locate l) = tools.Locate
tool_for (Convert v) = tools.Convert
tool_for (Exercise e) = tools.Exercise

updatedb_only : (o : Option UpdatedbAsked) (a : Asked) → option_map Updatedb o ≡ Some a → tools.Updatedb ≡ tool_for a
updatedb_only None a is = absurd cc
updatedb_only (Some u) a is = let same : Updatedb u ≡ a = cc in ap tool_for same

locate_only : (o : Option LocateAsked) (a : Asked) → option_map Locate o ≡ Some a → tools.Locate ≡ tool_for a
locate_only None a is = absurd cc
locate_only (Some l) a is = let same : Locate l ≡ a = cc in ap tool_for same

convert_only : (o : Option ConvertAsked) (a : Asked) → option_map Convert o ≡ Some a → tools.Convert ≡ tool_for a
convert_only None a is = absurd cc
convert_only (Some v) a is = let same : Convert v ≡ a = cc in ap tool_for same

exercise_only : (o : Option ExerciseAsked) (a : Asked) → option_map Exercise o ≡ Some a → tools.Exercise ≡ tool_for a
exercise_only None a is = absurd cc
exercise_only (Some e) a is = let same : Exercise e ≡ a = cc in ap tool_for same

by_tool : (t : Option Tool) (words : List (List ℕ)) (path : Option (List ℕ)) (a : Asked) → (t >>= (λ tool. asked_of tool words path)) ≡ Some a → t ≡ Some (tool_for a)
by_tool None words path a is = absurd cc
by_tool (Some tools.Updatedb) words path a is = ap (λ (t : Tool). Some t) (updatedb_only (updatedb_asked words) a is)
by_tool (Some tools.Locate) words path a is = ap (λ (t : Tool). Some t) (locate_only (locate_asked words path) a is)
by_tool (Some tools.Convert) words path a is = ap (λ (t : Tool). Some t) (convert_only (convert_asked words) a is)
by_tool (Some tools.Exercise) words path a is = ap (λ (t : Tool). Some t) (exercise_only (exercise_asked words) a is)

tool_asked : (call : CallMade) (a : Asked) → request_of call ≡ Some a → tool_called call ≡ Some (tool_for a)
unfolding request_of asked
tool_asked call a is = by_tool (tool_of call.words) call.words call.locate_path a is

pub tool_of_locate : (call : CallMade) (a : LocateAsked) → request_of call ≡ Some (Locate a) → tool_called call ≡ Some tools.Locate
tool_of_locate call a is = tool_asked call (Locate a) is

pub tool_of_updatedb : (call : CallMade) (a : UpdatedbAsked) → request_of call ≡ Some (Updatedb a) → tool_called call ≡ Some tools.Updatedb
tool_of_updatedb call a is = tool_asked call (Updatedb a) is

pub tool_of_convert : (call : CallMade) (a : ConvertAsked) → request_of call ≡ Some (Convert a) → tool_called call ≡ Some tools.Convert
tool_of_convert call a is = tool_asked call (Convert a) is

pub tool_of_exercise : (call : CallMade) (a : ExerciseAsked) → request_of call ≡ Some (Exercise a) → tool_called call ≡ Some tools.Exercise
tool_of_exercise call a is = tool_asked call (Exercise a) is

-- ---- what is told

no_messages : (quiet : Bool) (names : List (List ℕ)) → messages quiet names [] ≡ []
no_messages true names = refl
no_messages false names = refl

none_of : (r : Option Asked) → messages_of r [] ≡ []
none_of None = refl
none_of (Some (Updatedb u)) = refl
none_of (Some (Locate l)) = no_messages l.quiet (databases_of l)
none_of (Some (Convert v)) = refl
none_of (Some (Exercise e)) = refl

-- where the words are refused
pub told_refused : (call : CallMade) (tool : Option Tool) (cause : Cause) → tool ≡ tool_called call → request_of call ≡ None → cause_message (speaker tool) [] cause ≡ told call [] cause
told_refused call tool cause is none =
    ap (λ (t : Option Tool). cause_message (speaker t) [] cause) is
    ∙ sym (ap (λ (r : Option Asked). messages_of r [] ++ cause_message (speaker (tool_called call)) (subject_of r cause) cause) none)

-- where there is no memory for the words
pub told_memory : (call : CallMade) (tool : Option Tool) → tool ≡ tool_called call → cause_message (speaker tool) [] causes.OutOfMemory ≡ told call [] causes.OutOfMemory
told_memory call tool is =
    ap (λ (t : Option Tool). cause_message (speaker t) [] causes.OutOfMemory) is
    ∙ sym (ap (λ (text : List ℕ). text ++ cause_message (speaker (tool_called call)) (subject_of (request_of call) causes.OutOfMemory) causes.OutOfMemory) (none_of (request_of call)))

pub told_locate : (call : CallMade) (a : LocateAsked) (os : List Outcome) (cause : Cause) → request_of call ≡ Some (Locate a) → messages a.quiet (databases_of a) os ++ cause_message (speaker (Some tools.Locate)) [] cause ≡ told call os cause
told_locate call a os cause is =
    ap (λ (t : Option Tool). messages a.quiet (databases_of a) os ++ cause_message (speaker t) [] cause) (sym (tool_of_locate call a is))
    ∙ sym (ap (λ (r : Option Asked). messages_of r os ++ cause_message (speaker (tool_called call)) (subject_of r cause) cause) is)

pub told_updatedb : (call : CallMade) (a : UpdatedbAsked) (cause : Cause) → request_of call ≡ Some (Updatedb a) → cause_message (speaker (Some tools.Updatedb)) (update_subject a.root cause) cause ≡ told call [] cause
told_updatedb call a cause is =
    ap (λ (t : Option Tool). cause_message (speaker t) (update_subject a.root cause) cause) (sym (tool_of_updatedb call a is))
    ∙ sym (ap (λ (r : Option Asked). messages_of r [] ++ cause_message (speaker (tool_called call)) (subject_of r cause) cause) is)

pub told_convert : (call : CallMade) (a : ConvertAsked) (cause : Cause) → request_of call ≡ Some (Convert a) → cause_message (speaker (Some tools.Convert)) a.input cause ≡ told call [] cause
told_convert call a cause is =
    ap (λ (t : Option Tool). cause_message (speaker t) a.input cause) (sym (tool_of_convert call a is))
    ∙ sym (ap (λ (r : Option Asked). messages_of r [] ++ cause_message (speaker (tool_called call)) (subject_of r cause) cause) is)

pub told_exercise : (call : CallMade) (a : ExerciseAsked) (cause : Cause) → request_of call ≡ Some (Exercise a) → cause_message (speaker (Some tools.Exercise)) [] cause ≡ told call [] cause
told_exercise call a cause is =
    ap (λ (t : Option Tool). cause_message (speaker t) [] cause) (sym (tool_of_exercise call a is))
    ∙ sym (ap (λ (r : Option Asked). messages_of r [] ++ cause_message (speaker (tool_called call)) (subject_of r cause) cause) is)
