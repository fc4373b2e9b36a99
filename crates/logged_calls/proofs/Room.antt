-- On an image that stands for a tree the log takes what a call of a script changes.
use Rattle.std.proofs.Common.{inr}
use Rattle.logged_answers.specs.Logging.{AnswersCanBeAdded, AnswersHaveRoom}
use Rattle.logged_calls.specs.Laws.{CallsAreLoggable, CallsHaveRoom}

pub calls_are_loggable : AnswersCanBeAdded → CallsAreLoggable
calls_are_loggable law v s d clients time p call at end = let takes = law v s d clients time p call end.reply end.change at end.done in end.not (record { can = takes.can; some = takes.some end.changes })

pub calls_have_room : AnswersHaveRoom → CallsHaveRoom
calls_have_room law v s d clients time p call at groups script frames end =
    end.crowded.crowded (law v s d clients time p call end.reply end.change at groups script end.done end.crowded.rest frames (inr end.crowded.empty))
