use Rattle.std.proofs.Common.{◌≡◌, ℕ, List, refl, subst, map}
use Rattle.std.specs.Prelude.{string_bytes, Some}
use Rattle.cluster_program.specs.Course.{RefusesWords, MakesImage, ShowsImage, AsksToMake, AsksToReplay, AsksToShow, AsksToRun, words_refusal}
use Rattle.command_words.specs.declared.command.MakeWords.{MakeWords}
use Rattle.cluster_program.specs.Tasks.{Asks}
use Rattle.cluster_program.specs.declared.words.Task.{Task}
use Rattle.cluster_program.specs.declared.words.Task.TheVariants as task
use Rattle.cluster_program.proofs.Courses.{course_of}
use Rattle.cluster_program.proofs.top.carry_out.Goals as goal

made : (words : List (List ℕ)) (size : ℕ) (t : Task) (make : MakeWords) → t ≡ task.Make make → Asks size words t → AsksToMake size words make
made words size t make is asks = (subst (Asks size words) is asks).0

pub returns-in-Ok-Make-clause-course : goal.returns-in-Ok-Make-clause-course
returns-in-Ok-Make-clause-course g c =
    let asks = subst (λ (size : ℕ). AsksToMake size (map string_bytes c.args.words.now) c.in-Ok-Make.words) c.block_size.ensures (made (map string_bytes c.args.words.now) c.block_size.result c.in-Ok-Make.field-0 c.in-Ok-Make.words c.in-Ok-Make.field-0-is c.in-Ok-Make.ensures.task) in
    course_of (map string_bytes c.args.words.now) _ _ c.without_script.ensures.listing c.without_script.ensures.script c.requires.none c.without_script.ensures.lines c.without_script.ensures.own
    (MakesImage c.in-Ok-Make.words c.make_image-own.result asks (c.make_image-own.ensures.makes _ _))

pub returns-in-Err-clause-course : goal.returns-in-Err-clause-course
returns-in-Err-clause-course g c =
    let refused = subst (λ (size : ℕ). words_refusal size (map string_bytes c.args.words.now) ≡ Some c.in-Err.own) c.block_size.ensures c.in-Err.ensures.refused in
    course_of (map string_bytes c.args.words.now) _ _ c.without_script-in-Err.ensures.listing c.without_script-in-Err.ensures.script c.requires.none c.without_script-in-Err.ensures.lines c.without_script-in-Err.ensures.own
    (RefusesWords c.in-Err.own refused refl)

shown_as : (words : List (List ℕ)) (size : ℕ) (t : Task) → t ≡ task.Show → Asks size words t → AsksToShow size words
shown_as words size t is asks = subst (Asks size words) is asks

pub returns-in-Ok-Show-clause-course : goal.returns-in-Ok-Show-clause-course
returns-in-Ok-Show-clause-course g c =
    let asks = subst (λ (size : ℕ). AsksToShow size (map string_bytes c.args.words.now)) c.block_size.ensures (shown_as (map string_bytes c.args.words.now) c.block_size.result c.in-Ok-Show.field-0 c.in-Ok-Show.field-0-is c.in-Ok-Show.ensures.task) in
    course_of (map string_bytes c.args.words.now) _ _ c.show.ensures.listing c.show.ensures.script c.requires.none refl refl
    (ShowsImage c.show.result.lines.items c.show.result.own asks (record { left = refl; faults = refl }) (record { state_is = c.show.ensures.reads.same; list_is = c.show.ensures.reads.list }) c.show.ensures.shows)

run_as : (words : List (List ℕ)) (size : ℕ) (t : Task) (time : ℕ) → t ≡ task.Run time → Asks size words t → (asks : AsksToRun size words) × (time ≡ asks.run.time)
run_as words size t time is asks = subst (Asks size words) is asks

pub returns-in-Ok-Run-clause-course : goal.returns-in-Ok-Run-clause-course
returns-in-Ok-Run-clause-course g c =
    let words = map string_bytes c.args.words.now in
    let asks = subst (λ (size : ℕ). (asks : AsksToRun size words) × (c.in-Ok-Run.time ≡ asks.run.time)) c.block_size.ensures (run_as words c.block_size.result c.in-Ok-Run.field-0 c.in-Ok-Run.time c.in-Ok-Run.field-0-is c.in-Ok-Run.ensures.task) in
    c.read_and_run.ensures.course words asks.0 asks.1

replayed_as : (words : List (List ℕ)) (size : ℕ) (t : Task) → t ≡ task.Replay → Asks size words t → AsksToReplay size words
replayed_as words size t is asks = subst (Asks size words) is asks

pub returns-in-Ok-Replay-clause-course : goal.returns-in-Ok-Replay-clause-course
returns-in-Ok-Replay-clause-course g c =
    let words = map string_bytes c.args.words.now in
    c.replay.ensures.course words _ _
    (subst (λ (size : ℕ). AsksToReplay size words) c.block_size.ensures (replayed_as words c.block_size.result c.in-Ok-Replay.field-0 c.in-Ok-Replay.field-0-is c.in-Ok-Replay.ensures.task))
