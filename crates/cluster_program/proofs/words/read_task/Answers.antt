use Rattle.std.proofs.Common.{◌≡◌, ℕ, List, Ok, None, Some, true, ◌∙◌, if◌then◌else◌, subst, sym, map, string_bytes}
use Rattle.command_words.specs.Commands.{words_read}
use Rattle.command_words.specs.Limits.{IsWithinLimits}
use Rattle.command_words.specs.declared.command.Command.{Command}
use Rattle.cluster_program.specs.Course.{is_built, refusal_of, words_refusal}
use Rattle.cluster_program.specs.Tasks.{IsTaskOf, Asks}
use Rattle.run_reports.specs.declared.status.Status.TheVariants as status
use Rattle.run_reports.specs.declared.status.Unbuilt.TheVariants as part
use Rattle.cluster_program.specs.declared.words.Task.{Task}
use Rattle.cluster_program.specs.declared.words.Task.TheVariants as task
use Rattle.cluster_program.proofs.words.read_task.Goals as goal

-- a command that is built is refused by nothing
not_refused : (size : ℕ) (words : List (List ℕ)) (c : Command) → words_read size words ≡ Ok c → is_built c ≡ true → words_refusal size words ≡ None
not_refused size words c read built =
    (λ i. refusal_of (read i)) ∙ (λ i. if built i then None else Some (status.NotBuilt part.Words))

-- the words ask for the task that their command is
asked_for : (size : ℕ) (words : List (List ℕ)) (c : Command) (t : Task) → words_read size words ≡ Ok c → IsWithinLimits c → is_built c ≡ true → IsTaskOf c t → Asks size words t
asked_for size words c (task.Make make) read limits built told =
    (record { read = read ∙ (λ i. Ok (told i)); built = not_refused size words c read built }, subst IsWithinLimits told limits)
asked_for size words c task.Show read limits built told =
    record { read = read ∙ (λ i. Ok (told i)); built = not_refused size words c read built }
asked_for size words c task.Replay read limits built told =
    record { read = read ∙ (λ i. Ok (told i)); built = not_refused size words c read built }
asked_for size words c (task.Run time) read limits built told =
    (record { run = told.0; read = read ∙ (λ i. Ok (told.1 i)); built = not_refused size words c read built }, told.2)

pub returns-in-Some-clause-task : goal.returns-in-Some-clause-task
returns-in-Some-clause-task c =
    asked_for c.args.block_size (map string_bytes c.args.words.now) c.in-Ok.command c.in-Some.task (sym c.read_words.ensures.read ∙ c.in-Ok.is) c.in-Ok.ensures.limits c.in-Some.ensures.0 c.in-Some.ensures.1
