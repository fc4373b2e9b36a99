-- The commands that are built, as the top call tells them apart.
use Rattle.std.specs.Prelude.{ℕ, ◌≡◌, List}
use Rattle.command_words.specs.Limits.{IsMakeWithin}
use Rattle.command_words.specs.declared.command.Command.{Command}
use Rattle.command_words.specs.declared.command.Command.TheVariants as command
use Rattle.command_words.specs.declared.command.RunWords.{RunWords}
use Rattle.cluster_program.specs.Course.{AsksToMake, AsksToShow, AsksToReplay, AsksToRun}
use Rattle.cluster_program.specs.declared.words.Task.{Task}
use Rattle.cluster_program.specs.declared.words.Task.TheVariants as task

-- a command is this task
abbrev pub IsTaskOf : Command → Task → Type 0
IsTaskOf c (task.Make make) = c ≡ command.Make make
IsTaskOf c task.Show = c ≡ command.Show
IsTaskOf c task.Replay = c ≡ command.Replay
IsTaskOf c (task.Run time) = (run : RunWords) × (c ≡ command.Run run) × (time ≡ run.time)

-- the words ask for it, within the limits of its numbers
abbrev pub Asks : ℕ → List (List ℕ) → Task → Type 0
Asks block_size words (task.Make make) = AsksToMake block_size words make × IsMakeWithin make
Asks block_size words task.Show = AsksToShow block_size words
Asks block_size words task.Replay = AsksToReplay block_size words
Asks block_size words (task.Run time) = (asks : AsksToRun block_size words) × (time ≡ asks.run.time)
