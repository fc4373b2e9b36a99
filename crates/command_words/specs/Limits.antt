-- What a command asks for is within limits.
use Rattle.std.specs.Prelude.{ℕ, ◌≤◌, ⊤, IfSome}
use Rattle.profile_limits.specs.Limits.{least_frames, least_journal_blocks, most_frames, most_groups, most_journal_blocks, most_journals}
use Rattle.command_words.specs.declared.command.MakeWords.{MakeWords}
use Rattle.command_words.specs.declared.command.RunWords.{RunWords}
use Rattle.command_words.specs.declared.command.LoadWords.{LoadWords}
use Rattle.command_words.specs.declared.command.Command.{Command}
use Rattle.command_words.specs.declared.command.Command.TheVariants.{Make, Run, Replay, Show, Load}
use Rattle.command_words.specs.Commands.{largest, steps_of, frames_of}

abbrev pub IsBetween : ℕ → ℕ → ℕ → Type 0
IsBetween low high n = (low ≤ n) × (n ≤ high)

pub record IsMakeWithin (make : MakeWords) : Type 0 where
  pub journals : IsBetween 1 most_journals make.journals
  pub journal_blocks : IsBetween least_journal_blocks most_journal_blocks make.journal_blocks
  pub groups : IsBetween 1 most_groups make.groups
  pub time : IsBetween 0 largest make.time

pub record IsRunWithin (run : RunWords) : Type 0 where
  pub schedule : IfSome run.schedule (IsBetween 0 largest)
  pub steps : IsBetween 1 10000000 (steps_of run.steps)
  pub time : IsBetween 0 largest run.time
  pub frames : IsBetween least_frames most_frames (frames_of run.frames)

pub record IsLoadWithin (load : LoadWords) : Type 0 where
  pub number : IsBetween 0 largest load.number
  pub steps : IsBetween 1 10000000 (steps_of load.steps)

abbrev pub IsWithinLimits : Command → Type 0
IsWithinLimits (Make make) = IsMakeWithin make
IsWithinLimits (Run run) = IsRunWithin run
IsWithinLimits Replay = ⊤
IsWithinLimits Show = ⊤
IsWithinLimits (Load load) = IsLoadWithin load
