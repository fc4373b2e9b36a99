use Rattle.std.proofs.Common.{sym, subst, map, Result}
use Rattle.std.specs.Prelude.{IfOk}
use Rattle.std.specs.String.{string_bytes}
use Rattle.command_words.specs.declared.command.Usage.{Usage}
use Rattle.command_words.specs.declared.command.Command.{Command}
use Rattle.command_words.specs.Limits.{IsWithinLimits}
use Rattle.command_words.proofs.LimitLaws.{within_limits}
use Rattle.command_words.proofs.read.read_words.Goals as goal

pub returns-clause-limits : goal.returns-clause-limits
returns-clause-limits c =
    subst (λ (r : Result Command Usage). IfOk r IsWithinLimits) (sym c.read_command.ensures) (within_limits c.args.block_size (map string_bytes c.args.words.now))
