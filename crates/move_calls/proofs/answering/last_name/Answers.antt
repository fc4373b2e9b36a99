use Rattle.std.proofs.Common.{sym}
use Rattle.move_calls.proofs.Meant.{is_last}
use Rattle.move_calls.proofs.answering.last_name.Goals as goal

pub returns-clause-last : goal.returns-clause-last
returns-clause-last c = is_last c.args.names.now c.in-Some.last.now (sym c.in-Some.ensures.value)
