use Rattle.logged_calls.proofs.Testing.{kind_tells}
use Rattle.logged_calls.proofs.loggable.is_block_of_log.Goals as goal

pub returns-in-Ok : goal.returns-in-Ok
returns-in-Ok c = kind_tells c.args.written.now c.in-Ok.header c.bytes.result.now c.read.result c.if-written.false c.bytes.ensures c.read.ensures c.in-Ok.is
