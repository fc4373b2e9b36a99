use Rattle.lone_logs.proofs.Writing.{blocks_are_written}
use Rattle.lone_logs.proofs.its_blocks_are_written.Goals as goal

pub returns : goal.returns
returns c = blocks_are_written c.blocks_of_flushes_say_nothing.ensures.fly
