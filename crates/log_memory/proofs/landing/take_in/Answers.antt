use Rattle.log_memory.proofs.Resting.{rested_room}
use Rattle.log_memory.proofs.landing.take_in.Goals as goal

pub land_all-requires : goal.land_all-requires
land_all-requires c = rested_room c.args.tables.now c.rest_all.new.tables c.args.left.now.revoked.now.at c.rest_all.ensures.same c.rest_all.ensures.rests c.requires.room
