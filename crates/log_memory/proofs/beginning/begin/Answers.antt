use Rattle.log_memory.proofs.Begun.{begins_is, begins_stays, no_content, no_metadata, no_revokes, room_to_list}
use Rattle.log_memory.proofs.beginning.begin.Goals as goal

pub list_blocks-requires-clause-empty : goal.list_blocks-requires-clause-empty
list_blocks-requires-clause-empty c = no_revokes c.log.inside c.log.invariant c.args.log.now c.log.view_is c.requires.none

pub list_blocks-requires-clause-room : goal.list_blocks-requires-clause-room
list_blocks-requires-clause-room c = room_to_list c.log.inside c.log.invariant c.args.log.now c.log.view_is c.requires.none c.swap.new.y c.swap.ensures.y_after

pub list_kind-requires-clause-empty : goal.list_kind-requires-clause-empty
list_kind-requires-clause-empty c = no_content c.log.inside c.log.invariant c.args.log.now c.log.view_is c.requires.none

pub list_kind-requires-2-clause-empty : goal.list_kind-requires-2-clause-empty
list_kind-requires-2-clause-empty c = no_metadata c.log.inside c.log.invariant c.args.log.now c.log.view_is c.requires.none

pub invariant_of-log : goal.invariant_of-log
invariant_of-log c =
    begins_stays c.log.inside c.log.invariant c.args.log.now c.log.view_is c.requires.none c.list_blocks.new.into c.list_kind.new.into c.list_kind-2.new.into c.requires.due c.requires.room
    c.begin.new.self c.swap.new.x c.swap.new.y c.begin.ensures c.swap.ensures.x_after c.swap.ensures.y_after c.list_blocks.ensures.items c.list_blocks.ensures.capacity
    c.list_kind.ensures.inside c.list_kind.ensures.rows c.list_kind.ensures.capacity c.list_kind-2.ensures.inside c.list_kind-2.ensures.rows c.list_kind-2.ensures.capacity

pub returns : goal.returns
returns c =
    begins_is c.log.inside c.log.invariant c.args.log.now c.log.view_is c.requires.none c.list_blocks.new.into c.list_kind.new.into c.list_kind-2.new.into c.requires.due c.requires.room
    c.begin.new.self c.swap.new.x c.swap.new.y c.begin.ensures c.swap.ensures.x_after c.swap.ensures.y_after c.list_blocks.ensures.items c.list_blocks.ensures.capacity
    c.list_kind.ensures.inside c.list_kind.ensures.rows c.list_kind.ensures.capacity c.list_kind-2.ensures.inside c.list_kind-2.ensures.rows c.list_kind-2.ensures.capacity
