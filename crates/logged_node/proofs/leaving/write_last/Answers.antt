use Rattle.std.proofs.Common.{ap, ◌∙◌}
use Rattle.log_memory.specs.declared.ending.LastWrite.{LastWrite}
use Rattle.logged_node.proofs.Unmounting.{armed_still, has_last, stops_ending, stops_writing}
use Rattle.logged_node.specs.declared.node.Node.{Node}
use Rattle.logged_node.proofs.Carrying.{armed_behind, ok_both}
use Rattle.logged_node.proofs.Onward.{map_three}
use Rattle.logged_node.proofs.leaving.write_last.Goals as goal

pub returns-in-Err-put_write-clause-stopped : goal.returns-in-Err-put_write-clause-stopped
returns-in-Err-put_write-clause-stopped g c =
    stops_writing (g.D.SharedDisk.state c.args.disk.now) (g.D.SharedDisk.state c.put_write.new.disk) (g.D.SharedDisk.list c.args.disk.now) (g.D.SharedDisk.list c.put_write.new.disk) c.args.node.now c.have_room.new.node c.fill_last-block.new.node c.put_write.new.node c.fill_last-block.result.block c.fill_last-block.result.sequence c.requires.resting c.requires.done c.have_room.ensures.node c.have_room.ensures.items c.fill_last-block.ensures.node c.fill_last-block.ensures.long
    (ap (λ (x : LastWrite). x.block) c.fill_last-block.ensures.at) (ap (λ (x : LastWrite). x.sequence) c.fill_last-block.ensures.at) c.fill_last-block.ensures.last c.fill_last-block.ensures.put
    c.in-Err-put_write.why c.in-Err-put_write.ensures.made c.in-Err-put_write.ensures.gains c.in-Err-put_write.ensures.crashed c.in-Err-put_write.ensures.failed c.in-Err-put_write.ensures.at c.in-Err-put_write.ensures.kept

pub returns-clause-stopped : goal.returns-clause-stopped
returns-clause-stopped g c =
    map_three c.put_barrier.result _ _ _ _
    (λ why of left at. stops_ending (g.D.SharedDisk.state c.args.disk.now) (g.D.SharedDisk.state c.put_write.new.disk) (g.D.SharedDisk.list c.args.disk.now) (g.D.SharedDisk.list c.put_write.new.disk) c.args.node.now c.have_room.new.node c.fill_last-block.new.node c.put_write.new.node c.fill_last-block.result.block c.fill_last-block.result.sequence c.requires.resting c.requires.done c.have_room.ensures.node c.have_room.ensures.items c.fill_last-block.ensures.node c.fill_last-block.ensures.long
    (ap (λ (x : LastWrite). x.block) c.fill_last-block.ensures.at) (ap (λ (x : LastWrite). x.sequence) c.fill_last-block.ensures.at) c.fill_last-block.ensures.last c.fill_last-block.ensures.put
    (g.D.SharedDisk.state c.put_barrier.new.disk) (g.D.SharedDisk.list c.put_barrier.new.disk) c.put_barrier.new.node c.in-Ok-put_write.ensures.made c.in-Ok-put_write.ensures.gains why c.in-Ok-put_write.ensures.awaits c.in-Ok-put_write.ensures.armed of at left.0 left.1 left.2) c.put_barrier.ensures.why c.put_barrier.ensures.failed c.put_barrier.ensures.at

pub returns-clause-armed : goal.returns-clause-armed
returns-clause-armed g c =
    ok_both c.put_barrier.result _ _ _ _
    (λ made node _.
    armed_behind (g.D.SharedDisk.state c.put_write.new.disk) (g.D.SharedDisk.state c.put_barrier.new.disk) (g.D.SharedDisk.list c.put_write.new.disk) (g.D.SharedDisk.list c.put_barrier.new.disk) c.put_write.new.node c.put_barrier.new.node
    (ap (λ (x : Node). x.armed) node) made
    ∙ c.in-Ok-put_write.ensures.armed
    ∙ armed_still (g.D.SharedDisk.state c.args.disk.now) (g.D.SharedDisk.state c.put_write.new.disk) (g.D.SharedDisk.list c.args.disk.now) (g.D.SharedDisk.list c.put_write.new.disk) c.args.node.now c.have_room.new.node c.fill_last-block.new.node c.put_write.new.node c.fill_last-block.result.block c.fill_last-block.result.sequence c.requires.resting c.requires.done c.have_room.ensures.node c.have_room.ensures.items c.fill_last-block.ensures.node c.fill_last-block.ensures.long
    (ap (λ (x : LastWrite). x.block) c.fill_last-block.ensures.at) (ap (λ (x : LastWrite). x.sequence) c.fill_last-block.ensures.at) c.fill_last-block.ensures.last c.fill_last-block.ensures.put) c.put_barrier.ensures.made c.put_barrier.ensures.node c.put_barrier.ensures.node

pub returns-clause-written : goal.returns-clause-written
returns-clause-written g c =
    ok_both c.put_barrier.result _ _ _ _
    (λ made gains _. has_last (g.D.SharedDisk.state c.args.disk.now) (g.D.SharedDisk.state c.put_write.new.disk) (g.D.SharedDisk.list c.args.disk.now) (g.D.SharedDisk.list c.put_write.new.disk) c.args.node.now c.have_room.new.node c.fill_last-block.new.node c.put_write.new.node c.fill_last-block.result.block c.fill_last-block.result.sequence c.requires.resting c.requires.done c.have_room.ensures.node c.have_room.ensures.items c.fill_last-block.ensures.node c.fill_last-block.ensures.long
    (ap (λ (x : LastWrite). x.block) c.fill_last-block.ensures.at) (ap (λ (x : LastWrite). x.sequence) c.fill_last-block.ensures.at) c.fill_last-block.ensures.last c.fill_last-block.ensures.put
    (g.D.SharedDisk.state c.put_barrier.new.disk) (g.D.SharedDisk.list c.put_barrier.new.disk) c.put_barrier.new.node c.in-Ok-put_write.ensures.made c.in-Ok-put_write.ensures.gains made gains) c.put_barrier.ensures.made c.put_barrier.ensures.gains c.put_barrier.ensures.node
