use Rattle.std.proofs.Common.{◌≡◌, sym, ◌∙◌}
use Rattle.logged_node.specs.declared.flushing.Flushed.TheVariants as flushed
use Rattle.logged_node.proofs.Onward.{map_err, stops_on}
use Rattle.logged_node.proofs.MakingRoom.{sent_none, still_armed, still_goes, still_kept, still_no_more, still_sent}
use Rattle.logged_node.proofs.rooms.flush_or_make_room.Goals as goal

pub returns-in-Ok-NoRoom-clause-stopped : goal.returns-in-Ok-NoRoom-clause-stopped
returns-in-Ok-NoRoom-clause-stopped g c =
    let still = c.in-Ok-NoRoom.ensures.not (λ is. (let e : flushed.NoRoom ≡ flushed.Done = sym c.in-Ok-NoRoom.field-0-is ∙ is in cc)) in
    map_err c.make_room.result _ _
    (λ why stops. stops_on (g.D.SharedDisk.state c.args.disk.now) (g.D.SharedDisk.state c.flush.new.disk) (g.D.SharedDisk.state c.make_room.new.disk) (g.D.SharedDisk.list c.args.disk.now) (g.D.SharedDisk.list c.flush.new.disk) (g.D.SharedDisk.list c.make_room.new.disk) c.args.node.now c.flush.new.node c.make_room.new.node.items.items why 1 1 (still_no_more (g.D.SharedDisk.state c.args.disk.now) (g.D.SharedDisk.state c.flush.new.disk) (g.D.SharedDisk.list c.args.disk.now) (g.D.SharedDisk.list c.flush.new.disk) c.args.node.now c.flush.new.node still) (still_goes (g.D.SharedDisk.state c.args.disk.now) (g.D.SharedDisk.state c.flush.new.disk) (g.D.SharedDisk.list c.args.disk.now) (g.D.SharedDisk.list c.flush.new.disk) c.args.node.now c.flush.new.node still) (still_armed (g.D.SharedDisk.state c.args.disk.now) (g.D.SharedDisk.state c.flush.new.disk) (g.D.SharedDisk.list c.args.disk.now) (g.D.SharedDisk.list c.flush.new.disk) c.args.node.now c.flush.new.node still) (still_kept (g.D.SharedDisk.state c.args.disk.now) (g.D.SharedDisk.state c.flush.new.disk) (g.D.SharedDisk.list c.args.disk.now) (g.D.SharedDisk.list c.flush.new.disk) c.args.node.now c.flush.new.node still) stops) c.make_room.ensures.stopped

pub returns-in-Ok-Done-clause-sent : goal.returns-in-Ok-Done-clause-sent
returns-in-Ok-Done-clause-sent g c = sent_none c.args.node.now c.flush.new.node.items.items c.in-Ok-Done.ensures.homes

pub returns-in-Err-clause-sent : goal.returns-in-Err-clause-sent
returns-in-Err-clause-sent g c = sent_none c.args.node.now c.flush.new.node.items.items c.in-Err.ensures.homes

-- there was no room
pub returns-in-Ok-NoRoom-clause-sent : goal.returns-in-Ok-NoRoom-clause-sent
returns-in-Ok-NoRoom-clause-sent g c =
    let still = c.in-Ok-NoRoom.ensures.not (λ is. (let e : flushed.NoRoom ≡ flushed.Done = sym c.in-Ok-NoRoom.field-0-is ∙ is in cc)) in
    record {
      order = still_sent (g.D.SharedDisk.state c.args.disk.now) (g.D.SharedDisk.state c.flush.new.disk) (g.D.SharedDisk.list c.args.disk.now) (g.D.SharedDisk.list c.flush.new.disk) c.args.node.now c.flush.new.node c.make_room.new.node.items.items still c.make_room.ensures.order;
      room = λ has. absurd ((c.in-Ok-NoRoom.ensures.no_room.0 c.in-Ok-NoRoom.field-0-is).1 has.1);
    }
