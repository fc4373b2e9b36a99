use Rattle.std.proofs.Common.{take, drop}
use Rattle.disk_turns.specs.Turns.{moment}
use Rattle.journal_replays.proofs.Brought.{crashed_told, stopped_told, told_behind}
use Rattle.journal_replays.proofs.Crashing.{brought_left, stopped_crash}
use Rattle.journal_replays.proofs.Cut.{behind_is, front_is, within}
use Rattle.journal_replays.proofs.bringing.bring.Goals as goal

pub returns-in-Ok-clause-brought : goal.returns-in-Ok-clause-brought
returns-in-Ok-clause-brought g c =
    let (operations, brought, gains) = c.in-Ok.ensures.brought in
    record {
      brings = record {
        written = c.in-Ok.ensures.written;
        operations = operations;
        brought = brought;
        gains = gains;
        none = λ is i. moment ((c.in-Ok.ensures.none is).0 i) ((c.in-Ok.ensures.none is).1 i);
      };
      are = c.put_turns.ensures.put operations brought;
    }

pub put_stopped-requires-clause-within : goal.put_stopped-requires-clause-within
put_stopped-requires-clause-within g c =
    within c.args.node (moment (g.D.SharedDisk.state c.args.disk.now) (g.D.SharedDisk.list c.args.disk.now)) (moment (g.D.SharedDisk.state c.write_in_turns.new.disk) (g.D.SharedDisk.list c.write_in_turns.new.disk))
    c.args.blocks.now c.in-Err.fault c.in-Err.ensures.stopped

pub returns-in-Err-clause-stopped : goal.returns-in-Err-clause-stopped
returns-in-Err-clause-stopped g c =
    let before = moment (g.D.SharedDisk.state c.args.disk.now) (g.D.SharedDisk.list c.args.disk.now) in
    let after = moment (g.D.SharedDisk.state c.write_in_turns.new.disk) (g.D.SharedDisk.list c.write_in_turns.new.disk) in
    let fault = c.in-Err.fault in
    let is = c.in-Err.ensures.stopped in
    stopped_told c.args.node before after c.args.blocks.now (take fault.on_disk c.args.blocks.now) (take fault.in_flight (drop fault.on_disk c.args.blocks.now)) fault c.args.items.now.items c.put_stopped.new.items.items is
    (front_is c.args.node before after c.args.blocks.now fault is) (behind_is c.args.node before after c.args.blocks.now fault is) c.put_stopped.ensures.put

pub returns-in-Err-clause-crashed : goal.returns-in-Err-clause-crashed
returns-in-Err-clause-crashed g c =
    let before = moment (g.D.SharedDisk.state c.args.disk.now) (g.D.SharedDisk.list c.args.disk.now) in
    let after = moment (g.D.SharedDisk.state c.write_in_turns.new.disk) (g.D.SharedDisk.list c.write_in_turns.new.disk) in
    let fault = c.in-Err.fault in
    let is = c.in-Err.ensures.stopped in
    crashed_told c.args.node before after c.args.blocks.now (take fault.on_disk c.args.blocks.now) (take fault.in_flight (drop fault.on_disk c.args.blocks.now)) fault c.args.items.now.items c.put_stopped.new.items.items is
    (front_is c.args.node before after c.args.blocks.now fault is) (behind_is c.args.node before after c.args.blocks.now fault is) c.put_stopped.ensures.put

-- ---- the write at which it is to crash

pub returns-in-Ok-clause-left : goal.returns-in-Ok-clause-left
returns-in-Ok-clause-left g c =
    brought_left c.args.node (moment (g.D.SharedDisk.state c.args.disk.now) (g.D.SharedDisk.list c.args.disk.now)) (moment (g.D.SharedDisk.state c.write_in_turns.new.disk) (g.D.SharedDisk.list c.write_in_turns.new.disk)) c.args.blocks.now
    c.args.items.now.items c.put_turns.new.items.items c.args.armed c.in-Ok.left (returns-in-Ok-clause-brought g c) c.in-Ok.ensures.left c.in-Ok.ensures.before

pub returns-in-Err-clause-by_crash : goal.returns-in-Err-clause-by_crash
returns-in-Err-clause-by_crash g c =
    let before = moment (g.D.SharedDisk.state c.args.disk.now) (g.D.SharedDisk.list c.args.disk.now) in
    let after = moment (g.D.SharedDisk.state c.write_in_turns.new.disk) (g.D.SharedDisk.list c.write_in_turns.new.disk) in
    let fault = c.in-Err.fault in
    let is = c.in-Err.ensures.stopped in
    let told = told_behind c.args.node before after c.args.blocks.now (take fault.on_disk c.args.blocks.now) (take fault.in_flight (drop fault.on_disk c.args.blocks.now)) fault c.args.items.now.items c.put_stopped.new.items.items is
    (front_is c.args.node before after c.args.blocks.now fault is) (behind_is c.args.node before after c.args.blocks.now fault is) c.put_stopped.ensures.put in
    stopped_crash c.args.node before after c.args.blocks.now fault c.args.armed c.args.items.now.items c.put_stopped.new.items.items is told c.in-Err.ensures.crash
