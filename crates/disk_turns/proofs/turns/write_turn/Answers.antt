use Rattle.std.proofs.Common.{refl, sym, subst}
use Rattle.disk_turns.specs.Faults.{HasStoppedInAs}
use Rattle.disk_turns.specs.Turns.{moment}
use Rattle.disk_turns.proofs.Flying.{brought}
use Rattle.disk_turns.proofs.Gaining.{gains_join}
use Rattle.disk_turns.proofs.Stopping.{stopped_barrier}
use Rattle.disk_turns.proofs.turns.write_turn.Goals as goal

pub returns-in-Ok-clause-written : goal.returns-in-Ok-clause-written
returns-in-Ok-clause-written g c = brought c.args.node _ _ _ c.args.blocks.now c.requires.idle c.in_ok-put_in_flight.ensures.flies c.in-Ok.ensures.ok.0

pub returns-in-Err-clause-stopped : goal.returns-in-Err-clause-stopped
returns-in-Err-clause-stopped g c =
    let d = g.D.SharedDisk.state c.args.disk.now in
    let next = g.D.SharedDisk.state c.barrier.new.self in
    let list = g.D.SharedDisk.list c.args.disk.now in
    let list_now = g.D.SharedDisk.list c.barrier.new.self in
    subst (HasStoppedInAs c.args.node (moment d list) (moment next list_now) c.args.blocks.now) (sym c.failed.ensures)
    (stopped_barrier c.args.node d (g.D.SharedDisk.state c.put_in_flight.new.disk) next list (g.D.SharedDisk.list c.put_in_flight.new.disk) list_now c.args.blocks.now _ _ refl
    c.in_ok-put_in_flight.ensures.flies c.in_ok-put_in_flight.ensures.gains c.in-Err.ensures.err)

pub returns-in-Ok-clause-gains : goal.returns-in-Ok-clause-gains
returns-in-Ok-clause-gains g c =
    gains_join (g.D.SharedDisk.list c.args.disk.now) (g.D.SharedDisk.list c.put_in_flight.new.disk) (g.D.SharedDisk.list c.barrier.new.self) _ _ c.in_ok-put_in_flight.ensures.gains c.in-Ok.ensures.ok.1
