use Rattle.std.proofs.Common.{◌+◌, rules, sym, ap, ◌∙◌, subst, arith}
use Rattle.shared_disk.specs.Disk.{after_write}
use Rattle.disk_turns.specs.Faults.{HasStoppedInAs}
use Rattle.disk_turns.specs.Turns.{moment}
use Rattle.disk_turns.proofs.Crashing.{one_further, stopped_crash}
use Rattle.disk_turns.proofs.Flying.{flies_more, next_is_free, none_falls}
use Rattle.disk_turns.proofs.Gaining.{gains_write}
use Rattle.disk_turns.proofs.Stopping.{stopped_write}
use Rattle.disk_turns.proofs.turns.put_in_flight.Goals as goal

pub write-requires-clause-free : goal.write-requires-clause-free
write-requires-clause-free g c =
    next_is_free c.args.node (g.D.SharedDisk.state c.args.disk.now) (g.D.SharedDisk.state c.loop-place.disk) c.args.blocks.now c.loop-place.place c.index-blocks-place.result _
    c.requires.of_disk.rise c.loop-place-test.true c.index-blocks-place.is c.loop-place.invariant.fly

pub loop-place-preserved : goal.loop-place-preserved
loop-place-preserved g c =
    let now = g.D.SharedDisk.state c.loop-place.disk in
    record {
      fly = flies_more c.args.node (g.D.SharedDisk.state c.args.disk.now) now (g.D.SharedDisk.state c.write.new.self) c.args.blocks.now c.loop-place.place c.index-blocks-place.result _
          c.requires.of_disk.rise c.loop-place-test.true c.index-blocks-place.is c.loop-place.invariant.fly
          (c.in-Ok.ensures.ok.0 ∙ ap (after_write now c.args.node c.index-blocks-place.result.block) c.bytes.ensures);
      gains = gains_write c.args.node (g.D.SharedDisk.list c.args.disk.now) (g.D.SharedDisk.list c.loop-place.disk) (g.D.SharedDisk.list c.write.new.self) c.args.blocks.now c.loop-place.place c.index-blocks-place.result _
          c.bytes.result.now c.loop-place-test.true c.index-blocks-place.is c.bytes.ensures c.loop-place.invariant.gains c.in-Ok.ensures.ok.1;
      before = one_further c.args.armed c.loop-place.place c.loop-place.invariant.before (c.is_at_crash.ensures.before (search rules));
      later = λ i. let before = c.loop-place.invariant.later i in
          let more = none_falls c.args.node _ _ _ c.in-Ok.ensures.cause i in
          omega (arith, before, more);
    }

pub returns-in-Err-clause-stopped : goal.returns-in-Err-clause-stopped
returns-in-Err-clause-stopped g c =
    let d = g.D.SharedDisk.state c.args.disk.now in
    let next = g.D.SharedDisk.state c.write.new.self in
    let list = g.D.SharedDisk.list c.args.disk.now in
    let list_now = g.D.SharedDisk.list c.write.new.self in
    subst (HasStoppedInAs c.args.node (moment d list) (moment next list_now) c.args.blocks.now) (sym c.failed.ensures)
    (stopped_write c.args.node d (g.D.SharedDisk.state c.loop-place.disk) next list (g.D.SharedDisk.list c.loop-place.disk) list_now c.args.blocks.now c.loop-place.place c.index-blocks-place.result _ c.bytes.result.now _
    c.requires.of_disk.rise c.loop-place-test.true c.index-blocks-place.is c.bytes.ensures c.loop-place.invariant.fly c.loop-place.invariant.gains c.in-Err.ensures.err)

pub returns-then-is_at_crash-clause-stopped : goal.returns-then-is_at_crash-clause-stopped
returns-then-is_at_crash-clause-stopped g c =
    let d = g.D.SharedDisk.state c.args.disk.now in
    let next = g.D.SharedDisk.state c.write.new.self in
    let list = g.D.SharedDisk.list c.args.disk.now in
    let list_now = g.D.SharedDisk.list c.write.new.self in
    stopped_crash c.args.node d next list list_now c.args.blocks.now (c.loop-place.place + 1) c.crashed.result (omega (arith, c.loop-place-test.true)) c.crashed.ensures.stops c.crashed.ensures.is
    (flies_more c.args.node d (g.D.SharedDisk.state c.loop-place.disk) next c.args.blocks.now c.loop-place.place c.index-blocks-place.result _ c.requires.of_disk.rise c.loop-place-test.true c.index-blocks-place.is c.loop-place.invariant.fly
    (c.in-Ok.ensures.ok.0 ∙ ap (after_write (g.D.SharedDisk.state c.loop-place.disk) c.args.node c.index-blocks-place.result.block) c.bytes.ensures))
    (gains_write c.args.node list (g.D.SharedDisk.list c.loop-place.disk) list_now c.args.blocks.now c.loop-place.place c.index-blocks-place.result _ c.bytes.result.now c.loop-place-test.true c.index-blocks-place.is c.bytes.ensures
    c.loop-place.invariant.gains c.in-Ok.ensures.ok.1)
