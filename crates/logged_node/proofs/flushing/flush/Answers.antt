use Rattle.std.proofs.Common.{◌≡◌, Ok, true≢false, sym, ap, ◌∙◌, arith}
use Rattle.logged_node.specs.declared.flushing.Began.{Began}
use Rattle.logged_node.specs.declared.flushing.Began.TheVariants as began
use Rattle.logged_node.specs.declared.flushing.Flushed.TheVariants as flushed
use Rattle.logged_node.proofs.MakingRoom.{come_grows, done_exactly, nothing_exactly, room_exactly, still_grows}
use Rattle.logged_node.proofs.Onward.{stops_on}
use Rattle.logged_node.proofs.Ended.{cause_of_all, goes_behind, kept_come, now_in_journal, still_under_way}
use Rattle.logged_node.proofs.flushing.flush.Goals as goal

pub go_on-requires-clause-flushing : goal.go_on-requires-clause-flushing
go_on-requires-clause-flushing g c =
    let at = still_under_way c.args.node.now (g.D.SharedDisk.state c.loop-disk.disk) c.loop-disk.node c.loop-disk.invariant.begun.to (λ none. true≢false (sym c.loop-disk-test.true ∙ c.is_flushing.ensures.1 none)) in
    (c.args.node.now, at.0, at.1)

pub loop-disk-preserved : goal.loop-disk-preserved
loop-disk-preserved g c =
    let so = c.loop-disk.invariant in
    let at = still_under_way c.args.node.now (g.D.SharedDisk.state c.loop-disk.disk) c.loop-disk.node so.begun.to (λ none. true≢false (sym c.loop-disk-test.true ∙ c.is_flushing.ensures.1 none)) in
    record {
      begun = record {
        goes = goes_behind (g.D.SharedDisk.state c.args.disk.now) (g.D.SharedDisk.state c.loop-disk.disk) (g.D.SharedDisk.state c.go_on.new.disk) (g.D.SharedDisk.list c.args.disk.now) (g.D.SharedDisk.list c.loop-disk.disk) (g.D.SharedDisk.list c.go_on.new.disk)
            c.args.node.now c.loop-disk.node c.go_on.new.node so.begun.goes c.in-Ok.ensures.came.goes;
        to = c.in-Ok.ensures.came.to c.args.node.now at.0 at.1;
      };
      homes = c.in-Ok.ensures.homes ∙ so.homes;
      later = λ i. (let before = so.later i in let more = c.in-Ok.ensures.later i in omega (arith, before, more));
    }

pub returns-in-Err-go_on-clause-stopped : goal.returns-in-Err-go_on-clause-stopped
returns-in-Err-go_on-clause-stopped g c =
    let so = c.loop-disk.invariant in
    let at = still_under_way c.args.node.now (g.D.SharedDisk.state c.loop-disk.disk) c.loop-disk.node so.begun.to (λ none. true≢false (sym c.loop-disk-test.true ∙ c.is_flushing.ensures.1 none)) in
    stops_on (g.D.SharedDisk.state c.args.disk.now) (g.D.SharedDisk.state c.loop-disk.disk) (g.D.SharedDisk.state c.go_on.new.disk) (g.D.SharedDisk.list c.args.disk.now) (g.D.SharedDisk.list c.loop-disk.disk) (g.D.SharedDisk.list c.go_on.new.disk)
    c.args.node.now c.loop-disk.node c.go_on.new.node.items.items c.in-Err-go_on.why 1 1 (let same = at.1.sequence in omega (arith, same)) so.begun.goes.steps so.begun.goes.armed (kept_come c.args.node.now (g.D.SharedDisk.state c.loop-disk.disk) c.loop-disk.node so.begun.to) c.in-Err-go_on.ensures.stopped

pub returns-in-Err-go_on-clause-cause : goal.returns-in-Err-go_on-clause-cause
returns-in-Err-go_on-clause-cause g c =
    let so = c.loop-disk.invariant in
    cause_of_all _ _ (g.D.SharedDisk.faults c.args.disk.now) (g.D.SharedDisk.faults c.loop-disk.disk) (g.D.SharedDisk.faults c.go_on.new.disk) c.in-Err-go_on.why so.begun.goes.disk.count (so.later 1) c.in-Err-go_on.ensures.cause

pub returns-clause-done : goal.returns-clause-done
returns-clause-done g c is = record {
  goes = c.loop-disk.invariant.begun.goes;
  flushed = now_in_journal c.args.node.now (g.D.SharedDisk.state c.loop-disk.disk) c.loop-disk.node c.loop-disk.invariant.begun.to (c.is_flushing.ensures.0 c.loop-disk-test.false);
}

pub returns-in-Err-go_on-clause-homes : goal.returns-in-Err-go_on-clause-homes
returns-in-Err-go_on-clause-homes g c = c.in-Err-go_on.ensures.homes ∙ c.loop-disk.invariant.homes

pub returns-clause-homes : goal.returns-clause-homes
returns-clause-homes g c = c.loop-disk.invariant.homes

pub returns-in-Ok-Nothing-clause-can : goal.returns-in-Ok-Nothing-clause-can
returns-in-Ok-Nothing-clause-can g c = done_exactly c.args.node.now.log flushed.Nothing (λ is. absurd (cc)) (λ is. c.in-Ok-Nothing.ensures.nothing (ap (λ (x : Began). Ok x) c.in-Ok-Nothing.field-0-is)) (λ is. absurd (cc))

pub returns-in-Ok-Nothing-clause-nothing : goal.returns-in-Ok-Nothing-clause-nothing
returns-in-Ok-Nothing-clause-nothing g c = nothing_exactly c.args.node.now.log flushed.Nothing (λ is. absurd (cc)) (λ is. c.in-Ok-Nothing.ensures.nothing (ap (λ (x : Began). Ok x) c.in-Ok-Nothing.field-0-is)) (λ is. absurd (cc))

pub returns-in-Ok-Nothing-clause-no_room : goal.returns-in-Ok-Nothing-clause-no_room
returns-in-Ok-Nothing-clause-no_room g c = room_exactly c.args.node.now.log flushed.Nothing (λ is. absurd (cc)) (λ is. c.in-Ok-Nothing.ensures.nothing (ap (λ (x : Began). Ok x) c.in-Ok-Nothing.field-0-is)) (λ is. absurd (cc))

pub returns-in-Ok-NoRoom-clause-can : goal.returns-in-Ok-NoRoom-clause-can
returns-in-Ok-NoRoom-clause-can g c = done_exactly c.args.node.now.log flushed.NoRoom (λ is. absurd (cc)) (λ is. absurd (cc)) (λ is. c.in-Ok-NoRoom.ensures.no_room (ap (λ (x : Began). Ok x) c.in-Ok-NoRoom.field-0-is))

pub returns-in-Ok-NoRoom-clause-nothing : goal.returns-in-Ok-NoRoom-clause-nothing
returns-in-Ok-NoRoom-clause-nothing g c = nothing_exactly c.args.node.now.log flushed.NoRoom (λ is. absurd (cc)) (λ is. absurd (cc)) (λ is. c.in-Ok-NoRoom.ensures.no_room (ap (λ (x : Began). Ok x) c.in-Ok-NoRoom.field-0-is))

pub returns-in-Ok-NoRoom-clause-no_room : goal.returns-in-Ok-NoRoom-clause-no_room
returns-in-Ok-NoRoom-clause-no_room g c = room_exactly c.args.node.now.log flushed.NoRoom (λ is. absurd (cc)) (λ is. absurd (cc)) (λ is. c.in-Ok-NoRoom.ensures.no_room (ap (λ (x : Began). Ok x) c.in-Ok-NoRoom.field-0-is))

pub returns-clause-can : goal.returns-clause-can
returns-clause-can g c = done_exactly c.args.node.now.log flushed.Done (λ is. c.in-Ok-Begun.ensures.can (ap (λ (x : Began). Ok x) c.in-Ok-Begun.field-0-is)) (λ is. absurd (cc)) (λ is. absurd (cc))

pub returns-clause-nothing : goal.returns-clause-nothing
returns-clause-nothing g c = nothing_exactly c.args.node.now.log flushed.Done (λ is. c.in-Ok-Begun.ensures.can (ap (λ (x : Began). Ok x) c.in-Ok-Begun.field-0-is)) (λ is. absurd (cc)) (λ is. absurd (cc))

pub returns-clause-no_room : goal.returns-clause-no_room
returns-clause-no_room g c = room_exactly c.args.node.now.log flushed.Done (λ is. c.in-Ok-Begun.ensures.can (ap (λ (x : Began). Ok x) c.in-Ok-Begun.field-0-is)) (λ is. absurd (cc)) (λ is. absurd (cc))

pub returns-in-Ok-Nothing-clause-grows : goal.returns-in-Ok-Nothing-clause-grows
returns-in-Ok-Nothing-clause-grows g c = still_grows (g.D.SharedDisk.state c.args.disk.now) (g.D.SharedDisk.state c.begin.new.disk) (g.D.SharedDisk.list c.args.disk.now) (g.D.SharedDisk.list c.begin.new.disk) c.args.node.now c.begin.new.node (c.in-Ok-Nothing.ensures.not (λ is. (let e : began.Nothing ≡ began.Begun = sym c.in-Ok-Nothing.field-0-is ∙ is in cc)))

pub returns-in-Ok-NoRoom-clause-grows : goal.returns-in-Ok-NoRoom-clause-grows
returns-in-Ok-NoRoom-clause-grows g c = still_grows (g.D.SharedDisk.state c.args.disk.now) (g.D.SharedDisk.state c.begin.new.disk) (g.D.SharedDisk.list c.args.disk.now) (g.D.SharedDisk.list c.begin.new.disk) c.args.node.now c.begin.new.node (c.in-Ok-NoRoom.ensures.not (λ is. (let e : began.NoRoom ≡ began.Begun = sym c.in-Ok-NoRoom.field-0-is ∙ is in cc)))

pub returns-clause-grows : goal.returns-clause-grows
returns-clause-grows g c = come_grows (g.D.SharedDisk.state c.args.disk.now) (g.D.SharedDisk.state c.loop-disk.disk) (g.D.SharedDisk.list c.args.disk.now) (g.D.SharedDisk.list c.loop-disk.disk) c.args.node.now c.loop-disk.node (record {
  goes = c.loop-disk.invariant.begun.goes;
  flushed = now_in_journal c.args.node.now (g.D.SharedDisk.state c.loop-disk.disk) c.loop-disk.node c.loop-disk.invariant.begun.to (c.is_flushing.ensures.0 c.loop-disk-test.false);
})
