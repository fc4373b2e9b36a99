use Rattle.std.proofs.Common.{true≢false, refl, sym, ◌∙◌, arith}
use Rattle.logged_node.proofs.Ended.{cause_of_all}
use Rattle.logged_node.proofs.Onward.{map_err, stops_few, stops_on}
use Rattle.logged_node.proofs.Carrying.{ok_map}
use Rattle.logged_node.proofs.MakingRoom.{in_sync, none_brought, once_brought, sent_none, sent_twice, twice_brought}
use Rattle.logged_node.proofs.rooms.bring_in.Goals as goal

pub returns-then-not-has_due-clause-brought : goal.returns-then-not-has_due-clause-brought
returns-then-not-has_due-clause-brought g c = none_brought (g.D.SharedDisk.state c.args.disk.now) (g.D.SharedDisk.list c.args.disk.now) c.args.node.now c.requires.resting (λ is. true≢false (sym (c.has_due.ensures.1 is) ∙ c.if-not-has_due.true))

pub returns-then-not-has_due-clause-synced : goal.returns-then-not-has_due-clause-synced
returns-then-not-has_due-clause-synced g c counted =
    in_sync (g.D.SharedDisk.state c.args.disk.now) (g.D.SharedDisk.state c.args.disk.now) (g.D.SharedDisk.list c.args.disk.now) (g.D.SharedDisk.list c.args.disk.now) c.args.node.now c.args.node.now (none_brought (g.D.SharedDisk.state c.args.disk.now) (g.D.SharedDisk.list c.args.disk.now) c.args.node.now c.requires.resting (λ is. true≢false (sym (c.has_due.ensures.1 is) ∙ c.if-not-has_due.true))) counted

pub flush_or_make_room-requires-then-has_due-clause-due : goal.flush_or_make_room-requires-then-has_due-clause-due
flush_or_make_room-requires-then-has_due-clause-due g c = c.has_due-2.ensures.0 c.if-has_due.true

pub returns-then-has_due-clause-brought : goal.returns-then-has_due-clause-brought
returns-then-has_due-clause-brought g c =
    ok_map c.flush_or_make_room-then-has_due.result _ _
    (λ more. twice_brought (g.D.SharedDisk.state c.args.disk.now) (g.D.SharedDisk.state c.flush_or_make_room.new.disk) (g.D.SharedDisk.state c.flush_or_make_room-then-has_due.new.disk) (g.D.SharedDisk.list c.args.disk.now) (g.D.SharedDisk.list c.flush_or_make_room.new.disk) (g.D.SharedDisk.list c.flush_or_make_room-then-has_due.new.disk) c.args.node.now c.flush_or_make_room.new.node c.flush_or_make_room-then-has_due.new.node c.in-Ok.ensures.came (c.has_due-2.ensures.0 c.if-has_due.true) more) c.flush_or_make_room-then-has_due.ensures.came

pub returns-then-has_due-clause-synced : goal.returns-then-has_due-clause-synced
returns-then-has_due-clause-synced g c counted =
    ok_map c.flush_or_make_room-then-has_due.result _ _
    (λ more. in_sync (g.D.SharedDisk.state c.args.disk.now) (g.D.SharedDisk.state c.flush_or_make_room-then-has_due.new.disk) (g.D.SharedDisk.list c.args.disk.now) (g.D.SharedDisk.list c.flush_or_make_room-then-has_due.new.disk) c.args.node.now c.flush_or_make_room-then-has_due.new.node
    (twice_brought (g.D.SharedDisk.state c.args.disk.now) (g.D.SharedDisk.state c.flush_or_make_room.new.disk) (g.D.SharedDisk.state c.flush_or_make_room-then-has_due.new.disk) (g.D.SharedDisk.list c.args.disk.now) (g.D.SharedDisk.list c.flush_or_make_room.new.disk) (g.D.SharedDisk.list c.flush_or_make_room-then-has_due.new.disk) c.args.node.now c.flush_or_make_room.new.node c.flush_or_make_room-then-has_due.new.node c.in-Ok.ensures.came (c.has_due-2.ensures.0 c.if-has_due.true) more) counted) c.flush_or_make_room-then-has_due.ensures.came

pub returns-then-has_due-clause-stopped : goal.returns-then-has_due-clause-stopped
returns-then-has_due-clause-stopped g c =
    map_err c.flush_or_make_room-then-has_due.result _ _
    (λ why stops. stops_on (g.D.SharedDisk.state c.args.disk.now) (g.D.SharedDisk.state c.flush_or_make_room.new.disk) (g.D.SharedDisk.state c.flush_or_make_room-then-has_due.new.disk) (g.D.SharedDisk.list c.args.disk.now) (g.D.SharedDisk.list c.flush_or_make_room.new.disk) (g.D.SharedDisk.list c.flush_or_make_room-then-has_due.new.disk) c.args.node.now c.flush_or_make_room.new.node c.flush_or_make_room-then-has_due.new.node.items.items why 1 2 (let is = c.in-Ok.ensures.came.flushed.sequence in omega (arith, is)) c.in-Ok.ensures.came.goes.steps c.in-Ok.ensures.came.goes.armed c.in-Ok.ensures.came.flushed.kept stops)
    c.flush_or_make_room-then-has_due.ensures.stopped

pub returns-then-has_due-clause-cause : goal.returns-then-has_due-clause-cause
returns-then-has_due-clause-cause g c =
    map_err c.flush_or_make_room-then-has_due.result _ _
    (λ why cause. cause_of_all _ _ (g.D.SharedDisk.faults c.args.disk.now) (g.D.SharedDisk.faults c.flush_or_make_room.new.disk) (g.D.SharedDisk.faults c.flush_or_make_room-then-has_due.new.disk) why c.in-Ok.ensures.came.goes.disk.count
    (c.in-Ok.ensures.later 1) cause) c.flush_or_make_room-then-has_due.ensures.cause

pub returns-else-has_due-clause-brought : goal.returns-else-has_due-clause-brought
returns-else-has_due-clause-brought g c =
    once_brought (g.D.SharedDisk.state c.args.disk.now) (g.D.SharedDisk.state c.flush_or_make_room.new.disk) (g.D.SharedDisk.list c.args.disk.now) (g.D.SharedDisk.list c.flush_or_make_room.new.disk) c.args.node.now c.flush_or_make_room.new.node c.in-Ok.ensures.came (λ is. true≢false (sym (c.has_due-2.ensures.1 is) ∙ c.if-has_due.false))

pub returns-else-has_due-clause-synced : goal.returns-else-has_due-clause-synced
returns-else-has_due-clause-synced g c counted =
    in_sync (g.D.SharedDisk.state c.args.disk.now) (g.D.SharedDisk.state c.flush_or_make_room.new.disk) (g.D.SharedDisk.list c.args.disk.now) (g.D.SharedDisk.list c.flush_or_make_room.new.disk) c.args.node.now c.flush_or_make_room.new.node (once_brought (g.D.SharedDisk.state c.args.disk.now) (g.D.SharedDisk.state c.flush_or_make_room.new.disk) (g.D.SharedDisk.list c.args.disk.now) (g.D.SharedDisk.list c.flush_or_make_room.new.disk) c.args.node.now c.flush_or_make_room.new.node c.in-Ok.ensures.came (λ is. true≢false (sym (c.has_due-2.ensures.1 is) ∙ c.if-has_due.false))) counted

pub returns-then-not-has_due-clause-sent : goal.returns-then-not-has_due-clause-sent
returns-then-not-has_due-clause-sent g c = sent_none c.args.node.now c.args.node.now.items.items refl

pub returns-then-has_due-clause-sent : goal.returns-then-has_due-clause-sent
returns-then-has_due-clause-sent g c =
    sent_twice (g.D.SharedDisk.state c.args.disk.now) (g.D.SharedDisk.state c.flush_or_make_room.new.disk) (g.D.SharedDisk.list c.args.disk.now) (g.D.SharedDisk.list c.flush_or_make_room.new.disk) c.args.node.now c.flush_or_make_room.new.node c.flush_or_make_room-then-has_due.new.node.items.items c.in-Ok.ensures.came (c.has_due-2.ensures.0 c.if-has_due.true) c.in-Ok.ensures.sent c.flush_or_make_room-then-has_due.ensures.sent

pub returns-then-has_due-clause-grows : goal.returns-then-has_due-clause-grows
returns-then-has_due-clause-grows g c =
    ok_map c.flush_or_make_room-then-has_due.result _ _
    (λ more. (let a = c.in-Ok.ensures.came.flushed.sequence in let b = more.flushed.sequence in omega (arith, a, b))) c.flush_or_make_room-then-has_due.ensures.came

pub returns-else-has_due-clause-grows : goal.returns-else-has_due-clause-grows
returns-else-has_due-clause-grows g c = (let a = c.in-Ok.ensures.came.flushed.sequence in omega (arith, a))

pub returns-in-Err-clause-stopped : goal.returns-in-Err-clause-stopped
returns-in-Err-clause-stopped g c = stops_few (g.D.SharedDisk.state c.args.disk.now) (g.D.SharedDisk.state c.flush_or_make_room.new.disk) (g.D.SharedDisk.list c.args.disk.now) (g.D.SharedDisk.list c.flush_or_make_room.new.disk) c.args.node.now c.flush_or_make_room.new.node.items.items c.in-Err.why 1 2 (omega arith) c.in-Err.ensures.stopped
