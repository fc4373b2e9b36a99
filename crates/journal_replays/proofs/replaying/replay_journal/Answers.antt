use Rattle.std.proofs.Common.{◌≡◌, ◌<◌, List, [], ◌∷◌, get_or, Option, sym, ap, subst, ◌∙◌}
use Rattle.std.specs.Prelude.{IfNone, IfSome}
use Rattle.drafts.specs.declared.change.Written.{Written}
use Rattle.log_layout.specs.declared.log_header.LogHeader.{LogHeader}
use Rattle.trace_text.specs.declared.item.TraceItem.{TraceItem}
use Rattle.trace_text.specs.declared.item.TraceItem.TheVariants as trace
use Rattle.disk_turns.specs.Turns.{moment}
use Rattle.journal_replays.specs.Bringing.{HasBrought, HasCrashedBringing, HasStoppedBringing}
use Rattle.journal_replays.specs.Crashes.{HasCrashed, crash_of}
use Rattle.journal_replays.specs.Faults.{IfCrashed, IfDiskFailed}
use Rattle.journal_replays.specs.Headers.{clean_block}
use Rattle.journal_replays.specs.Replays.{HasFailed}
use Rattle.journal_replays.proofs.Crashing.{crash_stays, no_write}
use Rattle.journal_replays.proofs.Replayed.{crashed_header, crashed_home, failed_header, failed_home, if_crashed, if_failed, of_disk_one, replayed}
use Rattle.journal_replays.proofs.replaying.replay_journal.Goals as goal

pub bring-requires-2-clause-of_disk : goal.bring-requires-2-clause-of_disk
bring-requires-2-clause-of_disk g c =
    let d = g.D.SharedDisk.state c.args.disk.now in
    let block = get_or c.args.blocks.now c.in-Some.header.blkno 0 in
    let last = clean_block d.size block c.args.slot c.args.dinode c.args.time c.in-Some.header in
    let last_is : c.in_ok-clean_block.field-0 ≡ last = c.in_ok-clean_block.ensures.value ∙ ap (λ n. clean_block n block c.args.slot c.args.dinode c.args.time c.in-Some.header) c.block_size.ensures in
    let inside : block < d.count = subst (λ (o : Option LogHeader). IfSome o (λ (h : LogHeader). get_or c.args.blocks.now h.blkno 0 < d.count)) c.in-Some.is c.requires.can.inside in
    of_disk_one d (g.D.SharedDisk.state c.bring.new.disk) c.in_ok-clean_block.field-0 c.in-Ok.ensures.brought.brings.written.size c.in-Ok.ensures.brought.brings.written.count
    (subst (λ (w : Written). w.block < d.count) (sym last_is) inside) (c.in_ok-clean_block.ensures.long ∙ c.block_size.ensures)

pub returns-in-Err-clause-failed : goal.returns-in-Err-clause-failed
returns-in-Err-clause-failed g c =
    let before = moment (g.D.SharedDisk.state c.args.disk.now) (g.D.SharedDisk.list c.args.disk.now) in
    let after = moment (g.D.SharedDisk.state c.bring.new.disk) (g.D.SharedDisk.list c.bring.new.disk) in
    let items = c.args.items.now.items in
    let one = c.bring.new.items.items in
    let stop =
    subst (λ (is : List TraceItem). HasStoppedBringing c.args.node before after c.args.plan.now.home.items is one c.in-Err.fault.block) c.make_room.ensures.items
    (subst (λ (ws : List Written). HasStoppedBringing c.args.node before after ws c.make_room.new.items.items one c.in-Err.fault.block) c.deref.ensures.value c.in-Err.ensures.stopped)
    in
    subst (λ f. IfDiskFailed f (HasFailed c.args.node c.args.slot c.args.dinode c.args.blocks.now c.args.time before after c.args.plan.now items one)) (sym c.stopped.ensures)
    (if_failed c.in-Err.fault _ (failed_home c.args.node c.args.slot c.args.dinode c.args.blocks.now c.args.time before after after c.args.plan.now c.in-Some.header c.in-Some.is items one c.in-Err.fault.block stop))

pub returns-in-Err-bring-clause-failed : goal.returns-in-Err-bring-clause-failed
returns-in-Err-bring-clause-failed g c =
    let before = moment (g.D.SharedDisk.state c.args.disk.now) (g.D.SharedDisk.list c.args.disk.now) in
    let between = moment (g.D.SharedDisk.state c.bring.new.disk) (g.D.SharedDisk.list c.bring.new.disk) in
    let after = moment (g.D.SharedDisk.state c.bring-2.new.disk) (g.D.SharedDisk.list c.bring-2.new.disk) in
    let items = c.args.items.now.items in
    let one = c.bring.new.items.items in
    let two = c.bring-2.new.items.items in
    let block = get_or c.args.blocks.now c.in-Some.header.blkno 0 in
    let last = clean_block before.disk.size block c.args.slot c.args.dinode c.args.time c.in-Some.header in
    let last_is : c.in_ok-clean_block.field-0 ≡ last = c.in_ok-clean_block.ensures.value ∙ ap (λ n. clean_block n block c.args.slot c.args.dinode c.args.time c.in-Some.header) c.block_size.ensures in
    let home =
    subst (λ (is : List TraceItem). HasBrought c.args.node before between c.args.plan.now.home.items is one) c.make_room.ensures.items
    (subst (λ (ws : List Written). HasBrought c.args.node before between ws c.make_room.new.items.items one) c.deref.ensures.value c.in-Ok.ensures.brought)
    in
    let stop = subst (λ (w : Written). HasStoppedBringing c.args.node between after (w ∷ []) one two c.in-Err-bring.fault.block) last_is c.in-Err-bring.ensures.stopped in
    subst (λ f. IfDiskFailed f (HasFailed c.args.node c.args.slot c.args.dinode c.args.blocks.now c.args.time before after c.args.plan.now items two)) (sym c.stopped-in-Err-bring.ensures)
    (if_failed c.in-Err-bring.fault _ (failed_header c.args.node c.args.slot c.args.dinode c.args.blocks.now c.args.time before between after c.args.plan.now c.in-Some.header c.in-Some.is items one two c.in-Err-bring.fault.block home stop))

pub returns-in-Err-clause-crashed : goal.returns-in-Err-clause-crashed
returns-in-Err-clause-crashed g c =
    let before = moment (g.D.SharedDisk.state c.args.disk.now) (g.D.SharedDisk.list c.args.disk.now) in
    let after = moment (g.D.SharedDisk.state c.bring.new.disk) (g.D.SharedDisk.list c.bring.new.disk) in
    let items = c.args.items.now.items in
    let one = c.bring.new.items.items in
    let stop =
    subst (λ (is : List TraceItem). IfNone c.in-Err.fault.rise (HasCrashedBringing c.args.node before after c.args.plan.now.home.items is one)) c.make_room.ensures.items
    (subst (λ (ws : List Written). IfNone c.in-Err.fault.rise (HasCrashedBringing c.args.node before after ws c.make_room.new.items.items one)) c.deref.ensures.value c.in-Err.ensures.crashed)
    in
    subst (λ f. IfCrashed f (HasCrashed c.args.node c.args.slot c.args.dinode c.args.blocks.now c.args.time before after c.args.plan.now items one)) (sym c.stopped.ensures)
    (if_crashed c.in-Err.fault (crashed_home c.args.node c.args.slot c.args.dinode c.args.blocks.now c.args.time before after after c.args.plan.now c.in-Some.header c.in-Some.is items one) stop)

pub returns-in-Err-bring-clause-crashed : goal.returns-in-Err-bring-clause-crashed
returns-in-Err-bring-clause-crashed g c =
    let before = moment (g.D.SharedDisk.state c.args.disk.now) (g.D.SharedDisk.list c.args.disk.now) in
    let between = moment (g.D.SharedDisk.state c.bring.new.disk) (g.D.SharedDisk.list c.bring.new.disk) in
    let after = moment (g.D.SharedDisk.state c.bring-2.new.disk) (g.D.SharedDisk.list c.bring-2.new.disk) in
    let items = c.args.items.now.items in
    let one = c.bring.new.items.items in
    let two = c.bring-2.new.items.items in
    let block = get_or c.args.blocks.now c.in-Some.header.blkno 0 in
    let last = clean_block before.disk.size block c.args.slot c.args.dinode c.args.time c.in-Some.header in
    let last_is : c.in_ok-clean_block.field-0 ≡ last = c.in_ok-clean_block.ensures.value ∙ ap (λ n. clean_block n block c.args.slot c.args.dinode c.args.time c.in-Some.header) c.block_size.ensures in
    let home =
    subst (λ (is : List TraceItem). HasBrought c.args.node before between c.args.plan.now.home.items is one) c.make_room.ensures.items
    (subst (λ (ws : List Written). HasBrought c.args.node before between ws c.make_room.new.items.items one) c.deref.ensures.value c.in-Ok.ensures.brought)
    in
    let stop = subst (λ (w : Written). IfNone c.in-Err-bring.fault.rise (HasCrashedBringing c.args.node between after (w ∷ []) one two)) last_is c.in-Err-bring.ensures.crashed in
    subst (λ f. IfCrashed f (HasCrashed c.args.node c.args.slot c.args.dinode c.args.blocks.now c.args.time before after c.args.plan.now items two)) (sym c.stopped-in-Err-bring.ensures)
    (if_crashed c.in-Err-bring.fault (crashed_header c.args.node c.args.slot c.args.dinode c.args.blocks.now c.args.time before between after c.args.plan.now c.in-Some.header c.in-Some.is items one two home) stop)

pub returns-clause-replayed : goal.returns-clause-replayed
returns-clause-replayed g c =
    let before = moment (g.D.SharedDisk.state c.args.disk.now) (g.D.SharedDisk.list c.args.disk.now) in
    let between = moment (g.D.SharedDisk.state c.bring.new.disk) (g.D.SharedDisk.list c.bring.new.disk) in
    let after = moment (g.D.SharedDisk.state c.bring-2.new.disk) (g.D.SharedDisk.list c.bring-2.new.disk) in
    let items = c.args.items.now.items in
    let one = c.bring.new.items.items in
    let two = c.bring-2.new.items.items in
    let block = get_or c.args.blocks.now c.in-Some.header.blkno 0 in
    let last = clean_block before.disk.size block c.args.slot c.args.dinode c.args.time c.in-Some.header in
    let last_is : c.in_ok-clean_block.field-0 ≡ last = c.in_ok-clean_block.ensures.value ∙ ap (λ n. clean_block n block c.args.slot c.args.dinode c.args.time c.in-Some.header) c.block_size.ensures in
    let home =
    subst (λ (is : List TraceItem). HasBrought c.args.node before between c.args.plan.now.home.items is one) c.make_room.ensures.items
    (subst (λ (ws : List Written). HasBrought c.args.node before between ws c.make_room.new.items.items one) c.deref.ensures.value c.in-Ok.ensures.brought)
    in
    let head = subst (λ (w : Written). HasBrought c.args.node between after (w ∷ []) one two) last_is c.in-Ok-bring.ensures.brought in
    replayed c.args.node c.args.slot c.args.dinode c.args.blocks.now c.args.time before between after c.args.plan.now c.in-Some.header c.in-Some.is items one two c.put_in_room.new.items.items home head c.put_in_room.ensures.put

pub returns-clause-left : goal.returns-clause-left
returns-clause-left g c =
    let node = c.args.node in
    let left = c.in-Ok-bring.left in
    ap (crash_of node left) c.put_in_room.ensures.put ∙ crash_stays node left c.bring-2.new.items.items (trace.Recovered c.args.slot node ∷ []) (no_write node c.args.slot)
    ∙ c.in-Ok-bring.ensures.left ∙ c.in-Ok.ensures.left ∙ ap (crash_of node c.args.armed) c.make_room.ensures.items
