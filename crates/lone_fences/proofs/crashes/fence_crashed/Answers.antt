use Rattle.std.proofs.Common.{◌≡◌, ◌∙◌, List, [], ◌∷◌, ◌++◌, ap, subst}
use Rattle.lost_calls.specs.Heads.{IsLeftBy, first_life}
use Rattle.right_losses.specs.Kept.{kept_by}
use Rattle.run_rules.specs.Follows.{history_of}
use Rattle.run_rules.specs.Lives.{DiskHeads, upto_of}
use Rattle.script_lang.specs.declared.script.Client.{Client}
use Rattle.trace_text.specs.declared.item.TraceItem.{TraceItem}
use Rattle.trace_text.specs.declared.item.TraceItem.TheVariants as trace
use Rattle.lone_fences.proofs.Telling.{has_fenced}
use Rattle.lone_fences.proofs.crashes.fence_crashed.Goals as goal

pub returns-clause-fenced : goal.returns-clause-fenced
returns-clause-fenced g c =
    let head = c.in-Ok-left_head.head in
    let upto = c.upto_of-upto.result in
    let kept = c.kept_number-kept.result in
    has_fenced c.args.items.now.items c.put_in_room.new.items.items c.put_in_room-2.new.items.items c.put_in_room-3.new.items.items
    (g.D.SharedDisk.state c.args.disk.now) (g.D.SharedDisk.state c.fence_node.new.disk) (g.D.SharedDisk.state c.left_head.new.disk)
    (g.D.SharedDisk.list c.args.disk.now) (g.D.SharedDisk.list c.fence_node.new.disk) (g.D.SharedDisk.list c.left_head.new.disk) c.args.journal.now c.args.first head upto kept
    (c.put_in_room.ensures.put ∙ ap (λ (is : List TraceItem). is ++ trace.Crash 1 ∷ []) c.reserve.ensures.items) c.put_in_room-2.ensures.put c.put_in_room-3.ensures.put
    c.in-Ok-fence_node.ensures.fenced c.left_head.ensures.reads.same c.left_head.ensures.reads.list c.in-Ok-left_head.ensures.head
    (subst (λ (is : List TraceItem). (disks : DiskHeads) → IsLeftBy disks is head c.args.first → upto ≡ upto_of disks first_life is) c.deref.ensures.value c.upto_of-upto.ensures)
    (subst (λ (is : List TraceItem). (clients : List Client) → kept ≡ kept_by 1 upto (history_of clients is)) c.deref-2.ensures.value c.kept_number-kept.ensures)
