use Rattle.std.proofs.Common.{◌<◌, ◌++◌, List, [], ◌∷◌, length, ap, ◌∙◌, arith}
use Rattle.std.proofs.lemmas.List.{append_assoc}
use Rattle.trace_text.specs.declared.item.TraceItem.{TraceItem}
use Rattle.trace_text.specs.declared.item.TraceItem.TheVariants as trace
use Rattle.disk_turns.specs.Turns.{writes_of}
use Rattle.journal_replays.specs.Items.{items_of}
use Rattle.journal_replays.proofs.Told.{items_more}
use Rattle.journal_replays.proofs.items.put_writes.Goals as goal
use Rattle.std.specs.Prelude.{take}

pub loop-written-preserved : goal.loop-written-preserved
loop-written-preserved c =
    let so = c.loop-written.invariant in
    let low : c.loop-written.written-index < length c.args.blocks.now = omega (arith, c.loop-written-test.true, c.loop-written.auto.written-index-end) in
    record {
      put = c.put_in_room.ensures.put ∙ ap (λ (is : List TraceItem). is ++ trace.WriteReplay c.args.node c.written-item.result.block ∷ []) so.put
          ∙ append_assoc c.args.items.now.items (items_of (writes_of c.args.node (take c.loop-written.written-index c.args.blocks.now))) (trace.WriteReplay c.args.node c.written-item.result.block ∷ [])
          ∙ ap (λ (is : List TraceItem). c.args.items.now.items ++ is) (items_more c.args.node c.args.blocks.now c.loop-written.written-index c.written-item.result _ low c.written-item.is);
      len = let one = c.put_in_room.ensures.len in let before = so.len in omega (arith, one, before);
      capacity = let one = c.put_in_room.ensures.capacity in let before = so.capacity in omega (arith, one, before);
    }
