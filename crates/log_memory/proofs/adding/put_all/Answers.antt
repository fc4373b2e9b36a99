use Rattle.std.proofs.Common.{◌≤◌, ◌<◌, ◌+◌, ◌∙◌, ap, ap₂, arith, drop, get_or, length, List, subst, sym}
use Rattle.std.proofs.lemmas.List.{drop_all}
use Rattle.std.proofs.lemmas.List.Elements.{All-get_or}
use Rattle.std.specs.FinMap as table
use Rattle.drafts.specs.declared.change.Written.{Written}
use Rattle.journal_scan.specs.Said.{logged}
use Rattle.node_journal.specs.Written.{IsLoggable}
use Rattle.log_values.specs.Log.{LogValue}
use Rattle.log_values.specs.Changes.{frames_taken, most_unflushed}
use Rattle.log_values.proofs.Changing.{unmapped}
use Rattle.log_memory.specs.Adding.{with_written_all}
use Rattle.log_memory.proofs.Halves.{next_written}
use Rattle.log_memory.proofs.Room.{next_change, next_frame}
use Rattle.log_memory.proofs.adding.put_all.Goals as goal

pub put-requires-clause-loggable : goal.put-requires-clause-loggable
put-requires-clause-loggable c =
    let blocks = c.deref-written-items.ensures.value in
    let size = ap (λ (log : LogValue). log.journal.size) c.loop-place.invariant in
    let each = unmapped (IsLoggable c.args.log.now.journal.size) c.args.change.now.blocks.items c.requires.can.whole.blocks in
    let less = subst (λ (ws : List Written). c.loop-place.place < length ws) blocks c.loop-place-test.true in
    let here = All-get_or (λ (w : Written). IsLoggable c.args.log.now.journal.size (logged w)) c.args.change.now.blocks.items c.loop-place.place c.written-item.result less each in
    subst (λ s. IsLoggable s (logged c.written-item.result)) (sym size)
    (subst (λ (w : Written). IsLoggable c.args.log.now.journal.size (logged w)) (sym (c.written-item.is ∙ ap (λ (ws : List Written). get_or ws c.loop-place.place c.written-item.result) blocks)) here)

pub put-requires-clause-few : goal.put-requires-clause-few
put-requires-clause-few c =
    let ws = c.args.change.now.blocks.items in
    let ls = c.args.change.now.locks.items in
    let i = c.loop-place.place in
    let next = next_written c.loop-place.log ws c.deref-written-items.result.now ls i c.written-item.result c.index.result.now c.requires.can.locks c.deref-written-items.ensures.value c.loop-place-test.true c.written-item.is c.index.ensures in
    next_change c.loop-place.log c.written-item.result c.index.result.now (drop (i + 1) ws) (drop (i + 1) ls) most_unflushed
    (subst (λ (log : LogValue). table.len log.fresh < most_unflushed) (sym (next ∙ c.loop-place.invariant)) c.requires.few)

pub put-requires-clause-room : goal.put-requires-clause-room
put-requires-clause-room c =
    let ws = c.args.change.now.blocks.items in
    let ls = c.args.change.now.locks.items in
    let i = c.loop-place.place in
    let next = next_written c.loop-place.log ws c.deref-written-items.result.now ls i c.written-item.result c.index.result.now c.requires.can.locks c.deref-written-items.ensures.value c.loop-place-test.true c.written-item.is c.index.ensures in
    next_frame c.loop-place.log c.written-item.result c.index.result.now (drop (i + 1) ws) (drop (i + 1) ls)
    (subst (λ (log : LogValue). frames_taken log ≤ log.journal.frames) (sym (next ∙ c.loop-place.invariant)) c.requires.room)

pub loop-place-preserved : goal.loop-place-preserved
loop-place-preserved c =
    let left = λ (log : LogValue). with_written_all log (drop (c.loop-place.place + 1) c.args.change.now.blocks.items) (drop (c.loop-place.place + 1) c.args.change.now.locks.items) in
    ap left c.put.ensures
    ∙ next_written c.loop-place.log c.args.change.now.blocks.items c.deref-written-items.result.now c.args.change.now.locks.items c.loop-place.place c.written-item.result c.index.result.now c.requires.can.locks
    c.deref-written-items.ensures.value c.loop-place-test.true c.written-item.is c.index.ensures
    ∙ c.loop-place.invariant

pub returns : goal.returns
returns c =
    let same = ap length c.deref-written-items.ensures.value in
    let end = c.loop-place-test.false in
    let n = c.requires.can.locks in
    sym (ap₂ (with_written_all c.loop-place.log) (drop_all c.loop-place.place c.args.change.now.blocks.items (omega arith)) (drop_all c.loop-place.place c.args.change.now.locks.items (omega arith)))
    ∙ c.loop-place.invariant
