use Rattle.std.proofs.Common.{true, false, Ok, ap, sym, ◌∙◌, true≢false, arith}
use Rattle.logged_node.specs.declared.ends.Stop.TheVariants as stop
use Rattle.logged_calls.specs.Ends.{EndsBehind}
use Rattle.logged_calls.specs.declared.ends.CallEnd.TheVariants as end
use Rattle.logged_calls.proofs.Answered.{inside_there, low_there, number_there, passes, stops_unkept, too_small, unloggable}
use Rattle.logged_calls.proofs.Changed.{ready, taken}
use Rattle.logged_calls.proofs.Moved.{ends_untold, still_here, stops_untold}
use Rattle.logged_calls.proofs.Added.{low_still}
use Rattle.logged_calls.proofs.Taken.{handed_on}
use Rattle.logged_calls.proofs.changing.answer_with.Goals as goal

pub returns-then-not-may_be_logged-clause-stopped : goal.returns-then-not-may_be_logged-clause-stopped
returns-then-not-may_be_logged-clause-stopped g c =
    ends_untold (g.D.SharedDisk.state c.args.disk.now) (g.D.SharedDisk.state c.args.disk.now) (g.D.SharedDisk.list c.args.disk.now) (g.D.SharedDisk.list c.args.disk.now) c.args.node.now c.args.node.now (still_here 3 (g.D.SharedDisk.state c.args.disk.now) (g.D.SharedDisk.list c.args.disk.now) c.args.node.now c.requires.ready)

pub returns-then-not-may_be_logged-clause-unloggable : goal.returns-then-not-may_be_logged-clause-unloggable
returns-then-not-may_be_logged-clause-unloggable g c =
    unloggable (g.D.SharedDisk.state c.args.disk.now) (g.D.SharedDisk.list c.args.disk.now) c.args.node.now c.args.stamp.now.time c.args.call.now c.args.reply.now c.args.change.now c.requires.ready c.requires.done c.requires.changes (λ may. true≢false (sym (c.may_be_logged.ensures.1 may) ∙ c.if-not-may_be_logged.true))

pub add_change-requires-clause-can : goal.add_change-requires-clause-can
add_change-requires-clause-can g c =
    (passes (g.D.SharedDisk.state c.args.disk.now) (g.D.SharedDisk.list c.args.disk.now) c.args.node.now c.args.stamp.now.time c.args.call.now c.args.reply.now c.args.change.now c.requires.ready c.requires.done (c.may_be_logged.ensures.0 c.if-not-may_be_logged.false)).can

pub add_change-requires-clause-low : goal.add_change-requires-clause-low
add_change-requires-clause-low g c =
    low_there (g.D.SharedDisk.state c.args.disk.now) (g.D.SharedDisk.list c.args.disk.now) c.args.node.now c.args.stamp.now.time c.args.call.now c.args.reply.now c.args.change.now c.requires.ready c.requires.done

pub returns-in-Ok-false-clause-stopped : goal.returns-in-Ok-false-clause-stopped
returns-in-Ok-false-clause-stopped g c =
    ends_untold (g.D.SharedDisk.state c.args.disk.now) (g.D.SharedDisk.state c.add_change.new.disk) (g.D.SharedDisk.list c.args.disk.now) (g.D.SharedDisk.list c.add_change.new.disk) c.args.node.now c.add_change.new.node (c.in-Ok-false.ensures.not (ap Ok c.in-Ok-false.field-0-test)).moved

pub returns-in-Ok-false-clause-too_small : goal.returns-in-Ok-false-clause-too_small
returns-in-Ok-false-clause-too_small g c =
    too_small (g.D.SharedDisk.state c.args.disk.now) (g.D.SharedDisk.list c.args.disk.now) c.args.node.now c.args.stamp.now.time c.args.call.now c.args.reply.now c.args.change.now c.requires.ready c.requires.done (g.D.SharedDisk.state c.add_change.new.disk) (g.D.SharedDisk.list c.add_change.new.disk) c.add_change.new.node (c.in-Ok-false.ensures.not (ap Ok c.in-Ok-false.field-0-test))

pub returns-in-Err-clause-stopped : goal.returns-in-Err-clause-stopped
returns-in-Err-clause-stopped g c =
    stops_untold 3 (g.D.SharedDisk.state c.args.disk.now) (g.D.SharedDisk.state c.add_change.new.disk) (g.D.SharedDisk.list c.args.disk.now) (g.D.SharedDisk.list c.add_change.new.disk) c.args.node.now c.add_change.new.node.items.items c.in-Err.why (omega arith) c.requires.ready c.in-Err.ensures.stopped

pub keep_answer-requires-clause-number : goal.keep_answer-requires-clause-number
keep_answer-requires-clause-number g c =
    number_there (g.D.SharedDisk.state c.args.disk.now) (g.D.SharedDisk.list c.args.disk.now) c.args.node.now c.args.stamp.now.time c.args.call.now c.args.reply.now c.args.change.now c.requires.ready c.requires.done (g.D.SharedDisk.state c.add_change.new.disk) (g.D.SharedDisk.list c.add_change.new.disk) c.add_change.new.node (c.in-Ok-true.ensures.added (ap Ok c.in-Ok-true.field-0-test)) c.requires.number

pub keep_answer-requires-clause-inside : goal.keep_answer-requires-clause-inside
keep_answer-requires-clause-inside g c =
    inside_there (g.D.SharedDisk.state c.args.disk.now) (g.D.SharedDisk.list c.args.disk.now) c.args.node.now c.args.stamp.now.time c.args.call.now c.args.reply.now c.args.change.now c.requires.ready c.requires.done (g.D.SharedDisk.state c.add_change.new.disk) (g.D.SharedDisk.list c.add_change.new.disk) c.add_change.new.node (c.in-Ok-true.ensures.added (ap Ok c.in-Ok-true.field-0-test))

pub returns-in_err-item-clause-stopped : goal.returns-in_err-item-clause-stopped
returns-in_err-item-clause-stopped g c =
    handed_on c.from_residual.result (end.Stopped stop.NoMemory) (EndsBehind (g.D.SharedDisk.state c.args.disk.now) (g.D.SharedDisk.list c.args.disk.now) c.args.node.now (g.D.SharedDisk.state c.add_change.new.disk) (g.D.SharedDisk.list c.add_change.new.disk) c.keep_answer.new.node) c.from_residual.ensures.1
    (stops_unkept (g.D.SharedDisk.state c.args.disk.now) (g.D.SharedDisk.list c.args.disk.now) c.args.node.now c.args.stamp.now.time c.args.call.now c.args.reply.now c.args.change.now c.requires.ready c.requires.done (g.D.SharedDisk.state c.add_change.new.disk) (g.D.SharedDisk.list c.add_change.new.disk) c.add_change.new.node (c.in-Ok-true.ensures.added (ap Ok c.in-Ok-true.field-0-test)) c.keep_answer.new.node.items.items c.in_err-item.ensures.items)

pub returns-clause-taken : goal.returns-clause-taken
returns-clause-taken g c =
    taken c.args.stamp.now.time c.args.client.now c.args.call.now c.args.reply.now c.args.change.now (g.D.SharedDisk.state c.args.disk.now) (g.D.SharedDisk.state c.add_change.new.disk) (g.D.SharedDisk.list c.args.disk.now) (g.D.SharedDisk.list c.add_change.new.disk) c.args.node.now c.add_change.new.node c.keep_answer.new.node c.put_call.new.node (c.in-Ok-true.ensures.added (ap Ok c.in-Ok-true.field-0-test)) c.requires.done c.requires.changes (passes (g.D.SharedDisk.state c.args.disk.now) (g.D.SharedDisk.list c.args.disk.now) c.args.node.now c.args.stamp.now.time c.args.call.now c.args.reply.now c.args.change.now c.requires.ready c.requires.done (c.may_be_logged.ensures.0 c.if-not-may_be_logged.false)).can c.in_ok-item.ensures.kept c.in_ok-item.ensures.view c.in_ok-item.ensures.node c.in_ok-item.ensures.items c.put_call.ensures.node c.in_ok-item.item c.in_ok-item.ensures.item c.put_call.ensures.items
    (ready c.args.stamp.now.time c.args.client.now c.args.call.now c.args.reply.now c.args.change.now (g.D.SharedDisk.state c.args.disk.now) (g.D.SharedDisk.state c.add_change.new.disk) (g.D.SharedDisk.list c.args.disk.now) (g.D.SharedDisk.list c.add_change.new.disk) c.args.node.now c.add_change.new.node c.keep_answer.new.node c.put_call.new.node (c.in-Ok-true.ensures.added (ap Ok c.in-Ok-true.field-0-test)) c.requires.done c.requires.changes (passes (g.D.SharedDisk.state c.args.disk.now) (g.D.SharedDisk.list c.args.disk.now) c.args.node.now c.args.stamp.now.time c.args.call.now c.args.reply.now c.args.change.now c.requires.ready c.requires.done (c.may_be_logged.ensures.0 c.if-not-may_be_logged.false)).can c.in_ok-item.ensures.kept c.in_ok-item.ensures.view c.in_ok-item.ensures.node c.in_ok-item.ensures.items c.put_call.ensures.node c.in_ok-item.item c.in_ok-item.ensures.item c.put_call.ensures.items c.requires.done.does.form (passes (g.D.SharedDisk.state c.args.disk.now) (g.D.SharedDisk.list c.args.disk.now) c.args.node.now c.args.stamp.now.time c.args.call.now c.args.reply.now c.args.change.now c.requires.ready c.requires.done (c.may_be_logged.ensures.0 c.if-not-may_be_logged.false)).some (low_still (g.D.SharedDisk.state c.args.disk.now) (g.D.SharedDisk.state c.add_change.new.disk) c.args.change.now (c.in-Ok-true.ensures.added (ap Ok c.in-Ok-true.field-0-test)).moved.goes.disk.count (low_there (g.D.SharedDisk.state c.args.disk.now) (g.D.SharedDisk.list c.args.disk.now) c.args.node.now c.args.stamp.now.time c.args.call.now c.args.reply.now c.args.change.now c.requires.ready c.requires.done)))
