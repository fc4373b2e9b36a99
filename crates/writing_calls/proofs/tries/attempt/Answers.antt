use Rattle.std.proofs.Common.{ap}
use Rattle.file_tree.specs.Apply.{apply}
use Rattle.file_tree.specs.declared.reply.Reply.TheVariants as reply
use Rattle.cluster_history.specs.Changes.{Changes}
use Rattle.image_changes.proofs.Doing.{nothing_does}
use Rattle.writing_calls.proofs.Finding.{edit_answered, no_sync}
use Rattle.writing_calls.proofs.tries.attempt.Goals as goal

pub returns-in-Sync-clause-done : goal.returns-in-Sync-clause-done
returns-in-Sync-clause-done g c =
    let v = g.V.View.seen c.args.view.now in
    nothing_does v c.args.call.now reply.Ok c.nothing.result c.nothing.ensures.blocks c.nothing.ensures.locks c.nothing.ensures.freed
    (ap (λ x. Changes (record { call = x; reply = reply.Ok })) c.in-Sync.is) (λ im o l t of. ap (λ x. (apply x t).reply) c.in-Sync.is)

pub returns-in_default-clause-answered : goal.returns-in_default-clause-answered
returns-in_default-clause-answered g c =
    let v = g.V.View.seen c.args.view.now in
    edit_answered v c.args.call.now c.args.stamp.now.node c.args.stamp.now.time c.edit.result c.in_default.not-Sync c.edit.ensures.answered

pub returns-in_default-clause-synced : goal.returns-in_default-clause-synced
returns-in_default-clause-synced g c =
    no_sync c.args.call.now _ c.in_default.not-Sync
