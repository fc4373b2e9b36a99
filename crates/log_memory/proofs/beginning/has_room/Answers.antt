use Rattle.std.proofs.Common.{◌≡◌, ◌+◌, ◌<◌, ◌≤◌, refl, sym, ap, subst, ◌∙◌, arith}
use Rattle.std.specs.FinMap as table
use Rattle.node_journal.specs.Encoding.{size_of}
use Rattle.log_values.specs.Log.{LogValue}
use Rattle.log_values.specs.Changes.{most_unflushed}
use Rattle.log_values.specs.Flushing.{free_in}
use Rattle.log_values.specs.Sound.{IsSoundLog}
use Rattle.log_values.specs.Transactions.{due}
use Rattle.log_values.proofs.Rooms.{empty_has_room}
use Rattle.log_memory.specs.Inside.{log_in}
use Rattle.log_memory.proofs.Due.{content_among, due_takes, few_due}
use Rattle.log_memory.proofs.beginning.has_room.Goals as goal

pub overflow_sub-metadata : goal.overflow_sub-metadata
overflow_sub-metadata c = content_among (log_in c.log.inside) c.log.invariant.sound c.fresh_content-content.result c.fresh_len.result (table.len c.log.inside.gone.at) c.fresh_content-content.ensures c.fresh_len.ensures refl

pub overflow_cast-content : goal.overflow_cast-content
overflow_cast-content c =
    let among = content_among (log_in c.log.inside) c.log.invariant.sound c.fresh_content-content.result c.fresh_len.result (table.len c.log.inside.gone.at) c.fresh_content-content.ensures c.fresh_len.ensures refl in
    let few = few_due (log_in c.log.inside) c.log.invariant.sound c.fresh_content-content.result c.fresh_len.result (table.len c.log.inside.gone.at) c.fresh_content-content.ensures c.fresh_len.ensures refl in
    omega (arith, among, few.0)

pub overflow_cast-revokes : goal.overflow_cast-revokes
overflow_cast-revokes c =
    let few = few_due (log_in c.log.inside) c.log.invariant.sound c.fresh_content-content.result c.fresh_len.result c.len-revokes.result c.fresh_content-content.ensures c.fresh_len.ensures c.len-revokes.ensures in
    omega (arith, few.1)

pub size_with-blocks-requires-clause-few : goal.size_with-blocks-requires-clause-few
size_with-blocks-requires-clause-few c =
    let among = content_among (log_in c.log.inside) c.log.invariant.sound c.fresh_content-content.result c.fresh_len.result c.len-revokes.result c.fresh_content-content.ensures c.fresh_len.ensures c.len-revokes.ensures in
    let few = few_due (log_in c.log.inside) c.log.invariant.sound c.fresh_content-content.result c.fresh_len.result c.len-revokes.result c.fresh_content-content.ensures c.fresh_len.ensures c.len-revokes.ensures in
    omega (arith, among, few.0, few.1)

pub returns-clause-room : goal.returns-clause-room
returns-clause-room c =
    let takes : c.size_with-blocks.result ≡ size_of c.args.log.now.journal.size (due c.args.log.now) =
    c.size_with-blocks.ensures
    ∙ due_takes (log_in c.log.inside) c.log.invariant.sound c.fresh_content-content.result c.fresh_len.result c.len-revokes.result c.fresh_content-content.ensures c.fresh_len.ensures c.len-revokes.ensures c.log.inside.journal.block_size
    ∙ ap (λ (x : LogValue). size_of x.journal.size (due x)) c.log.view_is in (
      λ yes. subst (λ n. n + 1 ≤ free_in c.args.log.now) takes (c.has_free.ensures.0 yes),
      λ room. c.has_free.ensures.1 (subst (λ n. n + 1 ≤ free_in c.args.log.now) (sym takes) room),
    )

pub returns-clause-empty : goal.returns-clause-empty
returns-clause-empty c = λ none nothing.
    let takes : c.size_with-blocks.result ≡ size_of c.args.log.now.journal.size (due c.args.log.now) =
    c.size_with-blocks.ensures
    ∙ due_takes (log_in c.log.inside) c.log.invariant.sound c.fresh_content-content.result c.fresh_len.result c.len-revokes.result c.fresh_content-content.ensures c.fresh_len.ensures c.len-revokes.ensures c.log.inside.journal.block_size
    ∙ ap (λ (x : LogValue). size_of x.journal.size (due x)) c.log.view_is in
    let room = empty_has_room c.args.log.now (subst IsSoundLog c.log.view_is c.log.invariant.sound) none nothing (subst (λ (x : LogValue). table.len x.fresh < most_unflushed) c.log.view_is c.log.invariant.few_changes) in
    c.has_free.ensures.1 (subst (λ n. n + 1 ≤ free_in c.args.log.now) (sym takes) room)
