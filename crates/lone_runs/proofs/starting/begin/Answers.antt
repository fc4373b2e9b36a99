use Rattle.std.proofs.Common.{◌<◌, sym, ap, subst, ◌∙◌, arith}
use Rattle.image_mount.specs.Mounted.{Journal}
use Rattle.log_values.specs.Laws.{IsJournal}
use Rattle.log_values.specs.Log.{Journal as OwnJournal}
use Rattle.mounted_views.specs.Views.{journal_of}
use Rattle.lone_runs.specs.Beginning.{its_head}
use Rattle.lone_runs.proofs.Allowed.{allowed, refused}
use Rattle.lone_runs.proofs.starting.begin.Goals as goal

pub returns-then-not-branch-clause-not : goal.returns-then-not-branch-clause-not
returns-then-not-branch-clause-not g c =
    let d = g.D.SharedDisk.state c.args.disk.now in
    let own = c.args.own.now in
    let head = its_head d.size c.args.time own c.args.plan.now in
    let may = c.in_ok-may_have.ensures d.size c.args.frames c.args.time head c.requires.size c.requires.few (c.head_behind-head.ensures.place d.size c.args.time) (c.head_behind-head.ensures.sequence d.size c.args.time) in
    (ap (λ (j : Journal). j.dinode) c.own.view_is, refused c.blocks-2.result d.count (journal_of d.size c.args.frames c.args.time own) head c.in_ok-may_have.field-0 c.blocks-2.ensures.value may c.if-not-branch.true)

pub own_journal-requires : goal.own_journal-requires
own_journal-requires g c =
    let d = g.D.SharedDisk.state c.args.disk.now in
    let own = c.args.own.now in
    let head = its_head d.size c.args.time own c.args.plan.now in
    let may = c.in_ok-may_have.ensures d.size c.args.frames c.args.time head c.requires.size c.requires.few (c.head_behind-head.ensures.place d.size c.args.time) (c.head_behind-head.ensures.sequence d.size c.args.time) in
    let has = allowed c.blocks-2.result d.count (journal_of d.size c.args.frames c.args.time own) head c.in_ok-may_have.field-0 c.blocks-2.ensures.value may c.if-not-branch.false in
    omega (arith, has.is.most)

pub begin_node-requires-clause-journal : goal.begin_node-requires-clause-journal
begin_node-requires-clause-journal g c =
    let d = g.D.SharedDisk.state c.args.disk.now in
    let own = c.args.own.now in
    let head = its_head d.size c.args.time own c.args.plan.now in
    let may = c.in_ok-may_have.ensures d.size c.args.frames c.args.time head c.requires.size c.requires.few (c.head_behind-head.ensures.place d.size c.args.time) (c.head_behind-head.ensures.sequence d.size c.args.time) in
    let has = allowed c.blocks-2.result d.count (journal_of d.size c.args.frames c.args.time own) head c.in_ok-may_have.field-0 c.blocks-2.ensures.value may c.if-not-branch.false in
    subst IsJournal (sym (c.in_ok-journal.ensures ∙ ap (λ n. journal_of n c.args.frames c.args.time own) c.block_size.ensures)) has.is

pub begin_node-requires-clause-head : goal.begin_node-requires-clause-head
begin_node-requires-clause-head g c =
    let d = g.D.SharedDisk.state c.args.disk.now in
    let own = c.args.own.now in
    let head = its_head d.size c.args.time own c.args.plan.now in
    let place = c.head_behind-head.ensures.place d.size c.args.time in
    let may = c.in_ok-may_have.ensures d.size c.args.frames c.args.time head c.requires.size c.requires.few place (c.head_behind-head.ensures.sequence d.size c.args.time) in
    let has = allowed c.blocks-2.result d.count (journal_of d.size c.args.frames c.args.time own) head c.in_ok-may_have.field-0 c.blocks-2.ensures.value may c.if-not-branch.false in
    subst (λ n. c.head_behind-head.result.place < n) (sym (ap (λ (j : OwnJournal). j.length) c.in_ok-journal.ensures)) (subst (λ n. n < (journal_of d.size c.args.frames c.args.time own).length) place has.inside)

pub returns-clause-has : goal.returns-clause-has
returns-clause-has g c =
    let d = g.D.SharedDisk.state c.args.disk.now in
    let own = c.args.own.now in
    let head = its_head d.size c.args.time own c.args.plan.now in
    let may = c.in_ok-may_have.ensures d.size c.args.frames c.args.time head c.requires.size c.requires.few (c.head_behind-head.ensures.place d.size c.args.time) (c.head_behind-head.ensures.sequence d.size c.args.time) in
    allowed c.blocks-2.result d.count (journal_of d.size c.args.frames c.args.time own) head c.in_ok-may_have.field-0 c.blocks-2.ensures.value may c.if-not-branch.false
