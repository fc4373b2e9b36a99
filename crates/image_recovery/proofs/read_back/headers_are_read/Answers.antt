use Rattle.std.proofs.Common.{◌≡◌, ◌+◌, ◌<◌, List, length, take, refl, sym, ap, subst, subst₂, ◌∙◌, arith}
use Rattle.std.specs.Prelude.{IfSome, Option}
use Rattle.std.proofs.lemmas.List.{take_all}
use Rattle.image_mount.specs.Mounted.{Journal}
use Rattle.journal_replays.specs.Headers.{IsHeaderRead}
use Rattle.log_layout.specs.declared.log_header.LogHeader.{LogHeader}
use Rattle.image_recovery.specs.Recoveries.{AreHeadersRead}
use Rattle.image_recovery.proofs.Recovered.{as_many, at_item, below_all, can_at, headers_next}
use Rattle.image_recovery.proofs.read_back.headers_are_read.Goals as goal

pub bounds-journals-place : goal.bounds-journals-place
bounds-journals-place c = below_all c.requires.can.0 c.args.journals.now c.args.plans.now c.loop-place.place c.requires.can.1 c.loop-place-test.true

pub plan_is_read-requires-clause-place : goal.plan_is_read-requires-clause-place
plan_is_read-requires-clause-place c =
    let d = c.requires.can.0 in
    let journals = c.args.journals.now in
    let low = below_all d journals c.args.plans.now c.loop-place.place c.requires.can.1 c.loop-place-test.true in
    let at_journal = at_item journals journals c.loop-place.place c.index-journals-place.result refl low c.index-journals-place.is in
    let at_plan = at_item c.args.plans.now c.args.plans.now c.loop-place.place c.index-plans-place.result refl c.loop-place-test.true c.index-plans-place.is in
    let blocks = c.deref.ensures.value ∙ ap (λ (j : Journal). j.blocks) c.journal.view_is in
    subst (λ bs. IfSome c.index-plans-place.result.clean (λ (h : LogHeader). h.blkno < length bs)) (sym blocks)
    (can_at d journals c.args.plans.now c.loop-place.place c.index-journals-place.result c.index-plans-place.result c.requires.can.1 at_journal at_plan).place

pub loop-place-preserved : goal.loop-place-preserved
loop-place-preserved c =
    let d = c.requires.can.0 in
    let journals = c.args.journals.now in
    let journal = c.index-journals-place.result in
    let plan = c.index-plans-place.result in
    let low = below_all d journals c.args.plans.now c.loop-place.place c.requires.can.1 c.loop-place-test.true in
    let at_journal = at_item journals journals c.loop-place.place journal refl low c.index-journals-place.is in
    let at_plan = at_item c.args.plans.now c.args.plans.now c.loop-place.place plan refl c.loop-place-test.true c.index-plans-place.is in
    let blocks = c.deref.ensures.value ∙ ap (λ (j : Journal). j.blocks) c.journal.view_is in
    let dinode = ap (λ (j : Journal). j.dinode) c.journal.view_is in
    headers_next journals c.args.plans.now c.loop-place.place journal plan at_journal at_plan c.args.size c.args.time (c.loop-place.place + 1) refl c.loop-place.invariant
    (subst (λ bs. IsHeaderRead c.args.size (c.loop-place.place + 1) journal.dinode bs c.args.time plan.clean) blocks
    (subst (λ n. IsHeaderRead c.args.size (c.loop-place.place + 1) n c.deref.result.now c.args.time plan.clean) dinode c.plan_is_read.ensures))

pub returns : goal.returns
returns c =
    let many = as_many c.requires.can.0 c.args.journals.now c.args.plans.now c.requires.can.1 in
    subst₂ (AreHeadersRead c.args.size 1 c.args.time)
    (take_all c.loop-place.place c.args.journals.now (omega (arith, many, c.loop-place-test.false))) (take_all c.loop-place.place c.args.plans.now (omega (arith, c.loop-place-test.false))) c.loop-place.invariant
