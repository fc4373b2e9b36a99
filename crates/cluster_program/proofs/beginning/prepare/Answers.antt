use Rattle.std.proofs.Common.{◌≡◌, inl, inr, ℕ, ◌≤◌, length, sym, ap, ◌∙◌, subst, arith, true≢false}
use Rattle.std.proofs.lemmas.Bool.{cases_eq, eq-eqb, eqb-true}
use Rattle.damage_laws.specs.Telling.{HasRootInside}
use Rattle.image_model.proofs.Held.{none_some}
use Rattle.lone_view.specs.Groups.{AreGroupsOn}
use Rattle.lone_view.specs.Seeing.{seen_alone}
use Rattle.mounted_views.specs.Views.{view_of}
use Rattle.shared_disk.specs.Disk.{DiskState}
use Rattle.cluster_program.specs.Mounting.{ArePlaced, BeginEnds, MountEnds, NotMounted}
use Rattle.cluster_program.specs.Runs.{ArePlansOf}
use Rattle.cluster_program.proofs.Begun.{misplaced_end, no_journal, no_plans_on, plan_end, prepared}
use Rattle.cluster_program.proofs.beginning.prepare.Goals as goal

-- ---- the image isn't mounted

pub returns-in-Err-clause-ends : goal.returns-in-Err-clause-ends
returns-in-Err-clause-ends g c = NotMounted c.in-Err.own c.in-Err.ensures.ends

-- ---- or its journals can't be replayed

pub returns-in-Err-plan_replay-clause-ends : goal.returns-in-Err-plan_replay-clause-ends
returns-in-Err-plan_replay-clause-ends g c =
    let d = g.D.SharedDisk.state c.args.disk.now in
    let first = g.D.SharedDisk.faults c.args.disk.now in
    let before = g.D.SharedDisk.faults c.mount.new.disk in
    let now = g.D.SharedDisk.faults c.plan_replay.new.disk in
    let why = no_plans_on d (g.D.SharedDisk.state c.mount.new.disk) c.in-Ok.mounted before now c.in-Err-plan_replay.fault c.in-Ok.ensures.reads.same (record { stopped = c.in-Err-plan_replay.ensures.stopped; cause = c.in-Err-plan_replay.ensures.cause }) in
    subst (BeginEnds d first now) (sym c.not_planned.ensures) (plan_end c.stopped_images_have_no_replay.ensures d c.requires.size c.in-Ok.mounted c.in-Ok.ensures.mounted first before now c.in-Ok.ensures.reads.later c.in-Err-plan_replay.fault why)

-- ---- or its groups or its root aren't right

pub returns-in-Err-ready_of-clause-ends : goal.returns-in-Err-ready_of-clause-ends
returns-in-Err-ready_of-clause-ends g c =
    let first = g.D.SharedDisk.faults c.args.disk.now in
    let now = g.D.SharedDisk.faults c.plan_replay.new.disk in
    let own = c.in-Err-ready_of.own in
    NotMounted own (subst (λ d. MountEnds d first now own) (c.in-Ok-plan_replay.ensures.reads.same ∙ c.in-Ok.ensures.reads.same) (c.in-Err-ready_of.ensures.ends first now))

-- ---- or its journals aren't

pub returns-then-is_empty-clause-ends : goal.returns-then-is_empty-clause-ends
returns-then-is_empty-clause-ends g c =
    let none : length c.in-Ok-ready_of.ready.journals.items ≡ 0 = sym c.in-Ok-ready_of.ready.journals.ok.0 ∙ eqb-true _ 0 (sym c.is_empty.ensures ∙ c.if-is_empty.true) in
    no_journal (g.D.SharedDisk.state c.args.disk.now) c.in-Ok.mounted c.in-Ok.ensures.mounted c.in-Ok.ensures.alike (subst (λ js. length js ≡ 0) c.in-Ok-ready_of.ensures.journals none)
    (g.D.SharedDisk.faults c.args.disk.now) (g.D.SharedDisk.faults c.plan_replay.new.disk)

pub returns-in-Some-clause-ends : goal.returns-in-Some-clause-ends
returns-in-Some-clause-ends g c =
    let d = g.D.SharedDisk.state c.args.disk.now in
    let first = g.D.SharedDisk.faults c.args.disk.now in
    let now = g.D.SharedDisk.faults c.plan_replay.new.disk in
    let same = c.in-Ok-plan_replay.ensures.reads.same ∙ c.in-Ok.ensures.reads.same in
    let count = c.blocks-2.ensures.value ∙ ap (λ (x : DiskState). x.count) same in
    let items = c.in-Ok-ready_of.ready.journals.items in
    subst (BeginEnds d first now) (sym c.misplaced.ensures)
    (misplaced_end d c.in-Ok.mounted items c.requires.idle c.in-Ok.ensures.mounted c.in-Ok-ready_of.ensures.journals
    (λ placed. none_some (sym (c.first_misplaced.ensures.1 (subst (ArePlaced c.blocks-2.result) (sym c.deref.ensures.value) (subst (λ n. ArePlaced n items) (sym count) placed))) ∙ c.in-Some.is))
    first now c.in-Some.dinode)

-- ---- or they all are

pub returns-in-None-clause-prepared : goal.returns-in-None-clause-prepared
returns-in-None-clause-prepared g c =
    let d = g.D.SharedDisk.state c.args.disk.now in
    let m = c.in-Ok.mounted in
    let items = c.in-Ok-ready_of.ready.journals.items in
    let plans = c.in-Ok-plan_replay.plans.items in
    let same = c.in-Ok-plan_replay.ensures.reads.same ∙ c.in-Ok.ensures.reads.same in
    let count = c.blocks-2.ensures.value ∙ ap (λ (x : DiskState). x.count) same in
    let view_is = c.in-Ok-ready_of.ensures.view ∙ ap (λ (x : DiskState). view_of x.size m) same in
    let planned : ArePlansOf (g.D.SharedDisk.state c.mount.new.disk) m plans = record {
      are = c.in-Ok-plan_replay.ensures.plans;
      writable = c.in-Ok-plan_replay.ensures.writable;
      headers = c.in-Ok-plan_replay.ensures.headers;
    } in
    let some : 1 ≤ length items = elim (cases_eq (length items) 0) [
      | inl none ↦ absurd (true≢false (sym (eq-eqb _ 0 (c.in-Ok-ready_of.ready.journals.ok.0 ∙ none)) ∙ sym c.is_empty.ensures ∙ c.if-is_empty.false))
      | inr more ↦ omega (arith, more)
    ] in
    prepared c.planned_replays_can_be_made.ensures d c.requires.idle c.requires.size m c.in-Ok.ensures.mounted c.in-Ok.ensures.replayed
    (subst (λ (x : DiskState). AreGroupsOn x.size x.count m.groups) same c.in-Ok-ready_of.ensures.on) (subst (λ v. HasRootInside (seen_alone v)) view_is c.in-Ok-ready_of.ensures.root) plans
    (subst (λ x. ArePlansOf x m plans) c.in-Ok.ensures.reads.same planned) c.in-Ok-plan_replay.ensures.few c.in-Ok-ready_of.ready.view items view_is c.in-Ok-ready_of.ensures.journals some
    (subst (λ n. ArePlaced n items) count (subst (ArePlaced c.blocks-2.result) c.deref.ensures.value (c.first_misplaced.ensures.0 c.in-None.is)))
