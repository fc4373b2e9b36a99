use Rattle.std.proofs.Common.{◌≡◌, ◌<◌, ◌≤◌, [], ◌∷◌, Some, length, sym, ap, subst, ◌∙◌, arith}
use Rattle.std.specs.Prelude.{slice_get}
use Rattle.std.proofs.lemmas.Option.{slice_get-get_or}
use Rattle.image_mount.specs.Mounted.{MountedValue}
use Rattle.shared_disk.specs.Disk.{DiskState}
use Rattle.image_replays.proofs.Causes.{cause_among}
use Rattle.image_replays.proofs.Replay.{are_plans}
use Rattle.image_replays.specs.Replays.{HasCause}
use Rattle.image_replays.proofs.Stopped.{so_on, stopped_on}
use Rattle.image_replays.proofs.planning.plan_replay.Goals as goal

pub returns-clause-plans : goal.returns-clause-plans
returns-clause-plans g c tells is =
    let js : c.deref-journal-items.result.now ≡ c.args.mounted.now.journals = c.deref-journal-items.ensures.value ∙ ap (λ (v : MountedValue). v.journals) c.mounted.view_is in
    let end : c.loop-journal.journal-index ≤ length c.args.mounted.now.journals = subst (λ xs. c.loop-journal.journal-index ≤ length xs) js c.loop-journal.auto.journal-index-end in
    let all : length c.args.mounted.now.journals ≤ c.loop-journal.journal-index = subst (λ xs. length xs ≤ c.loop-journal.journal-index) js c.loop-journal-test.false in
    let many : length c.args.mounted.now.journals ≡ length is.layout.journals = is.count in
    are_plans (g.D.SharedDisk.state c.args.disk.now) c.args.node c.requires.idle tells c.args.mounted.now is c.in-Ok.marks
    (λ b low. c.in-Ok.ensures.marks b (subst (λ n. b < n) (sym c.blocks-count.ensures.value) low))
    c.loop-journal.journal-index c.loop-journal.plans.items c.loop-journal.marks c.loop-journal.invariant.so (omega (arith, end, all, many))

pub loop-journal-preserved : goal.loop-journal-preserved
loop-journal-preserved g c =
    let before = c.loop-journal.invariant.reads in
    let now = c.in-Ok-plan_journal.ensures.reads in
    let js : c.deref-journal-items.result.now ≡ c.args.mounted.now.journals = c.deref-journal-items.ensures.value ∙ ap (λ (v : MountedValue). v.journals) c.mounted.view_is in
    let there : slice_get c.deref-journal-items.result.now c.loop-journal.journal-index ≡ Some c.journal-item.result
    = slice_get-get_or c.deref-journal-items.result.now c.loop-journal.journal-index c.journal-item.result c.loop-journal-test.true ∙ ap Some (sym c.journal-item.is) in
    record {
      reads = record {
        same = now.same ∙ before.same;
        list = now.list ∙ before.list;
        later = λ i. let a = before.later i in let b = now.later i in omega (arith, a, b);
      };
      so = so_on (g.D.SharedDisk.state c.args.disk.now) (g.D.SharedDisk.state c.loop-journal.disk) before.same c.args.node c.in-Ok.marks c.args.mounted.now.journals c.loop-journal.journal-index
          c.loop-journal.plans.items c.push.new.self.items c.loop-journal.marks c.plan_journal.new.marks c.loop-journal.invariant.so c.journal-item.result c.in-Ok-plan_journal.plan
          (subst (λ xs. slice_get xs c.loop-journal.journal-index ≡ Some c.journal-item.result) js there) c.in-Ok-plan_journal.ensures.length c.in-Ok-plan_journal.ensures.writable c.in-Ok-plan_journal.ensures.header
          c.in-Ok-plan_journal.ensures.free c.in-Ok-plan_journal.ensures.plan c.in-Ok-plan_journal.ensures.marks c.in-Ok-push.ensures.items;
    }

pub returns-in-Err-clause-stopped : goal.returns-in-Err-clause-stopped
returns-in-Err-clause-stopped g c tells is =
    let before = c.loop-journal.invariant.reads in
    let js : c.deref-journal-items.result.now ≡ c.args.mounted.now.journals = c.deref-journal-items.ensures.value ∙ ap (λ (v : MountedValue). v.journals) c.mounted.view_is in
    let there : slice_get c.deref-journal-items.result.now c.loop-journal.journal-index ≡ Some c.journal-item.result
    = slice_get-get_or c.deref-journal-items.result.now c.loop-journal.journal-index c.journal-item.result c.loop-journal-test.true ∙ ap Some (sym c.journal-item.is) in
    stopped_on (g.D.SharedDisk.state c.args.disk.now) (g.D.SharedDisk.state c.loop-journal.disk) before.same c.args.node c.requires.idle tells c.args.mounted.now is c.in-Ok.marks
    (λ b low. c.in-Ok.ensures.marks b (subst (λ n. b < n) (sym c.blocks-count.ensures.value) low))
    c.loop-journal.journal-index c.loop-journal.plans.items c.loop-journal.marks c.loop-journal.invariant.so c.journal-item.result
    (subst (λ xs. slice_get xs c.loop-journal.journal-index ≡ Some c.journal-item.result) js there) c.in-Err.fault c.in-Err.ensures.why

pub returns-in-Err-clause-cause : goal.returns-in-Err-clause-cause
returns-in-Err-clause-cause g c =
    let before = c.loop-journal.invariant.reads in
    let js : c.deref-journal-items.result.now ≡ c.args.mounted.now.journals = c.deref-journal-items.ensures.value ∙ ap (λ (v : MountedValue). v.journals) c.mounted.view_is in
    let there : slice_get c.deref-journal-items.result.now c.loop-journal.journal-index ≡ Some c.journal-item.result
    = slice_get-get_or c.deref-journal-items.result.now c.loop-journal.journal-index c.journal-item.result c.loop-journal-test.true ∙ ap Some (sym c.journal-item.is) in
    let old = g.D.SharedDisk.faults c.loop-journal.disk c.args.node in
    let now = g.D.SharedDisk.faults c.plan_journal.new.disk c.args.node in
    cause_among c.args.mounted.now.journals c.loop-journal.journal-index c.journal-item.result (g.D.SharedDisk.state c.args.disk.now).count (g.D.SharedDisk.faults c.args.disk.now c.args.node) old now c.in-Err.fault
    (subst (λ xs. slice_get xs c.loop-journal.journal-index ≡ Some c.journal-item.result) js there) (before.later c.args.node)
    (subst (λ (u : DiskState). HasCause (c.journal-item.result ∷ []) u.count old now c.in-Err.fault) before.same c.in-Err.ensures.cause)
