use Rattle.std.proofs.Common.{◌≡◌, ◌≤◌, Some, length, sym, ap, subst, ◌∙◌, arith}
use Rattle.std.specs.Prelude.{IsTrue, slice_get}
use Rattle.std.proofs.lemmas.Option.{slice_get-get_or}
use Rattle.journal_plans.specs.Plans.{IsPlanOf}
use Rattle.journal_reads.specs.Reading.{ring_read}
use Rattle.replay_looks.specs.Looks.{IsStopped}
use Rattle.replayed_trees.proofs.ByPlans.{are_plans, next_on}
use Rattle.replayed_trees.proofs.Replay.{is_replayed, places_on, stopped_on}
use Rattle.replayed_trees.proofs.SoFar.{so_on}
use Rattle.replayed_trees.proofs.plans.plan_journals.Goals as goal

pub plan_journal-requires-clause-inside : goal.plan_journal-requires-clause-inside
plan_journal-requires-clause-inside g c =
    let s = g.D.SharedDisk.state c.args.disk.now in
    let t = g.D.SharedDisk.state c.loop-journal.disk in
    let x = c.journal-item.result in
    let there : slice_get c.args.journals.now c.loop-journal.journal-index ≡ Some x = slice_get-get_or c.args.journals.now c.loop-journal.journal-index x c.loop-journal-test.true ∙ ap Some (sym c.journal-item.is) in
    places_on s t c.loop-journal.invariant.reads.same c.args.journals.now c.requires.inside c.loop-journal.journal-index x there c.deref.result.now c.deref.ensures.value

pub returns-in-Err-clause-stopped : goal.returns-in-Err-clause-stopped
returns-in-Err-clause-stopped g c tells l its found marked =
    let s = g.D.SharedDisk.state c.args.disk.now in
    let t = g.D.SharedDisk.state c.loop-journal.disk in
    let x = c.journal-item.result in
    let there : slice_get c.args.journals.now c.loop-journal.journal-index ≡ Some x = slice_get-get_or c.args.journals.now c.loop-journal.journal-index x c.loop-journal-test.true ∙ ap Some (sym c.journal-item.is) in
    stopped_on s t c.loop-journal.invariant.reads.same c.requires.idle tells l its c.args.journals.now found c.requires.inside c.args.marks marked
    c.loop-journal.journal-index c.loop-journal.plans.items c.loop-journal.marks c.loop-journal.invariant.so x there c.in-Err.fault
    (subst (λ bs. IsTrue t.tells → IsStopped (ring_read t 0 bs) x.dinode bs c.loop-journal.marks c.in-Err.fault) c.deref.ensures.value c.in-Err.ensures.why)

pub returns-in-Err-clause-next : goal.returns-in-Err-clause-next
returns-in-Err-clause-next g c tells =
    let s = g.D.SharedDisk.state c.args.disk.now in
    let t = g.D.SharedDisk.state c.loop-journal.disk in
    let x = c.journal-item.result in
    let there : slice_get c.args.journals.now c.loop-journal.journal-index ≡ Some x = slice_get-get_or c.args.journals.now c.loop-journal.journal-index x c.loop-journal-test.true ∙ ap Some (sym c.journal-item.is) in
    next_on s t c.loop-journal.invariant.reads.same c.requires.idle tells c.args.journals.now c.requires.inside c.args.marks c.requires.fresh
    c.loop-journal.journal-index c.loop-journal.plans.items c.loop-journal.marks c.loop-journal.invariant.so x there c.in-Err.fault
    (subst (λ bs. IsTrue t.tells → IsStopped (ring_read t 0 bs) x.dinode bs c.loop-journal.marks c.in-Err.fault) c.deref.ensures.value c.in-Err.ensures.why)

pub returns-clause-made : goal.returns-clause-made
returns-clause-made g c tells =
    let s = g.D.SharedDisk.state c.args.disk.now in
    let so = c.loop-journal.invariant.so in
    let end : c.loop-journal.journal-index ≤ length c.args.journals.now = c.loop-journal.auto.journal-index-end in
    let all : length c.args.journals.now ≤ c.loop-journal.journal-index = c.loop-journal-test.false in
    let same : length c.loop-journal.plans.items ≡ c.loop-journal.journal-index = so.count in (
      are_plans s c.requires.idle tells c.args.journals.now c.requires.inside c.args.marks c.requires.fresh c.loop-journal.journal-index c.loop-journal.plans.items c.loop-journal.marks so end,
      omega (arith, end, all, same),
    )

pub loop-journal-preserved : goal.loop-journal-preserved
loop-journal-preserved g c =
    let s = g.D.SharedDisk.state c.args.disk.now in
    let t = g.D.SharedDisk.state c.loop-journal.disk in
    let x = c.journal-item.result in
    let p = c.in-Ok.plan in
    let before = c.loop-journal.invariant.reads in
    let now = c.in-Ok.ensures.reads in
    let there : slice_get c.args.journals.now c.loop-journal.journal-index ≡ Some x = slice_get-get_or c.args.journals.now c.loop-journal.journal-index x c.loop-journal-test.true ∙ ap Some (sym c.journal-item.is) in
    record {
      reads = record {
        same = now.same ∙ before.same;
        list = now.list ∙ before.list;
        later = λ i. let a = before.later i in let b = now.later i in omega (arith, a, b);
      };
      so = so_on s t before.same c.args.marks c.args.journals.now c.loop-journal.journal-index c.loop-journal.plans.items c.push.new.self.items c.loop-journal.marks c.plan_journal.new.marks
          c.loop-journal.invariant.so x p there c.in-Ok.ensures.length c.in-Ok.ensures.writable c.in-Ok.ensures.free
          (subst (λ bs. IsTrue t.tells → IsPlanOf (ring_read t 0 bs) p) c.deref.ensures.value c.in-Ok.ensures.plan) c.in-Ok.ensures.marks c.in-Ok-push.ensures.items;
    }

pub returns-clause-plans : goal.returns-clause-plans
returns-clause-plans g c tells l its found marked =
    let s = g.D.SharedDisk.state c.args.disk.now in
    let end : c.loop-journal.journal-index ≤ length c.args.journals.now = c.loop-journal.auto.journal-index-end in
    let all : length c.args.journals.now ≤ c.loop-journal.journal-index = c.loop-journal-test.false in
    is_replayed s c.requires.idle tells l its c.args.journals.now found c.args.marks marked c.loop-journal.journal-index c.loop-journal.plans.items c.loop-journal.marks c.loop-journal.invariant.so (omega (arith, end, all))
