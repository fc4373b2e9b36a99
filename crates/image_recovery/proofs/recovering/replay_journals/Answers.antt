use Rattle.std.proofs.Common.{◌≡◌, ◌+◌, ◌<◌, List, take, refl, sym, ap, subst, subst₂, ◌∙◌, arith}
use Rattle.std.proofs.lemmas.List.{take_all}
use Rattle.image_mount.specs.Mounted.{Journal}
use Rattle.disk_items.specs.Deeds.{AreTold}
use Rattle.disk_turns.specs.Turns.{Moment, moment}
use Rattle.journal_replays.specs.Crashes.{HasCrashed, StopsByCrash}
use Rattle.journal_replays.specs.Replays.{CanReplay, HasFailed, HasReplayed}
use Rattle.image_recovery.specs.Recoveries.{AreHeadersRead, AreReplays, HaveReplayed}
use Rattle.image_recovery.proofs.Crashing.{crashed_next}
use Rattle.image_recovery.proofs.Recovered.{as_many, at_item, below_all, can_at, can_same, failed_next, replayed_next, same_on, starved_next}
use Rattle.image_recovery.proofs.recovering.replay_journals.Goals as goal

pub bounds-journals-place : goal.bounds-journals-place
bounds-journals-place g c = below_all (g.D.SharedDisk.state c.args.disk.now) c.args.journals.now c.args.plans.now c.loop-place.place c.requires.can c.loop-place-test.true

pub headers_are_read-requires-clause-can : goal.headers_are_read-requires-clause-can
headers_are_read-requires-clause-can g c = (g.D.SharedDisk.state c.args.disk.now, c.requires.can)

pub replay_journal-requires-clause-can : goal.replay_journal-requires-clause-can
replay_journal-requires-clause-can g c =
    let d = g.D.SharedDisk.state c.args.disk.now in
    let now = g.D.SharedDisk.state c.loop-place.disk in
    let journals = c.args.journals.now in
    let low = below_all d journals c.args.plans.now c.loop-place.place c.requires.can c.loop-place-test.true in
    let at_journal = at_item journals journals c.loop-place.place c.index-journals-place.result refl low c.index-journals-place.is in
    let at_plan = at_item c.args.plans.now c.args.plans.now c.loop-place.place c.index-plans-place.result refl c.loop-place-test.true c.index-plans-place.is in
    let blocks = c.deref.ensures.value ∙ ap (λ (j : Journal). j.blocks) c.journal.view_is in
    subst (λ bs. CanReplay now bs c.index-plans-place.result) (sym blocks)
    (can_same d now c.index-journals-place.result.blocks c.index-plans-place.result c.loop-place.invariant.same (can_at d journals c.args.plans.now c.loop-place.place c.index-journals-place.result c.index-plans-place.result c.requires.can at_journal at_plan))

pub returns-in-Err-clause-failed : goal.returns-in-Err-clause-failed
returns-in-Err-clause-failed g c =
    let d = g.D.SharedDisk.state c.args.disk.now in
    let now = moment (g.D.SharedDisk.state c.loop-place.disk) (g.D.SharedDisk.list c.loop-place.disk) in
    let next = moment (g.D.SharedDisk.state c.replay_journal.new.disk) (g.D.SharedDisk.list c.replay_journal.new.disk) in
    let journals = c.args.journals.now in
    let journal = c.index-journals-place.result in
    let low = below_all d journals c.args.plans.now c.loop-place.place c.requires.can c.loop-place-test.true in
    let at_journal = at_item journals journals c.loop-place.place journal refl low c.index-journals-place.is in
    let at_plan = at_item c.args.plans.now c.args.plans.now c.loop-place.place c.index-plans-place.result refl c.loop-place-test.true c.index-plans-place.is in
    let blocks = c.deref.ensures.value ∙ ap (λ (j : Journal). j.blocks) c.journal.view_is in
    let dinode = ap (λ (j : Journal). j.dinode) c.journal.view_is in
    failed_next c.in-Err.fault _ _
    (λ block is. record {
      count = c.loop-place.place;
      between = now;
      its_items = c.loop-place.items.items;
      replayed = c.loop-place.invariant.replayed;
      journal = journal;
      plan = c.index-plans-place.result;
      at_journal = at_journal;
      at_plan = at_plan;
      failed = subst (λ bs. HasFailed c.args.node (c.loop-place.place + 1) journal.dinode bs c.args.time now next c.index-plans-place.result c.loop-place.items.items c.replay_journal.new.items.items block) blocks
          (subst (λ n. HasFailed c.args.node (c.loop-place.place + 1) n c.deref.result.now c.args.time now next c.index-plans-place.result c.loop-place.items.items c.replay_journal.new.items.items block) dinode is);
    })
    c.in-Err.ensures.failed

pub returns-in-Err-clause-crashed : goal.returns-in-Err-clause-crashed
returns-in-Err-clause-crashed g c =
    let d = g.D.SharedDisk.state c.args.disk.now in
    let now = moment (g.D.SharedDisk.state c.loop-place.disk) (g.D.SharedDisk.list c.loop-place.disk) in
    let next = moment (g.D.SharedDisk.state c.replay_journal.new.disk) (g.D.SharedDisk.list c.replay_journal.new.disk) in
    let journals = c.args.journals.now in
    let journal = c.index-journals-place.result in
    let low = below_all d journals c.args.plans.now c.loop-place.place c.requires.can c.loop-place-test.true in
    let at_journal = at_item journals journals c.loop-place.place journal refl low c.index-journals-place.is in
    let at_plan = at_item c.args.plans.now c.args.plans.now c.loop-place.place c.index-plans-place.result refl c.loop-place-test.true c.index-plans-place.is in
    let blocks = c.deref.ensures.value ∙ ap (λ (j : Journal). j.blocks) c.journal.view_is in
    let dinode = ap (λ (j : Journal). j.dinode) c.journal.view_is in
    crashed_next c.in-Err.fault
    (λ is. record {
      count = c.loop-place.place;
      between = now;
      its_items = c.loop-place.items.items;
      replayed = c.loop-place.invariant.replayed;
      journal = journal;
      plan = c.index-plans-place.result;
      at_journal = at_journal;
      at_plan = at_plan;
      crashed = subst (λ bs. HasCrashed c.args.node (c.loop-place.place + 1) journal.dinode bs c.args.time now next c.index-plans-place.result c.loop-place.items.items c.replay_journal.new.items.items) blocks
          (subst (λ n. HasCrashed c.args.node (c.loop-place.place + 1) n c.deref.result.now c.args.time now next c.index-plans-place.result c.loop-place.items.items c.replay_journal.new.items.items) dinode is);
    })
    c.in-Err.ensures.crashed

pub returns-in-Err-clause-by_crash : goal.returns-in-Err-clause-by_crash
returns-in-Err-clause-by_crash g c = subst (λ o. StopsByCrash c.args.node o c.replay_journal.new.items.items c.in-Err.fault) c.loop-place.invariant.crash c.in-Err.ensures.by_crash

pub returns-in-Err-clause-some : goal.returns-in-Err-clause-some
returns-in-Err-clause-some g c =
    let first = moment (g.D.SharedDisk.state c.args.disk.now) (g.D.SharedDisk.list c.args.disk.now) in
    let journals = c.args.journals.now in
    starved_next c.in-Err.fault
    (λ still. record {
      count = c.loop-place.place;
      replayed = let so = c.loop-place.invariant.replayed in
          record {
            added = so.added;
            are = still.2 ∙ so.are;
            replays = subst (λ (m : Moment). AreReplays c.args.node 1 c.args.time first (take c.loop-place.place journals) (take c.loop-place.place c.args.plans.now) m so.added) (λ i. moment (sym still.0 i) (sym still.1 i)) so.replays;
            told = subst (λ o. AreTold first.list o so.added) (sym still.1) so.told;
          };
    })
    c.in-Err.ensures.untouched

pub loop-place-preserved : goal.loop-place-preserved
loop-place-preserved g c =
    let d = g.D.SharedDisk.state c.args.disk.now in
    let first = moment d (g.D.SharedDisk.list c.args.disk.now) in
    let now = moment (g.D.SharedDisk.state c.loop-place.disk) (g.D.SharedDisk.list c.loop-place.disk) in
    let next = moment (g.D.SharedDisk.state c.replay_journal.new.disk) (g.D.SharedDisk.list c.replay_journal.new.disk) in
    let so = c.loop-place.invariant in
    let journals = c.args.journals.now in
    let journal = c.index-journals-place.result in
    let plan = c.index-plans-place.result in
    let low = below_all d journals c.args.plans.now c.loop-place.place c.requires.can c.loop-place-test.true in
    let at_journal = at_item journals journals c.loop-place.place journal refl low c.index-journals-place.is in
    let at_plan = at_item c.args.plans.now c.args.plans.now c.loop-place.place plan refl c.loop-place-test.true c.index-plans-place.is in
    let blocks = c.deref.ensures.value ∙ ap (λ (j : Journal). j.blocks) c.journal.view_is in
    let dinode = ap (λ (j : Journal). j.dinode) c.journal.view_is in
    record {
      replayed = replayed_next journals c.args.plans.now c.loop-place.place journal plan at_journal at_plan c.args.node c.args.time first now next (c.loop-place.place + 1) c.args.items.now.items c.loop-place.items.items
          c.replay_journal.new.items.items refl so.replayed
          (subst (λ bs. HasReplayed c.args.node (c.loop-place.place + 1) journal.dinode bs c.args.time now next plan c.loop-place.items.items c.replay_journal.new.items.items) blocks
          (subst (λ n. HasReplayed c.args.node (c.loop-place.place + 1) n c.deref.result.now c.args.time now next plan c.loop-place.items.items c.replay_journal.new.items.items) dinode c.in-Ok.ensures.replayed));
      same = same_on d now.disk next.disk so.same c.in-Ok.ensures.disk;
      idle = c.in-Ok.ensures.idle;
      crash = c.in-Ok.ensures.left ∙ so.crash;
      awaits = c.in-Ok.ensures.awaits;
      later = λ i. let before = so.later i in let more = c.in-Ok.ensures.later i in omega (arith, before, more);
    }

pub returns-clause-replayed : goal.returns-clause-replayed
returns-clause-replayed g c =
    let first = moment (g.D.SharedDisk.state c.args.disk.now) (g.D.SharedDisk.list c.args.disk.now) in
    let now = moment (g.D.SharedDisk.state c.loop-place.disk) (g.D.SharedDisk.list c.loop-place.disk) in
    let many = as_many first.disk c.args.journals.now c.args.plans.now c.requires.can in
    subst₂ (λ js ps. HaveReplayed c.args.node c.args.time first now js ps c.args.items.now.items c.loop-place.items.items)
    (take_all c.loop-place.place c.args.journals.now (omega (arith, many, c.loop-place-test.false))) (take_all c.loop-place.place c.args.plans.now (omega (arith, c.loop-place-test.false))) c.loop-place.invariant.replayed

pub returns-clause-headers : goal.returns-clause-headers
returns-clause-headers g c = subst (λ n. AreHeadersRead n 1 c.args.time c.args.journals.now c.args.plans.now) c.block_size.ensures c.headers_are_read.ensures

pub returns-in-Err-clause-headers : goal.returns-in-Err-clause-headers
returns-in-Err-clause-headers g c = subst (λ n. AreHeadersRead n 1 c.args.time c.args.journals.now c.args.plans.now) c.block_size.ensures c.headers_are_read.ensures
