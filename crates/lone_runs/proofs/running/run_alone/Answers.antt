use Rattle.std.proofs.Common.{◌<◌, ◌≤◌, ◌^◌, List, Err, refl, sym, ap, subst, ◌∙◌, arith}
use Rattle.std.specs.Prelude.{IfErr}
use Rattle.std.specs.List.{All, AllByRecursion}
use Rattle.std.proofs.lemmas.Result.{err_from_is_err_and}
use Rattle.disk_turns.specs.Turns.{moment}
use Rattle.gfs2_layout.specs.Device.{IsBlockSize}
use Rattle.image_mount.specs.Mounted.{Journal}
use Rattle.image_recovery.specs.Recoveries.{HaveReplayed}
use Rattle.journal_replays.specs.Crashes.{crash_of}
use Rattle.logged_scripts.specs.Nodes.{point_of}
use Rattle.logged_scripts.specs.declared.ends.RunEnd.TheVariants as script
use Rattle.lone_fences.specs.Ends as fences
use Rattle.lone_scripts.specs.Runs.{IsLoneRun, not_begun}
use Rattle.script_lang.specs.Script.{ScriptValue}
use Rattle.script_lang.specs.declared.script.Armed.{Armed}
use Rattle.trace_text.specs.declared.item.TraceItem.{TraceItem}
use Rattle.lone_runs.specs.Ends.{HasCause}
use Rattle.lone_runs.specs.declared.ends.RunEnd.TheVariants as end
use Rattle.lone_runs.proofs.Alone.{Goes, IsCaused, crash_is, crash_there, crash_when, fail_there, fail_when, failed_goes, failed_lone, fence_caused, fence_lone, fence_same, fence_whole, fenced_as, fenced_goes, goes_nowhere, goes_through, goes_to_end, lack_there, lack_when, owns, places_inside, ran_same, run_is_free, script_caused, starved_goes, starved_lone, there_same, unfenced_goes, unfenced_lone, unfenced_same}
use Rattle.lone_runs.proofs.Begun.{has_begun, same_crash, starts_there}
use Rattle.lone_runs.proofs.Disks.{failed_same, some_same}
use Rattle.lone_runs.proofs.running.run_alone.Goals as goal

pub returns-in_err-node-clause-goes : goal.returns-in_err-node-clause-goes
returns-in_err-node-clause-goes g c =
    let d = g.D.SharedDisk.state c.args.disk.now in
    let list = g.D.SharedDisk.list c.args.disk.now in
    let before = moment d list in
    let s = c.args.script.now in
    let journals = c.args.journals.now in
    let plans = c.args.plans.now in
    let own = c.index-journals-0.result in
    let plan = c.index-plans-0.result in
    let its = owns d journals plans own plan c.requires.some c.requires.given.can c.index-journals-0.is c.index-plans-0.is in
    let p = err_from_is_err_and c.from_residual.result c.from_residual.ensures.1 in
    goes_nowhere s c.args.time c.args.frames before c.args.view journals plans own plan its c.args.items.now.items c.from_residual.result c.in_err-node.field-0.0 (p.1 ∙ ap Err p.2) c.requires.none c.in_err-node.ensures.not

pub returns-in_err-node-clause-lone : goal.returns-in_err-node-clause-lone
returns-in_err-node-clause-lone g c =
    (0, subst (IsLoneRun c.args.script.now 0) (sym c.requires.none) not_begun)

pub returns-in_err-join-clause-goes : goal.returns-in_err-join-clause-goes
returns-in_err-join-clause-goes g c =
    let d = g.D.SharedDisk.state c.args.disk.now in
    let list = g.D.SharedDisk.list c.args.disk.now in
    let before = moment d list in
    let s = c.args.script.now in
    let journals = c.args.journals.now in
    let plans = c.args.plans.now in
    let own = c.index-journals-0.result in
    let plan = c.index-plans-0.result in
    let its = owns d journals plans own plan c.requires.some c.requires.given.can c.index-journals-0.is c.index-plans-0.is in
    let p = err_from_is_err_and c.from_residual-in_err-join.result c.from_residual-in_err-join.ensures.1 in
    goes_nowhere s c.args.time c.args.frames before c.args.view journals plans own plan its c.join.new.items.items c.from_residual-in_err-join.result (end.Script script.NoMemory) (p.1 ∙ ap Err p.2) c.in_err-join.ensures.none refl

pub returns-in_err-join-clause-lone : goal.returns-in_err-join-clause-lone
returns-in_err-join-clause-lone g c =
    (0, subst (IsLoneRun c.args.script.now 0) (sym c.in_err-join.ensures.none) not_begun)

pub returns-in_err-join-clause-cause : goal.returns-in_err-join-clause-cause
returns-in_err-join-clause-cause g c own plan is =
    let p = err_from_is_err_and c.from_residual-in_err-join.result c.from_residual-in_err-join.ensures.1 in
    subst (λ r. IfErr r (HasCause (g.D.SharedDisk.state c.args.disk.now).count own.blocks (g.D.SharedDisk.faults c.args.disk.now) (g.D.SharedDisk.faults c.args.disk.now))) (sym (p.1 ∙ ap Err p.2)) tt

pub writes_left-armed-requires : goal.writes_left-armed-requires
writes_left-armed-requires g c =
    record { before = subst (AllByRecursion (λ (a : Armed). 1 ≤ a.write)) (sym (c.deref.ensures.value ∙ ap (λ (s : ScriptValue). s.armed) c.script.view_is)) c.requires.armed }

pub carry_out-requires-clause-begun : goal.carry_out-requires-clause-begun
carry_out-requires-clause-begun g c =
    let d = g.D.SharedDisk.state c.args.disk.now in
    let list = g.D.SharedDisk.list c.args.disk.now in
    let before = moment d list in
    let s = c.args.script.now in
    let journals = c.args.journals.now in
    let plans = c.args.plans.now in
    let own = c.index-journals-0.result in
    let plan = c.index-plans-0.result in
    let now = g.D.SharedDisk.state c.replay_journals.new.disk in
    let now_list = g.D.SharedDisk.list c.replay_journals.new.disk in
    let there = moment now now_list in
    let told = c.replay_journals.new.items.items in
    let left = c.writes_left-armed.result in
    let armed_is = c.deref.ensures.value ∙ ap (λ (x : ScriptValue). x.armed) c.script.view_is in
    let first = c.join.new.items.items in
    let crash = crash_of 1 left first in
    let crash_so = crash_is s left first c.deref.result.now c.in_ok-join.ensures.joined armed_is c.writes_left-armed.ensures.crash in
    let same = c.in-Ok.ensures.disk in
    let low : d.count < 2 ^ 64 = omega (arith, c.blocks-count.type_inv, c.blocks-count.ensures.value, same.count) in
    let have = subst (λ (xs : List TraceItem). HaveReplayed 1 c.args.time before there journals plans xs told) c.in_ok-join.ensures.joined c.in-Ok.ensures.replayed in
    has_begun d now c.args.view journals plans own plan c.args.time c.args.frames c.requires.given same c.in-Ok.ensures.idle c.in_ok-node.ensures.has c.ranges.time.fits low c.in_ok-node.node c.in_ok-node.ensures.new c.in-Ok.left c.in-Ok.ensures.awaits
    c.replay_journals.new.items s before now_list have (sym (same_crash c.in-Ok.left told) ∙ c.in-Ok.ensures.left ∙ crash_so)

pub returns-in-Ok-carry_out-clause-goes : goal.returns-in-Ok-carry_out-clause-goes
returns-in-Ok-carry_out-clause-goes g c =
    let d = g.D.SharedDisk.state c.args.disk.now in
    let list = g.D.SharedDisk.list c.args.disk.now in
    let before = moment d list in
    let s = c.args.script.now in
    let journals = c.args.journals.now in
    let plans = c.args.plans.now in
    let own = c.index-journals-0.result in
    let plan = c.index-plans-0.result in
    let its = owns d journals plans own plan c.requires.some c.requires.given.can c.index-journals-0.is c.index-plans-0.is in
    let now = g.D.SharedDisk.state c.replay_journals.new.disk in
    let now_list = g.D.SharedDisk.list c.replay_journals.new.disk in
    let there = moment now now_list in
    let told = c.replay_journals.new.items.items in
    let same = c.in-Ok.ensures.disk in
    let low : d.count < 2 ^ 64 = omega (arith, c.blocks-count.type_inv, c.blocks-count.ensures.value, same.count) in
    let have = subst (λ (xs : List TraceItem). HaveReplayed 1 c.args.time before there journals plans xs told) c.in_ok-join.ensures.joined c.in-Ok.ensures.replayed in
    let from = point_of now now_list (record c.in_ok-node.node { armed = c.in-Ok.left; items = c.replay_journals.new.items }) in
    let starts = starts_there d now c.args.view journals plans own plan c.args.time c.args.frames c.requires.given same c.in-Ok.ensures.idle c.in_ok-node.ensures.has c.ranges.time.fits low c.in_ok-node.node c.in_ok-node.ensures.new c.in-Ok.left
    c.in-Ok.ensures.awaits c.replay_journals.new.items now_list in
    let after = moment (g.D.SharedDisk.state c.carry_out.new.disk) (g.D.SharedDisk.list c.carry_out.new.disk) in
    goes_through s c.args.time c.args.frames before c.args.view journals plans own plan its there told have c.blocks-count.ensures.sound from starts after c.carry_out.new.items.items c.in-Ok-carry_out.field-0 c.in-Ok-carry_out.ensures.run

pub returns-in-Ok-carry_out-clause-disk : goal.returns-in-Ok-carry_out-clause-disk
returns-in-Ok-carry_out-clause-disk g c =
    let d = g.D.SharedDisk.state c.args.disk.now in
    let list = g.D.SharedDisk.list c.args.disk.now in
    let before = moment d list in
    let s = c.args.script.now in
    let journals = c.args.journals.now in
    let plans = c.args.plans.now in
    let own = c.index-journals-0.result in
    let plan = c.index-plans-0.result in
    let its = owns d journals plans own plan c.requires.some c.requires.given.can c.index-journals-0.is c.index-plans-0.is in
    let now = g.D.SharedDisk.state c.replay_journals.new.disk in
    let now_list = g.D.SharedDisk.list c.replay_journals.new.disk in
    let there = moment now now_list in
    let told = c.replay_journals.new.items.items in
    let same = c.in-Ok.ensures.disk in
    let low : d.count < 2 ^ 64 = omega (arith, c.blocks-count.type_inv, c.blocks-count.ensures.value, same.count) in
    let have = subst (λ (xs : List TraceItem). HaveReplayed 1 c.args.time before there journals plans xs told) c.in_ok-join.ensures.joined c.in-Ok.ensures.replayed in
    let from = point_of now now_list (record c.in_ok-node.node { armed = c.in-Ok.left; items = c.replay_journals.new.items }) in
    let starts = starts_there d now c.args.view journals plans own plan c.args.time c.args.frames c.requires.given same c.in-Ok.ensures.idle c.in_ok-node.ensures.has c.ranges.time.fits low c.in_ok-node.node c.in_ok-node.ensures.new c.in-Ok.left
    c.in-Ok.ensures.awaits c.replay_journals.new.items now_list in
    let after = moment (g.D.SharedDisk.state c.carry_out.new.disk) (g.D.SharedDisk.list c.carry_out.new.disk) in
    ran_same s c.args.time c.args.frames before c.args.view journals plans own plan its there told have c.blocks-count.ensures.sound from starts after c.carry_out.new.items.items c.requires.given.idle.none_in_flight _ c.in-Ok-carry_out.ensures.run

pub returns-in-Ok-clause-goes : goal.returns-in-Ok-clause-goes
returns-in-Ok-clause-goes g c =
    let d = g.D.SharedDisk.state c.args.disk.now in
    let list = g.D.SharedDisk.list c.args.disk.now in
    let before = moment d list in
    let s = c.args.script.now in
    let journals = c.args.journals.now in
    let plans = c.args.plans.now in
    let own = c.index-journals-0.result in
    let plan = c.index-plans-0.result in
    let its = owns d journals plans own plan c.requires.some c.requires.given.can c.index-journals-0.is c.index-plans-0.is in
    let now = g.D.SharedDisk.state c.replay_journals.new.disk in
    let now_list = g.D.SharedDisk.list c.replay_journals.new.disk in
    let there = moment now now_list in
    let told = c.replay_journals.new.items.items in
    let same = c.in-Ok.ensures.disk in
    let low : d.count < 2 ^ 64 = omega (arith, c.blocks-count.type_inv, c.blocks-count.ensures.value, same.count) in
    let have = subst (λ (xs : List TraceItem). HaveReplayed 1 c.args.time before there journals plans xs told) c.in_ok-join.ensures.joined c.in-Ok.ensures.replayed in
    let from = point_of now now_list (record c.in_ok-node.node { armed = c.in-Ok.left; items = c.replay_journals.new.items }) in
    let starts = starts_there d now c.args.view journals plans own plan c.args.time c.args.frames c.requires.given same c.in-Ok.ensures.idle c.in_ok-node.ensures.has c.ranges.time.fits low c.in_ok-node.node c.in_ok-node.ensures.new c.in-Ok.left
    c.in-Ok.ensures.awaits c.replay_journals.new.items now_list in
    let after = moment (g.D.SharedDisk.state c.carry_out.new.disk) (g.D.SharedDisk.list c.carry_out.new.disk) in
    goes_to_end s c.args.time c.args.frames before c.args.view journals plans own plan its there told have c.blocks-count.ensures.sound from starts after c.carry_out.new.items.items c.in-Err.end c.in-Err.ensures.run

pub returns-in-Ok-clause-disk : goal.returns-in-Ok-clause-disk
returns-in-Ok-clause-disk g c =
    let d = g.D.SharedDisk.state c.args.disk.now in
    let list = g.D.SharedDisk.list c.args.disk.now in
    let before = moment d list in
    let s = c.args.script.now in
    let journals = c.args.journals.now in
    let plans = c.args.plans.now in
    let own = c.index-journals-0.result in
    let plan = c.index-plans-0.result in
    let its = owns d journals plans own plan c.requires.some c.requires.given.can c.index-journals-0.is c.index-plans-0.is in
    let now = g.D.SharedDisk.state c.replay_journals.new.disk in
    let now_list = g.D.SharedDisk.list c.replay_journals.new.disk in
    let there = moment now now_list in
    let told = c.replay_journals.new.items.items in
    let same = c.in-Ok.ensures.disk in
    let low : d.count < 2 ^ 64 = omega (arith, c.blocks-count.type_inv, c.blocks-count.ensures.value, same.count) in
    let have = subst (λ (xs : List TraceItem). HaveReplayed 1 c.args.time before there journals plans xs told) c.in_ok-join.ensures.joined c.in-Ok.ensures.replayed in
    let from = point_of now now_list (record c.in_ok-node.node { armed = c.in-Ok.left; items = c.replay_journals.new.items }) in
    let starts = starts_there d now c.args.view journals plans own plan c.args.time c.args.frames c.requires.given same c.in-Ok.ensures.idle c.in_ok-node.ensures.has c.ranges.time.fits low c.in_ok-node.node c.in_ok-node.ensures.new c.in-Ok.left
    c.in-Ok.ensures.awaits c.replay_journals.new.items now_list in
    let after = moment (g.D.SharedDisk.state c.carry_out.new.disk) (g.D.SharedDisk.list c.carry_out.new.disk) in
    ran_same s c.args.time c.args.frames before c.args.view journals plans own plan its there told have c.blocks-count.ensures.sound from starts after c.carry_out.new.items.items c.requires.given.idle.none_in_flight _ c.in-Err.ensures.run

pub returns-in-Ok-clause-cause : goal.returns-in-Ok-clause-cause
returns-in-Ok-clause-cause g c =
    let d = g.D.SharedDisk.state c.args.disk.now in
    let list = g.D.SharedDisk.list c.args.disk.now in
    let before = moment d list in
    let s = c.args.script.now in
    let journals = c.args.journals.now in
    let plans = c.args.plans.now in
    let own = c.index-journals-0.result in
    let plan = c.index-plans-0.result in
    let its = owns d journals plans own plan c.requires.some c.requires.given.can c.index-journals-0.is c.index-plans-0.is in
    let now = g.D.SharedDisk.state c.replay_journals.new.disk in
    let now_list = g.D.SharedDisk.list c.replay_journals.new.disk in
    let there = moment now now_list in
    let told = c.replay_journals.new.items.items in
    script_caused journals plans own plan its (g.D.SharedDisk.faults c.args.disk.now) (g.D.SharedDisk.faults c.replay_journals.new.disk) (g.D.SharedDisk.faults c.carry_out.new.disk) c.in-Ok.ensures.later d.count now.count
    c.in-Ok.ensures.disk.count c.in-Err.end c.in-Err.ensures.cause

pub fence_crashed-requires-clause-size : goal.fence_crashed-requires-clause-size
fence_crashed-requires-clause-size g c =
    let d = g.D.SharedDisk.state c.args.disk.now in
    let list = g.D.SharedDisk.list c.args.disk.now in
    let before = moment d list in
    let s = c.args.script.now in
    let journals = c.args.journals.now in
    let plans = c.args.plans.now in
    let own = c.index-journals-0.result in
    let plan = c.index-plans-0.result in
    let its = owns d journals plans own plan c.requires.some c.requires.given.can c.index-journals-0.is c.index-plans-0.is in
    let now = g.D.SharedDisk.state c.replay_journals.new.disk in
    let now_list = g.D.SharedDisk.list c.replay_journals.new.disk in
    let there = moment now now_list in
    let told = c.replay_journals.new.items.items in
    let left = c.writes_left-armed.result in
    let armed_is = c.deref.ensures.value ∙ ap (λ (x : ScriptValue). x.armed) c.script.view_is in
    let first = c.join.new.items.items in
    let crash = crash_of 1 left first in
    let crash_so = crash_is s left first c.deref.result.now c.in_ok-join.ensures.joined armed_is c.writes_left-armed.ensures.crash in
    let f = c.in-Err-Crashed.field-0 in
    let it = crash_there c.args.time before there journals plans first told c.in_ok-join.ensures.joined crash f c.in-Err-Crashed.field-0-is c.in-Err-Crashed.ensures.crashed in
    let at = crash_when c.args.time before there journals plans first told c.in_ok-join.ensures.joined crash f c.in-Err-Crashed.field-0-is c.in-Err-Crashed.ensures.by_crash in
    let one = there_same s c.args.time c.args.frames before c.args.view journals plans own plan its c.requires.armed c.requires.given.idle.none_in_flight there told crash crash_so it at there told in
    subst IsBlockSize (sym one.size) c.requires.given.sized

pub fence_crashed-requires-clause-free : goal.fence_crashed-requires-clause-free
fence_crashed-requires-clause-free g c =
    let d = g.D.SharedDisk.state c.args.disk.now in
    let list = g.D.SharedDisk.list c.args.disk.now in
    let before = moment d list in
    let s = c.args.script.now in
    let journals = c.args.journals.now in
    let plans = c.args.plans.now in
    let own = c.index-journals-0.result in
    let plan = c.index-plans-0.result in
    let its = owns d journals plans own plan c.requires.some c.requires.given.can c.index-journals-0.is c.index-plans-0.is in
    let now = g.D.SharedDisk.state c.replay_journals.new.disk in
    let now_list = g.D.SharedDisk.list c.replay_journals.new.disk in
    let there = moment now now_list in
    let told = c.replay_journals.new.items.items in
    let left = c.writes_left-armed.result in
    let armed_is = c.deref.ensures.value ∙ ap (λ (x : ScriptValue). x.armed) c.script.view_is in
    let first = c.join.new.items.items in
    let crash = crash_of 1 left first in
    let crash_so = crash_is s left first c.deref.result.now c.in_ok-join.ensures.joined armed_is c.writes_left-armed.ensures.crash in
    let f = c.in-Err-Crashed.field-0 in
    let it = crash_there c.args.time before there journals plans first told c.in_ok-join.ensures.joined crash f c.in-Err-Crashed.field-0-is c.in-Err-Crashed.ensures.crashed in
    let at = crash_when c.args.time before there journals plans first told c.in_ok-join.ensures.joined crash f c.in-Err-Crashed.field-0-is c.in-Err-Crashed.ensures.by_crash in
    let one = there_same s c.args.time c.args.frames before c.args.view journals plans own plan its c.requires.armed c.requires.given.idle.none_in_flight there told crash crash_so it at there told in
    run_is_free d now one c.requires.given.idle

pub fence_crashed-requires-clause-inside : goal.fence_crashed-requires-clause-inside
fence_crashed-requires-clause-inside g c =
    let d = g.D.SharedDisk.state c.args.disk.now in
    let list = g.D.SharedDisk.list c.args.disk.now in
    let before = moment d list in
    let s = c.args.script.now in
    let journals = c.args.journals.now in
    let plans = c.args.plans.now in
    let own = c.index-journals-0.result in
    let plan = c.index-plans-0.result in
    let its = owns d journals plans own plan c.requires.some c.requires.given.can c.index-journals-0.is c.index-plans-0.is in
    let now = g.D.SharedDisk.state c.replay_journals.new.disk in
    let now_list = g.D.SharedDisk.list c.replay_journals.new.disk in
    let there = moment now now_list in
    let told = c.replay_journals.new.items.items in
    let left = c.writes_left-armed.result in
    let armed_is = c.deref.ensures.value ∙ ap (λ (x : ScriptValue). x.armed) c.script.view_is in
    let first = c.join.new.items.items in
    let crash = crash_of 1 left first in
    let crash_so = crash_is s left first c.deref.result.now c.in_ok-join.ensures.joined armed_is c.writes_left-armed.ensures.crash in
    let f = c.in-Err-Crashed.field-0 in
    let it = crash_there c.args.time before there journals plans first told c.in_ok-join.ensures.joined crash f c.in-Err-Crashed.field-0-is c.in-Err-Crashed.ensures.crashed in
    let at = crash_when c.args.time before there journals plans first told c.in_ok-join.ensures.joined crash f c.in-Err-Crashed.field-0-is c.in-Err-Crashed.ensures.by_crash in
    let one = there_same s c.args.time c.args.frames before c.args.view journals plans own plan its c.requires.armed c.requires.given.idle.none_in_flight there told crash crash_so it at there told in
    let blocks_are = c.deref-in-Err-Crashed-2.ensures.value ∙ ap (λ (j : Journal). j.blocks) c.own.view_is in
    subst (λ bs. All (λ b. b < now.count) bs) (sym blocks_are) (subst (λ n. All (λ b. b < n) own.blocks) (sym one.count) (places_inside d.count d.size c.args.frames c.args.time own plan c.in_ok-node.ensures.has))

pub returns-in-Ok-fence_crashed-clause-goes : goal.returns-in-Ok-fence_crashed-clause-goes
returns-in-Ok-fence_crashed-clause-goes g c =
    let d = g.D.SharedDisk.state c.args.disk.now in
    let list = g.D.SharedDisk.list c.args.disk.now in
    let before = moment d list in
    let s = c.args.script.now in
    let journals = c.args.journals.now in
    let plans = c.args.plans.now in
    let own = c.index-journals-0.result in
    let plan = c.index-plans-0.result in
    let its = owns d journals plans own plan c.requires.some c.requires.given.can c.index-journals-0.is c.index-plans-0.is in
    let now = g.D.SharedDisk.state c.replay_journals.new.disk in
    let now_list = g.D.SharedDisk.list c.replay_journals.new.disk in
    let there = moment now now_list in
    let told = c.replay_journals.new.items.items in
    let left = c.writes_left-armed.result in
    let armed_is = c.deref.ensures.value ∙ ap (λ (x : ScriptValue). x.armed) c.script.view_is in
    let first = c.join.new.items.items in
    let crash = crash_of 1 left first in
    let crash_so = crash_is s left first c.deref.result.now c.in_ok-join.ensures.joined armed_is c.writes_left-armed.ensures.crash in
    let f = c.in-Err-Crashed.field-0 in
    let it = crash_there c.args.time before there journals plans first told c.in_ok-join.ensures.joined crash f c.in-Err-Crashed.field-0-is c.in-Err-Crashed.ensures.crashed in
    let at = crash_when c.args.time before there journals plans first told c.in_ok-join.ensures.joined crash f c.in-Err-Crashed.field-0-is c.in-Err-Crashed.ensures.by_crash in
    let after = moment (g.D.SharedDisk.state c.fence_crashed.new.disk) (g.D.SharedDisk.list c.fence_crashed.new.disk) in
    let blocks_are = c.deref-in-Err-Crashed-2.ensures.value ∙ ap (λ (j : Journal). j.blocks) c.own.view_is in
    let hf = fenced_as now after.disk now_list after.list told c.fence_crashed.new.items.items c.deref-in-Err-Crashed-2.result.now own.blocks c.own.inside.head.sequence own.head.sequence blocks_are (ap (λ (j : Journal). j.head.sequence) c.own.view_is)
    c.in-Ok-fence_crashed.ensures.fenced in
    fenced_goes s c.args.time c.args.frames before c.args.view journals plans own plan its c.requires.armed c.requires.given.idle.none_in_flight there told crash crash_so it at after c.fence_crashed.new.items.items hf

pub returns-in-Ok-fence_crashed-clause-disk : goal.returns-in-Ok-fence_crashed-clause-disk
returns-in-Ok-fence_crashed-clause-disk g c =
    let d = g.D.SharedDisk.state c.args.disk.now in
    let list = g.D.SharedDisk.list c.args.disk.now in
    let before = moment d list in
    let s = c.args.script.now in
    let journals = c.args.journals.now in
    let plans = c.args.plans.now in
    let own = c.index-journals-0.result in
    let plan = c.index-plans-0.result in
    let its = owns d journals plans own plan c.requires.some c.requires.given.can c.index-journals-0.is c.index-plans-0.is in
    let now = g.D.SharedDisk.state c.replay_journals.new.disk in
    let now_list = g.D.SharedDisk.list c.replay_journals.new.disk in
    let there = moment now now_list in
    let told = c.replay_journals.new.items.items in
    let left = c.writes_left-armed.result in
    let armed_is = c.deref.ensures.value ∙ ap (λ (x : ScriptValue). x.armed) c.script.view_is in
    let first = c.join.new.items.items in
    let crash = crash_of 1 left first in
    let crash_so = crash_is s left first c.deref.result.now c.in_ok-join.ensures.joined armed_is c.writes_left-armed.ensures.crash in
    let f = c.in-Err-Crashed.field-0 in
    let it = crash_there c.args.time before there journals plans first told c.in_ok-join.ensures.joined crash f c.in-Err-Crashed.field-0-is c.in-Err-Crashed.ensures.crashed in
    let at = crash_when c.args.time before there journals plans first told c.in_ok-join.ensures.joined crash f c.in-Err-Crashed.field-0-is c.in-Err-Crashed.ensures.by_crash in
    let after = moment (g.D.SharedDisk.state c.fence_crashed.new.disk) (g.D.SharedDisk.list c.fence_crashed.new.disk) in
    let blocks_are = c.deref-in-Err-Crashed-2.ensures.value ∙ ap (λ (j : Journal). j.blocks) c.own.view_is in
    let hf = fenced_as now after.disk now_list after.list told c.fence_crashed.new.items.items c.deref-in-Err-Crashed-2.result.now own.blocks c.own.inside.head.sequence own.head.sequence blocks_are (ap (λ (j : Journal). j.head.sequence) c.own.view_is)
    c.in-Ok-fence_crashed.ensures.fenced in
    fence_same s c.args.time c.args.frames before c.args.view journals plans own plan its c.requires.armed c.requires.given.idle.none_in_flight there told crash crash_so it at after c.fence_crashed.new.items.items hf

pub returns-in-Ok-fence_crashed-clause-lone : goal.returns-in-Ok-fence_crashed-clause-lone
returns-in-Ok-fence_crashed-clause-lone g c =
    let d = g.D.SharedDisk.state c.args.disk.now in
    let list = g.D.SharedDisk.list c.args.disk.now in
    let before = moment d list in
    let s = c.args.script.now in
    let journals = c.args.journals.now in
    let plans = c.args.plans.now in
    let own = c.index-journals-0.result in
    let plan = c.index-plans-0.result in
    let its = owns d journals plans own plan c.requires.some c.requires.given.can c.index-journals-0.is c.index-plans-0.is in
    let now = g.D.SharedDisk.state c.replay_journals.new.disk in
    let now_list = g.D.SharedDisk.list c.replay_journals.new.disk in
    let there = moment now now_list in
    let told = c.replay_journals.new.items.items in
    let left = c.writes_left-armed.result in
    let armed_is = c.deref.ensures.value ∙ ap (λ (x : ScriptValue). x.armed) c.script.view_is in
    let first = c.join.new.items.items in
    let crash = crash_of 1 left first in
    let crash_so = crash_is s left first c.deref.result.now c.in_ok-join.ensures.joined armed_is c.writes_left-armed.ensures.crash in
    let f = c.in-Err-Crashed.field-0 in
    let it = crash_there c.args.time before there journals plans first told c.in_ok-join.ensures.joined crash f c.in-Err-Crashed.field-0-is c.in-Err-Crashed.ensures.crashed in
    let at = crash_when c.args.time before there journals plans first told c.in_ok-join.ensures.joined crash f c.in-Err-Crashed.field-0-is c.in-Err-Crashed.ensures.by_crash in
    let after = moment (g.D.SharedDisk.state c.fence_crashed.new.disk) (g.D.SharedDisk.list c.fence_crashed.new.disk) in
    let blocks_are = c.deref-in-Err-Crashed-2.ensures.value ∙ ap (λ (j : Journal). j.blocks) c.own.view_is in
    let hf = fenced_as now after.disk now_list after.list told c.fence_crashed.new.items.items c.deref-in-Err-Crashed-2.result.now own.blocks c.own.inside.head.sequence own.head.sequence blocks_are (ap (λ (j : Journal). j.head.sequence) c.own.view_is)
    c.in-Ok-fence_crashed.ensures.fenced in
    fence_lone s c.args.time c.args.frames before c.args.view journals plans own plan its c.requires.armed c.requires.given.idle.none_in_flight there told crash crash_so it at after c.fence_crashed.new.items.items hf

pub returns-in-Ok-fence_crashed-clause-whole : goal.returns-in-Ok-fence_crashed-clause-whole
returns-in-Ok-fence_crashed-clause-whole g c =
    let d = g.D.SharedDisk.state c.args.disk.now in
    let list = g.D.SharedDisk.list c.args.disk.now in
    let before = moment d list in
    let s = c.args.script.now in
    let journals = c.args.journals.now in
    let plans = c.args.plans.now in
    let own = c.index-journals-0.result in
    let plan = c.index-plans-0.result in
    let its = owns d journals plans own plan c.requires.some c.requires.given.can c.index-journals-0.is c.index-plans-0.is in
    let now = g.D.SharedDisk.state c.replay_journals.new.disk in
    let now_list = g.D.SharedDisk.list c.replay_journals.new.disk in
    let there = moment now now_list in
    let told = c.replay_journals.new.items.items in
    let left = c.writes_left-armed.result in
    let armed_is = c.deref.ensures.value ∙ ap (λ (x : ScriptValue). x.armed) c.script.view_is in
    let first = c.join.new.items.items in
    let crash = crash_of 1 left first in
    let crash_so = crash_is s left first c.deref.result.now c.in_ok-join.ensures.joined armed_is c.writes_left-armed.ensures.crash in
    let f = c.in-Err-Crashed.field-0 in
    let it = crash_there c.args.time before there journals plans first told c.in_ok-join.ensures.joined crash f c.in-Err-Crashed.field-0-is c.in-Err-Crashed.ensures.crashed in
    let at = crash_when c.args.time before there journals plans first told c.in_ok-join.ensures.joined crash f c.in-Err-Crashed.field-0-is c.in-Err-Crashed.ensures.by_crash in
    let after = moment (g.D.SharedDisk.state c.fence_crashed.new.disk) (g.D.SharedDisk.list c.fence_crashed.new.disk) in
    let blocks_are = c.deref-in-Err-Crashed-2.ensures.value ∙ ap (λ (j : Journal). j.blocks) c.own.view_is in
    let hf = fenced_as now after.disk now_list after.list told c.fence_crashed.new.items.items c.deref-in-Err-Crashed-2.result.now own.blocks c.own.inside.head.sequence own.head.sequence blocks_are (ap (λ (j : Journal). j.head.sequence) c.own.view_is)
    c.in-Ok-fence_crashed.ensures.fenced in
    fence_whole s c.args.time c.args.frames before c.args.view journals plans own plan its c.requires.armed c.requires.given.idle.none_in_flight there told crash crash_so it at after c.fence_crashed.new.items.items hf

pub returns-in-Err-Crashed-clause-goes : goal.returns-in-Err-Crashed-clause-goes
returns-in-Err-Crashed-clause-goes g c =
    let d = g.D.SharedDisk.state c.args.disk.now in
    let list = g.D.SharedDisk.list c.args.disk.now in
    let before = moment d list in
    let s = c.args.script.now in
    let journals = c.args.journals.now in
    let plans = c.args.plans.now in
    let own = c.index-journals-0.result in
    let plan = c.index-plans-0.result in
    let its = owns d journals plans own plan c.requires.some c.requires.given.can c.index-journals-0.is c.index-plans-0.is in
    let now = g.D.SharedDisk.state c.replay_journals.new.disk in
    let now_list = g.D.SharedDisk.list c.replay_journals.new.disk in
    let there = moment now now_list in
    let told = c.replay_journals.new.items.items in
    let left = c.writes_left-armed.result in
    let armed_is = c.deref.ensures.value ∙ ap (λ (x : ScriptValue). x.armed) c.script.view_is in
    let first = c.join.new.items.items in
    let crash = crash_of 1 left first in
    let crash_so = crash_is s left first c.deref.result.now c.in_ok-join.ensures.joined armed_is c.writes_left-armed.ensures.crash in
    let f = c.in-Err-Crashed.field-0 in
    let it = crash_there c.args.time before there journals plans first told c.in_ok-join.ensures.joined crash f c.in-Err-Crashed.field-0-is c.in-Err-Crashed.ensures.crashed in
    let at = crash_when c.args.time before there journals plans first told c.in_ok-join.ensures.joined crash f c.in-Err-Crashed.field-0-is c.in-Err-Crashed.ensures.by_crash in
    let after = moment (g.D.SharedDisk.state c.fence_crashed.new.disk) (g.D.SharedDisk.list c.fence_crashed.new.disk) in
    let blocks_are = c.deref-in-Err-Crashed-2.ensures.value ∙ ap (λ (j : Journal). j.blocks) c.own.view_is in
    subst (λ e. Goes s c.args.time c.args.frames before c.args.view journals plans after c.fence_crashed.new.items.items (Err (end.Script e))) (sym c.end_of_fence.ensures)
    (unfenced_goes s c.args.time c.args.frames before c.args.view journals plans own plan its c.requires.armed c.requires.given.idle.none_in_flight there told crash crash_so it at after c.fence_crashed.new.items.items c.in-Err-fence_crashed.end c.in-Err-fence_crashed.ensures.ends)

pub returns-in-Err-Crashed-clause-disk : goal.returns-in-Err-Crashed-clause-disk
returns-in-Err-Crashed-clause-disk g c =
    let d = g.D.SharedDisk.state c.args.disk.now in
    let list = g.D.SharedDisk.list c.args.disk.now in
    let before = moment d list in
    let s = c.args.script.now in
    let journals = c.args.journals.now in
    let plans = c.args.plans.now in
    let own = c.index-journals-0.result in
    let plan = c.index-plans-0.result in
    let its = owns d journals plans own plan c.requires.some c.requires.given.can c.index-journals-0.is c.index-plans-0.is in
    let now = g.D.SharedDisk.state c.replay_journals.new.disk in
    let now_list = g.D.SharedDisk.list c.replay_journals.new.disk in
    let there = moment now now_list in
    let told = c.replay_journals.new.items.items in
    let left = c.writes_left-armed.result in
    let armed_is = c.deref.ensures.value ∙ ap (λ (x : ScriptValue). x.armed) c.script.view_is in
    let first = c.join.new.items.items in
    let crash = crash_of 1 left first in
    let crash_so = crash_is s left first c.deref.result.now c.in_ok-join.ensures.joined armed_is c.writes_left-armed.ensures.crash in
    let f = c.in-Err-Crashed.field-0 in
    let it = crash_there c.args.time before there journals plans first told c.in_ok-join.ensures.joined crash f c.in-Err-Crashed.field-0-is c.in-Err-Crashed.ensures.crashed in
    let at = crash_when c.args.time before there journals plans first told c.in_ok-join.ensures.joined crash f c.in-Err-Crashed.field-0-is c.in-Err-Crashed.ensures.by_crash in
    let after = moment (g.D.SharedDisk.state c.fence_crashed.new.disk) (g.D.SharedDisk.list c.fence_crashed.new.disk) in
    let blocks_are = c.deref-in-Err-Crashed-2.ensures.value ∙ ap (λ (j : Journal). j.blocks) c.own.view_is in
    unfenced_same s c.args.time c.args.frames before c.args.view journals plans own plan its c.requires.armed c.requires.given.idle.none_in_flight there told crash crash_so it at after c.fence_crashed.new.items.items c.in-Err-fence_crashed.end c.in-Err-fence_crashed.ensures.ends

pub returns-in-Err-Crashed-clause-lone : goal.returns-in-Err-Crashed-clause-lone
returns-in-Err-Crashed-clause-lone g c =
    let d = g.D.SharedDisk.state c.args.disk.now in
    let list = g.D.SharedDisk.list c.args.disk.now in
    let before = moment d list in
    let s = c.args.script.now in
    let journals = c.args.journals.now in
    let plans = c.args.plans.now in
    let own = c.index-journals-0.result in
    let plan = c.index-plans-0.result in
    let its = owns d journals plans own plan c.requires.some c.requires.given.can c.index-journals-0.is c.index-plans-0.is in
    let now = g.D.SharedDisk.state c.replay_journals.new.disk in
    let now_list = g.D.SharedDisk.list c.replay_journals.new.disk in
    let there = moment now now_list in
    let told = c.replay_journals.new.items.items in
    let left = c.writes_left-armed.result in
    let armed_is = c.deref.ensures.value ∙ ap (λ (x : ScriptValue). x.armed) c.script.view_is in
    let first = c.join.new.items.items in
    let crash = crash_of 1 left first in
    let crash_so = crash_is s left first c.deref.result.now c.in_ok-join.ensures.joined armed_is c.writes_left-armed.ensures.crash in
    let f = c.in-Err-Crashed.field-0 in
    let it = crash_there c.args.time before there journals plans first told c.in_ok-join.ensures.joined crash f c.in-Err-Crashed.field-0-is c.in-Err-Crashed.ensures.crashed in
    let at = crash_when c.args.time before there journals plans first told c.in_ok-join.ensures.joined crash f c.in-Err-Crashed.field-0-is c.in-Err-Crashed.ensures.by_crash in
    let after = moment (g.D.SharedDisk.state c.fence_crashed.new.disk) (g.D.SharedDisk.list c.fence_crashed.new.disk) in
    let blocks_are = c.deref-in-Err-Crashed-2.ensures.value ∙ ap (λ (j : Journal). j.blocks) c.own.view_is in
    unfenced_lone s c.args.time c.args.frames before c.args.view journals plans own plan its c.requires.armed c.requires.given.idle.none_in_flight there told crash crash_so it at after c.fence_crashed.new.items.items c.in-Err-fence_crashed.end c.in-Err-fence_crashed.ensures.ends

pub returns-in-Err-Crashed-clause-cause : goal.returns-in-Err-Crashed-clause-cause
returns-in-Err-Crashed-clause-cause g c =
    let d = g.D.SharedDisk.state c.args.disk.now in
    let list = g.D.SharedDisk.list c.args.disk.now in
    let before = moment d list in
    let s = c.args.script.now in
    let journals = c.args.journals.now in
    let plans = c.args.plans.now in
    let own = c.index-journals-0.result in
    let plan = c.index-plans-0.result in
    let its = owns d journals plans own plan c.requires.some c.requires.given.can c.index-journals-0.is c.index-plans-0.is in
    let blocks_are = c.deref-in-Err-Crashed-2.ensures.value ∙ ap (λ (j : Journal). j.blocks) c.own.view_is in
    let faults = g.D.SharedDisk.faults c.replay_journals.new.disk in
    let now = g.D.SharedDisk.faults c.fence_crashed.new.disk in
    subst (λ e. IsCaused journals plans d.count (g.D.SharedDisk.faults c.args.disk.now) now (end.Script e)) (sym c.end_of_fence.ensures)
    (fence_caused journals plans own plan its (g.D.SharedDisk.faults c.args.disk.now) faults now c.in-Err-Crashed.ensures.later d.count c.in-Err-fence_crashed.end
    (subst (λ bs. fences.HasCause bs faults now c.in-Err-fence_crashed.end) blocks_are c.in-Err-fence_crashed.ensures.cause))

pub returns-in-Err-DiskFailed-clause-goes : goal.returns-in-Err-DiskFailed-clause-goes
returns-in-Err-DiskFailed-clause-goes g c =
    let d = g.D.SharedDisk.state c.args.disk.now in
    let list = g.D.SharedDisk.list c.args.disk.now in
    let before = moment d list in
    let s = c.args.script.now in
    let journals = c.args.journals.now in
    let plans = c.args.plans.now in
    let own = c.index-journals-0.result in
    let plan = c.index-plans-0.result in
    let its = owns d journals plans own plan c.requires.some c.requires.given.can c.index-journals-0.is c.index-plans-0.is in
    let now = g.D.SharedDisk.state c.replay_journals.new.disk in
    let now_list = g.D.SharedDisk.list c.replay_journals.new.disk in
    let there = moment now now_list in
    let told = c.replay_journals.new.items.items in
    let left = c.writes_left-armed.result in
    let armed_is = c.deref.ensures.value ∙ ap (λ (x : ScriptValue). x.armed) c.script.view_is in
    let first = c.join.new.items.items in
    let crash = crash_of 1 left first in
    let crash_so = crash_is s left first c.deref.result.now c.in_ok-join.ensures.joined armed_is c.writes_left-armed.ensures.crash in
    let f = c.in-Err-DiskFailed.field-0 in
    let block = c.in-Err-DiskFailed.block in
    let rise = c.in-Err-DiskFailed.rise in
    let failed = fail_there c.args.time before there journals plans first told c.in_ok-join.ensures.joined crash f block rise c.in-Err-DiskFailed.field-0-is c.in-Err-DiskFailed.ensures.failed in
    let when = fail_when c.args.time before there journals plans first told c.in_ok-join.ensures.joined crash f block rise c.in-Err-DiskFailed.field-0-is c.in-Err-DiskFailed.ensures.by_crash in
    subst (λ e. Goes s c.args.time c.args.frames before c.args.view journals plans there told (Err e)) (λ i. end.ReplayFailed (sym c.in-Err-DiskFailed.block-is i) (sym c.in-Err-DiskFailed.rise-is i))
    (failed_goes s c.args.time c.args.frames before c.args.view journals plans own plan its c.requires.armed c.requires.given.idle.none_in_flight there told crash crash_so block failed when rise)

pub returns-in-Err-DiskFailed-clause-disk : goal.returns-in-Err-DiskFailed-clause-disk
returns-in-Err-DiskFailed-clause-disk g c =
    let d = g.D.SharedDisk.state c.args.disk.now in
    let list = g.D.SharedDisk.list c.args.disk.now in
    let before = moment d list in
    let s = c.args.script.now in
    let journals = c.args.journals.now in
    let plans = c.args.plans.now in
    let own = c.index-journals-0.result in
    let plan = c.index-plans-0.result in
    let now = g.D.SharedDisk.state c.replay_journals.new.disk in
    let now_list = g.D.SharedDisk.list c.replay_journals.new.disk in
    let there = moment now now_list in
    let told = c.replay_journals.new.items.items in
    let left = c.writes_left-armed.result in
    let armed_is = c.deref.ensures.value ∙ ap (λ (x : ScriptValue). x.armed) c.script.view_is in
    let first = c.join.new.items.items in
    let crash = crash_of 1 left first in
    let crash_so = crash_is s left first c.deref.result.now c.in_ok-join.ensures.joined armed_is c.writes_left-armed.ensures.crash in
    let f = c.in-Err-DiskFailed.field-0 in
    let block = c.in-Err-DiskFailed.block in
    let rise = c.in-Err-DiskFailed.rise in
    let failed = fail_there c.args.time before there journals plans first told c.in_ok-join.ensures.joined crash f block rise c.in-Err-DiskFailed.field-0-is c.in-Err-DiskFailed.ensures.failed in
    failed_same c.args.time before there journals plans told c.requires.given.idle.none_in_flight block failed

pub returns-in-Err-DiskFailed-clause-lone : goal.returns-in-Err-DiskFailed-clause-lone
returns-in-Err-DiskFailed-clause-lone g c =
    let d = g.D.SharedDisk.state c.args.disk.now in
    let list = g.D.SharedDisk.list c.args.disk.now in
    let before = moment d list in
    let s = c.args.script.now in
    let journals = c.args.journals.now in
    let plans = c.args.plans.now in
    let own = c.index-journals-0.result in
    let plan = c.index-plans-0.result in
    let its = owns d journals plans own plan c.requires.some c.requires.given.can c.index-journals-0.is c.index-plans-0.is in
    let now = g.D.SharedDisk.state c.replay_journals.new.disk in
    let now_list = g.D.SharedDisk.list c.replay_journals.new.disk in
    let there = moment now now_list in
    let told = c.replay_journals.new.items.items in
    let left = c.writes_left-armed.result in
    let armed_is = c.deref.ensures.value ∙ ap (λ (x : ScriptValue). x.armed) c.script.view_is in
    let first = c.join.new.items.items in
    let crash = crash_of 1 left first in
    let crash_so = crash_is s left first c.deref.result.now c.in_ok-join.ensures.joined armed_is c.writes_left-armed.ensures.crash in
    let f = c.in-Err-DiskFailed.field-0 in
    let block = c.in-Err-DiskFailed.block in
    let rise = c.in-Err-DiskFailed.rise in
    let failed = fail_there c.args.time before there journals plans first told c.in_ok-join.ensures.joined crash f block rise c.in-Err-DiskFailed.field-0-is c.in-Err-DiskFailed.ensures.failed in
    let when = fail_when c.args.time before there journals plans first told c.in_ok-join.ensures.joined crash f block rise c.in-Err-DiskFailed.field-0-is c.in-Err-DiskFailed.ensures.by_crash in
    failed_lone s c.args.time c.args.frames before c.args.view journals plans own plan its c.requires.armed c.requires.given.idle.none_in_flight there told crash crash_so block failed when

pub returns-clause-goes : goal.returns-clause-goes
returns-clause-goes g c =
    let d = g.D.SharedDisk.state c.args.disk.now in
    let list = g.D.SharedDisk.list c.args.disk.now in
    let before = moment d list in
    let s = c.args.script.now in
    let journals = c.args.journals.now in
    let plans = c.args.plans.now in
    let own = c.index-journals-0.result in
    let plan = c.index-plans-0.result in
    let its = owns d journals plans own plan c.requires.some c.requires.given.can c.index-journals-0.is c.index-plans-0.is in
    let now = g.D.SharedDisk.state c.replay_journals.new.disk in
    let now_list = g.D.SharedDisk.list c.replay_journals.new.disk in
    let there = moment now now_list in
    let told = c.replay_journals.new.items.items in
    let left = c.writes_left-armed.result in
    let armed_is = c.deref.ensures.value ∙ ap (λ (x : ScriptValue). x.armed) c.script.view_is in
    let first = c.join.new.items.items in
    let crash = crash_of 1 left first in
    let crash_so = crash_is s left first c.deref.result.now c.in_ok-join.ensures.joined armed_is c.writes_left-armed.ensures.crash in
    let f = c.in-Err-NoMemory.field-0 in
    let some = lack_there c.args.time before there journals plans first told c.in_ok-join.ensures.joined crash f c.in-Err-NoMemory.field-0-is c.in-Err-NoMemory.ensures.some in
    let when = lack_when c.args.time before there journals plans first told c.in_ok-join.ensures.joined crash f c.in-Err-NoMemory.field-0-is c.in-Err-NoMemory.ensures.by_crash in
    starved_goes s c.args.time c.args.frames before c.args.view journals plans own plan its c.requires.armed c.requires.given.idle.none_in_flight there told crash crash_so some when

pub returns-clause-disk : goal.returns-clause-disk
returns-clause-disk g c =
    let d = g.D.SharedDisk.state c.args.disk.now in
    let list = g.D.SharedDisk.list c.args.disk.now in
    let before = moment d list in
    let s = c.args.script.now in
    let journals = c.args.journals.now in
    let plans = c.args.plans.now in
    let own = c.index-journals-0.result in
    let plan = c.index-plans-0.result in
    let now = g.D.SharedDisk.state c.replay_journals.new.disk in
    let now_list = g.D.SharedDisk.list c.replay_journals.new.disk in
    let there = moment now now_list in
    let told = c.replay_journals.new.items.items in
    let left = c.writes_left-armed.result in
    let armed_is = c.deref.ensures.value ∙ ap (λ (x : ScriptValue). x.armed) c.script.view_is in
    let first = c.join.new.items.items in
    let crash = crash_of 1 left first in
    let crash_so = crash_is s left first c.deref.result.now c.in_ok-join.ensures.joined armed_is c.writes_left-armed.ensures.crash in
    let f = c.in-Err-NoMemory.field-0 in
    let some = lack_there c.args.time before there journals plans first told c.in_ok-join.ensures.joined crash f c.in-Err-NoMemory.field-0-is c.in-Err-NoMemory.ensures.some in
    some_same c.args.time before there journals plans told c.requires.given.idle.none_in_flight some

pub returns-clause-lone : goal.returns-clause-lone
returns-clause-lone g c =
    let d = g.D.SharedDisk.state c.args.disk.now in
    let list = g.D.SharedDisk.list c.args.disk.now in
    let before = moment d list in
    let s = c.args.script.now in
    let journals = c.args.journals.now in
    let plans = c.args.plans.now in
    let own = c.index-journals-0.result in
    let plan = c.index-plans-0.result in
    let its = owns d journals plans own plan c.requires.some c.requires.given.can c.index-journals-0.is c.index-plans-0.is in
    let now = g.D.SharedDisk.state c.replay_journals.new.disk in
    let now_list = g.D.SharedDisk.list c.replay_journals.new.disk in
    let there = moment now now_list in
    let told = c.replay_journals.new.items.items in
    let left = c.writes_left-armed.result in
    let armed_is = c.deref.ensures.value ∙ ap (λ (x : ScriptValue). x.armed) c.script.view_is in
    let first = c.join.new.items.items in
    let crash = crash_of 1 left first in
    let crash_so = crash_is s left first c.deref.result.now c.in_ok-join.ensures.joined armed_is c.writes_left-armed.ensures.crash in
    let f = c.in-Err-NoMemory.field-0 in
    let some = lack_there c.args.time before there journals plans first told c.in_ok-join.ensures.joined crash f c.in-Err-NoMemory.field-0-is c.in-Err-NoMemory.ensures.some in
    let when = lack_when c.args.time before there journals plans first told c.in_ok-join.ensures.joined crash f c.in-Err-NoMemory.field-0-is c.in-Err-NoMemory.ensures.by_crash in
    starved_lone s c.args.time c.args.frames before c.args.view journals plans own plan its c.requires.armed c.requires.given.idle.none_in_flight there told crash crash_so some when
