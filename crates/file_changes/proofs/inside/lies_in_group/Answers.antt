use Rattle.std.proofs.Common.{◌<◌, ◌≤◌, true≢false, sym, subst}
use Rattle.std.specs.Prelude.{Contains}
use Rattle.glock_names.specs.Views.{end_of}
use Rattle.glock_names.specs.declared.views.Group.{Group}
use Rattle.group_locks.proofs.Fronts.{each_next, each_all}
use Rattle.file_changes.proofs.inside.lies_in_group.Goals as goal

pub loop-group-preserved : goal.loop-group-preserved
loop-group-preserved g c =
    let none : Group = record { addr = 0; length = 0; first = 0; count = 0 } in
    each_next c.groups-group-items.result.now c.loop-group.group-index none (λ k. ¬ ((k.addr ≤ c.args.block) × (c.args.block < end_of k))) c.loop-group-test.true c.loop-group.invariant
    (λ both. c.reaches.ensures.not c.if-reaches.false both.0 both.1)

pub returns : goal.returns
returns g c = (
  (λ never. absurd (true≢false (sym never))),
  (λ lies. absurd (each_all c.groups-group-items.result.now c.loop-group.group-index (λ (k : Group). ¬ ((k.addr ≤ c.args.block) × (c.args.block < end_of k))) c.loop-group-test.false c.loop-group.invariant lies.group
      (subst (λ gs. Contains gs lies.group) (sym c.groups-group-items.ensures) lies.has) (lies.low, lies.high))),
)
