use Rattle.std.proofs.Common.{ℕ, ◌-◌, ◌%◌, ◌<◌, get_or, length, ap, subst, arith}
use Rattle.std.specs.Prelude.{Contains}
use Rattle.std.proofs.Math.Nat.{mod-lt}
use Rattle.glock_names.specs.declared.views.Group.{Group}
use Rattle.resource_groups.proofs.Fits.{fit_of}
use Rattle.room_search.proofs.Holds.{read_group}
use Rattle.room_search.proofs.search.own_group.Goals as goal

abbrev nobody : Group
nobody = record { addr = 0; length = 0; first = 0; count = 0 }

pub returns-clause-has : goal.returns-clause-has
returns-clause-has g c =
    let groups = c.groups-groups.result.now in
    let i : ℕ = (c.args.node - 1) % length groups in
    let low : i < length groups = mod-lt (c.args.node - 1) (omega (arith, c.requires.some, ap length c.groups-groups.ensures)) in
    subst (λ gs. Contains gs (get_or groups i nobody)) c.groups-groups.ensures (read_group groups i nobody low)

pub returns-clause-rise : goal.returns-clause-rise
returns-clause-rise g c =
    let v = g.V.View.seen c.args.view.now in
    let groups = c.groups-groups.result.now in
    let i : ℕ = (c.args.node - 1) % length groups in
    let low : i < length groups = mod-lt (c.args.node - 1) (omega (arith, c.requires.some, ap length c.groups-groups.ensures)) in
    let has = subst (λ gs. Contains gs (get_or groups i nobody)) c.groups-groups.ensures (read_group groups i nobody low) in
    (fit_of v (get_or groups i nobody) c.block_size-size.ensures.view has, omega arith, tt)
