use Rattle.std.proofs.Common.{◌≡◌, ℕ, ◌-◌, ◌%◌, ◌<◌, List, Some, get_or, length, refl, ap, subst, arith}
use Rattle.std.specs.Prelude.{Contains}
use Rattle.std.proofs.Math.Nat.{mod-lt}
use Rattle.std.proofs.lemmas.Option.{slice_get-get_or}
use Rattle.glock_names.specs.declared.views.Group.{Group}
use Rattle.room_search.specs.Blocks.{group_of_node}
use Rattle.room_search.proofs.Holds.{read_group}
use Rattle.move_calls.proofs.carrying.own_number.Goals as goal

pub returns : goal.returns
returns g c =
    let groups = c.groups-groups.result.now in
    let nobody : Group = record { addr = 0; length = 0; first = 0; count = 0 } in
    let i : ℕ = (c.args.node - 1) % length groups in
    let low : i < length groups = mod-lt (c.args.node - 1) (omega (arith, c.requires.some, ap length c.groups-groups.ensures)) in (
      get_or groups i nobody,
      (
        record {
          of_node = subst (λ gs. group_of_node gs c.args.node ≡ Some (get_or groups i nobody)) c.groups-groups.ensures (slice_get-get_or groups i nobody low);
          has = subst (λ (gs : List Group). Contains gs (get_or groups i nobody)) c.groups-groups.ensures (read_group groups i nobody low);
        },
        refl,
      ),
    )
