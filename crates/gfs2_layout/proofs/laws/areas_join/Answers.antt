use Rattle.std.proofs.Common.{List, [], ◌∷◌, ap, refl, ◌∙◌, arith}
use Rattle.gfs2_layout.specs.Area.{Slot, slot_at}
use Rattle.gfs2_layout.specs.Bytes.{u16_at}
use Rattle.std.proofs.lemmas.List.{drop_all}
use Rattle.gfs2_layout.proofs.Places.{area_none, joined}
use Rattle.gfs2_layout.proofs.Records.{area_ends}
use Rattle.gfs2_layout.proofs.Written.{stands}
use Rattle.gfs2_layout.proofs.laws.areas_join.Goals as goal

pub returns : goal.returns
returns c = record {
  empty = (area_ends [] refl, area_none [] refl);
  one = λ bytes long whole named.
      let alone = stands bytes (slot_at bytes) [] refl (omega (arith, long, whole)) (omega (arith, whole)) named (drop_all (u16_at 20 bytes) bytes (omega (arith, whole))) (area_none [] refl) in
      (alone.slots ∙ ap (λ (ss : List Slot). slot_at bytes ∷ ss) (area_ends [] refl), alone.area);
  both = λ a b first second. let both = joined a b first in (both.slots, both.area second);
}
