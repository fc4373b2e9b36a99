use Rattle.std.proofs.Common.{arith}
use Rattle.std.proofs.lemmas.Option.{slice_get_within}
use Rattle.std.specs.Prelude.{map}
use Rattle.image_mount.specs.declared.journals.Ring.{Ring}
use Rattle.image_mount.proofs.Names.{contains_at, from_mapped}
use Rattle.image_mount.proofs.journals.has_dinode.Goals as goal

pub returns : goal.returns
returns c = (
  λ yes. cc,
  λ there.
      let ring = from_mapped (λ (r : Ring). r.dinode) c.args.rings.now there.0 c.args.block (contains_at (map (λ (r : Ring). r.dinode) c.args.rings.now) c.args.block there) in
      absurd (c.loop-ring.invariant there.0 ring.0 (omega (arith, c.loop-ring-test.false, slice_get_within c.args.rings.now there.0 ring.0 ring.1)) ring.1 ring.2),
)
