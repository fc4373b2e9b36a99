use Rattle.std.proofs.Common.{refl}
use Rattle.image_mount.proofs.LeafCauses.{behind_is, behind_leaf, depth_differs}
use Rattle.image_mount.proofs.Stops.{refused}
use Rattle.image_mount.proofs.leaves.leaf_behind.Goals as goal

pub returns-in_err-head-clause-refused : goal.returns-in_err-head-clause-refused
returns-in_err-head-clause-refused c im a same inside format depth is more =
    refused im _ _ c.from_residual.ensures.1 (c.in_err-head.ensures.refused im a same format inside depth (behind_leaf im a c.args.tail.now is more))

pub returns-then-head-tail-clause-refused : goal.returns-then-head-tail-clause-refused
returns-then-head-tail-clause-refused c im a same inside format depth is more =
    depth_differs im a c.args.tail.now c.in_ok-head.head _ format is more inside c.damaged.ensures (c.in_ok-head.ensures.found im same) c.if-head-tail.true

pub returns-clause-found : goal.returns-clause-found
returns-clause-found c im a same inside depth is more = behind_is im a c.args.tail.now _ is (c.in_ok-head.ensures.well im a same depth) more inside (c.in_ok-head.ensures.found im same) refl refl refl refl refl
