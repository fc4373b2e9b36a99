use Rattle.std.proofs.Common.{refl}
use Rattle.std.proofs.lemmas.Result.{IfOk-weaker}
use Rattle.image_reader.proofs.Carried.{copied, copied_enough, carrier_pointed}
use Rattle.image_reader.proofs.Pieces.{carried_enough}
use Rattle.image_reader.proofs.content.carried_content.Goals as goal

pub returns-then-inode-eq0-clause-carrier : goal.returns-then-inode-eq0-clause-carrier
returns-then-inode-eq0-clause-carrier c = copied c.args.inode.now c.bytes.result.now _ c.if-inode-eq0.true c.bytes.ensures.value c.in_ok-from_slice.ensures.items

pub returns-then-inode-eq0-clause-length : goal.returns-then-inode-eq0-clause-length
returns-then-inode-eq0-clause-length c = copied_enough c.args.inode.now c.bytes.result.now _ c.requires.fits c.if-inode-eq0.true c.bytes.ensures.size c.in_ok-from_slice.ensures.items

pub returns-clause-carrier : goal.returns-clause-carrier
returns-clause-carrier c = IfOk-weaker c.pointed_content.result _ _ (λ bytes is. carrier_pointed c.args.inode.now bytes.items c.if-inode-eq0.false is) c.pointed_content.ensures.pieces

pub returns-clause-length : goal.returns-clause-length
returns-clause-length c = IfOk-weaker c.pointed_content.result _ _ (λ bytes is. carried_enough c.args.inode.now _ _ refl c.pointed_content.ensures.some is) c.pointed_content.ensures.length
