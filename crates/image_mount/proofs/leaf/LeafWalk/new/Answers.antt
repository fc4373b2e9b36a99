use Rattle.std.proofs.Common.{refl}
use Rattle.image_mount.proofs.LeafWalks.{none_read, walked_new}
use Rattle.image_mount.proofs.leaf.LeafWalk.new.Goals as goal

pub returns-clause-walked : goal.returns-clause-walked
returns-clause-walked c im a = walked_new im a _ c.in_ok-owners.ensures.empty c.new-2.ensures.items refl refl refl

pub returns-clause-none : goal.returns-clause-none
returns-clause-none c a k = none_read a k _ c.in_ok-owners.ensures.empty
