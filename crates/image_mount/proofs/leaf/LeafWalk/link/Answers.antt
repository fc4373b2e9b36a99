use Rattle.std.proofs.Common.{◌+◌, ◌<◌, ◌^◌, refl, arith}
use Rattle.gfs2_layout.specs.Inode.{first_hash}
use Rattle.image_model.specs.Claims.{every}
use Rattle.image_mount.specs.Leaves.{IsOpen}
use Rattle.image_mount.proofs.LeafCauses.{behind_claim}
use Rattle.image_mount.proofs.Masters.{first_claim, no_leaf_told}
use Rattle.image_mount.proofs.Numbered.{at_some}
use Rattle.image_mount.proofs.Wanted.{leaf_wanted}
use Rattle.image_mount.proofs.leaf.LeafWalk.link.Goals as goal

pub returns-then-tail-ne0-clause-linked : goal.returns-then-tail-ne0-clause-linked
returns-then-tail-ne0-clause-linked c = (c.in-Some.is, c.if-tail-ne0.true, refl)

pub returns-then-tail-ne0-clause-wanted : goal.returns-then-tail-ne0-clause-wanted
returns-then-tail-ne0-clause-wanted c im read of walk =
    let a = c.args.inode.now.block in
    let tail = c.in-Some.tail in
    let opened = at_some c.args.self.now.tail tail (IsOpen im a c.args.self.now) c.in-Some.is walk.opened in
    leaf_wanted im tail.block tail.head.next a tail.hash (tail.place + 1) (behind_claim im a tail opened.is c.if-tail-ne0.true) of.file.format opened.is.reached of.file.read

pub returns-then-number-eq0-clause-stops : goal.returns-then-number-eq0-clause-stops
returns-then-number-eq0-clause-stops c im read of walk =
    let low : c.args.self.now.index < 2 ^ c.args.pointers.now.depth = omega (arith, c.requires, c.if-self-count.false, c.count.ensures) in
    no_leaf_told im c.args.inode.now c.args.pointers.now of c.args.self.now.index c.in_ok-by.by c.pointer-number.result _ low (c.in_ok-by.ensures.found im read of) c.pointer-number.ensures c.if-number-eq0.true
    (c.in_ok-by.ensures.reached im read of) c.damaged.ensures

pub returns-clause-wanted : goal.returns-clause-wanted
returns-clause-wanted c im read of walk =
    let a = c.args.inode.now.block in
    let i = c.args.self.now.index in
    let low : i < 2 ^ c.args.pointers.now.depth = omega (arith, c.requires, c.if-self-count.false, c.count.ensures) in
    leaf_wanted im c.in_ok-by.by c.pointer-number.result a (first_hash (every im a) i) 0
    (first_claim im c.args.inode.now c.args.pointers.now of i c.in_ok-by.by c.pointer-number.result low (c.in_ok-by.ensures.found im read of) c.pointer-number.ensures c.if-number-eq0.false) of.file.format (c.in_ok-by.ensures.reached im read of) of.file.read
