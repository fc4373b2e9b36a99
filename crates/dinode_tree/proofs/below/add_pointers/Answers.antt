use Rattle.std.proofs.Common.{◌≡◌, length, subst, arith}
use Rattle.gfs2_layout.specs.Inode.{fan}
use Rattle.dinode_tree.specs.Below.{AreAdded, IsPointing}
use Rattle.dinode_tree.proofs.Rows.{Upto, upto_more}
use Rattle.dinode_tree.proofs.below.add_pointers.Goals as goal

pub loop-k-preserved : goal.loop-k-preserved
loop-k-preserved c = upto_more _ _ _ (IsPointing c.args.bytes.now c.args.start c.args.way.now) c.loop-k.k c.loop-k.invariant c.in_ok-add_pointer.ensures.added

pub returns-clause-added : goal.returns-clause-added
returns-clause-added c =
    let all : c.loop-k.k ≡ fan (length c.args.bytes.now) c.args.start = omega (arith, c.loop-k-test.false, c.loop-k.auto.k-end, c.fan-k-end.ensures) in
    subst (λ n. AreAdded c.args.below.now c.loop-k.below (Upto (IsPointing c.args.bytes.now c.args.start c.args.way.now) n)) all c.loop-k.invariant
