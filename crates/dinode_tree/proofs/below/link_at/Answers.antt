use Rattle.std.proofs.Common.{◌≡◌, ◌+◌, ◌*◌, ◌∙◌, ap, length, arith}
use Rattle.gfs2_layout.specs.Inode.{span}
use Rattle.dinode_tree.proofs.Rows.{pointed_past}
use Rattle.dinode_tree.proofs.below.link_at.Goals as goal

pub returns-in_default-clause-damaged : goal.returns-in_default-clause-damaged
returns-in_default-clause-damaged c h o leads =
    let same : c.args.way.now.index + c.args.k * span h.size c.args.way.now.level ≡ c.args.way.now.index + c.args.k * span (length c.args.inode.now.bytes.now) c.args.way.now.level
    = ap (λ n. c.args.way.now.index + c.args.k * span n c.args.way.now.level) o.size in
    pointed_past h c.args.inode.now _ _ _ _ _ _ o c.damaged.ensures (leads (λ e. c.if-block-eq0.false (c.number_at-block.ensures ∙ e))) (omega (arith, c.in_default.ensures.none, same))
