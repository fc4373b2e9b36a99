use Rattle.std.proofs.Common.{◌≡◌, ◌-◌, ◌≤◌, suc, refl, sym, subst, ◌∙◌, arith}
use Rattle.gfs2_layout.specs.Inode.{height_in}
use Rattle.dinode_tree.specs.Reading.{reach}
use Rattle.dinode_tree.proofs.Dinodes.{height_same}
use Rattle.dinode_tree.proofs.Pointers.{none_past, first_none, first_past, first_leads, first_link_is, followed, followed_past}
use Rattle.dinode_tree.proofs.links.first_link.Goals as goal

pub returns-then-inode-eq0-clause-step : goal.returns-then-inode-eq0-clause-step
returns-then-inode-eq0-clause-step c h o =
    let low : height_in h ≡ 0 = sym (height_same h c.args.inode.now o) ∙ c.if-inode-eq0.true in
    none_past h c.args.index (subst (λ n. reach h.size n ≤ c.args.index) (sym low) (omega arith))

pub returns-then-k-fan-clause-step : goal.returns-then-k-fan-clause-step
returns-then-k-fan-clause-step c h o =
    let high : c.args.inode.now.dinode.height ≡ suc (c.args.inode.now.dinode.height - 1) = omega (arith, c.if-inode-eq0.false) in
    first_past h c.args.inode.now o (record { from = c.args.inode.now.block; level = c.args.inode.now.dinode.height - 1; index = c.args.index; left = c.split-k.result.1 })
    refl high c.split-k.result.0 _ c.split-k.ensures.pointer c.split-k.ensures.left refl (omega (arith, c.if-k-fan.true, c.fan.ensures))

pub returns-clause-step : goal.returns-clause-step
returns-clause-step c h o =
    let high : c.args.inode.now.dinode.height ≡ suc (c.args.inode.now.dinode.height - 1) = omega (arith, c.if-inode-eq0.false) in
    followed h c.args.index c.number_at.result _ c.follow.result c.follow.ensures.none c.follow.ensures.some c.follow.ensures.leads
    (first_none h c.args.inode.now o _ refl high c.split-k.result.0 c.number_at.result c.split-k.ensures.pointer c.split-k.ensures.left c.number_at.ensures)
    (first_link_is h c.args.inode.now o _ refl high c.split-k.result.0 c.number_at.result c.split-k.ensures.pointer c.split-k.ensures.left c.number_at.ensures
    (omega (arith, c.if-k-fan.false, c.fan.ensures)))

pub returns-clause-damaged : goal.returns-clause-damaged
returns-clause-damaged c h o =
    let high : c.args.inode.now.dinode.height ≡ suc (c.args.inode.now.dinode.height - 1) = omega (arith, c.if-inode-eq0.false) in
    followed_past h c.args.inode.now c.number_at.result _ c.follow.result o c.follow.ensures.fault c.follow.ensures.past c.follow.ensures.astray
    (λ some. (
      c.split-k.result.0,
      first_leads h c.args.inode.now o _ refl high c.split-k.result.0 c.number_at.result c.split-k.ensures.pointer c.split-k.ensures.left c.number_at.ensures
          (omega (arith, c.if-k-fan.false, c.fan.ensures)) some,
    ))
