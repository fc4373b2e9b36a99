use Rattle.std.proofs.Common.{◌≡◌, ◌-◌, ◌/◌, ◌%◌, ◌≤◌, suc, length, refl, sym, ap, ◌∙◌, arith}
use Rattle.gfs2_layout.specs.Inode.{span}
use Rattle.dinode_tree.proofs.Pointers.{next_none, next_leads, next_link_is, followed, followed_past}
use Rattle.dinode_tree.proofs.links.link_below.Goals as goal

pub returns-clause-step : goal.returns-clause-step
returns-clause-step c h index o same header is =
    let high : c.args.link.now.way.level ≡ suc (c.args.link.now.way.level - 1) = omega (arith, c.requires.above) in
    let large : 512 ≤ h.size = omega (arith, o.size, c.args.inode.now.least) in
    let size : length c.args.bytes.now ≡ h.size = c.requires.size ∙ sym o.size in
    let k_is = c.split-k.ensures.pointer ∙ ap (λ n. c.args.link.now.way.left / span n (c.args.link.now.way.level - 1)) size in
    let left_is = c.split-k.ensures.left ∙ ap (λ n. c.args.link.now.way.left % span n (c.args.link.now.way.level - 1)) size in
    followed h index c.number_at.result _ c.follow.result c.follow.ensures.none c.follow.ensures.some c.follow.ensures.leads
    (next_none h large index c.args.link.now is _ refl refl high c.args.bytes.now same c.split-k.result.0 c.number_at.result k_is left_is c.number_at.ensures)
    (next_link_is h large index c.args.link.now is _ refl refl high c.args.bytes.now same c.split-k.result.0 c.number_at.result k_is left_is c.number_at.ensures header)

pub returns-clause-damaged : goal.returns-clause-damaged
returns-clause-damaged c h index o same is =
    let high : c.args.link.now.way.level ≡ suc (c.args.link.now.way.level - 1) = omega (arith, c.requires.above) in
    let large : 512 ≤ h.size = omega (arith, o.size, c.args.inode.now.least) in
    let size : length c.args.bytes.now ≡ h.size = c.requires.size ∙ sym o.size in
    let k_is = c.split-k.ensures.pointer ∙ ap (λ n. c.args.link.now.way.left / span n (c.args.link.now.way.level - 1)) size in
    let left_is = c.split-k.ensures.left ∙ ap (λ n. c.args.link.now.way.left % span n (c.args.link.now.way.level - 1)) size in
    followed_past h c.args.inode.now c.number_at.result _ c.follow.result o c.follow.ensures.fault c.follow.ensures.past c.follow.ensures.astray
    (λ some. (
      c.split-k.result.0,
      next_leads h large index c.args.link.now is _ refl refl high c.args.bytes.now same c.split-k.result.0 c.number_at.result k_is left_is c.number_at.ensures some,
    ))
