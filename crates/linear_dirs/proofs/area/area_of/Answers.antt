use Rattle.std.proofs.Common.{refl, ◌∙◌}
use Rattle.glock_names.specs.Steps.{IsDamage}
use Rattle.glock_names.proofs.StepLaws.{answer_at}
use Rattle.dinode_tree.proofs.Dinodes.{lacks}
use Rattle.linear_dirs.specs.Broken.{IsBroken}
use Rattle.linear_dirs.proofs.Looked.{handed, damage_of, high_broken, size_broken, area_broken, directory_of, area_in, dinode_there}
use Rattle.linear_dirs.proofs.area.area_of.Goals as goal

pub returns-in_err-dinode-clause-damaged : goal.returns-in_err-dinode-clause-damaged
returns-in_err-dinode-clause-damaged g c h shown =
    handed c.from_residual.result _ (IsDamage (IsBroken h)) c.from_residual.ensures.1 (damage_of h c.in_err-dinode.field-0.0 (c.in_err-dinode.ensures.damaged h shown))

pub returns-then-dinode-ne0-clause-damaged : goal.returns-then-dinode-ne0-clause-damaged
returns-then-dinode-ne0-clause-damaged g c h shown =
    let dinode = answer_at _ _ _ c.in-Is.is (c.in_ok-dinode.ensures.found h shown) in
    high_broken (g.V.View.seen c.args.view.now) h c.args.dir c.in-Some.bytes.now c.in-Is.dinode shown c.in-Some.ensures.some c.in-Some.ensures.size dinode c.damaged.result c.if-dinode-ne0.true c.damaged.ensures

pub returns-then-dinode-area-clause-damaged : goal.returns-then-dinode-area-clause-damaged
returns-then-dinode-area-clause-damaged g c h shown =
    let dinode = answer_at _ _ _ c.in-Is.is (c.in_ok-dinode.ensures.found h shown) in
    size_broken (g.V.View.seen c.args.view.now) h c.args.dir c.in-Some.bytes.now c.in-Is.dinode shown c.in-Some.ensures.some c.in-Some.ensures.size dinode c.damaged-then-dinode-area.result _ c.in-Some.ensures.least refl c.if-dinode-area.true
    c.damaged-then-dinode-area.ensures

pub returns-then-not-is_area-clause-damaged : goal.returns-then-not-is_area-clause-damaged
returns-then-not-is_area-clause-damaged g c h shown =
    let dinode = answer_at _ _ _ c.in-Is.is (c.in_ok-dinode.ensures.found h shown) in
    area_broken (g.V.View.seen c.args.view.now) h c.args.dir c.in-Some.bytes.now c.in-Is.dinode shown c.in-Some.ensures.some c.in-Some.ensures.size dinode c.damaged-then-not-is_area.result
    (lacks c.is_area.result c.is_area.ensures c.if-not-is_area.true) c.damaged-then-not-is_area.ensures

pub returns-clause-read : goal.returns-clause-read
returns-clause-read g c h shown =
    let dinode = answer_at _ _ _ c.in-Is.is (c.in_ok-dinode.ensures.found h shown) in
    let right = answer_at _ _ _ c.in-Is.is (c.in_ok-dinode.ensures.right h shown) in
    directory_of (g.V.View.seen c.args.view.now) h c.args.dir c.in-Some.bytes.now c.in-Is.dinode shown c.in-Some.ensures.some c.in-Some.ensures.size dinode _ c.requires.linear right c.if-dinode-ne0.false c.in-Some.ensures.least refl c.if-dinode-area.false

pub returns-clause-seen : goal.returns-clause-seen
returns-clause-seen g c = area_in (g.V.View.seen c.args.view.now) c.args.dir c.in-Some.bytes.now c.in-Some.ensures.some c.in-Some.ensures.least c.in-Some.ensures.most (c.if-not-is_area.ensures.0 refl)

pub returns-clause-dinode : goal.returns-clause-dinode
returns-clause-dinode g c bytes there =
    let v = g.V.View.seen c.args.view.now in
    let some = c.every_view_shows_an_inode.ensures v c.args.dir in
    answer_at _ _ _ c.in-Is.is (c.in_ok-dinode.ensures.found some.0 some.1.0) ∙ dinode_there v some.0 c.args.dir bytes some.1.0 there
