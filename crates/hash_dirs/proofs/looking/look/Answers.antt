use Rattle.std.proofs.Common.{◌≡◌, ◌<◌, ◌^◌, sym, ap, ◌∙◌, subst}
use Rattle.gfs2_layout.specs.Inode.{depth_in, top_bits}
use Rattle.glock_names.specs.Steps.{IsDamage}
use Rattle.glock_names.proofs.StepLaws.{answer_at, needed_at}
use Rattle.linear_dirs.proofs.Looked.{handed}
use Rattle.hash_dirs.specs.Broken.{IsWrongIn}
use Rattle.hash_dirs.specs.Shown.{index_for, of_table}
use Rattle.hash_dirs.specs.Spots.{IsInPlace, IsSpotIn}
use Rattle.hash_dirs.proofs.Few.{astray}
use Rattle.hash_dirs.proofs.Leaves.{damage_of, found_at, head_at, head_of, wrong_of}
use Rattle.hash_dirs.proofs.looking.look.Goals as goal

pub returns-in_err-head-clause-damaged : goal.returns-in_err-head-clause-damaged
returns-in_err-head-clause-damaged g c h shown shows =
    handed c.from_residual.result _ (IsDamage (IsWrongIn (g.V.View.seen c.args.view.now) h)) c.from_residual.ensures.1 (wrong_of (g.V.View.seen c.args.view.now) h c.in_err-head.field-0.0 (damage_of h c.in_err-head.field-0.0 (c.in_err-head.ensures.damaged h shows)))

pub returns-in-NeedBlock-clause-needed : goal.returns-in-NeedBlock-clause-needed
returns-in-NeedBlock-clause-needed g c h shown shows =
    let deep : c.depth-depth.result ≡ depth_in h = c.depth-depth.ensures.value ∙ g.met.T.PointerTable.deep_in c.args.table.now (g.V.View.seen c.args.view.now) h shows in
    let index : c.index_of.result ≡ index_for h c.args.name.now = c.index_of.ensures.value ∙ ap (λ n. top_bits n c.crc32.result) deep ∙ ap (top_bits (depth_in h)) c.crc32.ensures in
    of_table c.index_of.result index (needed_at _ _ _ c.in-NeedBlock.is (c.in_ok-head.ensures.needed h shows))

pub returns-in-NeedBlock-2-clause-needed : goal.returns-in-NeedBlock-2-clause-needed
returns-in-NeedBlock-2-clause-needed g c h shown shows =
    let deep : c.depth-depth.result ≡ depth_in h = c.depth-depth.ensures.value ∙ g.met.T.PointerTable.deep_in c.args.table.now (g.V.View.seen c.args.view.now) h shows in
    let index : c.index_of.result ≡ index_for h c.args.name.now = c.index_of.ensures.value ∙ ap (λ n. top_bits n c.crc32.result) deep ∙ ap (top_bits (depth_in h)) c.crc32.ensures in
    let low : c.index_of.result < 2 ^ depth_in h = subst (λ n. c.index_of.result < 2 ^ n) deep c.index_of.ensures.low in
    needed_at _ _ _ c.in-NeedBlock-2.is (c.in_ok-found.ensures.needed h (index_for h c.args.name.now) shown (head_of h c.index_of.result (index_for h c.args.name.now) c.in-Is.head index low (answer_at _ _ _ c.in-Is.is (c.in_ok-head.ensures.found h shows))))

pub returns-then-is_stray-clause-damaged : goal.returns-then-is_stray-clause-damaged
returns-then-is_stray-clause-damaged g c h shown shows =
    let v = g.V.View.seen c.args.view.now in
    let deep = c.depth-depth.ensures.value ∙ g.met.T.PointerTable.deep_in c.args.table.now v h shows in
    let head = head_at h c.args.name.now c.depth-depth.result c.crc32.result c.index_of.result c.in-Is.head c.index_of.ensures.value deep c.crc32.ensures c.index_of.ensures.low (answer_at _ _ _ c.in-Is.is (c.in_ok-head.ensures.found h shows)) in
    let spot = found_at c.in_ok-found.field-0 c.in-Is-Some.field-0 c.in-Is-Some.found (IsSpotIn v c.args.name.now) c.in-Is-Some.is c.in-Is-Some.field-0-is c.in_ok-found.ensures.spot in
    let place = found_at c.in_ok-found.field-0 c.in-Is-Some.field-0 c.in-Is-Some.found (IsInPlace h (index_for h c.args.name.now) c.args.name.now) c.in-Is-Some.is c.in-Is-Some.field-0-is (c.in_ok-found.ensures.place h (index_for h c.args.name.now) shown head deep) in
    let away = c.is_stray.ensures.stray c.if-is_stray.true in
    subst (IsDamage (IsWrongIn v h)) (sym c.damaged.ensures)
    (astray v h c.args.dir (index_for h c.args.name.now) c.args.name.now c.in-Is-Some.found shown spot place c.records_are_found_by_name.ensures.first c.records_are_found_by_name.ensures.named away.0 away.1)
