use Rattle.std.proofs.Common.{◌≡◌, ◌≢◌, ◌⊎◌, ◌∙◌, true, sym, ap}
use Rattle.gfs2_layout.specs.Headers.{HasHeader}
use Rattle.gfs2_layout.specs.Structures.{is_directory, is_regular}
use Rattle.gfs2_layout.specs.Inode.{Fits}
use Rattle.dinode_tree.specs.Walking.{held, IsIn}
use Rattle.dinode_tree.proofs.Dinodes.{dinode_is}
use Rattle.dinode_tree.proofs.ReadDinodes.{shown_in, fits_of, right_dinode}
use Rattle.dinode_tree.proofs.Stepping.{answer_at}
use Rattle.dinode_tree.proofs.locating.read_dinode.Goals as goal

pub returns-in-Is-clause-found : goal.returns-in-Is-clause-found
returns-in-Is-clause-found g c h shown =
    let v = g.V.View.seen c.args.view.now in
    let at = answer_at c.in_ok-inode.field-0 c.in-Is.inode (λ inode. inode.block ≡ c.args.dinode) c.in-Is.is c.in_ok-inode.ensures.block in
    let there = answer_at c.in_ok-inode.field-0 c.in-Is.inode (λ inode. IsIn v inode) c.in-Is.is c.in_ok-inode.ensures.seen in
    sym (dinode_is h c.in-Is.inode (shown_in v h c.args.dinode c.in-Is.inode at shown there))

pub returns-in-Is-clause-fits : goal.returns-in-Is-clause-fits
returns-in-Is-clause-fits g c h shown =
    let v = g.V.View.seen c.args.view.now in
    let at = answer_at c.in_ok-inode.field-0 c.in-Is.inode (λ inode. inode.block ≡ c.args.dinode) c.in-Is.is c.in_ok-inode.ensures.block in
    let there = answer_at c.in_ok-inode.field-0 c.in-Is.inode (λ inode. IsIn v inode) c.in-Is.is c.in_ok-inode.ensures.seen in
    let fits = answer_at c.in_ok-inode.field-0 c.in-Is.inode (λ inode. Fits (held inode)) c.in-Is.is c.in_ok-inode.ensures.fits in
    fits_of h c.in-Is.inode (shown_in v h c.args.dinode c.in-Is.inode at shown there) fits

pub returns-in-Is-clause-there : goal.returns-in-Is-clause-there
returns-in-Is-clause-there g c =
    let v = g.V.View.seen c.args.view.now in
    let at = answer_at c.in_ok-inode.field-0 c.in-Is.inode (λ inode. inode.block ≡ c.args.dinode) c.in-Is.is c.in_ok-inode.ensures.block in
    let there = answer_at c.in_ok-inode.field-0 c.in-Is.inode (λ inode. IsIn v inode) c.in-Is.is c.in_ok-inode.ensures.seen in
    (c.in-Is.inode.bytes.now, ap v.block_at (sym at) ∙ there.bytes)

pub returns-in-Is-clause-right : goal.returns-in-Is-clause-right
returns-in-Is-clause-right g c h shown =
    let v = g.V.View.seen c.args.view.now in
    let looked = c.in_ok-inode.ensures in
    let inode = c.in-Is.inode in
    let at = answer_at c.in_ok-inode.field-0 inode (λ inode. inode.block ≡ c.args.dinode) c.in-Is.is looked.block in
    let there = answer_at c.in_ok-inode.field-0 inode (λ inode. IsIn v inode) c.in-Is.is looked.seen in
    right_dinode h c.args.dinode inode (shown_in v h c.args.dinode inode at shown there) shown.own
    (answer_at c.in_ok-inode.field-0 inode (λ inode. HasHeader 4 400 inode.bytes.now) c.in-Is.is looked.header)
    (answer_at c.in_ok-inode.field-0 inode (λ inode. inode.dinode.num.address ≡ c.args.dinode) c.in-Is.is looked.address)
    (answer_at c.in_ok-inode.field-0 inode (λ inode. inode.dinode.num.number ≢ 0) c.in-Is.is looked.number)
    (answer_at c.in_ok-inode.field-0 inode (λ inode. (is_directory inode.dinode ≡ true) ⊎ (is_regular inode.dinode ≡ true)) c.in-Is.is looked.mode)
    (answer_at c.in_ok-inode.field-0 inode (λ inode. Fits (held inode)) c.in-Is.is looked.fits)
