use Rattle.std.proofs.Common.{◌≡◌, ◌∙◌, refl, ap, arith}
use Rattle.std.proofs.lemmas.Bool.Decides.{nat_tests}
use Rattle.gfs2_layout.specs.Device.{superblock_place}
use Rattle.image_mount.proofs.Grouping.{fits_if}
use Rattle.image_mount.proofs.groups.fits.Goals as goal

pub returns-then-from-blocks : goal.returns-then-from-blocks
returns-then-from-blocks c im size count few =
    let g = c.args.group.now in
    let place : c.superblock_block.result ≡ superblock_place im.size = c.superblock_block.ensures ∙ ap superblock_place size in
    let fits = fits_if im g c.from-size.result c.from-more.result _ _ _ (omega (arith, place, c.if-group-superblock_block.false)) c.if-group-eq0.false c.if-group-saturating_add.false
    (omega (arith, c.saturating_add.ensures, c.from.ensures)) c.end_of.ensures (omega (arith, c.if-end_of-device.false, count)) few (omega (arith, c.if-from-blocks.true, c.from-2.ensures, c.from-blocks.ensures))
    (c.from-size.ensures ∙ size) c.from-more.ensures refl in
    (λ yes. fits.0 (grind (arith, nat_tests)), λ is. grind (arith, nat_tests, fits.1 is))
