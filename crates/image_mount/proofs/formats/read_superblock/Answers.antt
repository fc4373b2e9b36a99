use Rattle.std.proofs.Common.{◌≡◌, ◌<◌, ◌∙◌, ap, subst, arith}
use Rattle.gfs2_layout.specs.Device.{superblock_place}
use Rattle.image_mount.specs.Marked.{IsKept}
use Rattle.image_mount.proofs.Marked.{has_kept}
use Rattle.image_mount.proofs.Shown.{kept_inside}
use Rattle.image_mount.proofs.Stops.{stopped}
use Rattle.image_mount.proofs.Supers.{super_is, has_super, lacks_super}
use Rattle.image_mount.proofs.formats.read_superblock.Goals as goal

pub returns-in_default-clause-stops : goal.returns-in_default-clause-stops
returns-in_default-clause-stops c im read few =
    let at : c.superblock_block-place.result ≡ superblock_place im.size = c.superblock_block-place.ensures ∙ ap superblock_place (c.block_size-size.ensures.value ∙ read.size) in
    lacks_super im c.in_ok-bytes.bytes.now c.in_default.field-0 _ _ at (read.same _ _ c.in_ok-bytes.ensures.bytes) (grind (arith)) c.in_default.ensures few
    (omega (arith, read.count, kept_inside c.args.table.now.entries c.superblock_block-place.result c.in_ok-bytes.bytes.now c.in_ok-bytes.ensures.bytes)) c.damaged.ensures

pub returns-in_err-check_formats-clause-stops : goal.returns-in_err-check_formats-clause-stops
returns-in_err-check_formats-clause-stops c im read few =
    let at : c.superblock_block-place.result ≡ superblock_place im.size = c.superblock_block-place.ensures ∙ ap superblock_place (c.block_size-size.ensures.value ∙ read.size) in
    let same = read.same _ _ c.in_ok-bytes.ensures.bytes in
    let low : superblock_place im.size < im.count = omega (arith, at, read.count, kept_inside c.args.table.now.entries c.superblock_block-place.result c.in_ok-bytes.bytes.now c.in_ok-bytes.ensures.bytes) in
    stopped im _ _ c.from_residual-in_err-check_formats.ensures.1
    (c.in_err-check_formats.ensures.refused im (has_super im _ c.in-Ok.superblock _ at same c.in-Ok.ensures few low (c.in_ok-bytes.ensures.whole ∙ read.size)) (super_is im _ c.in-Ok.superblock _ at same c.in-Ok.ensures) (c.block_size-size.ensures.value ∙ read.size))

pub returns-clause-found : goal.returns-clause-found
returns-clause-found c im read =
    let at : c.superblock_block-place.result ≡ superblock_place im.size = c.superblock_block-place.ensures ∙ ap superblock_place (c.block_size-size.ensures.value ∙ read.size) in
    super_is im _ c.in-Ok.superblock _ at (read.same _ _ c.in_ok-bytes.ensures.bytes) c.in-Ok.ensures

pub returns-clause-format : goal.returns-clause-format
returns-clause-format c im read few =
    let at : c.superblock_block-place.result ≡ superblock_place im.size = c.superblock_block-place.ensures ∙ ap superblock_place (c.block_size-size.ensures.value ∙ read.size) in
    let same = read.same _ _ c.in_ok-bytes.ensures.bytes in
    let low : superblock_place im.size < im.count = omega (arith, at, read.count, kept_inside c.args.table.now.entries c.superblock_block-place.result c.in_ok-bytes.bytes.now c.in_ok-bytes.ensures.bytes) in
    c.in_ok-check_formats.ensures.format im (has_super im _ c.in-Ok.superblock _ at same c.in-Ok.ensures few low (c.in_ok-bytes.ensures.whole ∙ read.size)) (super_is im _ c.in-Ok.superblock _ at same c.in-Ok.ensures) (c.block_size-size.ensures.value ∙ read.size)

pub returns-clause-there : goal.returns-clause-there
returns-clause-there c =
    let at : c.superblock_block-place.result ≡ superblock_place c.args.table.now.size = c.superblock_block-place.ensures ∙ ap superblock_place c.block_size-size.ensures.value in
    subst (IsKept c.args.table.now) at (has_kept c.args.table.now c.superblock_block-place.result (c.in_ok-bytes.bytes.now, c.in_ok-bytes.ensures.bytes))
