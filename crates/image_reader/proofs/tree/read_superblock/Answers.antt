use Rattle.std.proofs.Common.{◌∙◌, arith}
use Rattle.image_reader.proofs.Tops.{superblock_beyond, superblock_lacks}
use Rattle.image_reader.proofs.tree.read_superblock.Goals as goal

pub returns-in_default-clause-damaged : goal.returns-in_default-clause-damaged
returns-in_default-clause-damaged c = superblock_beyond c.args.image.now _ c.superblock_place-place.result c.damaged.ensures c.superblock_place-place.ensures c.in_default.ensures.none

pub returns-in_default-read-clause-damaged : goal.returns-in_default-read-clause-damaged
returns-in_default-read-clause-damaged c =
    superblock_lacks c.args.image.now c.in-Some.block _ c.superblock_place-place.result c.bytes.result.now c.damaged-in_default-read.ensures c.superblock_place-place.ensures
    c.in-Some.ensures.some.0 c.in-Some.ensures.some.1 c.bytes.ensures.value (omega (arith, c.bytes.ensures.size, c.in-Some.block.image.least)) (λ s e. c.in_default-read.not-Ok s (c.read.ensures ∙ e))
