use Rattle.std.proofs.Common.{◌∙◌, arith}
use Rattle.image_reader.proofs.InodeFaults.{lacking}
use Rattle.image_reader.proofs.Inside.{block_inside}
use Rattle.image_reader.proofs.LeafFaults.{leaf_header, leaf_format, leaf_reads, leaf_at, leaf_deep}
use Rattle.image_reader.proofs.inode.Inode.read_leaf.Goals as goal

pub returns-then-not-has_header-clause-damaged : goal.returns-then-not-has_header-clause-damaged
returns-then-not-has_header-clause-damaged c =
    leaf_header c.args.self.now c.args.block.now _ c.requires.of_image c.damaged.ensures c.requires.leaf (lacking _ _ c.if-not-has_header.true c.has_header.ensures)

pub returns-in_default-clause-damaged : goal.returns-in_default-clause-damaged
returns-in_default-clause-damaged c =
    leaf_format c.args.self.now c.args.block.now _ c.bytes.result.now c.requires.of_image c.damaged-in_default.ensures c.requires.leaf c.bytes.ensures.value
    (omega (arith, c.bytes.ensures.size, c.args.block.now.image.least)) (c.has_header.ensures.0 c.if-not-has_header.false) (λ x e. c.in_default.not-Ok x (c.read.ensures ∙ e))

pub returns-then-leaf-depth-clause-damaged : goal.returns-then-leaf-depth-clause-damaged
returns-then-leaf-depth-clause-damaged c =
    leaf_deep c.args.self.now _ c.args.block.now.number c.args.depth c.in-Ok.leaf c.damaged-then-leaf-depth.ensures c.requires.leaf (block_inside c.args.block.now c.args.self.now.block.image c.requires.of_image)
    (leaf_at c.args.self.now c.args.block.now c.bytes.result.now c.in-Ok.leaf c.requires.of_image c.bytes.ensures.value (leaf_reads c.bytes.result.now c.in-Ok.leaf c.read.result c.in-Ok.is c.read.ensures))
    c.requires.depth c.if-leaf-depth.true
