use Rattle.std.proofs.Common.{sym, ap, ◌∙◌}
use Rattle.gfs2_layout.specs.Device.{superblock_place}
use Rattle.image_model.proofs.Held.{none_some}
use Rattle.image_journals.specs.Blocks.{seen_of}
use Rattle.image_journals.proofs.Layouts.{master_at, super_is, super_reads, super_there}
use Rattle.image_journals.proofs.finding.find_master.Goals as goal

pub returns-in_default : goal.returns-in_default
returns-in_default c r o l s =
    let v = seen_of c.args.blocks.now in
    none_some (sym c.in_default.ensures.none ∙ super_there v r o l s c.superblock_block.result c.args.blocks.now.size c.superblock_block.ensures s.size)

pub returns-in_default-read : goal.returns-in_default-read
returns-in_default-read c r o l s =
    let v = seen_of c.args.blocks.now in
    let at = ap v.block_at (sym (c.superblock_block.ensures ∙ ap superblock_place s.size)) ∙ c.in-Some.ensures.some in
    c.in_default-read.not-Ok _ (super_reads v r o l s c.in-Some.bytes.now c.read.result at c.in-Some.ensures.least c.read.ensures)

pub returns : goal.returns
returns c r o l s =
    let v = seen_of c.args.blocks.now in
    let at = ap v.block_at (sym (c.superblock_block.ensures ∙ ap superblock_place s.size)) ∙ c.in-Some.ensures.some in
    let is = super_is v r o l s c.in-Some.bytes.now c.read.result c.in-Ok.superblock at c.in-Some.ensures.least c.read.ensures c.in-Ok.is in
    master_at v r o l s c.in-Ok.superblock is
