use Rattle.gfs2_layout.specs.Inode.{unit}
use Rattle.image_reader.specs.Reading.{held}
use Rattle.image_reader.proofs.Carried.{piece_more, length_more}
use Rattle.image_reader.proofs.content.pointed_content.Goals as goal

pub loop-index-preserved : goal.loop-index-preserved
loop-index-preserved c = record {
  pieces = piece_more (held c.args.inode.now) c.loop-index.index _ _ c.loop-index.invariant.pieces c.in_ok-append_carried.ensures.carried;
  length = length_more _ _ c.loop-index.index (unit (held c.args.inode.now)) c.loop-index.invariant.length c.in_ok-append_carried.ensures.length;
}
