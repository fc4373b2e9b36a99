use Rattle.std.proofs.Common.{◌≡◌, ◌*◌, length}
use Rattle.gfs2_layout.specs.Inode.{unit}
use Rattle.image_reader.specs.Carrying.{pieces_before}
use Rattle.image_reader.specs.Reading.{held}
use Rattle.image_reader.proofs.content.pointed_content.Given as goal

abbrev pub invariant-loop-index : goal.invariant-loop-index
invariant-loop-index l = record {
  pieces : l.bytes.items ≡ pieces_before (held l.inode) l.index;
  length : length l.bytes.items ≡ l.index * unit (held l.inode);
}
