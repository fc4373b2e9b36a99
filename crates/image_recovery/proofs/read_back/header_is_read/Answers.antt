use Rattle.std.proofs.Common.{arith}
use Rattle.image_recovery.proofs.ReadBack.{header_read}
use Rattle.image_recovery.proofs.read_back.header_is_read.Goals as goal

pub returns : goal.returns
returns c =
    header_read c.headers_read_back.ensures c.args.size c.args.slot c.args.dinode c.args.blocks.now c.args.time c.args.header.now c.requires.size (omega arith) (omega arith) (omega arith) (omega arith) (omega arith) (omega arith) (omega arith)
