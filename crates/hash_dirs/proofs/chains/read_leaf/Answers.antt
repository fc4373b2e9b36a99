use Rattle.std.proofs.Common.{refl, arith}
use Rattle.dinode_tree.proofs.Dinodes.{lacks}
use Rattle.linear_dirs.proofs.Looked.{rest_is}
use Rattle.hash_dirs.proofs.Leaves.{lacks_header, other_format, deeper, not_filled, head_is, read_format}
use Rattle.hash_dirs.proofs.chains.read_leaf.Goals as goal

pub returns-then-not-has_header-clause-damaged : goal.returns-then-not-has_header-clause-damaged
returns-then-not-has_header-clause-damaged c h i from at leads some depth =
    lacks_header h i from c.args.block c.args.bytes.now at leads some c.damaged.result (lacks c.has_header.result c.has_header.ensures c.if-not-has_header.true) c.damaged.ensures

pub returns-in_default-clause-damaged : goal.returns-in_default-clause-damaged
returns-in_default-clause-damaged c h i from at leads some depth =
    other_format h i from c.args.block c.args.bytes.now at leads some c.damaged-in_default.result (omega arith) (c.if-not-has_header.ensures.0 refl) c.read.result c.read.ensures c.in_default.not-Ok c.damaged-in_default.ensures

pub returns-then-head-depth-clause-damaged : goal.returns-then-head-depth-clause-damaged
returns-then-head-depth-clause-damaged c h i from at leads some depth =
    deeper h i from c.args.block c.args.bytes.now at leads some c.damaged-then-head-depth.result c.args.depth c.in-Ok.head depth (head_is c.args.bytes.now c.in-Ok.head c.read.result c.read.ensures c.in-Ok.is) c.if-head-depth.true
    c.damaged-then-head-depth.ensures

pub returns-then-not-is_area-clause-damaged : goal.returns-then-not-is_area-clause-damaged
returns-then-not-is_area-clause-damaged c h i from at leads some depth =
    not_filled h i from c.args.block c.args.bytes.now at leads some c.damaged-then-not-is_area.result _ (rest_is 104 c.args.bytes.now) (lacks c.is_area.result c.is_area.ensures c.if-not-is_area.true) c.damaged-then-not-is_area.ensures

pub returns-clause-area : goal.returns-clause-area
returns-clause-area c = rest_is 104 c.args.bytes.now

pub returns-clause-header : goal.returns-clause-header
returns-clause-header c = c.if-not-has_header.ensures.0 refl

pub returns-clause-format : goal.returns-clause-format
returns-clause-format c = read_format c.args.bytes.now c.in-Ok.head c.read.result c.read.ensures c.in-Ok.is
