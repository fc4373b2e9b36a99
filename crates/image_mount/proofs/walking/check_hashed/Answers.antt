use Rattle.image_mount.proofs.Records.{dot_astray, dot_missing, dots_astray, dots_missing, inode_of}
use Rattle.image_mount.proofs.Stops.{refused}
use Rattle.image_mount.proofs.walking.check_hashed.Goals as goal

pub returns-in_err-check_dot-clause-refused : goal.returns-in_err-check_dot-clause-refused
returns-in_err-check_dot-clause-refused c im is all counted =
    let a = c.args.inode.now.block in
    refused im _ _ c.from_residual.ensures.1 (c.in_err-check_dot.ensures.refused im is.format is.reached (dot_missing im a c.args.records.now all) (dot_astray im a c.args.records.now all))

pub returns-in_err-check_dot-2-clause-refused : goal.returns-in_err-check_dot-2-clause-refused
returns-in_err-check_dot-2-clause-refused c im is all counted =
    let inode = c.args.inode.now in
    refused im _ _ c.from_residual-in_err-check_dot-2.ensures.1
    (c.in_err-check_dot-2.ensures.refused im is.format is.reached (dots_missing im inode.block c.args.records.now all)
    (dots_astray im inode.block c.args.records.now all c.args.parent is.owner (inode_of im inode c.args.parent is) is.above))

pub returns-clause-refused : goal.returns-clause-refused
returns-clause-refused c im is all counted = c.check_counts.ensures.refused im is.format is.reached is.dinode counted
