use Rattle.image_mount.proofs.Records.{all_in, all_records, counted, dot_astray, dot_missing, dots_astray, dots_missing, has_area, inode_of}
use Rattle.image_mount.proofs.Stops.{refused}
use Rattle.image_mount.proofs.listing.check_records.Goals as goal

pub returns-in_err-check_names-clause-refused : goal.returns-in_err-check_names-clause-refused
returns-in_err-check_names-clause-refused c im is are here =
    refused im _ _ c.from_residual.ensures.1 (c.in_err-check_names.ensures.refused im c.args.inode.now.block is.format is.reached (all_in im c.args.inode.now.block c.args.records.now are))

pub returns-in_err-check_twice-clause-refused : goal.returns-in_err-check_twice-clause-refused
returns-in_err-check_twice-clause-refused c im is are here =
    refused im _ _ c.from_residual-in_err-check_twice.ensures.1 (c.in_err-check_twice.ensures.refused im c.args.inode.now.block _ is.format is.reached (has_area im c.args.inode.now.block c.args.records.now are) are.all)

pub returns-in_err-check_dot-clause-refused : goal.returns-in_err-check_dot-clause-refused
returns-in_err-check_dot-clause-refused c im is are here =
    let a = c.args.inode.now.block in
    let all = all_records im a c.args.records.now is.reached are here in
    refused im _ _ c.from_residual-in_err-check_dot.ensures.1 (c.in_err-check_dot.ensures.refused im is.format is.reached (dot_missing im a c.args.records.now all) (dot_astray im a c.args.records.now all))

pub returns-in_err-check_dot-2-clause-refused : goal.returns-in_err-check_dot-2-clause-refused
returns-in_err-check_dot-2-clause-refused c im is are here =
    let a = c.args.inode.now.block in
    let all = all_records im a c.args.records.now is.reached are here in
    refused im _ _ c.from_residual-in_err-check_dot-2.ensures.1
    (c.in_err-check_dot-2.ensures.refused im is.format is.reached (dots_missing im a c.args.records.now all)
    (dots_astray im a c.args.records.now all c.args.parent is.owner (inode_of im c.args.inode.now c.args.parent is) is.above))

pub returns-clause-refused : goal.returns-clause-refused
returns-clause-refused c im is are here = c.check_counts.ensures.refused im is.format is.reached is.dinode (counted im c.args.inode.now.block c.args.records.now are)
