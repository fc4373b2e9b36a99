use Rattle.std.proofs.Common.{◌∙◌, ap}
use Rattle.dinode_tree.proofs.Stepping.{handed_kept}
use Rattle.dinode_tree.proofs.looks.look.Goals as goal

pub returns-in_err-inode-clause-kept : goal.returns-in_err-inode-clause-kept
returns-in_err-inode-clause-kept g c =
    handed_kept _ (g.V.View.seen c.args.view.now) c.args.dinode c.in-Some.bytes.now _ c.from_residual.ensures.1 c.in-Some.ensures.some c.in_err-inode.ensures.own

pub returns-in_err-check_number-clause-kept : goal.returns-in_err-check_number-clause-kept
returns-in_err-check_number-clause-kept g c =
    let v = g.V.View.seen c.args.view.now in
    handed_kept _ v c.in_ok-inode.inode.block c.in-Some.bytes.now _ c.from_residual-in_err-check_number.ensures.1 (ap v.block_at c.in_ok-inode.ensures.block ∙ c.in-Some.ensures.some) c.in_err-check_number.ensures.own

pub returns-in_err-check_mode-clause-kept : goal.returns-in_err-check_mode-clause-kept
returns-in_err-check_mode-clause-kept g c =
    let v = g.V.View.seen c.args.view.now in
    handed_kept _ v c.in_ok-inode.inode.block c.in-Some.bytes.now _ c.from_residual-in_err-check_mode.ensures.1 (ap v.block_at c.in_ok-inode.ensures.block ∙ c.in-Some.ensures.some) c.in_err-check_mode.ensures.own

pub returns-in_err-check_fits-clause-kept : goal.returns-in_err-check_fits-clause-kept
returns-in_err-check_fits-clause-kept g c =
    let v = g.V.View.seen c.args.view.now in
    handed_kept _ v c.in_ok-inode.inode.block c.in-Some.bytes.now _ c.from_residual-in_err-check_fits.ensures.1 (ap v.block_at c.in_ok-inode.ensures.block ∙ c.in-Some.ensures.some) c.in_err-check_fits.ensures.own
