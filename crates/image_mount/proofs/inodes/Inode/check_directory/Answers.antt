use Rattle.std.proofs.Common.{◌≡◌, true, false, sym, ◌∙◌}
use Rattle.image_mount.specs.Listing.{is_hashed_by}
use Rattle.image_mount.proofs.LeafCauses.{hashed_at}
use Rattle.image_mount.proofs.Looks.{hashed_sized, linear_sized}
use Rattle.image_mount.proofs.Stops.{held, refused}
use Rattle.image_mount.proofs.inodes.Inode.check_directory.Goals as goal

pub returns-then-is_hashed-clause-sized : goal.returns-then-is_hashed-clause-sized
returns-then-is_hashed-clause-sized c im read of =
    let hashed : is_hashed_by c.args.self.now.dinode ≡ true = sym c.is_hashed.ensures ∙ c.if-is_hashed.true in
    let depth = c.in_ok-table_depth.ensures in
    hashed_sized im c.args.self.now.block c.args.size _ c.args.self.now.dinode read of hashed depth.depth depth.bytes depth.least depth.greatest

pub returns-clause-sized : goal.returns-clause-sized
returns-clause-sized c im read of =
    let plain : is_hashed_by c.args.self.now.dinode ≡ false = sym c.is_hashed.ensures ∙ c.if-is_hashed.false in
    held c.check_linear.result _ _ c.check_linear.ensures.linear (linear_sized im c.args.self.now.block c.args.size c.args.self.now.dinode read of plain)

pub returns-in_err-table_depth-clause-refused : goal.returns-in_err-table_depth-clause-refused
returns-in_err-table_depth-clause-refused c im read of format reached directory =
    let hashed : is_hashed_by c.args.self.now.dinode ≡ true = sym c.is_hashed.ensures ∙ c.if-is_hashed.true in
    refused im _ _ c.from_residual.ensures.1 (c.in_err-table_depth.ensures.refused im read of format reached (hashed_at im c.args.self.now.block c.args.self.now.dinode read directory hashed))
