use Rattle.std.proofs.Common.{◌≡◌, false, sym, ◌∙◌, arith}
use Rattle.std.proofs.lemmas.Bool.{both_ways}
use Rattle.gfs2_layout.specs.Inode.{is_hashed_in}
use Rattle.image_model.specs.Claims.{every}
use Rattle.image_mount.specs.Listing.{is_hashed_by}
use Rattle.image_mount.proofs.Causes.{hashed_as}
use Rattle.image_mount.proofs.Stops.{held}
use Rattle.image_mount.proofs.jindex.search_journals.Goals as goal

pub returns-clause-read : goal.returns-clause-read
returns-clause-read g c =
    let plain : is_hashed_by c.args.inode.now.dinode ≡ false = sym c.is_hashed.ensures ∙ grind (arith, c.if-is_hashed.false) in
    held c.search_linear.result _ _ c.search_linear.ensures.searched
    (λ more im shows is known hashed. absurd (both_ways (is_hashed_in (every im c.args.inode.now.block)) (hashed_as im c.args.inode.now.block _ false is.of.directory.dinode plain) hashed))
