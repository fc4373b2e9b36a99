use Rattle.std.proofs.Common.{◌≡◌, true, false, sym, subst, ◌∙◌, arith}
use Rattle.std.specs.Prelude.{map}
use Rattle.std.proofs.lemmas.Bool.{both_ways}
use Rattle.gfs2_layout.specs.Inode.{is_hashed_in}
use Rattle.image_model.specs.Claims.{every}
use Rattle.image_mount.specs.Listing.{said, is_hashed_by, AreAllRecords, AreCountedIn, AreRowsOf}
use Rattle.image_mount.proofs.Causes.{hashed_as}
use Rattle.image_mount.proofs.Jindexes.{walk_all, walk_counted}
use Rattle.image_mount.proofs.LeafWalks.{plain_records}
use Rattle.image_mount.proofs.Marked.{grown_none}
use Rattle.image_mount.proofs.Masters.{master_directory_of}
use Rattle.image_mount.proofs.SoundLeaves.{hashed_sound}
use Rattle.image_mount.proofs.Stops.{refused}
use Rattle.image_mount.proofs.SystemFiles.{master_directory}
use Rattle.image_mount.proofs.master.search_names.Goals as goal

pub returns-in_err-walk-clause-refused : goal.returns-in_err-walk-clause-refused
returns-in_err-walk-clause-refused g c im shows is known =
    let inode = c.args.inode.now in
    let flag : is_hashed_by inode.dinode ≡ true = sym c.is_hashed.ensures ∙ grind (arith, c.if-not-is_hashed.false) in
    refused im _ _ c.from_residual.ensures.1 (c.in_err-walk.ensures.refused im shows (master_directory_of im inode is) (hashed_as im inode.block _ true is.dinode flag) (λ files. is.block) known)

pub returns-in_err-check_hashed-clause-refused : goal.returns-in_err-check_hashed-clause-refused
returns-in_err-check_hashed-clause-refused g c im shows is known =
    let inode = c.args.inode.now in
    let walk = c.in_ok-walk.walk in
    let flag : is_hashed_by inode.dinode ≡ true = sym c.is_hashed.ensures ∙ grind (arith, c.if-not-is_hashed.false) in
    let over = c.in_ok-walk.ensures.found im shows (master_directory_of im inode is) (hashed_as im inode.block _ true is.dinode flag) (λ files. is.block) known in
    let none = over.walked.files c.in_ok-walk.ensures.names in
    refused im _ _ c.from_residual-in_err-check_hashed.ensures.1
    (c.in_err-check_hashed.ensures.refused im (master_directory im inode is) (subst (AreAllRecords im inode.block) (sym c.deref.ensures.value) (walk_all im inode.block walk over none))
    (subst (λ xs. AreCountedIn im inode.block (map said xs)) (sym c.deref.ensures.value) (walk_counted im inode.block walk over none)))

pub returns-clause-searched : goal.returns-clause-searched
returns-clause-searched g c im shows is known =
    let inode = c.args.inode.now in
    let flag : is_hashed_by inode.dinode ≡ true = sym c.is_hashed.ensures ∙ grind (arith, c.if-not-is_hashed.false) in
    c.in_ok-walk.ensures.searched im shows (master_directory_of im inode is) (hashed_as im inode.block _ true is.dinode flag) (λ files. is.block) known

pub returns-clause-found : goal.returns-clause-found
returns-clause-found g c im shows is known hashed =
    let inode = c.args.inode.now in
    let walk = c.in_ok-walk.walk in
    let over = c.in_ok-walk.ensures.found im shows (master_directory_of im inode is) hashed (λ files. is.block) known in
    let none = over.walked.files c.in_ok-walk.ensures.names in
    record {
      plain = plain_records im inode.block walk over.hashed over.directory over.walked over.all c.in_ok-walk.ensures.names;
      sized = over.sized;
      leaves = over.leaves;
      sound = hashed_sound im inode inode.block walk is.dinode over.hashed over.walked over.all none (walk_all im inode.block walk over none) (walk_counted im inode.block walk over none)
          (subst (AreRowsOf inode inode.block) c.deref.ensures.value c.in_ok-check_hashed.ensures.rows);
    }

pub returns-then-not-is_hashed-clause-grown : goal.returns-then-not-is_hashed-clause-grown
returns-then-not-is_hashed-clause-grown g c = grown_none c.args.table.now

pub returns-clause-read : goal.returns-clause-read
returns-clause-read g c im shows is known hashed = c.in_ok-walk.ensures.read im shows (master_directory_of im c.args.inode.now is) hashed (λ files. is.block) known

pub returns-then-not-is_hashed-clause-read : goal.returns-then-not-is_hashed-clause-read
returns-then-not-is_hashed-clause-read g c im shows is known hashed =
    let plain : is_hashed_by c.args.inode.now.dinode ≡ false = sym c.is_hashed.ensures ∙ grind (arith, c.if-not-is_hashed.true) in
    absurd (both_ways (is_hashed_in (every im c.args.inode.now.block)) (hashed_as im c.args.inode.now.block _ false is.dinode plain) hashed)

pub returns-then-not-is_hashed-clause-found : goal.returns-then-not-is_hashed-clause-found
returns-then-not-is_hashed-clause-found g c im shows is known hashed =
    let plain : is_hashed_by c.args.inode.now.dinode ≡ false = sym c.is_hashed.ensures ∙ grind (arith, c.if-not-is_hashed.true) in
    absurd (both_ways (is_hashed_in (every im c.args.inode.now.block)) (hashed_as im c.args.inode.now.block _ false is.dinode plain) hashed)
