use Rattle.std.proofs.Common.{◌≡◌, true, sym, subst, ◌∙◌}
use Rattle.gfs2_layout.specs.Inode.{is_hashed_in}
use Rattle.image_model.specs.Claims.{every}
use Rattle.image_mount.specs.Found.{IsReached}
use Rattle.image_mount.specs.Looks.{HasSoundLeaves, IsLookedAt, IsSoundDirectory}
use Rattle.image_mount.specs.System.{IsJindexOf}
use Rattle.image_mount.proofs.Looks.{either_sized}
use Rattle.image_mount.proofs.Sound.{either_sound}
use Rattle.image_mount.proofs.Stops.{passed}
use Rattle.image_mount.proofs.Systems.{list_link, same_master, ground_of}
use Rattle.image_mount.proofs.system.find_groundwork.Goals as goal

pub returns-in_err-files-clause-stops : goal.returns-in_err-files-clause-stops
returns-in_err-files-clause-stops c im read count is plain = passed im _ _ c.from_residual.ensures.1 (c.in_err-files.ensures.stops im read is.inode (λ hashed. (plain hashed).plain))

pub returns-in_err-groups-clause-stops : goal.returns-in_err-groups-clause-stops
returns-in_err-groups-clause-stops c im read count is plain =
    let files = c.in_ok-files.ensures.found im read is.inode (λ hashed. (plain hashed).plain) in
    passed im _ _ c.from_residual-in_err-groups.ensures.1
    (c.in_err-groups.ensures.stops im read count (list_link im c.args.master.now.superblock c.in_ok-files.files is.inode.format is.superblock files))

pub returns-in_err-jindex-clause-stops : goal.returns-in_err-jindex-clause-stops
returns-in_err-jindex-clause-stops c im read count is plain =
    let files = c.in_ok-files.ensures.found im read is.inode (λ hashed. (plain hashed).plain) in
    passed im _ _ c.from_residual-in_err-jindex.ensures.1 (c.in_err-jindex.ensures.stops im read is.inode.format is.inode.block is.inode.reached files.jindex)

pub returns-clause-found : goal.returns-clause-found
returns-clause-found c im read count is plain =
    let sb = c.args.master.now.superblock in
    let files = c.in_ok-files.ensures.found im read is.inode (λ hashed. (plain hashed).plain) in
    let groups = c.in_ok-groups.ensures.found im read count (list_link im sb c.in_ok-files.files is.inode.format is.superblock files) in
    let at = is.inode.block ∙ sym (same_master im sb c.in_ok-files.files is.inode.format is.superblock files) in
    let jindex = c.in_ok-jindex.ensures.found im read is.inode.format is.inode.block files.jindex in
    ground_of im sb c.in_ok-files.files is.inode.format is.superblock files c.in_ok-groups.groups c.in_ok-jindex.jindex c.in_ok-jindex.ensures.block (subst (λ m. IsJindexOf im m c.in_ok-jindex.jindex) at jindex) (subst (IsReached im) at is.inode.reached)
    (subst (IsLookedAt im) at (record { dinode = is.inode.right; sized = either_sized im c.args.master.now.inode.block (λ hashed. (plain hashed).sized) (c.in_ok-files.ensures.sized im read is.inode) }))
    (subst (λ a. IsSoundDirectory im a a) at (either_sound im c.args.master.now.inode.block c.args.master.now.inode.block (λ hashed. (plain hashed).sound) (c.in_ok-files.ensures.sound im read is.inode)))
    (subst (λ a. is_hashed_in (every im a) ≡ true → HasSoundLeaves im a) at (λ hashed. (plain hashed).leaves))
    (c.in_ok-groups.ensures.repeats im read) (c.in_ok-jindex.ensures.repeats im read) groups

pub returns-clause-content : goal.returns-clause-content
returns-clause-content c im read = c.in_ok-groups.ensures.kept im read
