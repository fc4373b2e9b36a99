use Rattle.std.proofs.Common.{◌≡◌, true, refl, ap, sym, subst, ◌∙◌, arith}
use Rattle.gfs2_layout.specs.Device.{superblock_place}
use Rattle.gfs2_layout.specs.declared.superblock.SuperBlock.{SuperBlock}
use Rattle.gfs2_layout.specs.Inode.{dinode_in}
use Rattle.dinode_tree.specs.Reading.{IsRightDinode}
use Rattle.gfs2_layout.specs.Structures.{is_directory}
use Rattle.image_model.specs.Claims.{every, master_of}
use Rattle.image_model.specs.Owners.{Master}
use Rattle.image_model.specs.SystemFiles.{is_master as is_master_file}
use Rattle.image_mount.specs.Found.{IsReached}
use Rattle.image_mount.specs.Marked.{IsKept}
use Rattle.image_mount.proofs.Causes.{super_reached}
use Rattle.image_mount.proofs.Stops.{passed}
use Rattle.image_mount.proofs.SystemFiles.{is_master, master_file, not_directory}
use Rattle.image_mount.proofs.master.find_master.Goals as goal

pub returns-in_err-inode-clause-stops : goal.returns-in_err-inode-clause-stops
returns-in_err-inode-clause-stops c im read few =
    let place : c.superblock_block-place.result ≡ superblock_place im.size = c.superblock_block-place.ensures ∙ ap superblock_place (c.block_size.ensures.value ∙ read.size) in
    let same : c.in_ok-superblock.superblock.master.address ≡ master_of im = ap (λ (s : SuperBlock). s.master.address) (c.in_ok-superblock.ensures.found im read) in
    passed im _ _ c.from_residual-in_err-inode.ensures.1 (c.in_err-inode.ensures.stops im Master read (is_master im _ _ place same) refl (c.in_ok-superblock.ensures.format im read few) (subst (IsReached im) (sym place) (super_reached im (c.in_ok-superblock.ensures.format im read few))) (is_master_file same))

pub returns-then-not-is_directory-clause-stops : goal.returns-then-not-is_directory-clause-stops
returns-then-not-is_directory-clause-stops c im read few =
    let inode = c.in_ok-inode.inode in
    let same : c.in_ok-superblock.superblock.master.address ≡ master_of im = ap (λ (s : SuperBlock). s.master.address) (c.in_ok-superblock.ensures.found im read) in
    let dinode = c.in_ok-inode.ensures.found im read in
    let at = c.in_ok-inode.ensures.block in
    master_file im _ inode.block c.damaged.ensures (c.in_ok-superblock.ensures.format im read few) (subst (IsReached im) (sym at) (c.in_ok-inode.ensures.reached im read)) (at ∙ same)
    (not_directory im inode.block inode.dinode c.is_directory.result (dinode ∙ ap (λ a. dinode_in (every im a)) (sym at)) c.is_directory.ensures c.if-not-is_directory.true)

pub returns-clause-found : goal.returns-clause-found
returns-clause-found c im read few =
    let inode = c.in_ok-inode.inode in
    let place : c.superblock_block-place.result ≡ superblock_place im.size = c.superblock_block-place.ensures ∙ ap superblock_place (c.block_size.ensures.value ∙ read.size) in
    let same : c.in_ok-superblock.superblock.master.address ≡ master_of im = ap (λ (s : SuperBlock). s.master.address) (c.in_ok-superblock.ensures.found im read) in
    let at = c.in_ok-inode.ensures.block in
    let dinode : inode.dinode ≡ dinode_in (every im inode.block) = c.in_ok-inode.ensures.found im read ∙ ap (λ a. dinode_in (every im a)) (sym at) in
    let yes : is_directory inode.dinode ≡ true = sym c.is_directory.ensures ∙ grind (arith, c.if-not-is_directory.false) in
    record {
      superblock = c.in_ok-superblock.ensures.found im read;
      inode = record {
        format = c.in_ok-superblock.ensures.format im read few;
        block = at ∙ same;
        from = c.in_ok-inode.ensures.from ∙ place;
        dinode = dinode;
        right = subst (λ a. IsRightDinode (every im a)) (sym at) (c.in_ok-inode.ensures.right im read);
        reached = subst (IsReached im) (sym at) (c.in_ok-inode.ensures.reached im read);
        directory = ap is_directory (sym dinode) ∙ yes;
      };
    }

pub returns-clause-there : goal.returns-clause-there
returns-clause-there c = subst (IsKept c.args.table.now) (sym c.in_ok-inode.ensures.block) c.in_ok-inode.ensures.there
