use Rattle.std.proofs.Common.{◌≡◌, ◌*◌, ◌^◌, sym, ap, subst, ◌∙◌}
use Rattle.gfs2_layout.specs.Inode.{dinode_in, is_hashed_in}
use Rattle.gfs2_layout.specs.declared.dinode.Dinode.{Dinode}
use Rattle.image_model.specs.Claims.{every}
use Rattle.image_mount.specs.Marked.{HasKeptContent}
use Rattle.image_mount.proofs.Looks.{table_sized}
use Rattle.image_mount.proofs.Masters.{file_inode, kept_file, table_is, table_short}
use Rattle.image_mount.proofs.Stops.{passed, stopped}
use Rattle.image_mount.proofs.Wanted.{listing_file}
use Rattle.image_mount.proofs.leaves.read_pointers.Goals as goal

pub returns-in_err-kept-clause-stops : goal.returns-in_err-kept-clause-stops
returns-in_err-kept-clause-stops c im read is hashed = passed im _ _ c.from_residual.ensures.1 (c.in_err-kept.ensures.stops im is.owner read is.claimed is.is_inode is.format is.from_reached (listing_file im c.args.inode.now.block is.read))

pub returns-in_err-depth-clause-stops : goal.returns-in_err-depth-clause-stops
returns-in_err-depth-clause-stops c im read is hashed =
    let kept = kept_file im c.args.inode.now c.in_ok-kept.kept is c.in_ok-kept.ensures.block c.in_ok-kept.ensures.from (c.in_ok-kept.ensures.found im read) in
    stopped im _ _ c.from_residual-in_err-depth.ensures.1
    (c.in_err-depth.ensures.refused im kept.dinode (c.block_size.ensures.value ∙ read.size) kept.format kept.reached
    (file_inode im c.in_ok-kept.kept kept, ap (λ a. is_hashed_in (every im a)) c.in_ok-kept.ensures.block ∙ hashed))

pub returns-in_err-bytes-clause-stops : goal.returns-in_err-bytes-clause-stops
returns-in_err-bytes-clause-stops c im read is hashed =
    let kept = kept_file im c.args.inode.now c.in_ok-kept.kept is c.in_ok-kept.ensures.block c.in_ok-kept.ensures.from (c.in_ok-kept.ensures.found im read) in
    passed im _ _ c.from_residual-in_err-bytes.ensures.1
    (c.in_err-bytes.ensures.stops im kept.owner read kept.claimed kept.is_inode kept.format kept.from_reached kept.read)

pub invariant_of-result : goal.invariant_of-result
invariant_of-result c = record { deep = c.in_ok-depth.ensures.deep; whole = c.in_ok-bytes.ensures.whole c.in_ok-kept.ensures.kept (c.in_ok-depth.ensures.bytes ∙ sym (table_short c.in_ok-depth.depth c.in_ok-depth.ensures.deep)) ∙ table_short c.in_ok-depth.depth c.in_ok-depth.ensures.deep }

pub returns-clause-found : goal.returns-clause-found
returns-clause-found c im read is hashed =
    let kept = kept_file im c.args.inode.now c.in_ok-kept.kept is c.in_ok-kept.ensures.block c.in_ok-kept.ensures.from (c.in_ok-kept.ensures.found im read) in
    let size : (dinode_in (every im c.in_ok-kept.kept.block)).size ≡ 8 * 2 ^ c.in_ok-depth.depth = ap (λ (d : Dinode). d.size) (sym kept.dinode) ∙ c.in_ok-depth.ensures.bytes in
    table_is im c.args.inode.now c.in_ok-kept.kept _ is c.in_ok-kept.ensures.block hashed kept (c.in_ok-depth.ensures.depth) size (c.in_ok-bytes.ensures.found im read (size ∙ sym (table_short c.in_ok-depth.depth c.in_ok-depth.ensures.deep)))
    (table_sized im c.in_ok-kept.kept.block c.block_size.result c.in_ok-depth.depth c.in_ok-kept.kept.dinode kept.dinode (c.block_size.ensures.value ∙ read.size) c.in_ok-depth.ensures.depth c.in_ok-depth.ensures.bytes
    c.in_ok-depth.ensures.least c.in_ok-depth.ensures.greatest)
    (c.in_ok-bytes.ensures.headed im read (size ∙ sym (table_short c.in_ok-depth.depth c.in_ok-depth.ensures.deep)))

pub returns-clause-kept : goal.returns-clause-kept
returns-clause-kept c im read is hashed =
    let kept = kept_file im c.args.inode.now c.in_ok-kept.kept is c.in_ok-kept.ensures.block c.in_ok-kept.ensures.from (c.in_ok-kept.ensures.found im read) in
    let size : (dinode_in (every im c.in_ok-kept.kept.block)).size ≡ 8 * 2 ^ c.in_ok-depth.depth = ap (λ (d : Dinode). d.size) (sym kept.dinode) ∙ c.in_ok-depth.ensures.bytes in
    subst (λ a. HasKeptContent c.args.table.now (every im a)) c.in_ok-kept.ensures.block
    (c.in_ok-bytes.ensures.kept im read c.block_size.ensures.view (size ∙ sym (table_short c.in_ok-depth.depth c.in_ok-depth.ensures.deep)))
