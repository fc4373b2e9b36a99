-- The superblock and the top directories, as the code finds them.
use Rattle.std.proofs.Common.{◌≡◌, ◌⊎◌, true, false, ℕ, ◌/◌, ◌<◌, ◌≤◌, List, length, Ok, inl, inr, refl, sym, ap, subst, ◌∙◌, arith}
use Rattle.gfs2_layout.specs.Device.{superblock_place}
use Rattle.gfs2_layout.specs.Headers.{HasHeader}
use Rattle.gfs2_layout.specs.Inode.{is_directory_in}
use Rattle.gfs2_layout.specs.Structures.{answer, is_directory, superblock_of, superblock_read}
use Rattle.gfs2_layout.specs.declared.superblock.SuperBlock.{SuperBlock}
use Rattle.image_model.specs.Claims.{every, Claims, HasInode}
use Rattle.image_reader.specs.Going.{IsVisitIn}
use Rattle.image_model.specs.Image.{superblock_in}
use Rattle.image_model.specs.Owners.{Owner, Root, Master, is_dinode, parent_of}
use Rattle.image_reader.specs.Reading.{image_at, IsDinodeBlock, IsTrueOf}
use Rattle.image_model.specs.Rules.{Breaks, no_superblock, no_header, of_superblock, root_is_file}
use Rattle.image_reader.specs.declared.blocks.Block.{Block}
use Rattle.image_reader.specs.declared.blocks.Blocks.{Blocks}
use Rattle.image_reader.specs.declared.directory.Visit.{Visit}
use Rattle.image_reader.specs.declared.image.ImageFault.{ImageFault}
use Rattle.image_reader.specs.declared.image.ImageFault.TheVariants.{Damaged}
use Rattle.image_reader.proofs.InodeFaults.{told_at, told_broken, told_of}
use Rattle.image_reader.proofs.Inside.{block_inside}
use Rattle.image_reader.proofs.LeafFaults.{header_well}
use Rattle.image_reader.proofs.Pieces.{dinode_is}

pub superblock_beyond : (image : Blocks) (fault : ImageFault) (place : ℕ) → fault ≡ Damaged place 1 → place ≡ 65536 / image.size → image.count ≤ place → IsTrueOf (image_at image) fault
superblock_beyond image fault place is place_is past =
    let counted = image.counted in
    told_broken (image_at image) fault (superblock_place image.size) 1 (is ∙ ap (λ n. Damaged n 1) place_is)
    (record { breaks = no_superblock (omega (arith, past, place_is, counted)); there = inr (refl, refl) })

pub superblock_lacks : (image : Blocks) (block : Block) (fault : ImageFault) (place : ℕ) (bytes : List ℕ) → fault ≡ Damaged place 1 → place ≡ 65536 / image.size → block.number ≡ place → block.image ≡ image
    → bytes ≡ (image_at block.image).at block.number → 272 ≤ length bytes → ((s : SuperBlock) → superblock_read bytes ≡ Ok s → ⊥) → IsTrueOf (image_at image) fault
superblock_lacks image block fault place bytes is place_is at same bytes_is long fails =
    let there : bytes ≡ (image_at image).at (superblock_place image.size) =
    bytes_is ∙ ap (λ (i : Blocks). (image_at i).at block.number) same ∙ ap (image_at image).at (at ∙ place_is) in
    let lacks : ¬ (HasHeader 1 100 ((image_at image).at (superblock_place image.size))) = λ has.
    fails (superblock_of bytes) (ap (λ o. answer o (superblock_of bytes)) (header_well 272 1 100 bytes long (subst (HasHeader 1 100) (sym there) has))) in
    told_at image fault (superblock_place image.size) 1 (is ∙ ap (λ n. Damaged n 1) place_is) (subst (λ n. n < image.count) (at ∙ place_is) (block_inside block image same)) (no_header (superblock_place image.size) 1 100 of_superblock lacks)

pub root_not_directory : (visit : Visit) (fault : ImageFault) → fault ≡ Damaged visit.inode.block.number 8 → visit.inode.block.number ≡ (superblock_in (image_at visit.inode.block.image)).root.address
    → is_directory visit.inode.dinode ≡ false → IsTrueOf (image_at visit.inode.block.image) fault
root_not_directory visit fault is at file =
    let im = image_at visit.inode.block.image in
    let here : is_directory_in (every im visit.inode.block.number) ≡ false = ap is_directory (sym (dinode_is visit.inode)) ∙ file in
    told_of visit.inode.block fault 8 is (subst (Breaks im 8) (sym at) (root_is_file (subst (λ n. is_directory_in (every im n) ≡ false) at here)))

top_dinode : (o : Owner) → (o ≡ Root) ⊎ (o ≡ Master) → is_dinode o ≡ true
top_dinode o (inl root) = ap is_dinode root
top_dinode o (inr master) = ap is_dinode master

own_parent : (n : ℕ) (o : Owner) → (o ≡ Root) ⊎ (o ≡ Master) → parent_of n o ≡ n
own_parent n o (inl root) = ap (parent_of n) root
own_parent n o (inr master) = ap (parent_of n) master

pub top_inode : (image : Blocks) (by number : ℕ) (o : Owner) → Claims (image_at image) by number o → (o ≡ Root) ⊎ (o ≡ Master) → HasInode (image_at image) number
top_inode image by number o claimed top = (o, record { by = by; claimed = claimed; dinode = top_dinode o top })

pub top_block : (image : Blocks) (block : Block) (by number : ℕ) (o : Owner) → block.image ≡ image → block.number ≡ number → Claims (image_at image) by number o → (o ≡ Root) ⊎ (o ≡ Master)
    → IsDinodeBlock block
top_block image block by number o same at claimed top =
    subst (λ (i : Blocks). HasInode (image_at i) block.number) (sym same) (subst (HasInode (image_at image)) (sym at) (top_inode image by number o claimed top))

pub top_visit : (image : Blocks) (visit : Visit) (by number : ℕ) (o : Owner) → visit.inode.block.image ≡ image → visit.inode.block.number ≡ number → visit.parent ≡ number → number < image.count
    → Claims (image_at image) by number o → (o ≡ Root) ⊎ (o ≡ Master) → IsVisitIn image visit
top_visit image visit by number o same at parent inside claimed top =
    let here : Claims (image_at image) by visit.inode.block.number o = subst (λ n. Claims (image_at image) by n o) (sym at) claimed in
    record {
      same = same;
      owner = o;
      at = record { by = by; claimed = here; dinode = top_dinode o top };
      parent = parent ∙ sym at ∙ sym (own_parent visit.inode.block.number o top);
      above = subst (HasInode (image_at image)) (sym parent) (top_inode image by number o claimed top);
      inside = omega (arith, parent, inside);
    }
