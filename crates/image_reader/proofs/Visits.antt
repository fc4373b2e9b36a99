-- What a walk over a whole inode holds, and what its counts break.
use Rattle.std.proofs.Common.{◌≡◌, ◌≢◌, false, ℕ, ◌+◌, ◌-◌, ◌*◌, ◌≤◌, min, List, length, Option, refl, sym, ap, subst, ◌∙◌, arith}
use Rattle.std.proofs.Math.Nat.{mul-le-mul_left}
use Rattle.gfs2_layout.specs.Inode.{Fits, fan, span, content_count, dinode_in, is_directory_in}
use Rattle.gfs2_layout.specs.Structures.{is_directory}
use Rattle.gfs2_layout.specs.declared.dinode.Dinode.{Dinode}
use Rattle.image_model.specs.Claims.{every, Claims, in_dinode, in_leaf, IsInodeAt, HasInode}
use Rattle.image_reader.specs.Complete.{AllAreFound, HasNoLeaf, IsBlockCount}
use Rattle.image_reader.specs.Finding.{IsFoundIn}
use Rattle.image_reader.specs.Going.{IsVisitIn, IsFresh, IsOf}
use Rattle.image_model.specs.Image.{Image}
use Rattle.image_model.specs.Owners.{Named}
use Rattle.image_reader.specs.Reading.{held, image_at, IsDinodeBlock, IsTrueOf}
use Rattle.image_model.specs.Rules.{file_links, blocks_count}
use Rattle.image_reader.specs.declared.blocks.Blocks.{Blocks}
use Rattle.image_reader.specs.declared.directory.Found.{Found}
use Rattle.image_reader.specs.declared.directory.Visit.{Visit}
use Rattle.image_reader.specs.declared.image.ImageFault.{ImageFault}
use Rattle.image_reader.specs.declared.image.ImageFault.TheVariants.{Damaged}
use Rattle.image_reader.specs.declared.inode.Inode.{Inode}
use Rattle.image_reader.specs.declared.owners.Claim.{Claim}
use Rattle.image_reader.proofs.Directories.{leaf_is_hashed, not_both}
use Rattle.image_reader.proofs.InodeFaults.{told_of, said}
use Rattle.image_reader.proofs.Pieces.{dinode_is}
use Rattle.image_model.proofs.Rows.{and_left}

pub dinode_at : (image : Blocks) (visit : Visit) → IsVisitIn image visit → IsDinodeBlock visit.inode.block
dinode_at image visit v =
    let here : HasInode (image_at image) visit.inode.block.number = (v.owner, v.at) in
    subst (λ (i : Blocks). HasInode (image_at i) visit.inode.block.number) (sym v.same) here

pub no_leaf_of_fresh : (visit : Visit) (entries : List (Option Claim)) → IsFresh visit.inode.block.number entries → HasNoLeaf visit entries
no_leaf_of_fresh visit entries fresh x hash place has = fresh x has.claim has.there (subst (IsOf visit.inode.block.number) (sym has.owner) refl)

-- a file has no names and no leaves
pub file_has_none : (im : Image) (a by b : ℕ) (name : List ℕ) → is_directory_in (every im a) ≡ false → Claims im by b (Named a name) → ⊥
file_has_none im a _ _ _ file (in_dinode by _ o r claimed dinode dir linear there dots) = not_both (is_directory_in (every im a)) dir file
file_has_none im a _ _ _ file (in_leaf by x _ hash place r claimed there dots) = not_both (is_directory_in (every im a)) (and_left _ _ (leaf_is_hashed im by x a hash place claimed)) file

pub file_found : (image : Blocks) (visit : Visit) (entries : List (Option Claim)) (found : List Found) → visit.inode.block.image ≡ image → is_directory visit.inode.dinode ≡ false
    → AllAreFound (image_at image) visit entries found
file_found image visit entries found own file =
    let here : is_directory_in (held visit.inode) ≡ false = ap is_directory (sym (dinode_is visit.inode)) ∙ file in
    let P : Blocks → Type 0 = λ i. AllAreFound (image_at i) visit entries found in
    subst P own (record {
      names = λ by b name claimed. absurd (file_has_none (image_at visit.inode.block.image) visit.inode.block.number by b name here claimed);
      leaves = λ by x hash place claimed. absurd (not_both (is_directory_in (held visit.inode)) (and_left _ _ (leaf_is_hashed (image_at visit.inode.block.image) by x visit.inode.block.number hash place claimed)) here);
    })

pub wrong_links : (inode : Inode) (fault : ImageFault) → fault ≡ Damaged inode.block.number 12 → IsDinodeBlock inode.block → is_directory inode.dinode ≡ false → inode.dinode.nlink ≢ 1
    → IsTrueOf (image_at inode.block.image) fault
wrong_links inode fault is here file other =
    told_of inode.block fault _ is (file_links inode.block.number here (said inode (λ d. is_directory d ≡ false) file) (said inode (λ d. d.nlink ≢ 1) other))

pub wrong_blocks : (inode : Inode) (fault : ImageFault) (beside : ℕ) → fault ≡ Damaged inode.block.number 19 → IsDinodeBlock inode.block → IsBlockCount (image_at inode.block.image) inode.block.number beside
    → inode.dinode.blocks ≢ 1 + beside → IsTrueOf (image_at inode.block.image) fault
wrong_blocks inode fault beside is here count other =
    let wrong : inode.dinode.blocks ≢ 1 + length count.blocks = λ e. other (omega (arith, e, count.counted)) in
    told_of inode.block fault _ is (blocks_count inode.block.number count.blocks here count.all (said inode (λ d. d.blocks ≢ 1 + length count.blocks) wrong))

-- ---- an inode that fits

pub fits_stuffed : (inode : Inode) → inode.dinode.height ≡ 0 → 232 + inode.dinode.size ≤ inode.block.image.size → Fits (held inode)
fits_stuffed inode none small =
    let height : (dinode_in (held inode)).height ≡ 0 = said inode (λ d. d.height ≡ 0) none in
    record {
      low = omega (arith, height);
      stuffed = λ is. said inode (λ d. 232 + d.size ≤ inode.block.image.size) small;
      under = λ level is. absurd (omega (arith, height, is));
    }

pub fits_pointed : (inode : Inode) (level : ℕ) → inode.dinode.height ≤ 10 → inode.dinode.height ≢ 0 → level ≡ inode.dinode.height - 1
    → content_count (held inode) ≤ fan inode.block.image.size 232 * span inode.block.image.size level → Fits (held inode)
fits_pointed inode level low some level_is under =
    let height : inode.dinode.height ≡ (dinode_in (held inode)).height = ap (λ (d : Dinode). d.height) (dinode_is inode) in
    record {
      low = omega (arith, low, height);
      stuffed = λ is. absurd (some (height ∙ is));
      under = λ l is.
          let same : level ≡ l = omega (arith, level_is, height, is) in
          subst (λ n. content_count (held inode) ≤ fan inode.block.image.size 232 * span inode.block.image.size n) same under;
    }

pub under_of : (size level f s most count c m : ℕ) → f ≡ fan size 232 → s ≡ min (span size level) m → most ≡ min (f * s) m → count ≡ c → count ≤ most → c ≤ fan size 232 * span size level
under_of size level f s most count c m f_is s_is most_is count_is low =
    let below : s ≤ span size level = omega (arith, s_is) in
    let more : f * s ≤ f * span size level = mul-le-mul_left f below in
    let all : f * span size level ≡ fan size 232 * span size level = ap (λ n. n * span size level) f_is in
    omega (arith, low, most_is, count_is, more, all)

pub links_all : (image : Blocks) (visit : Visit) (entries : List (Option Claim)) (found : List Found) → IsVisitIn image visit → is_directory visit.inode.dinode ≡ false
    → AllAreFound (image_at image) visit entries found
links_all image visit entries found v file = file_found image visit entries found v.same file

-- what was found may be gone over
pub visit_found : (image : Blocks) (f : Found) (v : Visit) → v.inode ≡ f.inode → v.parent ≡ f.parent → IsFoundIn image f → IsVisitIn image v
visit_found image f v same parent is =
    let P : Inode → Type 0 = λ i. IsInodeAt (image_at image) i.block.number (Named f.parent f.name) in
    record {
      same = ap (λ (i : Inode). i.block.image) same ∙ is.same;
      owner = Named f.parent f.name;
      at = subst P (sym same) (record { by = f.by; claimed = is.claimed; dinode = refl });
      parent = parent;
      above = subst (HasInode (image_at image)) (sym parent) is.parent;
      inside = omega (arith, parent, is.inside);
    }
