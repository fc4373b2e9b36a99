-- What a dinode breaks, as the code finds it.
use Rattle.std.proofs.Common.{◌≡◌, ◌≢◌, ℕ, suc, ◌+◌, ◌-◌, ◌*◌, ◌^◌, ◌<◌, ◌≤◌, min, Bool, false, IsTrue, ◌↔◌, inl, sym, subst, ◌∙◌, arith}
use Rattle.gfs2_layout.specs.Structures.{is_directory, is_regular}
use Rattle.gfs2_layout.specs.declared.dinode.Dinode.{Dinode}
use Rattle.gfs2_layout.specs.Headers.{HasHeader}
use Rattle.image_model.specs.Image.{Image}
use Rattle.gfs2_layout.specs.Inode.{dinode_in, fan, span, content_count}
use Rattle.image_reader.specs.Reading.{held, image_at, IsDinodeBlock, IsTrueOf}
use Rattle.image_model.specs.Rules.{Breaks, IsBrokenBlock, no_header, of_dinode, other_address, no_number, no_mode, too_high, too_large_for_dinode, too_large_for_height}
use Rattle.image_reader.specs.declared.blocks.Block.{Block}
use Rattle.image_reader.specs.declared.blocks.Blocks.{Blocks}
use Rattle.image_reader.specs.declared.inode.Inode.{Inode}
use Rattle.image_reader.specs.declared.image.ImageFault.{ImageFault}
use Rattle.image_reader.specs.declared.image.ImageFault.TheVariants.{Damaged}
use Rattle.image_reader.proofs.Pieces.{dinode_is}
use Rattle.image_reader.proofs.Spans.{not_capped}

-- a breach that is told
pub told_broken : (im : Image) (fault : ImageFault) (block rule : ℕ) → fault ≡ Damaged block rule → IsBrokenBlock im rule block → IsTrueOf im fault
told_broken im fault block rule is broken = subst (IsTrueOf im) (sym is) broken

pub broken : (im : Image) (block rule : ℕ) → block < im.count → Breaks im rule block → IsBrokenBlock im rule block
broken im block rule low breaks = record { breaks = breaks; there = inl low }

-- a breach of a block of the image
pub told : (im : Image) (fault : ImageFault) (block rule : ℕ) → fault ≡ Damaged block rule → block < im.count → Breaks im rule block → IsTrueOf im fault
told im fault block rule is low breaks = told_broken im fault block rule is (broken im block rule low breaks)

pub told_at : (image : Blocks) (fault : ImageFault) (block rule : ℕ) → fault ≡ Damaged block rule → block < image.count → Breaks (image_at image) rule block
    → IsTrueOf (image_at image) fault
told_at image fault block rule is low breaks = told (image_at image) fault block rule is (omega (arith, low, image.counted)) breaks

-- of a block that was read
pub told_of : (block : Block) (fault : ImageFault) (rule : ℕ) → fault ≡ Damaged block.number rule → Breaks (image_at block.image) rule block.number
    → IsTrueOf (image_at block.image) fault
told_of block fault rule is breaks = told_at block.image fault block.number rule is block.inside breaks

pub lacks_header : (block : Block) (fault : ImageFault) → fault ≡ Damaged block.number 1 → IsDinodeBlock block
    → ¬ (HasHeader 4 400 ((image_at block.image).at block.number)) → IsTrueOf (image_at block.image) fault
lacks_header block fault is here lacks = told_of block fault _ is (no_header block.number 4 400 (of_dinode block.number here) lacks)

-- where P holds of what was read, it holds of what the dinode says
pub said : (inode : Inode) (P : Dinode → Type 0) → P inode.dinode → P (dinode_in (held inode))
said inode P here = subst P (dinode_is inode) here

pub wrong_address : (inode : Inode) (fault : ImageFault) → fault ≡ Damaged inode.block.number 7 → IsDinodeBlock inode.block
    → inode.dinode.num.address ≢ inode.block.number → IsTrueOf (image_at inode.block.image) fault
wrong_address inode fault is here other =
    told_of inode.block fault _ is (other_address inode.block.number here (said inode (λ d. d.num.address ≢ inode.block.number) other))

pub wrong_number : (inode : Inode) (fault : ImageFault) → fault ≡ Damaged inode.block.number 7 → IsDinodeBlock inode.block
    → inode.dinode.num.number ≡ 0 → IsTrueOf (image_at inode.block.image) fault
wrong_number inode fault is here zero =
    told_of inode.block fault _ is (no_number inode.block.number here (said inode (λ d. d.num.number ≡ 0) zero))

pub wrong_mode : (inode : Inode) (fault : ImageFault) → fault ≡ Damaged inode.block.number 8 → IsDinodeBlock inode.block
    → is_directory inode.dinode ≡ false → is_regular inode.dinode ≡ false → IsTrueOf (image_at inode.block.image) fault
wrong_mode inode fault is here directory regular =
    told_of inode.block fault _ is (no_mode inode.block.number here (said inode (λ d. is_directory d ≡ false) directory) (said inode (λ d. is_regular d ≡ false) regular))

pub height_too_high : (inode : Inode) (fault : ImageFault) → fault ≡ Damaged inode.block.number 8 → IsDinodeBlock inode.block
    → 10 < inode.dinode.height → IsTrueOf (image_at inode.block.image) fault
height_too_high inode fault is here high =
    told_of inode.block fault _ is (too_high inode.block.number here (said inode (λ d. 10 < d.height) high))

pub stuffed_too_large : (inode : Inode) (fault : ImageFault) → fault ≡ Damaged inode.block.number 8 → IsDinodeBlock inode.block
    → inode.dinode.height ≡ 0 → inode.block.image.size < 232 + inode.dinode.size → IsTrueOf (image_at inode.block.image) fault
stuffed_too_large inode fault is here low large =
    told_of inode.block fault _ is (too_large_for_dinode inode.block.number here (said inode (λ d. d.height ≡ 0) low) (said inode (λ d. inode.block.image.size < 232 + d.size) large))

pub pointed_too_large : (inode : Inode) (fault : ImageFault) (level : ℕ) → fault ≡ Damaged inode.block.number 8 → IsDinodeBlock inode.block
    → inode.dinode.height ≡ suc level → fan inode.block.image.size 232 * span inode.block.image.size level < content_count (held inode)
    → IsTrueOf (image_at inode.block.image) fault
pointed_too_large inode fault level is here high large =
    told_of inode.block fault _ is (too_large_for_height inode.block.number level here (said inode (λ d. d.height ≡ suc level) high) large)

-- a test that says no
pub lacking : (b : Bool) (P : Type 0) → b ≡ false → (IsTrue b ↔ P) → ¬ P
lacking b P fails both here = let t : IsTrue b = both.1 here in cc

pub content_above : (inode : Inode) (fault : ImageFault) (level f s most count : ℕ) → fault ≡ Damaged inode.block.number 8 → IsDinodeBlock inode.block
    → inode.dinode.height ≡ level + 1 → f ≡ fan inode.block.image.size 232 → s ≡ min (span inode.block.image.size level) (2 ^ 64 - 1)
    → most ≡ min (f * s) (2 ^ 64 - 1) → count ≡ content_count (held inode) → count < 2 ^ 64 → most < count → IsTrueOf (image_at inode.block.image) fault
content_above inode fault level f s most count is here height fan_is span_is most_is count_is small above =
    let m = 2 ^ 64 - 1 in
    let product : most ≡ min (fan inode.block.image.size 232 * min (span inode.block.image.size level) m) m = most_is ∙ (λ i. min (fan_is i * span_is i) m) in
    let all = span inode.block.image.size level in
    let low : content_count (held inode) ≤ m = omega (arith, small, count_is) in
    let below : min (fan inode.block.image.size 232 * min all m) m < content_count (held inode) = omega (arith, product, above, count_is) in
    pointed_too_large inode fault level is here (omega (arith, height)) (not_capped m (fan inode.block.image.size 232) all (content_count (held inode)) low below)
