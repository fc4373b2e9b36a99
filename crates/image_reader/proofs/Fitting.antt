-- That the content of an inode fits, as the code finds it.
use Rattle.std.proofs.Common.{◌≡◌, ℕ, ◌+◌, ◌-◌, ◌*◌, ◌^◌, ◌≤◌, min, ap, subst, ◌∙◌, arith}
use Rattle.std.proofs.Math.Nat.{min-le_left, mul_comm}
use Rattle.gfs2_layout.specs.declared.dinode.Dinode.{Dinode}
use Rattle.gfs2_layout.specs.Inode.{dinode_in, height_in, fan, span, content_count, Fits}
use Rattle.image_reader.specs.Reading.{held}
use Rattle.image_reader.specs.declared.inode.Inode.{Inode}
use Rattle.image_reader.proofs.Pieces.{dinode_is}
use Rattle.image_reader.proofs.Spans.{capped_product}

-- what is at most a product that was cut off is at most the product
pub under_product : (m f s count most : ℕ) → most ≡ min (f * min s m) m → count ≤ most → count ≤ f * s
under_product m f s count most is low =
    let same : min (f * min s m) m ≡ min (f * s) m = ap (λ n. min n m) (mul_comm f (min s m)) ∙ capped_product m s f in
    omega (arith, is, same, min-le_left (f * s) m, low)

pub under_pointers : (inode : Inode) (level f s most count : ℕ) → f ≡ fan inode.block.image.size 232 → s ≡ min (span inode.block.image.size level) (2 ^ 64 - 1)
    → most ≡ min (f * s) (2 ^ 64 - 1) → count ≡ content_count (held inode) → count ≤ most → content_count (held inode) ≤ fan inode.block.image.size 232 * span inode.block.image.size level
under_pointers inode level f s most count fan_is span_is most_is count_is low =
    let m = 2 ^ 64 - 1 in
    let product : most ≡ min (fan inode.block.image.size 232 * min (span inode.block.image.size level) m) m = most_is ∙ (λ i. min (fan_is i * span_is i) m) in
    under_product m (fan inode.block.image.size 232) (span inode.block.image.size level) (content_count (held inode)) most product (omega (arith, count_is, low))

height_is : (inode : Inode) → inode.dinode.height ≡ height_in (held inode)
height_is inode = ap (λ (d : Dinode). d.height) (dinode_is inode)

pub fits_stuffed : (inode : Inode) → inode.dinode.height ≡ 0 → 232 + inode.dinode.size ≤ inode.block.image.size → Fits (held inode)
fits_stuffed inode none low =
    let same = height_is inode in
    let size : inode.dinode.size ≡ (dinode_in (held inode)).size = ap (λ (d : Dinode). d.size) (dinode_is inode) in
    record {
      low = omega (arith, same, none);
      stuffed = λ zero. omega (arith, size, low);
      under = λ level high. absurd (omega (arith, same, none, high));
    }

pub fits_pointed : (inode : Inode) (level : ℕ) → inode.dinode.height ≤ 10 → inode.dinode.height ≡ level + 1
    → content_count (held inode) ≤ fan inode.block.image.size 232 * span inode.block.image.size level → Fits (held inode)
fits_pointed inode level most is under =
    let same = height_is inode in
    record {
      low = omega (arith, same, most);
      stuffed = λ zero. absurd (omega (arith, same, is, zero));
      under = λ n high. subst (λ l. content_count (held inode) ≤ fan inode.block.image.size 232 * span inode.block.image.size l) (omega (arith, same, is, high)) under;
    }
