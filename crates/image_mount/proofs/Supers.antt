-- The superblock that was read.
use Rattle.std.proofs.Common.{inr, ◌≡◌, ◌≤◌, ◌<◌, inl, ℕ, List, length, Option, None, Some, Ok, Err, refl, sym, ap, subst, ◌∙◌, arith}
use Rattle.profile_limits.specs.Limits.{most_blocks}
use Rattle.std.proofs.lemmas.Bool.Decides.{nat_tests}
use Rattle.gfs2_layout.specs.Device.{superblock_place}
use Rattle.gfs2_layout.specs.Headers.{HasHeader}
use Rattle.gfs2_layout.specs.Structures.{answer, header_fault, superblock_of, superblock_read}
use Rattle.gfs2_layout.specs.declared.fault.LayoutFault.{LayoutFault}
use Rattle.gfs2_layout.specs.declared.superblock.SuperBlock.{SuperBlock}
use Rattle.image_model.specs.Image.{Image, superblock_in}
use Rattle.image_model.specs.Rules.{Breaks, no_header, of_superblock}
use Rattle.image_mount.specs.Found.{HasSuper}
use Rattle.image_mount.specs.Refusals.{IsToldAt, RefusesRightly, no_super}
use Rattle.image_mount.specs.declared.fault.MountFault.{MountFault}
use Rattle.image_mount.specs.declared.fault.MountFault.TheVariants as fault
pub use Rattle.image_reader.proofs.LeafFaults.{header_well}

pub header_is : (needed kind format : ℕ) (bytes : List ℕ) → header_fault needed kind format bytes ≡ None → HasHeader kind format bytes
header_is needed kind format bytes none = record {
  magic_is = grind (arith, nat_tests, none);
  kind_is = grind (arith, nat_tests, none);
  format_is = grind (arith, nat_tests, none);
}

answered : (o : Option LayoutFault) (s t : SuperBlock) → Ok t ≡ answer o s → (o ≡ None) × (t ≡ s)
answered None s t e = (refl, cc)
answered (Some f) s t e = absurd (cc)

answered_err : (o : Option LayoutFault) (s : SuperBlock) (f : LayoutFault) → Err f ≡ answer o s → o ≡ None → ⊥
answered_err None s f e none = cc
answered_err (Some g) s f e none = cc

-- the superblock's block, read
pub super_is : (im : Image) (bytes : List ℕ) (s : SuperBlock) (place : ℕ) → place ≡ superblock_place im.size → im.at place ≡ bytes → Ok s ≡ superblock_read bytes → s ≡ superblock_in im
super_is im bytes s place at same read =
    (answered (header_fault 272 1 100 bytes) (superblock_of bytes) s read).1 ∙ ap superblock_of (sym same ∙ ap im.at at)

pub has_super : (im : Image) (bytes : List ℕ) (s : SuperBlock) (place : ℕ) → place ≡ superblock_place im.size → im.at place ≡ bytes → Ok s ≡ superblock_read bytes
    → im.count ≤ most_blocks → superblock_place im.size < im.count → length bytes ≡ im.size → HasSuper im
has_super im bytes s place at same read few inside whole = record {
  few = few;
  inside = inside;
  whole = ap (λ b. length (im.at b)) (sym at) ∙ ap length same ∙ whole;
  header = subst (HasHeader 1 100) (sym same ∙ ap im.at at) (header_is 272 1 100 bytes (answered (header_fault 272 1 100 bytes) (superblock_of bytes) s read).0);
}

pub lacks_super : (im : Image) (bytes : List ℕ) (e : LayoutFault) (place : ℕ) (f : MountFault) → place ≡ superblock_place im.size → im.at place ≡ bytes → 272 ≤ length bytes
    → Err e ≡ superblock_read bytes → im.count ≤ most_blocks → place < im.count → f ≡ fault.Damaged place 1 → RefusesRightly im f
lacks_super im bytes e place f at same long read few inside is =
    let lacks : ¬ (HasHeader 1 100 (im.at (superblock_place im.size))) = λ has.
    answered_err (header_fault 272 1 100 bytes) (superblock_of bytes) e read (header_well 272 1 100 bytes long (subst (HasHeader 1 100) (ap im.at (sym at) ∙ same) has)) in
    let breaks : Breaks im 1 (superblock_place im.size) = no_header (superblock_place im.size) 1 100 of_superblock lacks in
    subst (RefusesRightly im) (sym is) (record { breaks = subst (Breaks im 1) (sym at) breaks; there = inl inside }, subst (IsToldAt im 1) (sym at) (no_super (record { few = few; lacks = inr lacks })))
