-- The table of what claims each block, as far as it was found.
use Rattle.std.specs.Prelude.{ℕ, ◌≡◌, ◌≢◌, ◌⊎◌, ◌-◌, ◌/◌, ◌^◌, Bool, true, false, List, Option, None, Some, slice_get, slice_set}
use Rattle.gfs2_layout.specs.Inode.{depth_in, entry}
use Rattle.image_model.specs.Claims.{every, Claims, IsLeafBehind}
use Rattle.image_model.specs.Image.{Image}
use Rattle.image_model.specs.Owners.{Owner, Root, Master, Named, Below, Chained, AreOneChain}
use Rattle.image_reader.specs.declared.image.ImageFault.{ImageFault}
use Rattle.image_reader.specs.declared.image.ImageFault.TheVariants.{Damaged}
use Rattle.image_reader.specs.declared.owners.Claim.{Claim}
use Rattle.image_reader.specs.declared.owners.Claim.TheVariants as by

-- the owner by a claim
abbrev pub owner_of : Claim → Owner
owner_of by.Root = Root
owner_of by.Master = Master
owner_of (by.Named parent name) = Named parent name.now
owner_of (by.Below inode block pointer level first) = Below inode block pointer level first
owner_of (by.Chained directory hash place) = Chained directory hash place

-- the first of the pointers that lead to the chain for the hashes from this one on
abbrev pub pointer_for : Image → ℕ → ℕ → ℕ
pointer_for im a hash = hash / 2 ^ (32 - depth_in (every im a))

-- a leaf of a chain stands so many behind the one to which that pointer leads
abbrev pub IsPlaced : Image → ℕ → Owner → Type 0
IsPlaced im x (Chained a hash place) = IsLeafBehind im a (entry (every im a) (pointer_for im a hash)) place x
IsPlaced im x _ = Unit {0}

-- what a table holds of blocks was found in the image, and leaves at their places
abbrev pub AreClaims : Image → List (Option Claim) → Type 0
AreClaims im entries = (b : ℕ) (claim : Claim) → slice_get entries b ≡ Some (Some claim) → (from : ℕ) × Claims im from b (owner_of claim) × IsPlaced im b (owner_of claim)

-- a block that is claimed otherwise already: what is told is a chain that returns to itself, or else two owners
pub record IsClash (entries : List (Option Claim)) (block : ℕ) (claim : Claim) (fault : ImageFault) : Type 0 where
  pub old : Claim
  pub there : slice_get entries block ≡ Some (Some old)
  pub other : owner_of old ≢ owner_of claim
  pub told : ((fault ≡ Damaged block 3) × ¬ (AreOneChain (owner_of old) (owner_of claim))) ⊎ ((fault ≡ Damaged block 15) × AreOneChain (owner_of old) (owner_of claim))

-- the block is entered with this owner already
pub record IsKnown (entries : List (Option Claim)) (block : ℕ) (claim : Claim) : Type 0 where
  pub old : Claim
  pub there : slice_get entries block ≡ Some (Some old)
  pub same : owner_of old ≡ owner_of claim

-- the table after a claim: nothing claimed the block, and this claim is entered now, or it was known
abbrev pub IsEntered : List (Option Claim) → List (Option Claim) → ℕ → Claim → Bool → Type 0
IsEntered old new block claim true = (slice_get old block ≡ Some None) × (new ≡ slice_set old block (Some claim))
IsEntered old new block claim false = IsKnown old block claim × (new ≡ old)

-- nothing is claimed
abbrev pub IsEmpty : List (Option Claim) → Type 0
IsEmpty entries = (b : ℕ) (claim : Claim) → slice_get entries b ≡ Some (Some claim) → ⊥
