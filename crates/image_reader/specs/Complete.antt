-- That a walk over an inode finds all that there is.
use Rattle.std.specs.Prelude.{ℕ, ◌≡◌, List, length, Option}
use Rattle.image_model.specs.Claims.{Claims}
use Rattle.image_reader.specs.Found.{HasEntry}
use Rattle.image_model.specs.Image.{Image}
use Rattle.gfs2_layout.specs.Records.{Record}
use Rattle.image_reader.specs.Leaves.{HasClaim, IsTallyOf}
use Rattle.image_model.specs.Owners.{Named, Chained}
use Rattle.image_model.specs.Rules.{HasRecords, AreWithin}
use Rattle.image_reader.specs.declared.directory.Found.{Found}
use Rattle.image_reader.specs.declared.directory.Tally.{Tally}
use Rattle.image_reader.specs.declared.directory.Visit.{Visit}
use Rattle.image_reader.specs.declared.owners.Claim.{Claim}

-- what was counted is all records of the directory
pub record IsWholeTally (im : Image) (a : ℕ) (tally : Tally) : Type 0 where
  pub records : List Record
  pub all : HasRecords im a records
  pub counted : IsTallyOf tally records

-- no leaf of the directory is claimed yet
abbrev pub HasNoLeaf : Visit → List (Option Claim) → Type 0
HasNoLeaf visit entries = (x hash place : ℕ) → HasClaim entries x (Chained visit.inode.block.number hash place) → ⊥

-- each name of the directory has its entry, and each of its leaves is entered
pub record AllAreFound (im : Image) (visit : Visit) (entries : List (Option Claim)) (found : List Found) : Type 0 where
  pub names : (by b : ℕ) (name : List ℕ) → Claims im by b (Named visit.inode.block.number name) → HasEntry found visit.place name b
  pub leaves : (by x hash place : ℕ) → Claims im by x (Chained visit.inode.block.number hash place) → HasClaim entries x (Chained visit.inode.block.number hash place)

-- the inode has so many blocks beside its dinode
pub record IsBlockCount (im : Image) (a count : ℕ) : Type 0 where
  pub blocks : List ℕ
  pub all : AreWithin im a blocks
  pub counted : count ≡ length blocks
