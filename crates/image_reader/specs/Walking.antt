-- What a walk over an image holds.
use Rattle.image_model.specs.Rules.{IsWholeList}
use Rattle.std.proofs.Common.{Bor}
use Rattle.std.specs.Prelude.{ℕ, suc, ◌≡◌, ◌⊎◌, List, Option, MatchOption}
use Rattle.std.specs.List.{All}
use Rattle.gfs2_layout.specs.declared.rindex.Rindex.{Rindex}
use Rattle.image_model.specs.Claims.{Claims}
use Rattle.image_model.specs.Groups.{IsDataOf}
use Rattle.image_reader.specs.Owning.{AreClaims}
use Rattle.gfs2_layout.specs.Inode.{Leads, height_in, header_length}
use Rattle.gfs2_layout.specs.Structures.{dinode_length}
use Rattle.gfs2_layout.specs.Holding.{Holding}
use Rattle.image_model.specs.Owners.{Below}
use Rattle.image_reader.specs.Reading.{image_at, held}
use Rattle.image_reader.specs.declared.blocks.Blocks.{Blocks}
use Rattle.image_reader.specs.declared.inode.Inode.{Inode}
use Rattle.image_reader.specs.declared.walk.Pointers.{Pointers}
use Rattle.image_reader.specs.declared.walk.Walk.{Walk}

-- where groups are known, they are those of the list, which is a whole one
abbrev pub KnowsAll : Blocks → Option (Bor (List Rindex)) → Type 0
KnowsAll image groups = MatchOption groups (Unit {0}) (λ known. IsWholeList (image_at image) known.now)

-- what a walk holds was found in the image, and where it knows groups, it knows all
pub record IsSound (walk : Walk) : Type 0 where
  pub claims : AreClaims (image_at walk.image) walk.owners.entries.items
  pub groups : KnowsAll walk.image walk.groups

-- the walk knows groups, and the block is a data block of none
abbrev pub IsOutsideKnown : Walk → ℕ → Type 0
IsOutsideKnown walk b = MatchOption walk.groups ⊥ (λ known. All (λ g. ¬ (IsDataOf g b)) known.now)

-- the pointers from this byte of block b on are the dinode's, or those of an indirect block to which others lead
abbrev pub AreReached : Holding → ℕ → ℕ → ℕ → ℕ → Type 0
AreReached h b start level first =
    ((b ≡ h.own) × (start ≡ dinode_length) × (height_in h ≡ suc level) × (first ≡ 0))
    ⊎ ((start ≡ header_length) × ((above j : ℕ) × Leads h above j (suc level) first b))

pub record IsReached (inode : Inode) (p : Pointers) : Type 0 where
  pub image : p.block.image ≡ inode.block.image
  pub reached : AreReached (held inode) p.block.number p.start p.level p.first

-- the block is claimed as one of content of the inode
abbrev pub IsContentOf : Inode → ℕ → Type 0
IsContentOf inode x = (by b k first : ℕ) × Claims (image_at inode.block.image) by x (Below inode.block.number b k 0 first)
