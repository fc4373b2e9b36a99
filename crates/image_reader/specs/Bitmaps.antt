-- What the code that checks groups reads.
use Rattle.std.specs.Prelude.{ℕ, ◌≡◌, List, map, Option, None, Some, slice_get}
use Rattle.std.specs.List.{range_with_len}
use Rattle.gfs2_layout.specs.declared.group_header.GroupHeader.{GroupHeader}
use Rattle.gfs2_layout.specs.declared.rindex.Rindex.{Rindex}
use Rattle.image_model.specs.Claims.{Claims}
use Rattle.gfs2_layout.specs.Groups.{bitmap_of, group_header}
use Rattle.image_model.specs.Groups.{state_of, group_blocks}
use Rattle.image_model.specs.Image.{Image}
use Rattle.image_model.specs.Owners.{Owner}
use Rattle.image_reader.specs.Owning.{owner_of, AreClaims}
use Rattle.image_reader.specs.declared.owners.Claim.{Claim}

abbrev pub header_of : Image → Rindex → GroupHeader
header_of im g = group_header (group_blocks im.at g)

-- the header says of the data blocks what the entry does
abbrev pub Repeats : GroupHeader → Rindex → Type 0
Repeats h g = (h.data0 ≡ g.data0) × (h.data_blocks ≡ g.data_blocks) × (h.bitbytes ≡ g.bitbytes)

-- the bits in the first so many blocks of a group
abbrev pub bits_in : Image → Rindex → ℕ → List ℕ
bits_in im g n = bitmap_of (map im.at (range_with_len g.address n))

-- the state of a block by what claims it
abbrev pub state_by : Option Claim → ℕ
state_by None = 0
state_by (Some claim) = state_of (owner_of claim)

-- the table has what the image claims, and nothing else
pub record AreAllClaims (im : Image) (entries : List (Option Claim)) : Type 0 where
  pub sound : AreClaims im entries
  pub all : (by b : ℕ) (o : Owner) → Claims im by b o → (claim : Claim) × (slice_get entries b ≡ Some (Some claim)) × (owner_of claim ≡ o)
