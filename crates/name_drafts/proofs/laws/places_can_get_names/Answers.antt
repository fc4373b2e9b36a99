use Rattle.name_drafts.proofs.InImage.{can_get, no_group_block, shown}
use Rattle.name_drafts.proofs.laws.places_can_get_names.Goals as goal

pub returns : goal.returns
returns c v im o l t path name p r room view of place = record {
  shown = shown v im o l t of view path name p r room place;
  can = can_get v im o l t of view path name p r room place;
  clear = no_group_block v im o l t of view p.inode;
}
