-- The layout that mounting finds in an image that stands.
use Rattle.std.proofs.Common.{map, sym, ap, ◌∙◌}
use Rattle.gfs2_layout.specs.declared.superblock.SuperBlock.{SuperBlock}
use Rattle.glock_names.specs.Views.{group_of_entry}
use Rattle.image_model.proofs.Facts.{list_of}
use Rattle.image_mount.specs.Mounted.{StandsAsMounted}

pub as_mounted : StandsAsMounted
as_mounted im m o l mounted laid = (
  ap (λ (s : SuperBlock). s.root.address) mounted.superblock ∙ laid.super.root,
  mounted.groups ∙ ap (map group_of_entry) (sym mounted.found.groups.list.listed ∙ list_of im o l laid mounted.layout.rindex mounted.found.groups.list.master.rindex),
)
