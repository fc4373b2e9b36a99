-- Where the system files stay: paths from the master directory lead where they led, and what stays twice stays.
use Rattle.std.proofs.Common.{◌≡◌, ℕ, [], Some, refl, sym, ap, ◌∙◌}
use Rattle.std.specs.Prelude.{if◌then◌else◌}
use Rattle.gfs2_layout.specs.Device.{superblock_place}
use Rattle.image_model.specs.Flat.{Path, Node, no_node, follow}
use Rattle.image_model.specs.Image.{Image}
use Rattle.image_model.specs.Nodes.{node_of}
use Rattle.image_model.specs.Owners.{Owners, is_dinode}
use Rattle.image_model.specs.Stands.{Layout, flat_of}
use Rattle.image_changes.specs.Changes.{SystemStays}
use Rattle.image_changes.proofs.FlatPaths.{follow_kept}

pub system_none : (im : Image) (o : Owners) (l : Layout) → SystemStays im im o o l
system_none im o l = record { size = refl; count = refl; superblock = refl; inodes = λ path a at. (refl, refl); rings = λ j d at. refl; places = λ b. (λ is. is, λ is. is) }

module _ (im im' : Image) (o o' : Owners) (l : Layout) (stay : SystemStays im im' o o' l) where
  -- an inode that is found from the master directory says what it said
  pub system_flat : (path : Path) (a : ℕ) → follow (flat_of im o) l.master path ≡ Some a → flat_of im' o' a ≡ flat_of im o a
  system_flat path a at = let same = stay.inodes path a at in λ i. if is_dinode (same.0 i) then node_of (same.1 i) else no_node

  -- a path from the master directory leads where it led
  pub system_paths : (path : Path) → follow (flat_of im' o') l.master path ≡ follow (flat_of im o) l.master path
  system_paths path = follow_kept (flat_of im o) (flat_of im' o') path [] l.master l.master refl (λ q y at. ap (λ (n : Node). n.child) (system_flat q y at))

-- what stays in one change and in the next stays in both
pub system_on : (im im' im'' : Image) (o o' o'' : Owners) (l : Layout) → SystemStays im im' o o' l → SystemStays im' im'' o' o'' l → SystemStays im im'' o o'' l
system_on im im' im'' o o' o'' l first second = record {
  size = second.size ∙ first.size;
  count = second.count ∙ first.count;
  superblock = ap (λ (n : ℕ). im''.at (superblock_place n)) (sym first.size) ∙ second.superblock ∙ ap (λ (n : ℕ). im'.at (superblock_place n)) first.size ∙ first.superblock;
  inodes = λ path a at.
      let was = first.inodes path a at in
      let now = second.inodes path a (system_paths im im' o o' l first path ∙ at) in
      (now.0 ∙ was.0, now.1 ∙ was.1);
  rings = λ j d at. second.rings j d at ∙ first.rings j d at;
  places = λ b. (λ is. (first.places b).0 ((second.places b).0 is), λ is. (second.places b).1 ((first.places b).1 is));
}
