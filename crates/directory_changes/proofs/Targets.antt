-- What stood at the target of a move.
use Rattle.std.proofs.Common.{◌≡◌, ℕ, inl, inr, false, List, [], Some, refl, sym, ap, ◌∙◌, subst}
use Rattle.std.specs.Prelude.{Contains}
use Rattle.gfs2_layout.specs.Records.{Record}
use Rattle.image_model.specs.Flat.{Path}
use Rattle.image_model.specs.Image.{Image}
use Rattle.image_model.specs.Owners.{Owners, Named, is_dinode}
use Rattle.image_model.specs.Stands.{Layout}
use Rattle.image_model.proofs.Members.{IsIn, is_in}
use Rattle.image_changes.specs.Changes.{inode_of}
use Rattle.image_changes.specs.Flats.{in_directory}
use Rattle.image_changes.specs.Instances.{IsAt, IsTarget, absent, replaced}
use Rattle.draft_changes.proofs.Rows.{cell_its, its_cell}
use Rattle.directory_changes.specs.Moving.{IsTargetOf, nothing, an_inode}

-- the inode of which a freed block was one
pub record IsOfRemoved (o : Owners) (removed : List ℕ) (b : ℕ) : Type 0 where
  pub inode : ℕ
  pub there : IsIn inode removed
  pub its : inode_of b (o b) ≡ Some inode

module _ (im : Image) (o : Owners) (l : Layout) (path : Path) (to : ℕ) (name : List ℕ) where
  -- the name led to it
  pub target_at : (cs : List ℕ) (rs : List Record) (bs : List ℕ) → IsTargetOf im o l path to name cs rs bs → (c : ℕ) → IsIn c cs → IsAt im o l (in_directory path name) c
  target_at _ _ _ (nothing none) c h = elim h [ ]
  target_at _ _ _ (an_inode d r bs at bare named own) c (inl e) = subst (IsAt im o l (in_directory path name)) (sym e) at
  target_at _ _ _ (an_inode d r bs at bare named own) c (inr h) = elim h [ ]

  -- its blocks are those that are freed
  pub target_its : (cs : List ℕ) (rs : List Record) (bs : List ℕ) → IsTargetOf im o l path to name cs rs bs → (b : ℕ) → Contains bs b → IsOfRemoved o cs b
  target_its _ _ _ (nothing none) b h = elim (is_in b [] h) [ ]
  target_its _ _ _ (an_inode d r bs at bare named own) b h = record { inode = d; there = inl refl; its = cell_its im o d b ((own b).0 h) }

  pub target_has : (cs : List ℕ) (rs : List Record) (bs : List ℕ) → IsTargetOf im o l path to name cs rs bs → (b c : ℕ) → IsIn c cs → inode_of b (o b) ≡ Some c → Contains bs b
  target_has _ _ _ (nothing none) b c h e = elim h [ ]
  target_has _ _ _ (an_inode d r bs at bare named own) b c (inl same) e = (own b).1 (its_cell im o d b (e ∙ ap Some same))
  target_has _ _ _ (an_inode d r bs at bare named own) b c (inr h) e = elim h [ ]

  -- it stood where the change of the image has it
  pub target_stood : (o' : Owners) (cs : List ℕ) (rs : List Record) (bs : List ℕ) → IsTargetOf im o l path to name cs rs bs → ((c : ℕ) → IsIn c cs → o c ≡ Named to name)
      → ((c : ℕ) → IsIn c cs → is_dinode (o' c) ≡ false) → IsTarget im o o' to name cs rs
  target_stood o' _ _ _ (nothing none) row gone = absent none
  target_stood o' _ _ _ (an_inode d r bs at bare named own) row gone = replaced d r (row d (inl refl)) (gone d (inl refl)) bare named
