-- What is asked for and told of the directory that is to get a name, in an image that the view may be of.
use Rattle.std.proofs.Common.{◌≡◌, ℕ, true, List, [], ◌∷◌, ◌++◌, inl, inr, sym, ap, subst}
use Rattle.file_tree.specs.Tree.{Tree}
use Rattle.gfs2_layout.specs.Inode.{is_directory_in}
use Rattle.glock_names.specs.Views.{Seen}
use Rattle.glock_names.specs.declared.State.{State}
use Rattle.glock_names.specs.declared.steps.Missing.{Missing}
use Rattle.dinode_tree.specs.Below.{AnyIndex}
use Rattle.hash_dirs.proofs.Chained.{cell_some}
use Rattle.dinode_tree.proofs.Sound.{part_of_led}
use Rattle.name_drafts.specs.DirectoryShown as dirs
use Rattle.image_model.specs.Flat.{Path}
use Rattle.image_model.specs.Image.{Image}
use Rattle.image_model.specs.Owners.{Owners, holding}
use Rattle.image_model.specs.Stands.{Layout}
use Rattle.image_model.proofs.Members.{IsIn}
use Rattle.image_changes.specs.Does.{IsOf}
use Rattle.image_changes.specs.Instances.{IsAt}
use Rattle.group_locks.proofs.Listed.{held_upto}
use Rattle.name_drafts.specs.Holds.{Hold, AreHeld, IsAskedFor, hold_of}
use Rattle.name_drafts.proofs.Asked.{IsAmong, asked_among, name_asked}
use Rattle.name_drafts.proofs.Images.{is_sound, own_inside, unbroken_directory}
use Rattle.name_drafts.specs.HashInserting as inserts
use Rattle.name_drafts.specs.Inserting as names
use Rattle.name_drafts.specs.Inserting.{IsNeededForName, IsWrongForName}

-- a lock of a list that is held
split_in : (x : Hold) (list : List Hold) → IsIn x list → (front back : List Hold) × (list ≡ front ++ x ∷ back)
split_in x [] here = elim here [ ]
split_in x (y ∷ list) (inl e) = ([], list, ap (λ z. z ∷ list) (sym e))
split_in x (y ∷ list) (inr later) = let r = split_in x list later in (y ∷ r.0, r.1, ap (λ zs. y ∷ zs) r.2)

pub among_held : (v : Seen) (list : List Hold) (a : ℕ) (state : State) → IsIn (hold_of a state) list → AreHeld v list → IsAmong v list a
among_held v list a state at held =
    let r = split_in (hold_of a state) list at in
    record { state = state; front = r.0; back = r.1; split = r.2; held = held_upto v r.0 r.1 (hold_of a state) (subst (AreHeld v) r.2 held) }

module _ (v : Seen) (im : Image) (o : Owners) (l : Layout) (t : Tree) (of : IsOf v im o l t) (path : Path) (a : ℕ) (at : IsAt im o l path a) (dir : is_directory_in (holding im o a) ≡ true) where
  -- without it it isn't told how the name comes in
  pub insert_asked : (list : List Hold) → IsAmong v list a → (name : List ℕ) (m : Missing) → IsNeededForName v (holding im o a) name m → IsAskedFor v im o l list m
  insert_asked list among name m (names.IsNeededForName.the_dinode is absent) = name_asked v im o l t of path a at list among dir name m (dirs.IsNeededFor.the_dinode is absent)
  insert_asked list among name m (names.IsNeededForName.in_hashed hashed (inserts.IsNeededToInsert.of_chain needs)) = name_asked v im o l t of path a at list among dir name m (dirs.IsNeededFor.in_hashed hashed needs)
  insert_asked list among name m (names.IsNeededForName.in_hashed hashed (inserts.IsNeededToInsert.of_table full one needs)) = asked_among v im o l t of path a at list among AnyIndex 0 m needs

  -- nothing is wrong
  pub none_wrong : (rule b : ℕ) → IsWrongForName v (holding im o a) rule b → ⊥
  none_wrong rule b (names.IsWrongForName.of_directory broken) = unbroken_directory v im o l t of path a rule b at dir broken
  none_wrong rule b (names.IsWrongForName.in_hashed hashed (inserts.IsWrongToInsert.in_directory r d broken)) = unbroken_directory v im o l t of path a r d at dir (dirs.IsBroken.in_hashed hashed broken)
  none_wrong rule b (names.IsWrongForName.in_hashed hashed (inserts.IsWrongToInsert.stray_pointer from d led outside)) =
      outside (own_inside v im o l t of a d (cell_some ((holding im o a).cell d) _ (part_of_led (holding im o a) from led.0 led.1 led.2 d (is_sound v im o l t of path a at).tree led.3)))
