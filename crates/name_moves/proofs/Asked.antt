-- In an image that stands for a tree: what a move asks for is a block of one of its directories, under that directory's lock.
use Rattle.std.proofs.Common.{◌≡◌, ℕ, true, false, List, [], ◌∷◌, Some, inl, sym, ap, ◌∙◌}
use Rattle.file_tree.specs.Tree.{Tree}
use Rattle.gfs2_layout.specs.Holding.{Holding, Part, part_at}
use Rattle.gfs2_layout.specs.Inode.{first_hash, is_hashed_in}
use Rattle.glock_names.specs.Views.{Seen}
use Rattle.glock_names.specs.declared.steps.Missing.{Missing}
use Rattle.dinode_tree.specs.Reading.{IsNeeded, IsOnWay, led_to, the_dinode}
use Rattle.dinode_tree.proofs.Sound.{part_of_led}
use Rattle.image_model.specs.Flat.{Path}
use Rattle.image_model.specs.Image.{Image}
use Rattle.image_model.specs.Owners.{Owners, holding}
use Rattle.image_model.specs.Stands.{Layout}
use Rattle.image_model.proofs.Held.{chained_owner, pointed_owner}
use Rattle.image_changes.specs.Changes.{cover, inode_of, is_free}
use Rattle.image_changes.specs.Changes as changes
use Rattle.image_changes.specs.Does.{IsOf}
use Rattle.image_changes.specs.Flats.{in_directory}
use Rattle.image_changes.specs.Instances.{IsAt, dinode_at, is_directory_at}
use Rattle.image_changes.proofs.Drafting.{own_locks}
use Rattle.image_changes.proofs.Frame.{dinode_its}
use Rattle.directory_changes.proofs.Blocks.{directory_not_regular, no_content}
use Rattle.hash_dirs.specs.Shown as hashed
use Rattle.directories.specs.Shown.{IsNeededFor, IsShown}
use Rattle.directories.specs.Shown as dirs
use Rattle.directories.proofs.Sound.{leaf_part}
use Rattle.name_drafts.proofs.Images.{dinode_used, is_inode, lock_of_inode, shown_inode, sound_directory}
use Rattle.name_drafts.specs.HashInserting as inserting
use Rattle.name_drafts.specs.Inserting.{IsNeededForName}
use Rattle.name_drafts.specs.Inserting as naming
use Rattle.name_moves.specs.Becoming.{IsAfter, LosesAll}
use Rattle.name_moves.specs.Moving.{ArePlacesIn, CanBeMoved, IsAskedIn, IsAskedOf, IsAskedUnder, IsNeededIn, IsNeededThere, IsOneOf, Move, a_group, is_reparented, lost_there, new_first, old_first, old_then, the_inode, the_source, the_target}
use Rattle.name_moves.specs.Moving as moving
use Rattle.name_moves.proofs.Loses.{all_kept, all_sound, can_tell}
use Rattle.name_moves.proofs.Unbroken.{moved_is, source_is}

-- of a directory on a path, from which these names went
module _ (v : Seen) (im : Image) (o : Owners) (l : Layout) (t : Tree) (of : IsOf v im o l t) (path : Path) (a : ℕ) (at : IsAt im o l path a) (dir : is_directory_at im o a ≡ true)
    (names : List (List ℕ)) (k : Holding) (lost : LosesAll names (holding im o a) k) (n : Missing) (under : IsAskedUnder v a n) where
  own_lock : changes.inode_lock l a ≡ Some (record { kind = 2; number = a })
  own_lock = own_locks im o l a of.stands.laid (inl (path, at))

  -- a block of the directory, by its row
  asked : cover l n.block (o n.block) ≡ Some (record { kind = 2; number = a }) → is_free (o n.block) ≡ false → inode_of n.block (o n.block) ≡ Some a → IsAskedOf v im o l a n
  asked covered used its = record {
    under = under;
    covered = covered ∙ ap Some (sym under.lock);
    used = used;
    plain = under.plain ∙ sym (no_content im o n.block a (o n.block) (directory_not_regular (dinode_at im o a) dir) its);
  }

  own_is : k.own ≡ a
  own_is = (all_kept names (holding im o a) k lost).own

  part_is : (x : ℕ) (part : Part) → part_at k x ≡ Some part → part_at (holding im o a) x ≡ Some part
  part_is x part e = sym ((all_kept names (holding im o a) k lost).parts x) ∙ e

  k_sound : hashed.IsSound k
  k_sound = all_sound names (holding im o a) k lost (sound_directory v im o l t of path a at dir)

  own_asked : n.block ≡ a → IsAskedOf v im o l a n
  own_asked here = asked (ap (λ b. cover l b (o b)) here ∙ lock_of_inode v im o l t of path a at) (ap (λ b. is_free (o b)) here ∙ dinode_used (o a) (is_inode v im o l t of path a at))
      (ap (λ b. inode_of b (o b)) here ∙ dinode_its a (o a) (is_inode v im o l t of path a at))

  tree_asked : (wanted : ℕ → Type 0) (least : ℕ) → IsNeeded v k wanted least n → IsAskedOf v im o l a n
  tree_asked wanted least needed = by needed.way
    where
      by : IsOnWay k wanted least n → IsAskedOf v im o l a n
      by (the_dinode here from plain) = own_asked (here ∙ own_is)
      by (led_to i x level first is low leads from before plain) =
          let row = pointed_owner im o a n.block n.from x level first (part_is n.block _ (part_of_led k n.from x level first n.block k_sound.inode.tree leads)) in
          asked (ap (cover l n.block) row ∙ own_lock) (ap is_free row) (ap (inode_of n.block) row)

  chain_asked : is_hashed_in k ≡ true → (wanted : ℕ → Type 0) → hashed.IsNeededFor v k wanted n → IsAskedOf v im o l a n
  chain_asked so wanted (hashed.IsNeededFor.of_table i is needed) = tree_asked _ 0 needed
  chain_asked so wanted (hashed.IsNeededFor.a_leaf i is leads inside lock plain none) =
      let part = leaf_part k k_sound so i n.from n.block leads in
      let row = chained_owner im o a n.block (first_hash k i) part.0 (part_is n.block _ part.1) in
      asked (ap (cover l n.block) row ∙ own_lock) (ap is_free row) (ap (inode_of n.block) row)

  pub go_asked : (name : List ℕ) → IsNeededFor v k name n → IsAskedOf v im o l a n
  go_asked name (dirs.IsNeededFor.the_dinode e none) = own_asked (ap (λ (x : Missing). x.block) e ∙ own_is)
  go_asked name (dirs.IsNeededFor.in_hashed so needed) = chain_asked so _ needed

  pub come_asked : (name : List ℕ) → IsNeededForName v k name n → IsAskedOf v im o l a n
  come_asked name (naming.IsNeededForName.the_dinode e none) = own_asked (ap (λ (x : Missing). x.block) e ∙ own_is)
  come_asked name (naming.IsNeededForName.in_hashed so (inserting.IsNeededToInsert.of_chain needed)) = chain_asked so _ needed
  come_asked name (naming.IsNeededForName.in_hashed so (inserting.IsNeededToInsert.of_table full one needed)) = tree_asked _ 0 needed

module _ (v : Seen) (im : Image) (o : Owners) (l : Layout) (t : Tree) (of : IsOf v im o l t) where
  -- as one of its names goes, once others went
  go_in : (path : Path) (a : ℕ) → IsAt im o l path a → is_directory_at im o a ≡ true → (names : List (List ℕ)) (name : List ℕ) (n : Missing) → IsAskedUnder v a n
      → IsAfter v a names (λ k. IsNeededFor v k name n) → IsAskedOf v im o l a n
  go_in path a at dir names name n under after =
      let k = after (holding im o a) (shown_inode v im o l t of path a at) (can_tell names (holding im o a) (sound_directory v im o l t of path a at dir)) in
      go_asked v im o l t of path a at dir names k.0 k.1 n under name k.2

  come_in : (path : Path) (a : ℕ) → IsAt im o l path a → is_directory_at im o a ≡ true → (names : List (List ℕ)) (name : List ℕ) (n : Missing) → IsAskedUnder v a n
      → IsAfter v a names (λ k. IsNeededForName v k name n) → IsAskedOf v im o l a n
  come_in path a at dir names name n under after =
      let k = after (holding im o a) (shown_inode v im o l t of path a at) (can_tell names (holding im o a) (sound_directory v im o l t of path a at dir)) in
      come_asked v im o l t of path a at dir names k.0 k.1 n under name k.2

  module _ (m : Move) (path path' : Path) (can : CanBeMoved v m) (places : ArePlacesIn im o l path path' m) where
    pub there_asked : (n : Missing) → IsNeededThere v m n → IsAskedOf v im o l m.to.inode n
    there_asked n (moving.IsNeededThere.to_go before name under goes after) = go_in path' m.to.inode places.target places.directory before name n under after
    there_asked n (moving.IsNeededThere.to_come under after) = come_in path' m.to.inode places.target places.directory (lost_there m) m.new_name n under after

    one_asked : (blocks : List ℕ) (n : Missing) (a : ℕ) (names : List (List ℕ)) (name : List ℕ) → IsOneOf m a names name → IsAskedUnder v a n → IsAfter v a names (λ k. IsNeededFor v k name n) → IsAskedIn v im o l m blocks n
    one_asked blocks n _ _ _ (IsOneOf.the_new replaces) under after = the_target (go_in path' m.to.inode places.target places.directory [] m.new_name n under after)
    one_asked blocks n _ _ _ (IsOneOf.the_old_then replaces within) under after = the_target (go_in path' m.to.inode places.target places.directory (m.new_name ∷ []) m.name n under after)
    one_asked blocks n _ _ _ IsOneOf.the_old under after = the_source (go_in path m.from places.source (source_is v im o l t of m path path' can places) [] m.name n under after)
    one_asked blocks n _ _ _ (IsOneOf.the_parent moves) under after =
        the_inode moves (go_in (in_directory path m.name) m.moved.inode places.inode (moved_is v im o l t of m path path' can places moves) [] _ n under after)

    pub move_asked : (blocks : List ℕ) (n : Missing) → IsNeededIn v m blocks n → IsAskedIn v im o l m blocks n
    move_asked blocks n (moving.IsNeededIn.to_go dir names name under one after) = one_asked blocks n dir names name one under after
    move_asked blocks n (moving.IsNeededIn.to_come under after) = the_target (come_in path' m.to.inode places.target places.directory (lost_there m) m.new_name n under after)
    move_asked blocks n (moving.IsNeededIn.in_group needed) = a_group needed
