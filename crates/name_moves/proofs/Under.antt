-- Under which lock a block of a directory is asked for, whatever the directory is: a view shows each in some way.
use Rattle.std.proofs.Common.{◌≡◌, ◌==◌, ◌&&◌, ℕ, Bool, true, false, List, None, refl, ap, ◌∙◌}
use Rattle.gfs2_layout.specs.Holding.{Holding}
use Rattle.gfs2_layout.specs.Inode.{dinode_in, is_directory_in}
use Rattle.glock_names.specs.Views.{Seen, HasBlock, IsView}
use Rattle.glock_names.specs.declared.steps.Missing.{Missing}
use Rattle.dinode_tree.specs.Reading.{IsNeeded, IsOnWay, inode_lock, led_to, the_dinode}
use Rattle.dinode_tree.specs.Walking.{missing_dinode}
use Rattle.directory_changes.proofs.Blocks.{directory_not_regular}
use Rattle.hash_dirs.specs.Shown as hashed
use Rattle.directories.specs.Shown.{IsDirectoryIn, IsNeededFor, IsShown}
use Rattle.directories.specs.Shown as dirs
use Rattle.directories.proofs.Forms.{is_directory_here, some_directory}
use Rattle.name_drafts.specs.HashInserting as inserting
use Rattle.name_drafts.specs.Inserting.{IsNeededForName}
use Rattle.name_drafts.specs.Inserting as naming
use Rattle.name_moves.specs.Moving.{IsAskedUnder}

-- ---- how a block of a directory is asked for

and_none : (x : Bool) → (x && false) ≡ false
and_none true = refl
and_none false = refl

module _ (x v : Seen) (h : Holding) (dir : ℕ) (own : h.own ≡ dir) (is : is_directory_in h ≡ true) (n : Missing) (absent : v.block_at n.block ≡ None) where
  under : n.lock ≡ inode_lock h.own → n.plain ≡ false → IsAskedUnder v dir n
  under lock plain = record { absent = absent; lock = lock ∙ ap inode_lock own; plain = plain }

  tree_under : (wanted : ℕ → Type 0) (least : ℕ) → IsNeeded x h wanted least n → IsAskedUnder v dir n
  tree_under wanted least needed = under needed.lock (by needed.way)
    where
      by : IsOnWay h wanted least n → n.plain ≡ false
      by (the_dinode here from plain) = plain
      by (led_to i k level first so low leads from before plain) =
          plain ∙ ap (λ r. (level == 0) && r) (directory_not_regular (dinode_in h) is) ∙ and_none (level == 0)

  own_under : n ≡ missing_dinode h.own → IsAskedUnder v dir n
  own_under e = under (ap (λ (y : Missing). y.lock) e) (ap (λ (y : Missing). y.plain) e)

  chain_under : (wanted : ℕ → Type 0) → hashed.IsNeededFor x h wanted n → IsAskedUnder v dir n
  chain_under wanted (hashed.IsNeededFor.of_table i so needed) = tree_under _ 0 needed
  chain_under wanted (hashed.IsNeededFor.a_leaf i so leads inside lock plain none) = under lock plain

  pub go_under : (name : List ℕ) → IsNeededFor x h name n → IsAskedUnder v dir n
  go_under name (dirs.IsNeededFor.the_dinode e none) = own_under e
  go_under name (dirs.IsNeededFor.in_hashed so needed) = chain_under _ needed

  pub come_under : (name : List ℕ) → IsNeededForName x h name n → IsAskedUnder v dir n
  come_under name (naming.IsNeededForName.the_dinode e none) = own_under e
  come_under name (naming.IsNeededForName.in_hashed so (inserting.IsNeededToInsert.of_chain needed)) = chain_under _ needed
  come_under name (naming.IsNeededForName.in_hashed so (inserting.IsNeededToInsert.of_table full one needed)) = tree_under _ 0 needed

-- whatever the directory is
module _ (w v : Seen) (view : IsView w) (dir : ℕ) (is : IsDirectoryIn w dir) (there : HasBlock w dir) (n : Missing) (absent : v.block_at n.block ≡ None) (name : List ℕ) where
  shown : (h : Holding) × IsShown w dir h
  shown = some_directory w dir view

  its : is_directory_in shown.0 ≡ true
  its = is_directory_here w dir shown.0 is there shown.1.inode

  pub asked_to_go : ((h : Holding) → IsShown w dir h → IsNeededFor w h name n) → IsAskedUnder v dir n
  asked_to_go needed = go_under w v shown.0 dir shown.1.inode.own its n absent name (needed shown.0 shown.1)

  pub asked_to_come : ((h : Holding) → IsShown w dir h → IsNeededForName w h name n) → IsAskedUnder v dir n
  asked_to_come needed = come_under w v shown.0 dir shown.1.inode.own its n absent name (needed shown.0 shown.1)
