-- A file of an image that stands for a tree.
use Rattle.std.proofs.Common.{◌≡◌, inl, inr, ℕ, ◌<◌, ◌≤◌, true, false, true≢false, List, refl, sym, ◌∙◌, arith}
use Rattle.std.specs.Prelude.{IsSome}
use Rattle.file_tree.specs.Apply.{file_limit}
use Rattle.file_tree.specs.Tree.{Tree}
use Rattle.gfs2_layout.specs.Inode.{dinode_in}
use Rattle.gfs2_layout.specs.Structures.{is_regular}
use Rattle.glock_names.specs.Views.{Seen, group_of_entry}
use Rattle.growth_drafts.specs.Taken.{IsCounted}
use Rattle.growth_laws.specs.Laws.{InodesAreFiles}
use Rattle.resource_groups.specs.Putting.{HasDataBlock}
use Rattle.image_model.specs.Flat.{Path}
use Rattle.image_model.specs.Image.{Image}
use Rattle.image_model.specs.Owners.{Owners, is_dinode, holding}
use Rattle.image_model.specs.Stands.{Layout}
use Rattle.image_model.proofs.Held.{itself_own, own_part}
use Rattle.image_changes.specs.Does.{IsOf}
use Rattle.image_changes.specs.Instances.{IsAt, is_directory_at}
use Rattle.draft_changes.proofs.Rows.{cell_its, its_used}
use Rattle.draft_changes.proofs.Views.{groups_are_listed, none_has_the_first}
use Rattle.dinode_tree.proofs.Sound.{sound_breaks_nothing}
use Rattle.group_locks.specs.Laws.{GroupsBreakNothing}
use Rattle.group_locks.proofs.Images.{is_inode, is_shown, is_sound}
use Rattle.file_changes.specs.Drafting.{IsWrongAt, in_inode, stray, in_group}

module _ (v : Seen) (im : Image) (o : Owners) (l : Layout) (t : Tree) (of : IsOf v im o l t) where
  -- each block of an inode is a data block of a group, and so one of the image's
  pub own_inside : (a b : ℕ) → IsSome ((holding im o a).cell b) → HasDataBlock v b
  own_inside a b some =
      let placed = of.stands.laid.zoned.placed b (its_used b a (o b) (cell_its im o a b some)).0 in
      (group_of_entry placed.0, (groups_are_listed v im o l t (group_of_entry placed.0) of).1 (placed.0, placed.1, refl), record { low = placed.2.low; high = placed.2.high })

  pub own_counted : (a b : ℕ) → IsSome ((holding im o a).cell b) → b < im.count
  own_counted a b some =
      let placed = of.stands.laid.zoned.placed b (its_used b a (o b) (cell_its im o a b some)).0 in
      omega (arith, placed.2.high, (of.stands.laid.fit.each placed.0 placed.1).inside)

  module _ (path : Path) (a : ℕ) (at : IsAt im o l path a) (file : is_directory_at im o a ≡ false) where
    so : is_dinode (o a) ≡ true
    so = is_inode v im o l t of path a at

    regular : is_regular (dinode_in (holding im o a)) ≡ true
    regular = elim (is_sound v im o l t of path a at).mode [ inl directory ↦ absurd (true≢false (sym directory ∙ file)) | inr is ↦ is ]

    pub standing_file : InodesAreFiles → IsCounted (holding im o a)
    standing_file files = record {
      file = files (holding im o a) of.stands.laid.image.block_size (own_part im o a so) (itself_own im o a) (none_has_the_first im o l a of.stands.laid) regular (is_sound v im o l t of path a at);
      blocks = (is_sound v im o l t of path a at).blocks;
    }

    pub standing_short : (dinode_in (holding im o a)).size ≤ file_limit
    standing_short = of.stands.laid.short path a at regular

  -- nothing is told as damaged of an inode at a path
  pub none_wrong : GroupsBreakNothing → (path : Path) (a : ℕ) → IsAt im o l path a → (blocks : List ℕ) (rule b : ℕ) → IsWrongAt v a blocks rule b → ⊥
  none_wrong sound path a at blocks rule b (in_inode r c broken) =
      sound_breaks_nothing (holding im o a) r c (is_sound v im o l t of path a at) (broken (holding im o a) (is_shown v im o l t of path a at))
  none_wrong sound path a at blocks rule b (stray from c led away) =
      let shown = is_shown v im o l t of path a at in
      let leads = led (holding im o a) shown in
      away (own_inside a c (shown.led_to from leads.0 leads.1 leads.2 c leads.3))
  none_wrong sound path a at blocks rule b (in_group r c breaks) = sound v im o l t blocks r c of breaks
