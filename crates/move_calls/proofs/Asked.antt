-- A block that is needed of a directory of a move, also once names went from it, is asked for under the directory's lock.
use Rattle.std.proofs.Common.{◌≡◌, ℕ, true, List, [], ◌∷◌, ◌++◌, None, refl, sym, ap, ◌∙◌, subst}
use Rattle.std.specs.Prelude.{codes}
use Rattle.file_tree.specs.Tree.{Tree}
use Rattle.gfs2_layout.specs.Holding.{Holding}
use Rattle.gfs2_layout.specs.Structures.{is_directory}
use Rattle.glock_names.specs.Views.{Seen}
use Rattle.glock_names.specs.declared.steps.Missing.{Missing}
use Rattle.move_ends.specs.Shown.{IsNeededFor, IsShown}
use Rattle.resource_groups.specs.Freeing as freeing
use Rattle.image_model.specs.Flat.{Path}
use Rattle.image_model.specs.Image.{Image}
use Rattle.image_model.specs.Owners.{Owners, holding}
use Rattle.image_model.specs.Stands.{Layout}
use Rattle.image_model.proofs.Rows.{and_left}
use Rattle.image_changes.specs.Does.{IsOf}
use Rattle.image_changes.specs.Instances.{IsAt, dinode_at, is_directory_at}
use Rattle.move_ends.specs.Holds.{AreHeld, Hold, IsAskedFor}
use Rattle.move_ends.proofs.Asked.{IsAmong}
use Rattle.move_ends.proofs.Images.{shown_inode}
use Rattle.name_moves.specs.Inserting.{IsNeededForName}
use Rattle.name_moves.specs.Becoming.{LosesAll}
use Rattle.name_moves.specs.Moving.{IsAskedIn, IsAskedOf, Move, a_group, is_reparented, the_inode, the_source, the_target}
use Rattle.name_moves.proofs.Asked.{come_asked, go_asked}
use Rattle.name_moves.proofs.Under.{come_under, go_under}

-- a directory that gets another parent is one
moved_directory : (m : Move) (im : Image) (o : Owners) → m.moved.dinode ≡ dinode_at im o m.moved.inode → is_reparented m ≡ true → is_directory_at im o m.moved.inode ≡ true
moved_directory m im o read moves = ap is_directory (sym read) ∙ and_left (is_directory m.moved.dinode) _ moves

module _ (v : Seen) (im : Image) (o : Owners) (l : Layout) (t : Tree) (of : IsOf v im o l t) (list : List Hold) where
  -- a block of a directory whose lock is held with all before it
  asked_among : (a : ℕ) (n : Missing) → IsAskedOf v im o l a n → IsAmong v list a → IsAskedFor v im o l list n
  asked_among a n asked among = record {
    absent = asked.under.absent;
    covered = asked.covered;
    used = asked.used;
    plain = asked.plain;
    state = among.state;
    front = among.front;
    back = among.back;
    split = among.split ∙ ap (λ k. among.front ++ record { lock = k; state = among.state } ∷ among.back) (sym asked.under.lock);
    held = subst (λ k. AreHeld v (among.front ++ record { lock = k; state = among.state } ∷ [])) (sym asked.under.lock) among.held;
  }

  -- of a directory of a move or the inode, where those of groups are
  pub in_asked : (m : Move) (blocks : List ℕ) (n : Missing) → IsAmong v list m.from → IsAmong v list m.to.inode → IsAmong v list m.moved.inode
      → (freeing.IsNeededFor v blocks n → IsAskedFor v im o l list n) → IsAskedIn v im o l m blocks n → IsAskedFor v im o l list n
  in_asked m blocks n first second third groups (the_source asked) = asked_among m.from n asked first
  in_asked m blocks n first second third groups (the_target asked) = asked_among m.to.inode n asked second
  in_asked m blocks n first second third groups (the_inode moves asked) = asked_among m.moved.inode n asked third
  in_asked m blocks n first second third groups (a_group needed) = groups needed

  -- to see whether a directory that gets another parent has `..`
  pub see_asked : (m : Move) (path : Path) → IsAt im o l path m.moved.inode → m.moved.dinode ≡ dinode_at im o m.moved.inode → IsAmong v list m.moved.inode → (n : Missing) → is_reparented m ≡ true
      → ((h : Holding) → IsShown v m.moved.inode h → IsNeededFor v h (codes "..") n) → v.block_at n.block ≡ None → IsAskedFor v im o l list n
  see_asked m path at read among n moves needs absent =
      let a = m.moved.inode in
      let h = holding im o a in
      let dir = moved_directory m im o read moves in
      let needed : IsNeededFor v h (codes "..") n = needs h (shown_inode v im o l t of path a at) in
      asked_among a n (go_asked v im o l t of path a at dir [] h (LosesAll.of_none h) n (go_under v v h a refl dir n absent (codes "..") needed) (codes "..") needed) among

  -- on the way to a name
  pub way_asked : (path : Path) (a : ℕ) → IsAt im o l path a → is_directory_at im o a ≡ true → IsAmong v list a → (name : List ℕ) (n : Missing) → v.block_at n.block ≡ None
      → ((h : Holding) → IsShown v a h → IsNeededForName v h name n) → IsAskedFor v im o l list n
  way_asked path a at dir among name n absent needs =
      let h = holding im o a in
      let needed : IsNeededForName v h name n = needs h (shown_inode v im o l t of path a at) in
      asked_among a n (come_asked v im o l t of path a at dir [] h (LosesAll.of_none h) n (come_under v v h a refl dir n absent name needed) name needed) among
