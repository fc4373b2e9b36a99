-- What is made of the inode at the path's end, as the view shows it.
use Rattle.std.proofs.Common.{◌≡◌, ℕ, false, List, sym, ap, ◌∙◌, subst}
use Rattle.cluster_history.specs.Changes.{is_ok}
use Rattle.file_tree.specs.Apply.{apply}
use Rattle.file_tree.specs.Tree.{Tree}
use Rattle.file_tree.specs.declared.call.Call.{Call}
use Rattle.file_tree.specs.declared.reply.Reply.{Reply}
use Rattle.gfs2_layout.specs.Holding.{Holding}
use Rattle.glock_names.specs.Views.{Seen}
use Rattle.call_locks.specs.Wants.{wanted}
use Rattle.call_locks.specs.WantLaws.{path_of}
use Rattle.dinode_tree.specs.Shown.{IsShown}
use Rattle.dinode_tree.proofs.Sound.{some_is_shown}
use Rattle.image_model.specs.Image.{Image}
use Rattle.image_model.specs.Owners.{Owners, holding}
use Rattle.image_model.specs.Stands.{Layout}
use Rattle.image_changes.specs.Does.{IsOf}
use Rattle.path_walks.specs.Answers.{HasSpace}
use Rattle.path_walks.specs.Holds.{AreHeld}
use Rattle.path_walks.specs.Walks.{IsSeenAt, IsLastOf}
use Rattle.path_walks.specs.declared.walk.Place.{Place}
use Rattle.path_walks.proofs.Images.{is_shown}
use Rattle.removing_calls.specs.Removing.{IsAimOf, IsRefused, IsReachedIn, holds_for}
use Rattle.removing_calls.specs.declared.aims.Aim.{Aim}
use Rattle.removing_calls.specs.declared.aims.Aim.TheVariants as aim
use Rattle.removing_calls.proofs.Trees.{aim_not_ok, aim_refuses, plain_list}

module _ (v : Seen) (c : Call) (p : Place) (there : IsSeenAt v (wanted c) (path_of c false) p) (made : Aim) (aims : (h : Holding) → IsShown v p.inode h → IsAimOf c h made) where
  pub is_refused : (r : Reply) → made ≡ aim.Refused r → (is_ok r ≡ false) × HasSpace r
  is_refused r is = let s = some_is_shown v p.inode in aim_not_ok c s.0 r (subst (IsAimOf c s.0) is (aims s.0 s.1.0))

  pub told_refused : (r : Reply) → made ≡ aim.Refused r → IsRefused v c r
  told_refused r is = IsRefused.at_end p.inode r there.leads there.there (λ h shown. subst (IsAimOf c h) is (aims h shown))

  module _ (name : List ℕ) (last : IsLastOf (path_of c false) name) (im : Image) (o : Owners) (l : Layout) (t : Tree) (of : IsOf v im o l t) (reached : IsReachedIn v im o l c p) (r : Reply) (is : made ≡ aim.Refused r) where
    pub refuses : (apply c t).reply ≡ r
    refuses = aim_refuses v im o l t of c name p.inode last reached.place.at r
        (subst (IsAimOf c (holding im o p.inode)) is (aims (holding im o p.inode) (is_shown v im o l t of (path_of c false) p.inode reached.place.at)))

    pub refused_held : AreHeld v (holds_for im o l t c)
    refused_held = subst (AreHeld v) (sym (plain_list im o l t c (ap is_ok refuses ∙ (is_refused r is).0))) reached.held
