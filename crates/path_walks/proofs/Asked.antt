-- A block of an inode that is needed is asked for under the inode's lock.
use Rattle.std.proofs.Common.{◌≡◌, ◌&&◌, ◌==◌, ℕ, zero, suc, true, false, List, [], ◌∷◌, ◌++◌, None, Some, inl, refl, sym, ap, subst, ◌∙◌, arith}
use Rattle.file_tree.specs.Tree.{Tree}
use Rattle.gfs2_layout.specs.Inode.{dinode_in, first_hash, is_directory_in, is_hashed_in}
use Rattle.glock_names.specs.declared.State.{State}
use Rattle.dinode_tree.specs.Walking.{missing_dinode}
use Rattle.directories.specs.HashedShown as leaves
use Rattle.directories.specs.Shown as dirs
use Rattle.directories.proofs.Sound.{leaf_part}
use Rattle.gfs2_layout.specs.Structures.{is_regular}
use Rattle.call_locks.specs.declared.want.Want.{Want}
use Rattle.glock_names.specs.Views.{Seen}
use Rattle.glock_names.specs.declared.steps.Missing.{Missing}
use Rattle.dinode_tree.specs.Reading.{IsNeeded, IsOnWay, the_dinode, led_to}
use Rattle.dinode_tree.proofs.Sound.{part_of_led}
use Rattle.image_model.specs.Flat.{Path}
use Rattle.image_model.specs.Image.{Image}
use Rattle.image_model.specs.Owners.{Owners, Below, holding}
use Rattle.image_model.specs.Stands.{Layout}
use Rattle.image_model.proofs.Held.{chained_owner, pointed_owner}
use Rattle.image_changes.specs.Changes.{cover, is_free, inode_lock}
use Rattle.image_changes.specs.Does.{IsOf, is_content_of}
use Rattle.image_changes.specs.Instances.{IsAt}
use Rattle.image_changes.proofs.Drafting.{own_locks}
use Rattle.path_walks.specs.Holds.{Hold, AreHeld, EndsWith, IsAskedFor, hold_of}
use Rattle.path_walks.specs.Walks.{IsUnread}
use Rattle.path_walks.proofs.Images.{is_inode, is_sound, lock_of_inode, dinode_used, dinode_plain, sound_directory}
use Rattle.path_walks.proofs.Steps.{differs}

-- content of a regular file, by a block's part
plain_at : (im : Image) (o : Owners) (a above k level first : ℕ) → (level == 0 && is_regular (dinode_in (holding im o a))) ≡ is_content_of im o (Below a above k level first)
plain_at im o a above k zero first = refl
plain_at im o a above k (suc level) first = ap (λ b. b && is_regular (dinode_in (holding im o a))) (differs (suc level) 0 (λ e. omega (arith, e)))

-- the lock of the inode in block a is one of the list, and it is held, as each before it is
pub record IsAmong (v : Seen) (list : List Hold) (a : ℕ) : Type 0 where
  pub state : State
  pub front : List Hold
  pub back : List Hold
  pub split : list ≡ front ++ hold_of a state ∷ back
  pub held : AreHeld v (front ++ hold_of a state ∷ [])

pub at_end : (v : Seen) (list : List Hold) (a : ℕ) → EndsWith list a → AreHeld v list → IsAmong v list a
at_end v list a ends held = record { state = ends.state; front = ends.front; back = []; split = ends.split; held = subst (AreHeld v) ends.split held }

module _ (v : Seen) (im : Image) (o : Owners) (l : Layout) (t : Tree) (of : IsOf v im o l t) (path : Path) (a : ℕ) (at : IsAt im o l path a) (list : List Hold) where
  own_lock : inode_lock l a ≡ Some (record { kind = 2; number = a })
  own_lock = own_locks im o l a of.stands.laid (inl (path, at))

  asked_at : IsAmong v list a → (m : Missing) → v.block_at m.block ≡ None → m.lock ≡ record { kind = 2; number = a } → cover l m.block (o m.block) ≡ Some (record { kind = 2; number = a })
      → is_free (o m.block) ≡ false → m.plain ≡ is_content_of im o (o m.block) → IsAskedFor v im o l list m
  asked_at among m absent lock covered used plain = record {
    absent = absent;
    covered = covered ∙ ap Some (sym lock);
    used = used;
    plain = plain;
    state = among.state;
    front = among.front;
    back = among.back;
    split = among.split ∙ ap (λ k. among.front ++ record { lock = k; state = among.state } ∷ among.back) (sym lock);
    held = subst (λ k. AreHeld v (among.front ++ record { lock = k; state = among.state } ∷ [])) (sym lock) among.held;
  }

  -- a block of the inode that is needed is under its lock
  pub asked_among : IsAmong v list a → (want : ℕ → Type 0) (least : ℕ) (m : Missing) → IsNeeded v (holding im o a) want least m → IsAskedFor v im o l list m
  asked_among among want least m needed = each needed.way
    where
      each : IsOnWay (holding im o a) want least m → IsAskedFor v im o l list m
      each (the_dinode here from plain) =
          asked_at among m needed.absent needed.lock (ap (λ b. cover l b (o b)) here ∙ lock_of_inode v im o l t of path a at)
          (ap (λ b. is_free (o b)) here ∙ dinode_used (o a) (is_inode v im o l t of path a at))
          (plain ∙ sym (ap (λ b. is_content_of im o (o b)) here ∙ dinode_plain im o (o a) (is_inode v im o l t of path a at)))
      each (led_to i k level first is low leads from before plain) =
          let row = pointed_owner im o a m.block m.from k level first (part_of_led (holding im o a) m.from k level first m.block (is_sound v im o l t of path a at).tree leads) in
          asked_at among m needed.absent needed.lock (ap (cover l m.block) row ∙ own_lock) (ap is_free row) (plain ∙ plain_at im o a m.from k level first ∙ sym (ap (is_content_of im o) row))

  pub asked : EndsWith list a → AreHeld v list → (want : ℕ → Type 0) (least : ℕ) (m : Missing) → IsNeeded v (holding im o a) want least m → IsAskedFor v im o l list m
  asked ends held = asked_among (at_end v list a ends held)

  -- so is a leaf of a directory
  leaf_asked : IsAmong v list a → is_directory_in (holding im o a) ≡ true → is_hashed_in (holding im o a) ≡ true → (want : ℕ → Type 0) (m : Missing) → leaves.IsNeededFor v (holding im o a) want m → IsAskedFor v im o l list m
  leaf_asked among dir hashed want m (leaves.IsNeededFor.of_table i wanted needs) = asked_among among _ 0 m needs
  leaf_asked among dir hashed want m (leaves.IsNeededFor.a_leaf i wanted leads inside lock plain absent) =
      let part = leaf_part (holding im o a) (sound_directory v im o l t of path a at dir) hashed i m.from m.block leads in
      let row = chained_owner im o a m.block (first_hash (holding im o a) i) part.0 part.1 in
      asked_at among m absent lock (ap (cover l m.block) row ∙ own_lock) (ap is_free row) (plain ∙ sym (ap (is_content_of im o) row))

  own_asked : IsAmong v list a → (m : Missing) → m ≡ missing_dinode a → v.block_at a ≡ None → IsAskedFor v im o l list m
  own_asked among m is absent = subst (IsAskedFor v im o l list) (sym is)
      (asked_at among (missing_dinode a) absent refl (lock_of_inode v im o l t of path a at) (dinode_used (o a) (is_inode v im o l t of path a at)) (sym (dinode_plain im o (o a) (is_inode v im o l t of path a at))))

  pub name_asked : IsAmong v list a → is_directory_in (holding im o a) ≡ true → (name : List ℕ) (m : Missing) → dirs.IsNeededFor v (holding im o a) name m → IsAskedFor v im o l list m
  name_asked among dir name m (dirs.IsNeededFor.the_dinode is absent) = own_asked among m is absent
  name_asked among dir name m (dirs.IsNeededFor.in_hashed hashed needs) = leaf_asked among dir hashed _ m needs

  pub names_asked : IsAmong v list a → is_directory_in (holding im o a) ≡ true → (m : Missing) → dirs.IsNeededForAll v (holding im o a) m → IsAskedFor v im o l list m
  names_asked among dir m (dirs.IsNeededForAll.the_dinode is absent) = own_asked among m is absent
  names_asked among dir m (dirs.IsNeededForAll.in_hashed hashed needs) = leaf_asked among dir hashed _ m needs

-- a block without which a walk doesn't go on isn't there
pub unread_absent : (v : Seen) (wants : List Want) (path : Path) (m : Missing) → IsUnread v wants path m → v.block_at m.block ≡ None
unread_absent v wants path m (IsUnread.a_dinode depth next held absent is) = absent
unread_absent v wants path m (IsUnread.in_directory front back dir name on leads there directory needed absent) = absent
