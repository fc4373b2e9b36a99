-- What a draft shows of a directory after blocks of it were put, and the table that follows it.
use Rattle.std.proofs.Common.{◌≡◌, ℕ, true, sym, ap, ◌∙◌, subst}
use Rattle.drafts.specs.Fates.{Drafted, seen_in, seen_with}
use Rattle.gfs2_layout.specs.Device.{IsBlockSize}
use Rattle.gfs2_layout.specs.Holding.{Holding}
use Rattle.gfs2_layout.specs.Inode.{IsInode, depth_in, is_hashed_in}
use Rattle.glock_names.specs.Views.{Seen}
use Rattle.dinode_tree.specs.Shown.{IsAsSeen}
use Rattle.hash_steps.specs.Shown.{IsShown, IsSound}
use Rattle.hash_inserts.proofs.Showing.{SoundAreShown, shown_of}

-- a table follows its directory, as `PointerTable` says
abbrev pub Follows : (Seen → Holding → Type 0) → Type 0
Follows Shows = (v w : Seen) (h g : Holding) → Shows v h → g.own ≡ h.own → IsShown w h.own g → IsBlockSize g.size → IsInode g → depth_in g ≡ depth_in h → Shows w g

module _ {V : Type 0} (seen : V → Seen) (old now : Drafted V) (dir : ℕ) (h g : Holding) (shown : IsShown (seen_in seen old) dir h) (own : g.own ≡ h.own) (size : g.size ≡ h.size) (as_seen : IsAsSeen (seen_with (seen old.view) now.fates) g)
    (view : now.view ≡ old.view) (law : SoundAreShown) (sound : IsSound g) (hashed : is_hashed_in g ≡ true) where
  pub shown_after : IsShown (seen_in seen now) dir g
  shown_after = shown_of law (seen_in seen now) g dir sound hashed (own ∙ shown.inode.own) (size ∙ shown.inode.size ∙ sym (ap (λ y. (seen y).size) view)) (subst (λ s. IsAsSeen s g) (sym (ap (λ y. seen_with (seen y) now.fates) view)) as_seen)

  pub shows_after : (Shows : Seen → Holding → Type 0) → Follows Shows → Shows (seen_in seen old) h → depth_in g ≡ depth_in h → Shows (seen_in seen now) g
  shows_after Shows follows shows depth = follows (seen_in seen old) (seen_in seen now) h g shows own (subst (λ a. IsShown (seen_in seen now) a g) (sym shown.inode.own) shown_after) sound.block_size sound.inode depth
