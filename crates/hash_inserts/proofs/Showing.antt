-- A sound hashed directory is shown where its blocks are seen.
use Rattle.std.proofs.Common.{◌≡◌, ℕ, Some, subst, true}
use Rattle.gfs2_layout.specs.Holding.{Holding, InChain, Itself, part_at}
use Rattle.gfs2_layout.specs.Inode.{IsInode, first_hash, is_hashed_in}
use Rattle.glock_names.specs.Views.{Seen}
use Rattle.dinode_tree.specs.Shown as inode
use Rattle.hash_steps.specs.Shown.{IsShown, IsSound}
use Rattle.hash_steps.proofs.Chained.{cell_some, in_chain}

abbrev pub SoundAreShown : Type 0
SoundAreShown = (u : Seen) (k : Holding) → IsInode k → part_at k k.own ≡ Some Itself → k.size ≡ u.size → inode.IsAsSeen u k → inode.IsShown u k.own k

pub shown_of : SoundAreShown → (w : Seen) (g : Holding) (dir : ℕ) → IsSound g → is_hashed_in g ≡ true → g.own ≡ dir → g.size ≡ w.size → inode.IsAsSeen w g → IsShown w dir g
shown_of law w g dir sound hashed own size seen = record {
  inode = subst (λ a. inode.IsShown w a g) own (law w g sound.inode sound.placed.own size seen);
  hashed = hashed;
  leaves = λ i at y chain some. cell_some (g.cell y) (InChain (first_hash g i) at) (in_chain g sound hashed i at y chain);
}
