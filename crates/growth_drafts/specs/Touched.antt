-- Which blocks a change of a draft is of.
use Rattle.std.specs.Prelude.{ℕ, ◌≡◌, ◌⊎◌, List, Contains}
use Rattle.std.specs.FinMap.{FinMap, insert}
use Rattle.std.specs.Ordering.{nat_cmp}
use Rattle.drafts.specs.Fates.{seen_with}
use Rattle.drafts.specs.declared.fate.Fate.{Fate}
use Rattle.gfs2_layout.specs.Holding.{Holding}
use Rattle.glock_names.specs.Views.{Seen}
use Rattle.dinode_tree.specs.Below.{IsBelow}
use Rattle.dinode_tree.specs.Shown.{IsShown}

-- the block is the inode's own, one of the room, or one to which pointers of the inode lead, whether it is sound or not
abbrev pub IsReached : Seen → ℕ → List ℕ → ℕ → Type 0
IsReached v inode room b = (b ≡ inode) ⊎ Contains room b ⊎ ((h : Holding) → IsShown v inode h → IsBelow h b)

-- From what became of blocks before to what becomes of them now, block by block: each time of a block that the draft, as it was then or
-- before, tells of the inode, or of one of the room.
pub data Follows (v : Seen) (inode : ℕ) (room : List ℕ) : FinMap nat_cmp Fate → FinMap nat_cmp Fate → Type 0 where
  as_it_was : (fates : FinMap nat_cmp Fate) → Follows v inode room fates fates
  one_more : (old between new : FinMap nat_cmp Fate) (b : ℕ) (fate : Fate) → Follows v inode room old between → Follows v inode room between new → IsReached (seen_with v between) inode room b → Follows v inode room old (insert new b fate)
