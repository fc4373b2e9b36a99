-- An insertion that is made in a draft of its own, and then put into the draft below.
use Rattle.std.specs.Prelude.{ℕ, ◌≡◌, List, [], ◌∷◌}
use Rattle.std.specs.FinMap.{FinMap, empty, entries}
use Rattle.std.specs.Ordering.{nat_cmp}
use Rattle.drafts.specs.Fates.{blocks_in, seen_with}
use Rattle.drafts.specs.declared.change.Written.{Written}
use Rattle.drafts.specs.declared.fate.Fate.{Fate}
use Rattle.gfs2_layout.specs.Holding.{Holding}
use Rattle.glock_names.specs.Views.{Seen}
use Rattle.glock_names.specs.declared.steps.Entry.{Entry}
use Rattle.dinode_tree.specs.Below.{IsBelow}
use Rattle.resource_groups.specs.Putting.{HasDataBlock}
use Rattle.hash_steps.specs.Shown.{IsShown, IsSound}
use Rattle.hash_steps.specs.Laws.{Stays}
use Rattle.hash_steps.specs.Steps.{IsSplit}
use Rattle.hash_inserts.specs.Drafting.{SeesTree}
use Rattle.hash_inserts.specs.Inserting.{Inserts, IsSplitAt, Takes}

-- the view has each block of the directory's tree, and those below the dinode are data blocks of groups
pub record SeesInside (v : Seen) (h : Holding) : Type 0 where
  pub tree : SeesTree v h
  pub below : (b : ℕ) → IsBelow h b → HasDataBlock v b

-- These blocks are what a draft over the view puts in which the directory became another: blocks are taken, which are the front of the room, and nothing is
-- done to any block but these.
pub record HasPut (v : Seen) (fates : FinMap nat_cmp Fate) (blocks : List Written) (dir : ℕ) (room left taken : List ℕ) (IsOne : ℕ → Type 0) (h g : Holding) : Type 0 where
  pub written : blocks ≡ blocks_in (entries fates)
  pub shown : IsShown (seen_with v fates) dir g
  pub sound : IsSound g
  pub takes : Takes empty fates room left taken IsOne h g

-- The leaf of a pointer is split so, by one block.
pub record HasSplit (v : Seen) (fates : FinMap nat_cmp Fate) (blocks : List Written) (dir index block : ℕ) (h g : Holding) : Type 0 where
  pub put : HasPut v fates blocks dir (block ∷ []) [] (block ∷ []) (IsSplitAt h index block) h g
  pub split : IsSplit h g index block
  pub stays : Stays h g

-- The directory got the name so.
pub record HasInserted (v : Seen) (fates : FinMap nat_cmp Fate) (blocks : List Written) (dir : ℕ) (room left : List ℕ) (need : ℕ) (name : List ℕ) (e : Entry) (h g : Holding) : Type 0 where
  pub written : blocks ≡ blocks_in (entries fates)
  pub shown : IsShown (seen_with v fates) dir g
  pub inserts : Inserts empty fates room left need name e h g
