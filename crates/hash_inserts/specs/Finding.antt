-- What was found of a name's chain.
use Rattle.std.specs.Prelude.{ℕ, ◌≡◌, List, length}
use Rattle.gfs2_layout.specs.Holding.{Holding}
use Rattle.gfs2_layout.specs.Inode.{entry, entry_block}
use Rattle.glock_names.specs.Views.{Seen, HasBlock}
use Rattle.dinode_tree.specs.Below.{IsBelow}
use Rattle.hash_steps.specs.Shown.{index_for}
use Rattle.hash_steps.specs.Walking.{IsHead}
use Rattle.hash_inserts.specs.Inserting.{HasOneLeafFor}
use Rattle.hash_inserts.specs.Walking.{IsWalked, SeesLeaf}
use Rattle.hash_inserts.specs.declared.finding.Found.{Found}

-- the pointer to it, and that it was gone along to its last leaf
pub record IsChainFound (v : Seen) (h : Holding) (name : List ℕ) (f : Found) : Type 0 where
  pub head : IsHead h (index_for h name) f.head
  pub walked : IsWalked v h (index_for h name) (length name) f.chain

-- The chain of the name has this leaf and no other; the view has it, and it is a data block of a group. The pointer to it stands behind the dinode, which
-- the view has, and no block stands between the dinode and the leaves. So it is of a directory that has just become a hashed one.
pub record IsOnlyLeaf (v : Seen) (h : Holding) (name : List ℕ) (leaf : ℕ) : Type 0 where
  pub leads : leaf ≡ entry h (index_for h name)
  pub behind : entry_block h (index_for h name) ≡ h.own
  pub one : HasOneLeafFor h name
  pub sees : SeesLeaf v leaf
  pub own : HasBlock v h.own
  pub none_below : (b : ℕ) → IsBelow h b → ⊥
