-- One state put at several data blocks in a draft, one after another: so are free blocks taken.
use Rattle.std.specs.Prelude.{ℕ, ◌≡◌, false, List, Some}
use Rattle.std.specs.FinMap.{get}
use Rattle.drafts.specs.Fates.{Drafted, seen_in}
use Rattle.drafts.specs.declared.fate.Fate.TheVariants.{Put}
use Rattle.glock_names.specs.Views.{Seen, HasBlock, HasGroup}
use Rattle.glock_names.specs.declared.views.Group.{Group}
use Rattle.resource_groups.specs.Shown.{IsShown, IsHeaderOf, group_lock}
use Rattle.resource_groups.specs.Putting.{ArePutIn, overlaid}
use Rattle.resource_groups.specs.Freeing.{HasSome, IsSameOrPut, SaysStateOfSome}

-- In each group's blocks this state is put at each of these blocks that is the group's, one after another. What is put of its header and bitmap
-- is under its lock: no block but the header and those with the bits of these blocks, and where it has some of them the header is. No block is
-- seen that wasn't.
pub record AreSet {V : Type 0} (seen : V → Seen) (old new : Drafted V) (blocks : List ℕ) (state : ℕ) : Type 0 where
  pub puts : (g : Group) (at : ℕ → List ℕ) → HasGroup (seen_in seen old) g → IsShown (seen_in seen old) g at → ArePutIn at (overlaid (seen_in seen new) at) g blocks state
  pub headers : (g : Group) (c : ℕ) → HasGroup (seen_in seen old) g → IsHeaderOf g c → IsSameOrPut old new g c
  pub only : (g : Group) (c : ℕ) → HasGroup (seen_in seen old) g → IsHeaderOf g c → ¬ (SaysStateOfSome (seen old.view).size g blocks c) → get new.fates c ≡ get old.fates c
  pub counts : (g : Group) → HasGroup (seen_in seen old) g → HasSome g blocks → (bytes : List ℕ) × (get new.fates g.addr ≡ Some (Put (group_lock g) false bytes))
  pub sees : (c : ℕ) → HasBlock (seen_in seen new) c → HasBlock (seen_in seen old) c

-- each of these blocks is in use by its group's bits
abbrev pub AreTaken : {V : Type 0} → (V → Seen) → Drafted V → Drafted V → List ℕ → Type 0
AreTaken seen old new blocks = AreSet seen old new blocks 1

-- What stays whether they were set or not: the view below; what becomes of all but the headers and bitmaps of the groups that have some
-- of these blocks, and so of these blocks themselves; and of the header and the bitmap of each group that has none.
pub record KeepsBlocks {V : Type 0} (seen : V → Seen) (old new : Drafted V) (blocks : List ℕ) : Type 0 where
  pub view : new.view ≡ old.view
  pub others : (c : ℕ) → ((g : Group) → HasGroup (seen_in seen old) g → HasSome g blocks → ¬ (IsHeaderOf g c)) → get new.fates c ≡ get old.fates c
  pub groups : (g : Group) (c : ℕ) → HasGroup (seen_in seen old) g → ¬ (HasSome g blocks) → IsHeaderOf g c → get new.fates c ≡ get old.fates c
