-- What a draft makes of a directory, step by step.
use Rattle.std.specs.Prelude.{ℕ, ◌≡◌, ◌≢◌, ◌⊎◌, ◌↔◌, ◌<◌, ◌==◌, if◌then◌else◌, List, [], ◌∷◌, None, Some, IsSome}
use Rattle.std.specs.FinMap.{FinMap, get}
use Rattle.std.specs.Ordering.{nat_cmp}
use Rattle.drafts.specs.Fates.{seen_with}
use Rattle.drafts.specs.declared.fate.Fate.{Fate}
use Rattle.gfs2_layout.specs.Holding.{Holding, Part}
use Rattle.gfs2_layout.specs.Inode.{entry, entry_block, table_count}
use Rattle.glock_names.specs.Views.{Seen, HasBlock}
use Rattle.glock_names.specs.declared.steps.Entry.{Entry}
use Rattle.dinode_tree.specs.Below.{IsBelow}
use Rattle.dinode_tree.specs.Shown.{IsAsSeen}
use Rattle.growth_drafts.specs.Taken.{HasTaken}
use Rattle.linear_dirs.specs.Shown.{holding_over}
use Rattle.table_changes.specs.Pointers.{HasPointerOf}
use Rattle.table_changes.specs.Tables.{DraftsDirectory, HasPointersSet, TakesDoubled, TakesWithin}
use Rattle.hash_steps.specs.Shown.{index_for}
use Rattle.hash_steps.specs.Laws.{Stays}
use Rattle.hash_steps.specs.Steps.{IsLengthened, IsPutInLeaf, IsSplit}
use Rattle.hash_inserts.specs.Inserting.{IsSplitAt}

-- the inode with this block, of this part and with these bytes
abbrev pub with_block : Holding → ℕ → Part → List ℕ → Holding
with_block h y part bytes = record h { cell = λ z. if z == y then Some (record { part = part; bytes = bytes }) else h.cell z }

-- From one inode to another a draft puts blocks, under its lock; and what it sees of the one it sees of the other.
pub record Puts (v : Seen) (old new : FinMap nat_cmp Fate) (h g : Holding) : Type 0 where
  pub own : g.own ≡ h.own
  pub drafted : DraftsDirectory old new h g
  pub seen : IsAsSeen (seen_with v old) h → IsAsSeen (seen_with v new) g
  pub there : (b : ℕ) → HasBlock (seen_with v old) b → HasBlock (seen_with v new) b
  pub keeps : (b : ℕ) → IsSome (h.cell b) → IsSome (g.cell b)

-- The record of a name is put into this leaf of its chain, and nothing is done to any block but the leaf and the dinode's.
pub record PutsInLeaf (v : Seen) (old new : FinMap nat_cmp Fate) (h g : Holding) (name : List ℕ) (e : Entry) (leaf : ℕ) : Type 0 where
  pub puts : Puts v old new h g
  pub put : IsPutInLeaf h g name e
  pub only : (b : ℕ) → (get new b ≡ get old b) ⊎ ((b ≡ h.own) ⊎ (b ≡ leaf))
  pub blocks : (b : ℕ) → IsSome (g.cell b) ↔ IsSome (h.cell b)

-- a block that the directory may take
pub record IsFree (h : Holding) (b : ℕ) : Type 0 where
  pub some : b ≢ 0
  pub inside : b < h.count
  pub new : h.cell b ≡ None

-- A leaf is added behind the chain of pointer i, and nothing is done to any block but the leaf before it, the new one and the dinode's.
pub record Lengthens (v : Seen) (old new : FinMap nat_cmp Fate) (h g : Holding) (i b : ℕ) : Type 0 where
  pub puts : Puts v old new h g
  pub is : IsLengthened h g i b
  pub only : (y : ℕ) → (get new y ≡ get old y) ⊎ ((y ≡ h.own) ⊎ ((y ≡ is.last) ⊎ (y ≡ b)))
  pub entries : (j : ℕ) → entry g j ≡ entry h j
  pub there : HasBlock (seen_with v new) b
  pub has : HasTaken h g (b ∷ [])

-- The leaf of pointer i is split, and each pointer stands where it stood.
pub record SplitsLeaf (v : Seen) (old new : FinMap nat_cmp Fate) (h g : Holding) (i b : ℕ) : Type 0 where
  pub puts : Puts v old new h g
  pub is : IsSplit h g i b
  pub blocks : (j : ℕ) → j < table_count h → entry_block g j ≡ entry_block h j
  pub only : (y : ℕ) → (get new y ≡ get old y) ⊎ IsSplitAt h i b y
  pub has : HasTaken h g (b ∷ [])

-- the view has each block of the directory's tree
pub record SeesTree (v : Seen) (h : Holding) : Type 0 where
  pub own : HasBlock v h.own
  pub below : (b : ℕ) → IsBelow h b → HasBlock v b

-- So many neighbouring pointers lead to this leaf in the draft, and it is that directory's else as it was.
pub record SetsPointers (v : Seen) (old new : FinMap nat_cmp Fate) (h : Holding) (from count leaf : ℕ) : Type 0 where
  pub set : HasPointersSet h (holding_over (seen_with v new) h) from count leaf
  pub drafted : DraftsDirectory old new h (holding_over (seen_with v new) h)
  pub only : (b : ℕ) → (get new b ≡ get old b) ⊎ HasPointerOf h from count b

-- The table is doubled in the draft.
pub record DoublesTable (v : Seen) (old new : FinMap nat_cmp Fate) (room left : List ℕ) (h g : Holding) : Type 0 where
  pub puts : Puts v old new h g
  pub takes : TakesDoubled old new room left h g
  pub within : TakesWithin old new room left h

-- A leaf is added behind the name's chain, and its record put into that.
pub record PutsBehind (v : Seen) (old new : FinMap nat_cmp Fate) (h g : Holding) (name : List ℕ) (e : Entry) (leaf : ℕ) : Type 0 where
  pub between : FinMap nat_cmp Fate
  pub longer : Holding
  pub lengthens : Lengthens v old between h longer (index_for h name) leaf
  pub stays : Stays h longer
  pub puts : PutsInLeaf v between new longer g name e leaf
