-- How a name comes into a hashed directory.
use Rattle.std.specs.Prelude.{ℕ, ◌≡◌, ◌⊎◌, ◌+◌, ◌*◌, ◌^◌, ◌<◌, ◌≤◌, true, false, List, [], ◌∷◌, ◌++◌, length, Contains, Some}
use Rattle.std.specs.FinMap.{FinMap, get}
use Rattle.std.specs.Ordering.{nat_cmp}
use Rattle.drafts.specs.declared.fate.Fate.{Fate}
use Rattle.drafts.specs.declared.fate.Fate.TheVariants.{Put}
use Rattle.gfs2_layout.specs.Area.{slots_of}
use Rattle.gfs2_layout.specs.Holding.{Holding, Pointed, bytes_at, part_at}
use Rattle.gfs2_layout.specs.Inode.{depth_in, dinode_in, leaf_area, leaf_in, table_count}
use Rattle.glock_names.specs.Views.{Seen}
use Rattle.glock_names.specs.declared.steps.Entry.{Entry}
use Rattle.glock_names.specs.declared.steps.Missing.{Missing}
use Rattle.dinode_tree.specs.Below.{AnyIndex, IsLedFrom}
use Rattle.dinode_tree.specs.Pads.{KeepsPads}
use Rattle.dinode_tree.specs.Reading.{IsNeeded, inode_lock}
use Rattle.growth_drafts.specs.Taken.{HasTaken}
use Rattle.linear_dirs.specs.Exchanges.{HasExchanged}
use Rattle.linear_dirs.specs.Shown.{record_for}
use Rattle.pointer_tables.specs.Tables.{IsDoubled}
use Rattle.table_changes.specs.Pointers.{HasPointerOf}
use Rattle.table_changes.specs.Tables.{DraftsDirectory, GrowsAsFile, IsClearBehind, KeepsTableHeaders, doubling_need_of}
use Rattle.resource_groups.specs.Putting.{HasDataBlock}
use Rattle.hash_steps.specs.Broken.{IsWrongIn}
use Rattle.hash_steps.specs.Shown.{IsInChain, IsNeededFor, IsSound, index_for}
use Rattle.hash_steps.specs.Laws.{Stays}
use Rattle.hash_steps.specs.Leaves.{HasOneLeaf, IsFull, IsFullBefore, first_of, has_room_for, leaf_depth, run_of}
use Rattle.hash_steps.specs.Steps.{IsConverted, IsLengthened, IsPutInLeaf, IsSplit}

-- no leaf of the name's chain has room for it
abbrev pub HasNoRoom : Holding → List ℕ → Type 0
HasNoRoom h name = IsFull h (index_for h name) (length name)

-- the name's chain has one leaf
abbrev pub HasOneLeafFor : Holding → List ℕ → Type 0
HasOneLeafFor h name = HasOneLeaf h (index_for h name)

-- and that is so deep
abbrev pub depth_for : Holding → List ℕ → ℕ
depth_for h name = leaf_depth h (index_for h name)

-- it is as deep as the table, which is as deep as one may be
abbrev pub IsDeepest : Holding → List ℕ → Type 0
IsDeepest h name = (depth_for h name ≡ depth_in h) × (8 * h.size < 2 * table_count h)

-- The table is doubled, with as many blocks more as that takes. The dinode keeps its pads; each table block has its header, an old one that which it had;
-- zeros stand behind the last pointer; and the blocks stand as those of a file that grows.
pub record HasDoubled (h m : Holding) (more : List ℕ) : Type 0 where
  pub doubled : IsDoubled h m more
  pub needed : length more ≡ doubling_need_of h
  pub pads : KeepsPads (bytes_at h h.own) (bytes_at m m.own)
  pub headers : KeepsTableHeaders h m more
  pub clear : IsClearBehind m
  pub grown : GrowsAsFile h m more

-- `IsInserted name e h g taken`: the directory gets the name, and takes these blocks for it, in this order. Of three rules the first that fits is
-- followed, until a leaf has room; the directory is sound in between.
pub data IsInserted (name : List ℕ) (e : Entry) : Holding → Holding → List ℕ → Type 0 where
  put : (h g : Holding) → IsPutInLeaf h g name e → IsInserted name e h g []
  after_split : (h m g : Holding) (b : ℕ) (taken : List ℕ) → HasNoRoom h name → HasOneLeafFor h name → depth_for h name < depth_in h
      → IsSplit h m (index_for h name) b → IsSound m → IsInserted name e m g taken → IsInserted name e h g (b ∷ taken)
  after_doubling : (h m g : Holding) (more taken : List ℕ) → HasNoRoom h name → HasOneLeafFor h name → depth_for h name ≡ depth_in h → 2 * table_count h ≤ 8 * h.size
      → HasDoubled h m more → IsSound m → IsInserted name e m g taken → IsInserted name e h g (more ++ taken)
  after_leaf : (h m g : Holding) (b : ℕ) → HasNoRoom h name → (HasOneLeafFor h name → IsDeepest h name)
      → IsLengthened h m (index_for h name) b → IsSound m → IsPutInLeaf m g name e → IsInserted name e h g (b ∷ [])

-- ---- in a draft

-- A block to which an insertion that makes g of h does something: the dinode's; the leaf that gets the record, or where none has room the last of the
-- name's chain; and where blocks are taken, these, and blocks of the table: those with pointers to the name's leaf where that is split, and all where the table is
-- doubled.
pub data IsInsertedAt (h g : Holding) (name taken : List ℕ) (b : ℕ) : Type 0 where
  its_dinode : b ≡ h.own → IsInsertedAt h g name taken b
  a_leaf_with_room : (place : ℕ) → IsInChain h (index_for h name) place b → IsFullBefore h (index_for h name) (length name) place → has_room_for (length name) (slots_of (leaf_area h b)) ≡ true
      → IsInsertedAt h g name taken b
  the_last_leaf : (place : ℕ) → HasNoRoom h name → IsInChain h (index_for h name) place b → (leaf_in h b).next ≡ 0 → IsInsertedAt h g name taken b
  one_taken : Contains taken b → IsInsertedAt h g name taken b
  of_pointers : HasNoRoom h name → HasOneLeafFor h name → depth_for h name < depth_in h → HasPointerOf h (first_of h (index_for h name)) (run_of h (depth_for h name)) b → IsInsertedAt h g name taken b
  of_table : (above k level first : ℕ) → HasNoRoom h name → HasOneLeafFor h name → depth_in h < depth_in g → part_at h b ≡ Some (Pointed above k level first) → IsInsertedAt h g name taken b

-- From one directory to another it puts of each block what it has then, or leaves it, and takes these blocks, which are the front of the room; it
-- does nothing to any block that isn't one of these.
pub record Takes (old new : FinMap nat_cmp Fate) (room left taken : List ℕ) (IsOne : ℕ → Type 0) (h g : Holding) : Type 0 where
  pub front : room ≡ taken ++ left
  pub has : HasTaken h g taken
  pub drafted : DraftsDirectory old new h g
  pub changes : (b : ℕ) → (get new b ≡ get old b) ⊎ IsOne b

-- the name's record came, and it took as many blocks as it needed
pub record Inserts (old new : FinMap nat_cmp Fate) (room left : List ℕ) (need : ℕ) (name : List ℕ) (e : Entry) (h g : Holding) : Type 0 where
  pub taken : List ℕ
  pub few : length taken ≡ need
  pub takes : Takes old new room left taken (IsInsertedAt h g name taken) h g
  pub inserted : IsInserted name e h g taken
  pub exchanged : HasExchanged h g [] (record_for name e ∷ [])
  pub sound : IsSound g

-- A block to which an insertion may do something, whatever the directory is: its dinode's, one that is taken, or a data block of a group.
pub data MayChange (v : Seen) (dir : ℕ) (taken : List ℕ) (b : ℕ) : Type 0 where
  the_dinode : b ≡ dir → MayChange v dir taken b
  a_taken_one : Contains taken b → MayChange v dir taken b
  a_data_block : HasDataBlock v b → MayChange v dir taken b

-- the block is put under the lock of the directory in block dir, and isn't plain
abbrev pub IsPutUnder : FinMap nat_cmp Fate → ℕ → ℕ → Type 0
IsPutUnder fates dir b = (bytes : List ℕ) × (get fates b ≡ Some (Put (inode_lock dir) false bytes))

-- each that changes is put under the directory's lock, nothing becomes of any other block, and what is taken is the front of the room
pub record StaysInside (v : Seen) (old new : FinMap nat_cmp Fate) (room left : List ℕ) (dir : ℕ) : Type 0 where
  pub taken : List ℕ
  pub front : room ≡ taken ++ left
  pub changes : (b : ℕ) → (get new b ≡ get old b) ⊎ (MayChange v dir taken b × IsPutUnder new dir b)

-- a block to which a split does something: the dinode's, the leaf's, the new leaf's, and those with pointers that then lead to the new one
pub data IsSplitAt (h : Holding) (i taken b : ℕ) : Type 0 where
  its_dinode : b ≡ h.own → IsSplitAt h i taken b
  the_leaf : IsInChain h i 0 b → IsSplitAt h i taken b
  the_new_one : b ≡ taken → IsSplitAt h i taken b
  of_pointers : HasPointerOf h (first_of h i) (run_of h (leaf_depth h i + 1)) b → IsSplitAt h i taken b

pub record Splits (old new : FinMap nat_cmp Fate) (room left : List ℕ) (i : ℕ) (h g : Holding) : Type 0 where
  pub block : ℕ
  pub takes : Takes old new room left (block ∷ []) (IsSplitAt h i block) h g
  pub split : IsSplit h g i block
  pub stays : Stays h g

pub record Converts (old new : FinMap nat_cmp Fate) (room left : List ℕ) (h g : Holding) : Type 0 where
  pub block : ℕ
  pub takes : Takes old new room left (block ∷ []) (λ b. (b ≡ h.own) ⊎ (b ≡ block)) h g
  pub converted : IsConverted h g block
  pub stays : Stays h g

-- Whatever the directory is: one block was taken from the front of the room, and nothing becomes of any block but the dinode's and that one, which are put
-- under its lock.
pub record ConvertsWithin (old new : FinMap nat_cmp Fate) (room left : List ℕ) (h : Holding) : Type 0 where
  pub block : ℕ
  pub front : room ≡ block ∷ left
  pub changes : (b : ℕ) → (get new b ≡ get old b) ⊎ (((b ≡ h.own) ⊎ (b ≡ block)) × IsPutUnder new h.own b)

-- ---- what is asked for

-- The view hasn't this block, without which it isn't told how the name comes in: one of the name's chain, or on the way to it; and where its one leaf has
-- no room, any block of the table, or on the way to it.
pub data IsNeededToInsert (v : Seen) (h : Holding) (name : List ℕ) (m : Missing) : Type 0 where
  of_chain : IsNeededFor v h (λ i. i ≡ index_for h name) m → IsNeededToInsert v h name m
  of_table : HasNoRoom h name → HasOneLeafFor h name → IsNeeded v h AnyIndex 0 m → IsNeededToInsert v h name m

-- The view hasn't this block, without which the leaf of a pointer isn't split: the leaf, or one of the table, or on the way to these.
pub data IsNeededToSplit (v : Seen) (h : Holding) (index : ℕ) (m : Missing) : Type 0 where
  of_leaf : IsNeededFor v h (λ i. i ≡ index) m → IsNeededToSplit v h index m
  of_pointers : IsNeeded v h AnyIndex 0 m → IsNeededToSplit v h index m

-- ---- what is told

-- The block breaks this rule, as the view shows the directory; or (2) a pointer of the directory's tree stands in it that leads to no data block of a group.
pub data IsWrongToInsert (v : Seen) (h : Holding) : ℕ → ℕ → Type 0 where
  in_directory : (rule b : ℕ) → IsWrongIn v h rule b → IsWrongToInsert v h rule b
  stray_pointer : (from b : ℕ) → IsLedFrom h from b → ¬ (HasDataBlock v b) → IsWrongToInsert v h 2 from

-- ---- what is asked of the dinode

-- the dinode's counts of records and of links have numbers above them
pub record CanCountOne (h : Holding) : Type 0 where
  pub records : (dinode_in h).entries + 1 < 2 ^ 32
  pub links : (dinode_in h).nlink + 1 < 2 ^ 32
