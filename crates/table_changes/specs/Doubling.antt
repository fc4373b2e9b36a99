-- What the code that doubles a table holds, as what it stands for.
use Rattle.std.specs.Prelude.{ℕ, ◌≡◌, ◌⊎◌, Bool, true, List, ◌++◌, length, Contains, None, Some, IsSome}
use Rattle.std.specs.FinMap.{FinMap, entries, get}
use Rattle.std.specs.Ordering.{nat_cmp}
use Rattle.drafts.specs.Fates.{blocks_in}
use Rattle.drafts.specs.declared.change.Written.{Written}
use Rattle.drafts.specs.declared.fate.Fate.{Fate}
use Rattle.drafts.specs.declared.fate.Fate.TheVariants.{Put}
use Rattle.gfs2_layout.specs.Holding.{Holding, InChain, bytes_at, part_at}
use Rattle.gfs2_layout.specs.Inode.{is_hashed_in}
use Rattle.glock_names.specs.declared.LockName.{LockName}
use Rattle.dinode_tree.specs.Below.{TellsOfBlock}
use Rattle.dinode_tree.specs.Pads.{KeepsPads}
use Rattle.dinode_tree.specs.declared.below.PointedBlock.{PointedBlock}
use Rattle.growth_drafts.specs.Taken.{HasTaken}
use Rattle.pointer_tables.specs.Tables.{IsDoubled}
use Rattle.table_files.specs.Tables.{GrowsAsFile, IsClearBehind, KeepsTableHeaders, doubling_need_of}
use Rattle.table_files.specs.Files.{AreDoubledPointers, AreHeadersOf, table_bytes}

-- a block that a table's doubling may put: the directory's own, one below it, or one that was taken
abbrev pub IsOfTable : ℕ → List PointedBlock → List ℕ → ℕ → Type 0
IsOfTable directory below taken b = (b ≡ directory) ⊎ (TellsOfBlock below b ⊎ Contains taken b)

-- the blocks of the directory's table that is twice as long, one behind another
pub record IsDoubledTable (h : Holding) (bytes : List ℕ) : Type 0 where
  pub headers : List ℕ
  pub pointers : List ℕ
  pub heads : AreHeadersOf h headers
  pub twice : AreDoubledPointers h pointers
  pub all : bytes ≡ table_bytes h.size headers pointers

-- These blocks, put over those that a directory has, make of it one whose table is doubled: with blocks from the front of the room.
pub record AreDoubledBlocks (h : Holding) (room left : List ℕ) (ws : List Written) : Type 0 where
  pub g : Holding
  pub taken : List ℕ
  pub hashed : is_hashed_in g ≡ true
  pub doubled : IsDoubled h g taken
  pub has : HasTaken h g taken
  pub needed : length taken ≡ doubling_need_of h
  pub front : room ≡ taken ++ left
  pub pads : KeepsPads (bytes_at h h.own) (bytes_at g g.own)
  pub headers : KeepsTableHeaders h g taken
  pub clear : IsClearBehind g
  pub grown : GrowsAsFile h g taken
  pub fates : FinMap nat_cmp Fate
  pub written : ws ≡ blocks_in (entries fates)
  pub each : (b : ℕ) → IsSome (g.cell b) → ((get fates b ≡ None) × IsSome (h.cell b) × (bytes_at g b ≡ bytes_at h b)) ⊎ ((lock : LockName) × (plain : Bool) × (get fates b ≡ Some (Put lock plain (bytes_at g b))))
  pub others : (b : ℕ) → (IsSome (g.cell b) → ⊥) → get fates b ≡ None
  pub leaves : (x hash place : ℕ) → part_at h x ≡ Some (InChain hash place) → get fates x ≡ None
