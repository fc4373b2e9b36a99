-- A name taken from a directory of any form in a draft.
use Rattle.std.specs.Prelude.{ℕ, ◌≡◌, ◌≢◌, ◌⊎◌, true, false, List, [], ◌∷◌, Some, Ok}
use Rattle.std.specs.FinMap.{get}
use Rattle.drafts.specs.Fates.{Drafted, seen_in}
use Rattle.drafts.specs.declared.fate.Fate.TheVariants.{Put}
use Rattle.gfs2_layout.specs.Holding.{Holding, bytes_at}
use Rattle.gfs2_layout.specs.Inode.{dinode_in, is_hashed_in, records_of}
use Rattle.gfs2_layout.specs.Records.{Record, record_named}
use Rattle.gfs2_layout.specs.Structures.{dinode_read}
use Rattle.gfs2_layout.specs.declared.dinode.Dinode.{Dinode}
use Rattle.glock_names.specs.Views.{Seen, HasBlock}
use Rattle.glock_names.specs.declared.steps.Entry.{Entry}
use Rattle.dinode_tree.specs.Pads.{KeepsPads}
use Rattle.dinode_tree.specs.Reading.{inode_lock}
use Rattle.resource_groups.specs.Putting.{HasDataBlock}
use Rattle.linear_dirs.specs.Exchanges.{HasExchanged, IsCutFrom, IsLaidOver, uncounted}
use Rattle.linear_dirs.specs.Shown.{holding_over}
use Rattle.tree_tables.specs.Exchanging as hashed
use Rattle.tree_tables.specs.Finding.{IsLeafOfName}
use Rattle.tree_tables.specs.Shown.{IsSound}
use Rattle.directories.specs.Shown.{IsShown, Says}

-- as far as the view shows, the directory has the name
abbrev pub HasNameIn : Seen → ℕ → List ℕ → Type 0
HasNameIn v dir name = (h : Holding) → IsShown v dir h → (e : Entry) × Says h name (Some e)

-- The block that has the name's first record: of a linear directory its dinode's, of a hashed one a leaf.
pub data HasRecordOf (h : Holding) (name : List ℕ) : ℕ → Type 0 where
  in_linear : is_hashed_in h ≡ false → HasRecordOf h name h.own
  in_hashed : (x : ℕ) → is_hashed_in h ≡ true → IsLeafOfName h name (Some x) → HasRecordOf h name x

-- Of a linear directory the first record of the name is cut from its area; its dinode says what it said but for its counts, and each byte is fixed by what
-- dinode and records say.
pub record IsCutInLinear (h h' : Holding) (name : List ℕ) : Type 0 where
  pub cut : IsCutFrom h h' name
  pub dinode : uncounted (dinode_in h') ≡ uncounted (dinode_in h)
  pub laid : IsLaidOver (bytes_at h h.own) (bytes_at h' h.own)

-- Of a hashed directory the first record of the name is cut from this leaf, and the dinode says what it said but for its counts; what is in no field of it
-- stays.
pub record IsCutInHashed (h h' : Holding) (name : List ℕ) (leaf : ℕ) : Type 0 where
  pub cut : hashed.IsCutFrom h h' name
  pub in_leaf : cut.leaf ≡ leaf
  pub pads : KeepsPads (bytes_at h h.own) (bytes_at h' h.own)

-- What the directory is in one view, and without the name in another: its first record went from this block. Of a hashed one that isn't sound it isn't
-- said what went.
pub record IsWithoutName (v w : Seen) (dir : ℕ) (name : List ℕ) (leaf : ℕ) : Type 0 where
  pub from : (h : Holding) → IsShown v dir h → HasRecordOf h name leaf
  pub removed : (h : Holding) (r : Record) → IsShown v dir h → (is_hashed_in h ≡ true → IsSound h) → record_named (records_of h) name ≡ Some r → HasExchanged h (holding_over w h) (r ∷ []) []
  pub in_linear : (h : Holding) → IsShown v dir h → is_hashed_in h ≡ false → IsCutInLinear h (holding_over w h) name
  pub in_hashed : (h : Holding) → IsShown v dir h → is_hashed_in h ≡ true → IsSound h → IsCutInHashed h (holding_over w h) name leaf

-- The draft puts the directory's dinode's block, which has a dinode with its header, and the block that had the record, which is the same or a data block of a
-- group, each under the directory's lock, and no other block.
pub record PutsTwo {V : Type 0} (seen : V → Seen) (old new : Drafted V) (dir leaf : ℕ) : Type 0 where
  pub view : new.view ≡ old.view
  pub there : HasBlock (seen_in seen old) dir
  pub leaf_there : HasBlock (seen_in seen old) leaf
  pub inside : (leaf ≡ dir) ⊎ HasDataBlock (seen_in seen old) leaf
  pub bytes : List ℕ
  pub dinode : Dinode
  pub put : get new.fates dir ≡ Some (Put (inode_lock dir) false bytes)
  pub read : dinode_read bytes ≡ Ok dinode
  pub leaf_put : (now : List ℕ) × (get new.fates leaf ≡ Some (Put (inode_lock dir) false now))
  pub others : (b : ℕ) → b ≢ dir → b ≢ leaf → get new.fates b ≡ get old.fates b
