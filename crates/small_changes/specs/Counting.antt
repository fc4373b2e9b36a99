-- How many blocks a call writes.
use Rattle.std.specs.FinMap.{FinMap}
use Rattle.std.specs.Ordering.{nat_cmp}
use Rattle.std.specs.Prelude.{ℕ, ◌≡◌, ◌+◌, ◌*◌, ◌^◌, ◌≤◌, true, List, length}
use Rattle.profile_limits.specs.Limits.{most_group_blocks}
use Rattle.file_tree.specs.Tree.{Tree}
use Rattle.file_tree.specs.declared.call.Call.{Call}
use Rattle.gfs2_layout.specs.Device.{IsBlockSize}
use Rattle.gfs2_layout.specs.Holding.{Holding}
use Rattle.gfs2_layout.specs.Inode.{is_hashed_in}
use Rattle.glock_names.specs.Views.{Seen}
use Rattle.name_inserts.specs.Need.{chain_of, name_need}
use Rattle.name_inserts.specs.Needing.{Chain}
use Rattle.drafts.specs.declared.change.Change.{Change}
use Rattle.drafts.specs.declared.fate.Fate.{Fate}
use Rattle.image_model.specs.Image.{Image}
use Rattle.image_model.specs.Owners.{Owners}
use Rattle.image_model.specs.Profile.{group_length}
use Rattle.image_model.specs.Stands.{Layout}
use Rattle.image_changes.specs.Does.{IsOf}
use Rattle.image_changes.specs.Instances.{IsAt}
use Rattle.image_model.specs.Flat.{Path}
use Rattle.glock_names.specs.Views.{IsView}
use Rattle.file_changes.specs.Drafting.{IsCutDraft, IsFreedAndDone, IsWriteDraft}
use Rattle.file_changes.specs.Making.{CanBeCut, IsRoomIn}
use Rattle.removing_calls.specs.Removing as removing

-- the change writes at most so many blocks
abbrev pub WritesAtMost : ℕ → Change → Type 0
WritesAtMost most change = length change.blocks.items ≤ most

-- the view may be of an image that stands, whose groups have no more blocks of headers and bitmaps than the profile allows
pub record IsOfProfile (v : Seen) (im : Image) (o : Owners) (l : Layout) (t : Tree) : Type 0 where
  pub is : IsOf v im o l t
  pub few : group_length l.groups ≤ most_group_blocks

-- where a name is removed: the directory, the block of the name's record, and the groups
abbrev pub RemovalsAreSmall : {V : Type 0} → (V → Seen) → Type 0
RemovalsAreSmall {V = V} seen = (view : V) (im : Image) (o : Owners) (l : Layout) (t : Tree) (call : Call) (time : ℕ) (change : Change) → IsOfProfile (seen view) im o l t
    → removing.IsRemovedBy seen view call time change → WritesAtMost (2 + most_group_blocks) change

-- a write puts at most so many bytes
abbrev pub most_bytes : ℕ
most_bytes = 16384

-- Where bytes are written into a file with the blocks of a room that are as many as it needs: the dinode, the blocks that are taken, those above them, those of the content that is written, the last one
-- before, and the groups.
abbrev pub WritesAreSmall : Type 0
WritesAreSmall = (v : Seen) (im : Image) (o : Owners) (l : Layout) (t : Tree) (path : Path) (a at : ℕ) (new : List ℕ) (time : ℕ) (room : List ℕ) (change : Change) → IsOfProfile v im o l t → IsView v
    → IsAt im o l path a → IsWriteDraft v a at new time room change → IsRoomIn im o l a at (length new) room → length new ≤ most_bytes → WritesAtMost (160 + most_group_blocks) change

-- Where a file is cut: the dinode, the block at the new end, of each level of indirect blocks the one that stands over that end, and the groups.
abbrev pub CutsAreSmall : Type 0
CutsAreSmall = (v : Seen) (im : Image) (o : Owners) (l : Layout) (t : Tree) (path : Path) (a size time : ℕ) (freed : List ℕ) (fates : FinMap nat_cmp Fate) (change : Change) → IsOfProfile v im o l t
    → IsAt im o l path a → IsCutDraft v a size time freed fates → IsFreedAndDone v fates freed change → CanBeCut im o a size → WritesAtMost (12 + most_group_blocks) change

-- a chain in blocks of a size that there is, with a table that is no deeper than one may be, and leaves no deeper than the table
pub record IsSmallChain (c : Chain) : Type 0 where
  pub wide : 512 ≤ c.size
  pub narrow : c.size ≤ 4096
  pub table : 2 ^ c.table ≤ 8 * c.size
  pub height : c.height ≤ 10
  pub depth : c.depth ≤ c.table

-- at most so many blocks a name takes that comes into a directory, whatever its form, with a table that is no deeper than one may be
abbrev pub NamesTakeFew : Type 0
NamesTakeFew = (h : Holding) (name : List ℕ) → IsBlockSize h.size → (is_hashed_in h ≡ true → IsSmallChain (chain_of h name)) → name_need h name ≤ 105
