-- A name of a directory of any form that leads to another inode: its first record is written where it stands.
use Rattle.std.specs.Prelude.{ℕ, ◌≡◌, ◌⊎◌, ◌+◌, true, false, if◌then◌else◌, List, [], ◌∷◌, take, drop, None, Some}
use Rattle.std.specs.FinMap.{insert}
use Rattle.drafts.specs.Fates.{Drafted, seen_in}
use Rattle.drafts.specs.declared.fate.Fate.TheVariants.{Put}
use Rattle.gfs2_layout.specs.Area.{IsArea, IsRecordAt, first_named, slots_of}
use Rattle.gfs2_layout.specs.Cutting.{slot_from}
use Rattle.gfs2_layout.specs.Holding.{Holding}
use Rattle.gfs2_layout.specs.Inode.{is_hashed_in, leaf_length, records_of}
use Rattle.gfs2_layout.specs.Records.{Record, record_named}
use Rattle.gfs2_layout.specs.Structures.{dinode_length}
use Rattle.gfs2_layout.specs.declared.inum.Inum.{Inum}
use Rattle.glock_names.specs.Views.{Seen, HasBlock}
use Rattle.dinode_tree.specs.Reading.{inode_lock}
use Rattle.linear_dirs.specs.Exchanges.{HasExchanged}
use Rattle.linear_dirs.specs.Shown.{holding_over}
use Rattle.hash_dirs.specs.Shown.{IsSound}
use Rattle.resource_groups.specs.Putting.{HasDataBlock}
use Rattle.directories.specs.Shown.{IsShown}
use Rattle.directories.specs.Taking.{HasRecordOf}
use Rattle.name_redirects.specs.Leading.{record_led_to, slots_led_to, with_inum}

-- where the records begin in a block of the directory that has some: behind the dinode of a linear one, behind the head of a leaf
abbrev pub records_from : Holding → ℕ
records_from h = if is_hashed_in h then leaf_length else dinode_length

-- In a block whose records begin at this byte the first record of the name leads there, and no other byte changes.
pub record IsNameLed (start : ℕ) (old new name : List ℕ) (inum : Inum) : Type 0 where
  pub place : ℕ
  pub at : IsRecordAt (drop start old) place
  pub none_before : first_named name (slots_of (take place (drop start old))) ≡ None
  pub first : first_named name (slots_of (drop start old)) ≡ Some (slot_from place (drop start old))
  pub bytes : new ≡ with_inum (start + place) inum old
  pub slots : slots_of (drop start new) ≡ slots_led_to place inum (drop start old)
  pub filled : IsArea (drop start new)

-- What the directory is in one view, and what it is in another in which the name leads there: in this block its first record does, and what the record says
-- of another inode is all that the directory says otherwise. Of a hashed one that isn't sound no more is told than what becomes of the block.
pub record IsRedirected (v w : Seen) (dir : ℕ) (name : List ℕ) (inum : Inum) (block : ℕ) : Type 0 where
  pub from : (h : Holding) → IsShown v dir h → HasRecordOf h name block
  pub old : List ℕ
  pub was : v.block_at block ≡ Some old
  pub new : List ℕ
  pub is : w.block_at block ≡ Some new
  pub led : (h : Holding) → IsShown v dir h → IsNameLed (records_from h) old new name inum
  pub exchanged : (h : Holding) (r : Record) → IsShown v dir h → (is_hashed_in h ≡ true → IsSound h) → record_named (records_of h) name ≡ Some r
      → HasExchanged h (holding_over w h) (r ∷ []) (record_led_to inum r ∷ [])

-- The draft puts this block, the dinode's or a data block of a group, under the directory's lock, and no other.
pub record PutsOne {V : Type 0} (seen : V → Seen) (old new : Drafted V) (dir block : ℕ) : Type 0 where
  pub there : HasBlock (seen_in seen old) block
  pub inside : (block ≡ dir) ⊎ HasDataBlock (seen_in seen old) block
  pub bytes : List ℕ
  pub put : new ≡ record old { fates = insert old.fates block (Put (inode_lock dir) false bytes) }
