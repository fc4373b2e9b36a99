-- What becomes of a directory that gets a name, whatever its form.
use Rattle.std.specs.Prelude.{ℕ, ◌≡◌, ◌≢◌, ◌⊎◌, ◌^◌, ◌<◌, ◌≤◌, true, false, List, [], ◌∷◌, ◌++◌, length, Contains, None, Some}
use Rattle.std.specs.FinMap.{FinMap, get}
use Rattle.std.specs.Ordering.{nat_cmp}
use Rattle.drafts.specs.declared.fate.Fate.{Fate}
use Rattle.gfs2_layout.specs.Area.{slots_of}
use Rattle.gfs2_layout.specs.Exchanges.{IsCounted}
use Rattle.gfs2_layout.specs.Holding.{Holding, bytes_at, part_at}
use Rattle.gfs2_layout.specs.Inode.{dinode_in, is_directory_in, is_hashed_in, linear_area, records_of}
use Rattle.gfs2_layout.specs.Putting.{put_slot}
use Rattle.gfs2_layout.specs.Records.{record_named}
use Rattle.glock_names.specs.Views.{Seen, HasBlock}
use Rattle.glock_names.specs.declared.steps.Entry.{Entry}
use Rattle.glock_names.specs.declared.steps.Missing.{Missing}
use Rattle.dinode_tree.specs.Walking.{missing_dinode}
use Rattle.growth_drafts.specs.Taken.{AreFreeFor, HasTaken}
use Rattle.linear_dirs.specs.Exchanges.{HasExchanged, IsLaidOver, uncounted}
use Rattle.linear_dirs.specs.Shown.{head_for, record_for}
use Rattle.hash_inserts.specs.Tables.{DraftsDirectory}
use Rattle.hash_inserts.specs.Shown.{IsSound}
use Rattle.hash_inserts.specs.Steps.{IsConverted}
use Rattle.hash_inserts.specs.Inserting.{CanCountOne, IsInserted, IsInsertedAt, IsNeededToInsert, IsWrongToInsert}
use Rattle.hash_inserts.specs.Needing.{SeesToInsert}
use Rattle.directories.specs.Shown.{IsBroken}
use Rattle.name_inserts.specs.Need.{has_linear_room, name_need}

-- ---- how a name comes in

-- The name's record is put into the first record of a linear directory that has room for it; the dinode counts it, and says else what it said; no
-- other byte changes.
pub record IsPutInLinear (h g : Holding) (name : List ℕ) (e : Entry) : Type 0 where
  pub dinode : uncounted (dinode_in g) ≡ uncounted (dinode_in h)
  pub counted : IsCounted (dinode_in h) (dinode_in g) [] (record_for name e ∷ [])
  pub slots : put_slot (head_for name e) name (slots_of (linear_area h)) ≡ Some (slots_of (linear_area g))
  pub bytes : IsLaidOver (bytes_at h h.own) (bytes_at g h.own)
  pub parts : (x : ℕ) → part_at g x ≡ part_at h x
  pub others : (x : ℕ) → x ≢ h.own → bytes_at g x ≡ bytes_at h x

-- `IsNamed name e h g taken`: the directory gets the name, and takes these blocks for it, in this order. A linear directory without room for it
-- becomes a hashed one first, whose leaf is the first of these blocks.
pub data IsNamed (name : List ℕ) (e : Entry) : Holding → Holding → List ℕ → Type 0 where
  in_linear : (h g : Holding) → is_hashed_in h ≡ false → has_linear_room h name ≡ true → IsPutInLinear h g name e → IsNamed name e h g []
  in_hashed : (h g : Holding) (taken : List ℕ) → is_hashed_in h ≡ true → IsInserted name e h g taken → IsNamed name e h g taken
  converted : (h m g : Holding) (b : ℕ) (taken : List ℕ) → is_hashed_in h ≡ false → has_linear_room h name ≡ false → IsConverted h m b → IsSound m
      → IsInserted name e m g taken → IsNamed name e h g (b ∷ taken)

-- ---- in a draft

-- A sound directory that hasn't the name, in an image of fewer than 2^64 blocks, whose dinode can count it; and these blocks may be taken for it, and are
-- enough.
pub record CanGetName (h : Holding) (name room : List ℕ) : Type 0 where
  pub sound : IsSound h
  pub directory : is_directory_in h ≡ true
  pub counts : CanCountOne h
  pub few : h.count < 2 ^ 64
  pub absent : record_named (records_of h) name ≡ None
  pub free : AreFreeFor h room
  pub enough : name_need h name ≤ length room

-- A block to which something is done as the directory, which becomes g, gets the name and takes these blocks: of a linear one with room for it that of its
-- dinode; of a hashed one a block to which an insertion does something; of a linear one without room, which becomes a hashed one, that of its dinode, or
-- one of those that it takes.
pub data IsNamedAt (h g : Holding) (name taken : List ℕ) (b : ℕ) : Type 0 where
  of_linear : is_hashed_in h ≡ false → has_linear_room h name ≡ true → b ≡ h.own → IsNamedAt h g name taken b
  of_hashed : is_hashed_in h ≡ true → IsInsertedAt h g name taken b → IsNamedAt h g name taken b
  of_converted : is_hashed_in h ≡ false → has_linear_room h name ≡ false → (b ≡ h.own) ⊎ Contains taken b → IsNamedAt h g name taken b

-- The directory got the name: from the front of the room it took as many blocks as the name needs. The draft puts each block that the directory then
-- has, under its lock, or leaves it; and it does nothing to any but those to which something is done for the name.
pub record PutsName (old new : FinMap nat_cmp Fate) (room left : List ℕ) (name : List ℕ) (e : Entry) (h g : Holding) : Type 0 where
  pub taken : List ℕ
  pub few : length taken ≡ name_need h name
  pub front : room ≡ taken ++ left
  pub has : HasTaken h g taken
  pub drafted : DraftsDirectory old new h g
  pub changes : (b : ℕ) → (get new b ≡ get old b) ⊎ IsNamedAt h g name taken b
  pub named : IsNamed name e h g taken
  pub exchanged : HasExchanged h g [] (record_for name e ∷ [])
  pub sound : IsSound g

-- ---- what is asked for, and damage

-- The view hasn't this block, without which it isn't told how the name comes in: the dinode's; of a hashed directory one that an insertion looks at.
pub data IsNeededForName (v : Seen) (h : Holding) (name : List ℕ) (m : Missing) : Type 0 where
  the_dinode : m ≡ missing_dinode h.own → v.block_at h.own ≡ None → IsNeededForName v h name m
  in_hashed : is_hashed_in h ≡ true → IsNeededToInsert v h name m → IsNeededForName v h name m

-- The view has each block that is looked at to tell how the name comes in: the dinode's; of a hashed directory those that an insertion looks at.
pub record SeesForName (v : Seen) (h : Holding) (name : List ℕ) : Type 0 where
  pub dinode : HasBlock v h.own
  pub in_hashed : is_hashed_in h ≡ true → SeesToInsert v h name

-- The block breaks this rule of an inode or of a directory's form, as the view shows it; or (2) a pointer of a hashed directory, in this block, leads to
-- one that is no data block of a group.
pub data IsWrongForName (v : Seen) (h : Holding) (rule b : ℕ) : Type 0 where
  of_directory : IsBroken v h rule b → IsWrongForName v h rule b
  in_hashed : is_hashed_in h ≡ true → IsWrongToInsert v h rule b → IsWrongForName v h rule b
