-- What becomes of the directories of a name that moves: one loses records, one gets one, a directory that moves names another parent. Each relation is
-- between a directory before and after, of any form.
use Rattle.std.specs.Prelude.{ℕ, ◌≡◌, ◌≢◌, Bool, true, false, if◌then◌else◌, List, [], ◌∷◌, ◌++◌, length, codes, Some}
use Rattle.std.specs.Ordering.{nat_cmp}
use Rattle.std.specs.FinMap.{FinMap, get}
use Rattle.drafts.specs.declared.fate.Fate.{Fate}
use Rattle.drafts.specs.declared.fate.Fate.TheVariants.{Put}
use Rattle.gfs2_layout.specs.Holding.{Holding, bytes_at, part_at}
use Rattle.gfs2_layout.specs.Inode.{height_in, is_hashed_in, records_of}
use Rattle.gfs2_layout.specs.Records.{Record, record_named}
use Rattle.gfs2_layout.specs.Structures.{dinode_of}
use Rattle.gfs2_layout.specs.declared.inum.Inum.{Inum}
use Rattle.glock_names.specs.Views.{Seen}
use Rattle.glock_names.specs.declared.steps.Entry.{Entry}
use Rattle.dinode_tree.specs.Reading.{inode_lock}
use Rattle.linear_dirs.specs.Exchanges.{HasExchanged}
use Rattle.hash_dirs.specs.Shown.{IsSound}
use Rattle.directories.specs.Shown.{IsShown}
use Rattle.directories.specs.Taking.{HasRecordOf, IsCutInHashed, IsCutInLinear}
use Rattle.new_inodes.specs.Touched.{IsTouched}
use Rattle.name_redirects.specs.Leading.{record_led_to}
use Rattle.name_redirects.specs.Redirects.{IsNameLed, records_from}
use Rattle.name_drafts.specs.Drafting.{HasTimes}
use Rattle.name_drafts.specs.Inserting.{IsNamed}
use Rattle.name_drafts.specs.Need.{name_need}

-- ---- records go

-- the directory has the blocks that it had, each in its place
pub record HasItsBlocks (h g : Holding) : Type 0 where
  pub size : g.size ≡ h.size
  pub count : g.count ≡ h.count
  pub own : g.own ≡ h.own
  pub parts : (b : ℕ) → part_at g b ≡ part_at h b

-- The first record of the name goes, from the dinode's block of a linear directory or from the leaf of the name of a hashed one; nothing else changes but
-- counts.
pub record LosesName (h g : Holding) (name : List ℕ) : Type 0 where
  pub gone : Record
  pub named : record_named (records_of h) name ≡ Some gone
  pub exchanged : HasExchanged h g (gone ∷ []) []
  pub kept : HasItsBlocks h g
  pub in_linear : is_hashed_in h ≡ false → IsCutInLinear h g name
  pub in_hashed : is_hashed_in h ≡ true → (leaf : ℕ) × IsCutInHashed h g name leaf

-- those of these names, one after another
pub data LosesAll : List (List ℕ) → Holding → Holding → Type 0 where
  of_none : (h : Holding) → LosesAll [] h h
  of_one : (name : List ℕ) (names : List (List ℕ)) (h k g : Holding) → LosesName h k name → LosesAll names k g → LosesAll (name ∷ names) h g

-- what the directory that gets the name loses first: what stood there by the new name, and the moved name where that is its own
abbrev pub losses : (replaces within : Bool) → List ℕ → List ℕ → List (List ℕ)
losses replaces within name new_name = (if replaces then new_name ∷ [] else []) ++ (if within then name ∷ [] else [])

-- how many blocks the directory takes for the new name, once these are gone
pub record NeedsAfter (names : List (List ℕ)) (h : Holding) (new_name : List ℕ) (need : ℕ) : Type 0 where
  pub without : Holding
  pub lost : LosesAll names h without
  pub is : need ≡ name_need without new_name

-- so many, neither more nor fewer, however these go
pub record NeedsJust (names : List (List ℕ)) (h : Holding) (new_name : List ℕ) (need : ℕ) : Type 0 where
  pub needs : NeedsAfter names h new_name need
  pub each : (without : Holding) → LosesAll names h without → need ≡ name_need without new_name

-- ---- the blocks to which something is done

-- a block of a directory to which something is done as its first record of a name goes, or leads elsewhere then: its dinode's, or that which has the record
pub data IsAtRecord (h : Holding) (name : List ℕ) (b : ℕ) : Type 0 where
  its_dinode : b ≡ h.own → IsAtRecord h name b
  its_record : HasRecordOf h name b → IsAtRecord h name b

-- so as one of several names goes, once those before it have gone
pub record IsLostAt (names : List (List ℕ)) (h : Holding) (b : ℕ) : Type 0 where
  pub before : List (List ℕ)
  pub name : List ℕ
  pub later : List (List ℕ)
  pub parts : names ≡ before ++ name ∷ later
  pub without : Holding
  pub lost : LosesAll before h without
  pub at : IsAtRecord without name b

-- the draft puts the dinode in this block, under its own lock, with this time as that of the last change of its content and of its own
pub record IsStamped (fates : FinMap nat_cmp Fate) (a time : ℕ) : Type 0 where
  pub bytes : List ℕ
  pub put : get fates a ≡ Some (Put (inode_lock a) false bytes)
  pub times : HasTimes (dinode_of bytes) time

-- ---- as a view shows it

-- It is told what a directory is after these names went from it: of a sound one; of a linear one whatever else is wrong in it, where its content is the rest of its
-- dinode's block; and of each where no name went.
pub data CanTell (names : List (List ℕ)) (h : Holding) : Type 0 where
  none_went : names ≡ [] → CanTell names h
  of_sound : IsSound h → CanTell names h
  of_linear : is_hashed_in h ≡ false → height_in h ≡ 0 → CanTell names h

-- as the view shows the directory, this holds of it once these names are gone
abbrev pub IsAfter : Seen → ℕ → List (List ℕ) → (Holding → Type 0) → Type 0
IsAfter v dir names P = (h : Holding) → IsShown v dir h → CanTell names h → (k : Holding) × LosesAll names h k × P k

-- ---- what each directory becomes

-- the directory from which the name moves to another one: it loses the name, and gets the time
pub record GivesName (h g : Holding) (name : List ℕ) (time : ℕ) : Type 0 where
  pub without : Holding
  pub lost : LosesName h without name
  pub touched : IsTouched without g time

-- The directory to which the name moves: it loses these, gets the new name and takes these blocks for it, exactly as many as it needs then, and gets the time.
pub record GetsName (names : List (List ℕ)) (h g : Holding) (new_name : List ℕ) (e : Entry) (taken : List ℕ) (time : ℕ) : Type 0 where
  pub without : Holding
  pub lost : LosesAll names h without
  pub named : Holding
  pub gets : IsNamed new_name e without named taken
  pub few : length taken ≡ name_need without new_name
  pub touched : IsTouched named g time

-- A directory that moves to another parent: its `..` leads there, and it gets the time. In the block with the record of `..` both numbers of this change, and
-- no other byte; each other block is as it was, and so are its other records, in whatever order.
pub record GetsParent (h g : Holding) (parent : Inum) (time : ℕ) : Type 0 where
  pub old : Record
  pub was : record_named (records_of h) (codes "..") ≡ Some old
  pub led : Holding
  pub kept : HasItsBlocks h led
  pub block : ℕ
  pub of_name : HasRecordOf h (codes "..") block
  pub in_place : IsNameLed (records_from h) (bytes_at h block) (bytes_at led block) (codes "..") parent
  pub others : (b : ℕ) → b ≢ block → led.cell b ≡ h.cell b
  pub exchanged : HasExchanged h led (old ∷ []) (record_led_to parent old ∷ [])
  pub touched : IsTouched led g time
