-- Four changes of an image that stands: a file's content changes; a name is added, removed, or moved.
use Rattle.std.specs.Prelude.{ℕ, ◌≡◌, ◌≢◌, ◌≤◌, ◌==◌, ◌||◌, Bool, true, false, List, [], ◌∷◌, codes, None, Some}
use Rattle.file_tree.specs.Tree.{Tree, file, dir, none}
use Rattle.file_tree.specs.Names.{IsName, leads_to}
use Rattle.file_tree.specs.Apply.{file_limit, put_at, remove_at}
use Rattle.gfs2_layout.specs.declared.dinode.Dinode.{Dinode}
use Rattle.gfs2_layout.specs.Exchanges.{IsExchanged, IsCounted}
use Rattle.gfs2_layout.specs.Inode.{dinode_in, is_directory_in, content_of, records_of}
use Rattle.gfs2_layout.specs.Records.{Record, child_named}
use Rattle.image_model.specs.Flat.{Path, follow, tree_at, ReadsAs}
use Rattle.image_model.specs.Image.{Image}
use Rattle.image_model.specs.Owners.{Owners, Free, Named, is_dinode, holding}
use Rattle.image_model.specs.Stands.{Layout, IsLaid, IsRecordOf, flat_of, heads_of}
use Rattle.image_changes.specs.Changes.{IsChange, SystemStays}
use Rattle.image_changes.specs.Directories.{IsBare}
use Rattle.image_changes.specs.Flats.{in_directory}

-- by this table the image is laid out right, and its root reads as the tree
pub record StandsBy (im : Image) (o : Owners) (l : Layout) (t : Tree) : Type 0 where
  pub laid : IsLaid im o l
  pub reads : ReadsAs (flat_of im o) l.root t

-- the inode at a path from the root
abbrev pub IsAt : Image → Owners → Layout → Path → ℕ → Type 0
IsAt im o l path a = follow (flat_of im o) l.root path ≡ Some a

-- one of these numbers
abbrev pub among : List ℕ → ℕ → Bool
among [] x = false
among (y ∷ ys) x = (x == y) || among ys x

abbrev pub dinode_at : Image → Owners → ℕ → Dinode
dinode_at im o a = dinode_in (holding im o a)

abbrev pub records_at : Image → Owners → ℕ → List Record
records_at im o a = records_of (holding im o a)

abbrev pub is_directory_at : Image → Owners → ℕ → Bool
is_directory_at im o a = is_directory_in (holding im o a)

-- ---- a file's content changes, and with it perhaps the blocks that it has

pub record IsFileChanged (im im' : Image) (o o' : Owners) (l : Layout) (written : ℕ → Bool) (a : ℕ) : Type 0 where
  pub change : IsChange im im' o o' l (among (a ∷ [])) written
  pub row : o' a ≡ o a
  pub file : is_directory_at im o a ≡ false
  pub short : (dinode_at im' o' a).size ≤ file_limit

abbrev pub FileChanges : Type 0
FileChanges = (im im' : Image) (o o' : Owners) (l : Layout) (written : ℕ → Bool) (a : ℕ) (path : Path) (t : Tree) → StandsBy im o l t → IsAt im o l path a
    → IsFileChanged im im' o o' l written a → StandsBy im' o' l (put_at path (file (content_of (holding im' o' a))) t) × SystemStays im im' o o' l

-- ---- a name is added: that of a file without content or of a directory without a name, whose dinode is a block that was free

pub data IsNew (im : Image) (o : Owners) (parent a : ℕ) : Tree → Type 0 where
  empty_file : is_directory_at im o a ≡ false → (dinode_at im o a).size ≡ 0 → IsNew im o parent a (file [])
  empty_directory : is_directory_at im o a ≡ true → IsBare (heads_of im o) a parent (records_at im o a) (dinode_at im o a) → IsNew im o parent a (dir none)

pub record IsNameAdded (im im' : Image) (o o' : Owners) (l : Layout) (written : ℕ → Bool) (parent : ℕ) (name : List ℕ) (a : ℕ) (u : Tree) : Type 0 where
  pub change : IsChange im im' o o' l (among (parent ∷ (a ∷ []))) written
  pub was_free : (g : ℕ) × (o a ≡ Free g)
  pub parent_row : o' parent ≡ o parent
  pub row : o' a ≡ Named parent name
  pub is_name : IsName name
  pub directory : is_directory_at im o parent ≡ true
  pub absent : child_named (records_at im o parent) name ≡ None
  pub entry : Record
  pub named : entry.name ≡ name
  pub true_of : IsRecordOf (heads_of im' o') a entry
  pub exchanged : IsExchanged (records_at im o parent) (records_at im' o' parent) [] (entry ∷ [])
  pub counted : IsCounted (dinode_at im o parent) (dinode_at im' o' parent) [] (entry ∷ [])
  pub new : IsNew im' o' parent a u

abbrev pub NameIsAdded : Type 0
NameIsAdded = (im im' : Image) (o o' : Owners) (l : Layout) (written : ℕ → Bool) (parent : ℕ) (name : List ℕ) (a : ℕ) (u : Tree) (path : Path) (t : Tree) → StandsBy im o l t
    → IsAt im o l path parent → IsNameAdded im im' o o' l written parent name a u → StandsBy im' o' l (put_at (in_directory path name) u t) × SystemStays im im' o o' l

-- ---- a name is removed: that of a file or of a directory that has `.` and `..` alone, which is no inode any more

-- where the inode is a directory, it names nothing
abbrev pub IsChildless : Image → Owners → ℕ → Type 0
IsChildless im o a = is_directory_at im o a ≡ true → (dinode_at im o a).entries ≡ 2

pub record IsNameRemoved (im im' : Image) (o o' : Owners) (l : Layout) (written : ℕ → Bool) (parent : ℕ) (name : List ℕ) (a : ℕ) : Type 0 where
  pub change : IsChange im im' o o' l (among (parent ∷ (a ∷ []))) written
  pub parent_row : o' parent ≡ o parent
  pub row : o a ≡ Named parent name
  pub gone : is_dinode (o' a) ≡ false
  pub childless : IsChildless im o a
  pub entry : Record
  pub named : entry.name ≡ name
  pub exchanged : IsExchanged (records_at im o parent) (records_at im' o' parent) (entry ∷ []) []
  pub counted : IsCounted (dinode_at im o parent) (dinode_at im' o' parent) (entry ∷ []) []

abbrev pub NameIsRemoved : Type 0
NameIsRemoved = (im im' : Image) (o o' : Owners) (l : Layout) (written : ℕ → Bool) (parent : ℕ) (name : List ℕ) (a : ℕ) (path : Path) (t : Tree) → StandsBy im o l t
    → IsAt im o l path parent → IsNameRemoved im im' o o' l written parent name a → StandsBy im' o' l (remove_at (in_directory path name) t) × SystemStays im im' o o' l

-- ---- a name is moved: the inode keeps what is below it, and what stood at the target is no more

-- what stood at the target: nothing, or an inode that may be removed; the inode, and its record
pub data IsTarget (im : Image) (o o' : Owners) (parent : ℕ) (name : List ℕ) : List ℕ → List Record → Type 0 where
  absent : child_named (records_at im o parent) name ≡ None → IsTarget im o o' parent name [] []
  replaced : (c : ℕ) (entry : Record) → o c ≡ Named parent name → is_dinode (o' c) ≡ false → IsChildless im o c → entry.name ≡ name
      → IsTarget im o o' parent name (c ∷ []) (entry ∷ [])

-- the records of one directory, or of the two
pub data IsRecordMoved (im im' : Image) (o o' : Owners) (from to : ℕ) (old new : Record) (target : List Record) : Type 0 where
  within : from ≡ to → IsExchanged (records_at im o from) (records_at im' o' from) (old ∷ target) (new ∷ [])
      → IsCounted (dinode_at im o from) (dinode_at im' o' from) (old ∷ target) (new ∷ []) → IsRecordMoved im im' o o' from to old new target
  between : from ≢ to → IsExchanged (records_at im o from) (records_at im' o' from) (old ∷ []) [] → IsCounted (dinode_at im o from) (dinode_at im' o' from) (old ∷ []) []
      → IsExchanged (records_at im o to) (records_at im' o' to) target (new ∷ []) → IsCounted (dinode_at im o to) (dinode_at im' o' to) target (new ∷ [])
      → IsRecordMoved im im' o o' from to old new target

-- an inode says what it said: its times and the like don't matter, nor where its blocks are
pub record SaysTheSame (im im' : Image) (o o' : Owners) (a : ℕ) : Type 0 where
  pub content : is_directory_at im o a ≡ false → content_of (holding im' o' a) ≡ content_of (holding im o a)
  pub size : is_directory_at im o a ≡ false → (dinode_at im' o' a).size ≡ (dinode_at im o a).size
  pub records : is_directory_at im o a ≡ true → IsExchanged (records_at im o a) (records_at im' o' a) [] []
  pub counted : is_directory_at im o a ≡ true → IsCounted (dinode_at im o a) (dinode_at im' o' a) [] []

-- the inode itself says what it said, or is a directory with another parent, which its `..` names
pub data IsItself (im im' : Image) (o o' : Owners) (from to a : ℕ) : Type 0 where
  as_before : (is_directory_at im o a ≡ true → from ≡ to) → SaysTheSame im im' o o' a → IsItself im im' o o' from to a
  reparented : (old new : Record) → is_directory_at im o a ≡ true → IsExchanged (records_at im o a) (records_at im' o' a) (old ∷ []) (new ∷ [])
      → IsCounted (dinode_at im o a) (dinode_at im' o' a) (old ∷ []) (new ∷ []) → old.name ≡ codes ".." → new.name ≡ codes ".."
      → IsRecordOf (heads_of im' o') to new → IsItself im im' o o' from to a

pub record IsNameMoved (im im' : Image) (o o' : Owners) (l : Layout) (written : ℕ → Bool) (from : ℕ) (name : List ℕ) (to : ℕ) (name' : List ℕ) (a : ℕ) : Type 0 where
  pub removed : List ℕ
  pub target : List Record
  pub change : IsChange im im' o o' l (among (from ∷ (to ∷ (a ∷ removed)))) written
  pub from_row : o' from ≡ o from
  pub to_row : o' to ≡ o to
  pub row : o a ≡ Named from name
  pub row' : o' a ≡ Named to name'
  pub is_name : IsName name'
  pub directory : is_directory_at im o to ≡ true
  pub stood : IsTarget im o o' to name' removed target
  pub old : Record
  pub new : Record
  pub old_named : old.name ≡ name
  pub new_named : new.name ≡ name'
  pub true_of : IsRecordOf (heads_of im' o') a new
  pub records : IsRecordMoved im im' o o' from to old new target
  pub itself : IsItself im im' o o' from to a

abbrev pub NameIsMoved : Type 0
NameIsMoved = (im im' : Image) (o o' : Owners) (l : Layout) (written : ℕ → Bool) (from : ℕ) (name : List ℕ) (to : ℕ) (name' : List ℕ) (a : ℕ) (path path' : Path) (t u : Tree)
    → StandsBy im o l t → IsAt im o l path from → IsAt im o l path' to → tree_at t (in_directory path name) ≡ Some u
    → leads_to (in_directory path name) (in_directory path' name') ≡ false
    → IsNameMoved im im' o o' l written from name to name' a
    → StandsBy im' o' l (put_at (in_directory path' name') u (remove_at (in_directory path name) t)) × SystemStays im im' o o' l
