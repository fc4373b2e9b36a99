-- What is looked for among the system's files.
use Rattle.std.specs.Prelude.{ℕ, ◌≡◌, ◌<◌, true, List}
use Rattle.gfs2_layout.specs.Structures.{is_directory}
use Rattle.image_reader.specs.Found.{IsEntryAt}
use Rattle.image_reader.specs.declared.directory.Found.{Found}
use Rattle.image_reader.specs.declared.inode.Inode.{Inode}

-- the inode is that of an entry with this name, of the directory in block `parent`
pub record IsNamedAmong (found : List Found) (parent : ℕ) (name : List ℕ) (inode : Inode) : Type 0 where
  pub index : ℕ
  pub entry : Found
  pub there : IsEntryAt found index entry
  pub above : entry.parent ≡ parent
  pub named : entry.name ≡ name
  pub is : inode ≡ entry.inode

-- the first so many have no entry with this name of the directory in block `parent`
abbrev pub HasNoneNamed : List Found → ℕ → ℕ → List ℕ → Type 0
HasNoneNamed found n parent name = (i : ℕ) (f : Found) → i < n → IsEntryAt found i f → f.parent ≡ parent → f.name ≡ name → ⊥

-- the first so many have no directory with this name in the directory in block `parent`
abbrev pub HasNoDirectoryNamed : List Found → ℕ → ℕ → List ℕ → Type 0
HasNoDirectoryNamed found n parent name = (i : ℕ) (f : Found) → i < n → IsEntryAt found i f → f.parent ≡ parent → f.name ≡ name → is_directory f.inode.dinode ≡ true → ⊥
