-- What was found below a top directory, as inodes by their places, and the trees that are put together from them.
use Rattle.std.specs.Prelude.{ℕ, suc, ◌≡◌, ◌≢◌, ◌+◌, ◌<◌, ◌==◌, ◌&&◌, if◌then◌else◌, List, [], ◌∷◌, length, slice_index_or, Option, None, Some}
use Rattle.std.specs.Str.{bytes_eq}
use Rattle.file_tree.specs.Apply.{entries_of}
use Rattle.file_tree.specs.Tree.{Tree, file, dir, none, look, set, IsDir}
use Rattle.gfs2_layout.specs.Holding.{Holding}
use Rattle.gfs2_layout.specs.Inode.{is_directory_in, content_of}
use Rattle.image_model.specs.Flat.{Thing, AFile, Flat}
use Rattle.image_reader.specs.Found.{inode_at}
use Rattle.image_model.specs.Nodes.{thing_of}
use Rattle.image_reader.specs.Reading.{held}
use Rattle.image_reader.specs.declared.directory.Found.{Found}
use Rattle.image_reader.specs.declared.inode.Inode.{Inode}

-- the place to which a name leads from the directory at place p, among entries of which the first has this place
abbrev pub place_among : List Found → ℕ → ℕ → List ℕ → Option ℕ
place_among [] first p name = None
place_among (f ∷ fs) first p name = if f.up == p && bytes_eq f.name name then Some first else place_among fs (suc first) p name

abbrev pub thing_found : Option Inode → Thing
thing_found None = AFile []
thing_found (Some inode) = thing_of (held inode)

-- the inodes by their places
abbrev pub flat_found : Inode → List Found → Flat
flat_found top found p = record { thing = thing_found (inode_at top found p); child = λ name. place_among found 1 p name }

-- ---- trees by their places

-- a file, or a directory without its names
abbrev pub bare_of : Holding → Tree
bare_of h = if is_directory_in h then dir none else file (content_of h)

abbrev pub tree_in : List Tree → ℕ → Tree
tree_in trees p = slice_index_or trees p (dir none)

pub record AreBare (top : Inode) (found : List Found) (trees : List Tree) : Type 0 where
  pub count : length trees ≡ 1 + length found
  pub each : (p : ℕ) (inode : Inode) → inode_at top found p ≡ Some inode → tree_in trees p ≡ bare_of (held inode)

-- the directory at this place is before the last tree, and has no such name
pub record Lacks (trees : List Tree) (up : ℕ) (name : List ℕ) : Type 0 where
  pub before : suc up < length trees
  pub directory : IsDir (tree_in trees up)
  pub absent : look (entries_of (tree_in trees up)) name ≡ None

-- the last tree was moved under this name into the directory at this place
pub record IsMovedUp (old new : List Tree) (up : ℕ) (name : List ℕ) : Type 0 where
  pub count : length old ≡ length new + 1
  pub there : tree_in new up ≡ dir (set (entries_of (tree_in old up)) name (tree_in old (length new)))
  pub others : (p : ℕ) → p < length new → p ≢ up → tree_in new p ≡ tree_in old p
