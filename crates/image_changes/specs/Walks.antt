-- What a walk along a path finds, by the inodes: where the path of a call leads, or how it is refused; and the names of a directory.
use Rattle.std.specs.Prelude.{ℕ, ◌≡◌, ◌+◌, true, false, List, [], ◌∷◌, ◌++◌, None, Some}
use Rattle.std.specs.List.Sorted.{IsPermutation}
use Rattle.file_tree.specs.Tree.{Tree, Entries, dir, names_in, all_put, count_in}
use Rattle.file_tree.specs.Names.{parent_of, last_of}
use Rattle.file_tree.specs.Apply.{Found, Refused, walk}
use Rattle.file_tree.specs.declared.reply.Reply.TheVariants.{NotFound, NotDir}
use Rattle.gfs2_layout.specs.Records.{names_of}
use Rattle.image_model.specs.Flat.{Path, tree_at, ReadsAs}
use Rattle.image_model.specs.Image.{Image}
use Rattle.image_model.specs.Owners.{Owners}
use Rattle.image_model.specs.Stands.{Layout, flat_of}
use Rattle.image_changes.specs.Flats.{in_directory}
use Rattle.image_changes.specs.Instances.{StandsBy, IsAt, dinode_at, records_at, is_directory_at}

-- a walk to an inode's path finds the tree that the inode reads as
pub record FindsIt (im : Image) (o : Owners) (t : Tree) (path : Path) (a : ℕ) : Type 0 where
  pub tree : Tree
  pub walks : walk t path ≡ Found tree
  pub there : tree_at t path ≡ Some tree
  pub reads : ReadsAs (flat_of im o) a tree

abbrev pub WalksFind : Type 0
WalksFind = (im : Image) (o : Owners) (l : Layout) (t : Tree) (path : Path) (a : ℕ) → StandsBy im o l t → IsAt im o l path a → FindsIt im o t path a

-- where the next name leads nowhere, a walk that goes on is refused: as not found in a directory, and as no directory in a file
abbrev pub WalksEnd : Type 0
WalksEnd = (im : Image) (o : Owners) (l : Layout) (t : Tree) (path : Path) (a : ℕ) (name : List ℕ) (rest : Path) → StandsBy im o l t → IsAt im o l path a
    → (flat_of im o a).child name ≡ None
    → (is_directory_at im o a ≡ true → walk t (path ++ (name ∷ rest)) ≡ Refused NotFound)
    × (is_directory_at im o a ≡ false → walk t (path ++ (name ∷ rest)) ≡ Refused NotDir)

-- a path of names ends with its last in the directory at its parent
abbrev pub PathsEnd : Type 0
PathsEnd = (name : List ℕ) (rest : Path) → name ∷ rest ≡ in_directory (parent_of (name ∷ rest)) (last_of (name ∷ rest))

-- A walk to a directory's path finds a directory of the tree. Its names are those of the records, put in their places in whatever order
-- they come, and the dinode counts `.` and `..` too.
pub record ListsNames (im : Image) (o : Owners) (t : Tree) (path : Path) (a : ℕ) : Type 0 where
  pub entries : Entries
  pub walks : walk t path ≡ Found (dir entries)
  pub names : (names : List (List ℕ)) → IsPermutation names (names_of (records_at im o a)) → all_put [] names ≡ names_in entries
  pub counted : count_in entries + 2 ≡ (dinode_at im o a).entries

abbrev pub DirectoriesListNames : Type 0
DirectoriesListNames = (im : Image) (o : Owners) (l : Layout) (t : Tree) (path : Path) (a : ℕ) → StandsBy im o l t → IsAt im o l path a → is_directory_at im o a ≡ true
    → ListsNames im o t path a
