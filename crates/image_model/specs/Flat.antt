-- A volume without its blocks: what each inode says, by its number.
use Rattle.std.specs.Prelude.{ℕ, ◌≡◌, List, [], ◌∷◌, Option, None, Some, option_and_then}
use Rattle.file_tree.specs.Tree.{Tree, file, dir, look, IsTree}

-- a path is a list of names
abbrev pub Path : Type 0
Path = List (List ℕ)

-- what stands at a path
pub data Thing : Type 0 where
  AFile : List ℕ → Thing
  ADir : Thing

-- ---- in a tree

abbrev pub thing_in : Tree → Thing
thing_in (file bytes) = AFile bytes
thing_in (dir es) = ADir

abbrev pub child_in : Tree → List ℕ → Option Tree
child_in (file bytes) name = None
child_in (dir es) name = look es name

-- the tree at a path
abbrev pub tree_at : Tree → Path → Option Tree
tree_at t [] = Some t
tree_at t (n ∷ ns) = option_and_then (λ u. tree_at u ns) (child_in t n)

abbrev pub thing_at : Tree → Path → Option Thing
thing_at t path = option_and_then (λ u. Some (thing_in u)) (tree_at t path)

-- ---- in the inodes

-- an inode: what it is, and where a name leads (nowhere in a file)
pub record Node : Type 0 where
  pub thing : Thing
  pub child : List ℕ → Option ℕ

abbrev pub Flat : Type 0
Flat = ℕ → Node

-- where no inode is
abbrev pub no_node : Node
no_node = record { thing = AFile []; child = λ name. None }

-- the inode at a path, from this one on
abbrev pub follow : Flat → ℕ → Path → Option ℕ
follow f a [] = Some a
follow f a (n ∷ ns) = option_and_then (λ b. follow f b ns) ((f a).child n)

abbrev pub thing_from : Flat → ℕ → Path → Option Thing
thing_from f a path = option_and_then (λ b. Some (f b).thing) (follow f a path)

-- the inodes from this one on read as the tree: at every path there stands the same
pub record ReadsAs (f : Flat) (top : ℕ) (t : Tree) : Type 0 where
  pub tree : IsTree t
  pub same : (path : Path) → thing_from f top path ≡ thing_at t path
