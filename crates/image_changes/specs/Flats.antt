-- What becomes of a tree where one name leads elsewhere or one inode says something else: on inodes by their numbers, without blocks.
use Rattle.std.specs.Prelude.{ℕ, ◌≡◌, ◌≢◌, ◌⊎◌, List, [], ◌∷◌, ◌++◌, Option, None, Some, false}
use Rattle.file_tree.specs.Tree.{Tree, file}
use Rattle.file_tree.specs.Names.{IsName, leads_to}
use Rattle.file_tree.specs.Apply.{put_at, remove_at}
use Rattle.image_model.specs.Flat.{Path, AFile, ADir, Flat, follow, ReadsAs}
use Rattle.image_model.specs.Owners.{Up}

-- each inode to which a name leads is named there and nowhere else, and none leads to the top
pub record IsNamed (f : Flat) (up : ℕ → Option Up) (top : ℕ) : Type 0 where
  pub once : (a b : ℕ) (name : List ℕ) → (f a).child name ≡ Some b → up b ≡ Some (record { parent = a; name = name })
  pub unnamed : up top ≡ None

-- the inodes but one are as before
abbrev pub SameBut : ℕ → Flat → Flat → Type 0
SameBut a f f' = (x : ℕ) → x ≢ a → f' x ≡ f x

-- one name of one directory leads elsewhere; all else is as before
pub record LeadsElsewhere (f f' : Flat) (a : ℕ) (name : List ℕ) : Type 0 where
  pub things : (x : ℕ) → (f' x).thing ≡ (f x).thing
  pub others : (x : ℕ) (m : List ℕ) → (x ≢ a) ⊎ (m ≢ name) → (f' x).child m ≡ (f x).child m

-- what is below the directory at this path by this name
abbrev pub in_directory : Path → List ℕ → Path
in_directory path name = path ++ (name ∷ [])

-- each inode is as before, or no path leads to it: each path leads where it led, and the tree is the same
abbrev pub Unreached : Type 0
Unreached = (f f' : Flat) (top : ℕ) → ((a : ℕ) → (f' a ≡ f a) ⊎ ((path : Path) → follow f top path ≢ Some a))
    → ((path : Path) → follow f' top path ≡ follow f top path) × ((t : Tree) → ReadsAs f top t → ReadsAs f' top t)

-- a file gets other bytes: each path leads where it led, and the tree has the bytes at the file's
abbrev pub FileRewritten : Type 0
FileRewritten = (f f' : Flat) (up : ℕ → Option Up) (top a : ℕ) (path : Path) (bytes : List ℕ) → IsNamed f up top → follow f top path ≡ Some a → SameBut a f f'
    → (f' a).child ≡ (f a).child → (old : List ℕ) → (f a).thing ≡ AFile old → (f' a).thing ≡ AFile bytes
    → ((x : ℕ) (q : Path) → follow f' x q ≡ follow f x q) × ((t : Tree) → ReadsAs f top t → ReadsAs f' top (put_at path (file bytes) t))

-- a name is gone: each other path leads where it led, and the tree lacks what was there
abbrev pub NameGone : Type 0
NameGone = (f f' : Flat) (up : ℕ → Option Up) (top a : ℕ) (path : Path) (name : List ℕ) → IsNamed f up top → follow f top path ≡ Some a → LeadsElsewhere f f' a name
    → (f a).thing ≡ ADir → (f' a).child name ≡ None
    → ((q : Path) → leads_to (in_directory path name) q ≡ false → follow f' top q ≡ follow f top q)
    × ((t : Tree) → ReadsAs f top t → ReadsAs f' top (remove_at (in_directory path name) t))

-- A name leads to an inode that doesn't lead to its directory: each other path leads where it led, and the tree has at the name
-- what the inode reads as.
abbrev pub NameLeads : Type 0
NameLeads = (f f' : Flat) (up : ℕ → Option Up) (top a : ℕ) (path : Path) (name : List ℕ) (b : ℕ) (u : Tree) → IsNamed f up top → follow f top path ≡ Some a
    → LeadsElsewhere f f' a name → (f a).thing ≡ ADir → IsName name → (f' a).child name ≡ Some b
    → ReadsAs f b u → ((q : Path) → follow f b q ≢ Some a)
    → ((q : Path) → leads_to (in_directory path name) q ≡ false → follow f' top q ≡ follow f top q)
    × ((q : Path) → follow f' top (in_directory path name ++ q) ≡ follow f b q)
    × ((t : Tree) → ReadsAs f top t → ReadsAs f' top (put_at (in_directory path name) u t))
