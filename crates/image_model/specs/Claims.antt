-- Who claims a block: whatever is reached from the superblock and names it, in any image, right or wrong, and without a table of owners.
use Rattle.std.specs.Prelude.{ℕ, ◌≡◌, ◌≢◌, ◌+◌, ◌<◌, true, false, List, codes, Contains, Some}
use Rattle.gfs2_layout.specs.declared.rindex.Rindex.{Rindex}
use Rattle.image_model.specs.Groups.{groups_in, IsListed}
use Rattle.image_model.specs.Image.{Image, superblock_in}
use Rattle.gfs2_layout.specs.Device.{superblock_place}
use Rattle.image_model.specs.Journals.{journal_name}
use Rattle.image_model.specs.Owners.{Owner, Root, Master, Named, Below, Chained, is_dinode}
use Rattle.gfs2_layout.specs.Inode.{Leads, entry_block, is_directory_in, is_hashed_in, content_of, linear_area, leaf_area, leaf_in, table_count, entry, first_hash}
use Rattle.gfs2_layout.specs.Holding.{Holding, Itself}
use Rattle.gfs2_layout.specs.Records.{Record, records_in, is_dots}

-- the inode in block a, as if it had every block of the image: what is read from it so is what a program reads
abbrev pub every : Image → ℕ → Holding
every im a = record { size = im.size; count = im.count; own = a; cell = λ b. Some (record { part = Itself; bytes = im.at b }) }

-- `Claims im b c o`: block b has the number of block c, and by that c is o's
pub data Claims (im : Image) : ℕ → ℕ → Owner → Type 0 where
  root : Claims im (superblock_place im.size) (superblock_in im).root.address Root
  master : Claims im (superblock_place im.size) (superblock_in im).master.address Master
  below : (by a : ℕ) (o : Owner) (b k level first c : ℕ) → Claims im by a o → is_dinode o ≡ true → Leads (every im a) b k level first c
      → Claims im b c (Below a b k level first)
  first_leaf : (by a : ℕ) (o : Owner) (i : ℕ) → Claims im by a o → is_dinode o ≡ true → is_hashed_in (every im a) ≡ true → i < table_count (every im a) → entry (every im a) i ≢ 0
      → Claims im (entry_block (every im a) i) (entry (every im a) i) (Chained a (first_hash (every im a) i) 0)
  next_leaf : (by x a hash place : ℕ) → Claims im by x (Chained a hash place) → (leaf_in (every im a) x).next ≢ 0
      → Claims im x (leaf_in (every im a) x).next (Chained a hash (place + 1))
  in_dinode : (by a : ℕ) (o : Owner) (r : Record) → Claims im by a o → is_dinode o ≡ true → is_directory_in (every im a) ≡ true → is_hashed_in (every im a) ≡ false
      → Contains (records_in (linear_area (every im a))) r → is_dots r.name ≡ false → Claims im a r.address (Named a r.name)
  in_leaf : (by x a hash place : ℕ) (r : Record) → Claims im by x (Chained a hash place)
      → Contains (records_in (leaf_area (every im a) x)) r → is_dots r.name ≡ false → Claims im x r.address (Named a r.name)

-- there is an inode with its dinode in block a, and this is what names it
pub record IsInodeAt (im : Image) (a : ℕ) (o : Owner) : Type 0 where
  pub by : ℕ
  pub claimed : Claims im by a o
  pub dinode : is_dinode o ≡ true

abbrev pub HasInode : Image → ℕ → Type 0
HasInode im a = (o : Owner) × IsInodeAt im a o

pub record HasDirectory (im : Image) (a : ℕ) : Type 0 where
  pub inode : HasInode im a
  pub dir : is_directory_in (every im a) ≡ true

-- block x is a leaf of the directory in block a
abbrev pub HasLeaf : Image → ℕ → ℕ → Type 0
HasLeaf im a x = (by hash place : ℕ) × Claims im by x (Chained a hash place)

-- leaf y of the directory in block a is so many behind leaf x, each by the number of a next leaf that the one before has
pub data IsLeafBehind (im : Image) (a x : ℕ) : ℕ → ℕ → Type 0 where
  same_leaf : IsLeafBehind im a x 0 x
  next_behind : (n y : ℕ) → IsLeafBehind im a x n y → (leaf_in (every im a) y).next ≢ 0 → IsLeafBehind im a x (n + 1) (leaf_in (every im a) y).next

-- an area of records of the directory in block a: behind its dinode, or in a leaf, each with the block that it stands in
pub data HasArea (im : Image) (a : ℕ) : ℕ → List ℕ → Type 0 where
  behind_dinode : HasDirectory im a → is_hashed_in (every im a) ≡ false → HasArea im a a (linear_area (every im a))
  of_leaf : (x : ℕ) → HasLeaf im a x → HasArea im a x (leaf_area (every im a) x)

-- ---- the system files

abbrev pub master_of : Image → ℕ
master_of im = (superblock_in im).master.address

-- this name leads from the directory in block a to the inode in block b
abbrev pub LeadsTo : Image → ℕ → List ℕ → ℕ → Type 0
LeadsTo im a name b = (by : ℕ) × Claims im by b (Named a name)

abbrev pub IsRindex : Image → ℕ → Type 0
IsRindex im d = LeadsTo im (master_of im) (codes "rindex") d

abbrev pub IsJindex : Image → ℕ → Type 0
IsJindex im d = LeadsTo im (master_of im) (codes "jindex") d

-- g is in the list of groups
abbrev pub HasGroup : Image → Rindex → Type 0
HasGroup im g = (d : ℕ) × IsRindex im d × IsListed (groups_in (content_of (every im d))) g

abbrev pub HasJournal : Image → ℕ → ℕ → Type 0
HasJournal im j d = (jindex : ℕ) × IsJindex im jindex × LeadsTo im jindex (journal_name j) d

-- the inode in block a is that of a directory's tree: the directory, or one to which names lead from it
pub data IsUnder (im : Image) (top : ℕ) : ℕ → Type 0 where
  itself : IsUnder im top top
  by_name : (a b : ℕ) (name : List ℕ) → IsUnder im top a → LeadsTo im a name b → IsUnder im top b
