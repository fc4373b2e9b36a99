-- An image stands for a tree.
use Rattle.std.specs.Prelude.{ℕ, ◌≡◌, ◌⊎◌, ◌+◌, ◌%◌, ◌<◌, ◌≤◌, true, false, if◌then◌else◌, List, length, count_by, codes, slice_get, Contains, None, Some}
use Rattle.std.specs.Str.{bytes_eq}
use Rattle.file_tree.specs.Tree.{Tree}
use Rattle.file_tree.specs.Names.{IsName}
use Rattle.file_tree.specs.Apply.{file_limit}
use Rattle.gfs2_layout.specs.Structures.{is_regular}
use Rattle.gfs2_layout.specs.declared.dinode.Dinode.{Dinode}
use Rattle.gfs2_layout.specs.declared.rindex.Rindex.{Rindex}
use Rattle.image_model.specs.Flat.{Path, AFile, ADir, Flat, no_node, follow, ReadsAs}
use Rattle.image_model.specs.Groups.{groups_in, entry_length, IsListed, IsHeaderOf, IsDataOf, GroupsFit, group_blocks, states_of, IsGroup}
use Rattle.gfs2_layout.specs.Headers.{HasHeader}
use Rattle.image_model.specs.Image.{Image, IsImage, superblock_in}
use Rattle.gfs2_layout.specs.Device.{superblock_place}
use Rattle.image_model.specs.Journals.{journal_name, IsJournal}
use Rattle.image_model.specs.Owners.{Owners, Super, InGroup, Free, Nobody, Root, Master, Named, Up, up_of, parent_of, is_dinode, IsUsed, IsWithin, holding}
use Rattle.gfs2_layout.specs.Inode.{Head, head_of, dinode_in, is_directory_in, records_of, IsInode}
use Rattle.gfs2_layout.specs.Holding.{Holding}
use Rattle.gfs2_layout.specs.Records.{Record, is_dots}
use Rattle.gfs2_layout.specs.Exchanges.{directory_count}
use Rattle.image_model.specs.Nodes.{node_of}

-- what a mount finds: the two top directories, the two system files in the master directory, the groups, the dinodes of the
-- journals in order, from `journal0` on
pub record Layout : Type 0 where
  pub root : ℕ
  pub master : ℕ
  pub rindex : ℕ
  pub jindex : ℕ
  pub groups : List Rindex
  pub journals : List ℕ

abbrev pub IsJournalAt : Layout → ℕ → ℕ → Type 0
IsJournalAt l j d = slice_get l.journals j ≡ Some d

-- the superblock is on the device, and says where the two top directories are
pub record IsSuper (im : Image) (l : Layout) : Type 0 where
  pub inside : superblock_place im.size < im.count
  pub header : HasHeader 1 100 (im.at (superblock_place im.size))
  pub root : (superblock_in im).root.address ≡ l.root
  pub master : (superblock_in im).master.address ≡ l.master

-- ---- where the owners' blocks lie

-- each block's owner is one that can be where the block lies
pub record IsZoned (im : Image) (l : Layout) (owners : Owners) : Type 0 where
  pub low : (b : ℕ) → b ≤ superblock_place im.size → owners b ≡ Super
  pub headers : (g : Rindex) → IsListed l.groups g → (b : ℕ) → IsHeaderOf g b → owners b ≡ InGroup g.address
  pub data_blocks : (g : Rindex) → IsListed l.groups g → (b : ℕ) → IsDataOf g b → (owners b ≡ Free g.address) ⊎ IsUsed (owners b)
  pub placed : (b : ℕ) → IsUsed (owners b) → (g : Rindex) × IsListed l.groups g × IsDataOf g b
  pub between : (b : ℕ) → superblock_place im.size < b → ((g : Rindex) → IsListed l.groups g → ¬ (IsHeaderOf g b) × ¬ (IsDataOf g b)) → owners b ≡ Nobody

-- ---- what the inodes say, each from its own blocks

abbrev pub flat_of : Image → Owners → Flat
flat_of im owners a = if is_dinode (owners a) then node_of (holding im owners a) else no_node

abbrev pub heads_of : Image → Owners → ℕ → Head
heads_of im owners a = head_of (holding im owners a)

-- ---- directories

-- the kind that a record has of an inode
abbrev pub kind_of : Head → ℕ
kind_of h = if h.is_dir then 4 else 8

-- the record is that of the inode in this block
pub record IsRecordOf (heads : ℕ → Head) (b : ℕ) (r : Record) : Type 0 where
  pub address : r.address ≡ b
  pub number : r.number ≡ (heads b).number
  pub kind : r.kind ≡ kind_of (heads b)

-- there is a record of this name, and it is that of the inode in this block
pub record HasRecord (heads : ℕ → Head) (records : List Record) (name : List ℕ) (b : ℕ) : Type 0 where
  pub entry : Record
  pub there : Contains records entry
  pub named : entry.name ≡ name
  pub true_of : IsRecordOf heads b entry

-- how many records have this name
abbrev pub name_count : List Record → List ℕ → ℕ
name_count records name = count_by (λ r. bytes_eq name r.name) records

-- a record in a directory that leads down
pub record LeadsDown (heads : ℕ → Head) (owners : Owners) (a : ℕ) (r : Record) : Type 0 where
  pub name : IsName r.name
  pub owner : owners r.address ≡ Named a r.name
  pub true_of : IsRecordOf heads r.address r

-- The records of the directory in block a, in any order, against the inodes that they name.
pub record IsDirectory (heads : ℕ → Head) (owners : Owners) (a : ℕ) (records : List Record) (d : Dinode) : Type 0 where
  pub dot : HasRecord heads records (codes ".") a
  pub dots : HasRecord heads records (codes "..") (parent_of a (owners a))
  pub once : (name : List ℕ) → name_count records name ≤ 1
  pub down : (r : Record) → Contains records r → is_dots r.name ≡ false → LeadsDown heads owners a r
  pub entries : d.entries ≡ length records
  pub links : d.nlink ≡ 2 + directory_count records

-- ---- the system files

-- the list of groups in a file's bytes: whole entries
pub record IsGroupList (groups : List Rindex) (bytes : List ℕ) : Type 0 where
  pub whole : length bytes % entry_length ≡ 0
  pub listed : groups_in bytes ≡ groups

-- The master directory leads to `rindex`, the list of groups, and to `jindex`, a directory in which each name of a journal
-- leads to one. Those from `journal0` on, as far as there is no gap, are the layout's. What other names there are is a matter
-- of the profile.
pub record IsSystem (f : Flat) (holds : ℕ → Holding) (l : Layout) : Type 0 where
  pub rindex : (f l.master).child (codes "rindex") ≡ Some l.rindex
  pub groups : (bytes : List ℕ) × ((f l.rindex).thing ≡ AFile bytes) × IsGroupList l.groups bytes
  pub jindex : (f l.master).child (codes "jindex") ≡ Some l.jindex
  pub directory : (f l.jindex).thing ≡ ADir
  pub journals : (j d : ℕ) → IsJournalAt l j d → (f l.jindex).child (journal_name j) ≡ Some d
  pub last : (f l.jindex).child (journal_name (length l.journals)) ≡ None
  pub rings : (j d : ℕ) → (f l.jindex).child (journal_name j) ≡ Some d → IsJournal (holds d)

-- an inode is found from the root, or from the master directory
abbrev pub IsFound : Flat → Layout → ℕ → Type 0
IsFound f l a = ((path : Path) × (follow f l.root path ≡ Some a)) ⊎ ((path : Path) × (follow f l.master path ≡ Some a))

-- a file in the root's tree is no longer than a file may be
abbrev pub AreShort : Flat → (ℕ → Holding) → Layout → Type 0
AreShort f holds l = (path : Path) (a : ℕ) → follow f l.root path ≡ Some a → is_regular (dinode_in (holds a)) ≡ true → (dinode_in (holds a)).size ≤ file_limit

-- ---- the whole image

-- Every block has its owner in this table, and nothing is broken.
pub record IsLaid (im : Image) (owners : Owners) (l : Layout) : Type 0 where
  pub image : IsImage im
  pub super : IsSuper im l
  pub fit : GroupsFit im l.groups
  pub zoned : IsZoned im l owners
  pub groups : (g : Rindex) → IsListed l.groups g → IsGroup g (group_blocks im.at g) (states_of owners g)
  pub root : (owners l.root ≡ Root) × (is_directory_in (holding im owners l.root) ≡ true)
  pub master : owners l.master ≡ Master
  pub inodes : (a : ℕ) → is_dinode (owners a) ≡ true → IsInode (holding im owners a)
  pub directories : (a : ℕ) → is_dinode (owners a) ≡ true → is_directory_in (holding im owners a) ≡ true
      → IsDirectory (heads_of im owners) owners a (records_of (holding im owners a)) (dinode_in (holding im owners a))
  pub within : (b a : ℕ) → IsWithin a (owners b) → is_dinode (owners a) ≡ true
  pub names : (a : ℕ) (u : Up) → up_of (owners a) ≡ Some u → (flat_of im owners u.parent).child u.name ≡ Some a
  pub found : (a : ℕ) → is_dinode (owners a) ≡ true → IsFound (flat_of im owners) l a
  pub system : IsSystem (flat_of im owners) (holding im owners) l
  pub short : AreShort (flat_of im owners) (holding im owners) l

-- the image stands for the tree: under some table of owners, reading from the root gives it
pub record Stands (im : Image) (t : Tree) : Type 0 where
  pub owners : Owners
  pub layout : Layout
  pub laid : IsLaid im owners layout
  pub reads : ReadsAs (flat_of im owners) layout.root t
