-- What a hashed directory is after a record went.
use Rattle.std.specs.Prelude.{ℕ, ◌≡◌, ◌≢◌, ◌-◌, false, List, [], ◌∷◌, length, take, drop, None, Some, Ok}
use Rattle.std.specs.FinMap.{insert}
use Rattle.drafts.specs.Fates.{Drafted, seen_in}
use Rattle.drafts.specs.declared.fate.Fate.TheVariants.{Put}
use Rattle.gfs2_layout.specs.Area.{IsArea, IsRecordAt, first_named, slots_of}
use Rattle.gfs2_layout.specs.Cutting.{slot_from, slots_without}
use Rattle.gfs2_layout.specs.Holding.{Holding, bytes_at, part_at}
use Rattle.gfs2_layout.specs.Inode.{dinode_in, leaf_area, leaf_in, leaf_length}
use Rattle.gfs2_layout.specs.Structures.{dinode_length, dinode_read, leaf_of, leaf_read}
use Rattle.gfs2_layout.specs.Writing.{dinode_put, leaf_put}
use Rattle.gfs2_layout.specs.declared.dinode.Dinode.{Dinode}
use Rattle.glock_names.specs.Views.{Seen, HasBlock}
use Rattle.resource_groups.specs.Putting.{HasDataBlock}
use Rattle.dinode_tree.specs.Reading.{inode_lock}
use Rattle.hash_dirs.specs.declared.finding.Found.{Found}
use Rattle.gfs2_layout.specs.Exchanges.{directory_count}
use Rattle.gfs2_layout.specs.Records.{Record}
use Rattle.linear_dirs.specs.Exchanges.{uncounted}
use Rattle.linear_dirs.specs.Reading.{IsFewer}
use Rattle.hash_dirs.specs.Finding.{IsNamedLater}
use Rattle.hash_dirs.specs.Shown.{IsInChain, index_for}

-- the bytes of a leaf's block after the record at a place was cut: the head is written over the old one, and counts one record less
pub record IsLeafCut (old new : List ℕ) (at : ℕ) : Type 0 where
  pub front : take leaf_length new ≡ take leaf_length (leaf_put (record (leaf_of old) { entries = (leaf_of old).entries - 1 }) old)
  pub head : leaf_read new ≡ Ok (record (leaf_of old) { entries = (leaf_of old).entries - 1 })
  pub slots : slots_of (drop leaf_length new) ≡ slots_without at (drop leaf_length old)
  pub filled : IsArea (drop leaf_length new)

-- a dinode that counts the record that was found no more, and one link less where that leads to a directory below
pub record IsCountedLess (name : List ℕ) (f : Found) (d d' : Dinode) : Type 0 where
  pub links : ℕ
  pub fewer : IsFewer d d' links
  pub are : (r : Record) → r.name ≡ name → r.kind ≡ f.spot.entry.kind → links ≡ directory_count (r ∷ [])

-- The draft puts a leaf from which the record of a name that was found is cut, and the directory's dinode, which counts it no more.
pub record IsCutPut {V : Type 0} (seen : V → Seen) (old new : Drafted V) (dir : ℕ) (f : Found) (d : Dinode) : Type 0 where
  pub leaf : List ℕ
  pub block : List ℕ
  pub put : new ≡ record old { fates = insert (insert old.fates f.block (Put (inode_lock dir) false leaf)) dir (Put (inode_lock dir) false block) }
  pub cut : (bytes : List ℕ) → (seen_in seen old).block_at f.block ≡ Some bytes → IsLeafCut bytes leaf f.spot.at
  pub counted : (bytes : List ℕ) → (seen_in seen old).block_at dir ≡ Some bytes → f.block ≢ dir → block ≡ dinode_put d bytes
  pub read : dinode_read block ≡ Ok d
  pub behind : (bytes : List ℕ) → (seen_in seen old).block_at dir ≡ Some bytes → f.block ≢ dir → drop dinode_length block ≡ drop dinode_length bytes
  pub long : length block ≡ (seen old.view).size
  pub leaf_long : length leaf ≡ (seen old.view).size

-- Where the name's record stood in this leaf, the draft puts that leaf, a data block of a group which it sees, and the directory's dinode, and no other
-- block; the dinode is one, its header with it.
pub record ArePut {V : Type 0} (seen : V → Seen) (old new : Drafted V) (dir leaf : ℕ) : Type 0 where
  pub there : HasBlock (seen_in seen old) leaf
  pub inside : HasDataBlock (seen_in seen old) leaf
  pub new_leaf : List ℕ
  pub block : List ℕ
  pub put : new ≡ record old { fates = insert (insert old.fates leaf (Put (inode_lock dir) false new_leaf)) dir (Put (inode_lock dir) false block) }
  pub dinode : Dinode
  pub read : dinode_read block ≡ Ok dinode

-- The first record of the name is cut from its leaf, which counts one record less, by a head that is written over the old one; the dinode says, apart
-- from its counts, what it said, and what stands behind it stays; and no other block changes.
pub record IsCutFrom (h g : Holding) (name : List ℕ) : Type 0 where
  pub leaf : ℕ
  pub at_place : ℕ
  pub chain : IsInChain h (index_for h name) at_place leaf
  pub none_before : IsNamedLater h (index_for h name) name at_place
  pub place : ℕ
  pub at : IsRecordAt (leaf_area h leaf) place
  pub no_first : first_named name (slots_of (take place (leaf_area h leaf))) ≡ None
  pub first : first_named name (slots_of (leaf_area h leaf)) ≡ Some (slot_from place (leaf_area h leaf))
  pub slots : slots_of (leaf_area g leaf) ≡ slots_without place (leaf_area h leaf)
  pub head : leaf_in g leaf ≡ record (leaf_in h leaf) { entries = (leaf_in h leaf).entries - 1 }
  pub front : take leaf_length (bytes_at g leaf) ≡ take leaf_length (leaf_put (leaf_in g leaf) (bytes_at h leaf))
  pub dinode : uncounted (dinode_in g) ≡ uncounted (dinode_in h)
  pub behind : drop dinode_length (bytes_at g h.own) ≡ drop dinode_length (bytes_at h h.own)
  pub parts : (b : ℕ) → part_at g b ≡ part_at h b
  pub others : (b : ℕ) → b ≢ leaf → b ≢ h.own → bytes_at g b ≡ bytes_at h b
