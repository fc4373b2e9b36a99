-- The records of a hashed directory, whose leaves were gone over.
use Rattle.std.proofs.Common.{◌≡◌, ℕ, List, Some}
use Rattle.std.specs.Prelude.{codes, map, Contains, slice_get}
use Rattle.gfs2_layout.specs.Inode.{dinode_in, is_hashed_in}
use Rattle.gfs2_layout.specs.Records.{Record, records_in}
use Rattle.image_model.specs.Claims.{every, HasArea, behind_dinode, of_leaf}
use Rattle.image_model.specs.Image.{Image}
use Rattle.image_model.specs.Rules.{HasRecordIn, IsHashedAt}
use Rattle.image_reader.proofs.Directories.{not_both}
use Rattle.image_mount.specs.Leaves.{AreAllLeaves, IsWalked}
use Rattle.image_mount.specs.Listing.{said, AreAllRecords, AreCountedIn, AreRowsOf}
use Rattle.image_mount.specs.Looks.{IsSoundArea, IsSoundDirectory}
use Rattle.image_mount.specs.declared.inodes.Inode.{Inode}
use Rattle.image_mount.specs.declared.leaf.LeafWalk.{LeafWalk}
use Rattle.image_mount.specs.declared.listing.Named.{Named}
use Rattle.image_mount.proofs.Sound.{dot_there, is_counted, one_block}

-- a hashed one, whose leaves were gone over
pub hashed_sound : (im : Image) (inode : Inode) (parent : ℕ) (walk : LeafWalk) → inode.dinode ≡ dinode_in (every im inode.block) → IsHashedAt im inode.block → IsWalked im inode.block walk → AreAllLeaves im inode.block walk → walk.others ≡ 0
    → AreAllRecords im inode.block walk.records.items → AreCountedIn im inode.block (map said walk.records.items) → AreRowsOf inode parent walk.records.items → IsSoundDirectory im inode.block parent
hashed_sound im inode parent walk read hashed w came none all count rows = record {
  areas = areas;
  once = one_block im inode.block walk.records.items w.distinct listed;
  dot = dot_there im inode.block inode.block walk.records.items (codes ".") all rows.dot;
  dots = dot_there im inode.block parent walk.records.items (codes "..") all rows.dots;
  counts = is_counted im inode parent walk.records.items read count rows;
}
  where
    areas : (x : ℕ) (area : List ℕ) → HasArea im inode.block x area → IsSoundArea area
    areas _ _ (behind_dinode directory linear) = absurd (not_both (is_hashed_in (every im inode.block)) hashed.1 linear)
    areas _ _ (of_leaf x leaf) = (w.sound x leaf.1 leaf.2 (came leaf.0 x leaf.1 leaf.2 leaf.3)).area

    in_leaf : (x : ℕ) (area : List ℕ) → HasArea im inode.block x area → (r : Record) → Contains (records_in area) r → (i : ℕ) × ((n : Named) × (slice_get walk.records.items i ≡ Some n) × (said n ≡ r) × (n.block ≡ x))
    in_leaf _ _ (behind_dinode directory linear) r there = absurd (not_both (is_hashed_in (every im inode.block)) hashed.1 linear)
    in_leaf _ _ (of_leaf x leaf) r there = w.listed none x leaf.1 leaf.2 (came leaf.0 x leaf.1 leaf.2 leaf.3) r there

    listed : (x : ℕ) (r : Record) → HasRecordIn im inode.block x r → (i : ℕ) × ((n : Named) × (slice_get walk.records.items i ≡ Some n) × (said n ≡ r) × (n.block ≡ x))
    listed x r has = in_leaf x has.0 has.1 r has.2
