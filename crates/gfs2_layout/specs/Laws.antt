-- Laws of structures and of areas.
use Rattle.std.specs.Prelude.{ℕ, ◌≡◌, ◌<◌, ◌≤◌, ⊤, List, [], ◌∷◌, ◌++◌, length, take, drop, replicate, None, Result, Ok}
use Rattle.std.specs.List.{All, AllByRecursion}
use Rattle.gfs2_layout.specs.Bytes.{u16_at}
use Rattle.gfs2_layout.specs.Fields.{Field, HasItsWidth}
use Rattle.gfs2_layout.specs.Structures.{header_read, superblock_read, dinode_read, kind_fault, dirent_read, rindex_read, group_read, leaf_read, log_read, dinode_length}
use Rattle.gfs2_layout.specs.Writing.{header_fields, header_put, superblock_fields, superblock_put, dinode_fields, dinode_put, dirent_fields, dirent_put, rindex_fields, rindex_put, group_fields, group_put, leaf_fields, leaf_put, log_fields, log_put}
use Rattle.gfs2_layout.specs.Area.{slot_at, slots_of, HasItsName, IsArea}
use Rattle.gfs2_layout.specs.declared.fault.LayoutFault.{LayoutFault}
use Rattle.gfs2_layout.specs.declared.header.MetaHeader.{MetaHeader}
use Rattle.gfs2_layout.specs.declared.superblock.SuperBlock.{SuperBlock}
use Rattle.gfs2_layout.specs.declared.dinode.Dinode.{Dinode}
use Rattle.gfs2_layout.specs.declared.dirent.Dirent.{Dirent}
use Rattle.gfs2_layout.specs.declared.rindex.Rindex.{Rindex}
use Rattle.gfs2_layout.specs.declared.group_header.GroupHeader.{GroupHeader}
use Rattle.gfs2_layout.specs.declared.leaf.Leaf.{Leaf}
use Rattle.gfs2_layout.specs.declared.log_header.LogHeader.{LogHeader}

-- each number is below the bound of its width
abbrev pub HaveWidths : List Field → Type 0
HaveWidths fields = AllByRecursion HasItsWidth fields

-- A structure of so many bytes: what is put is read again, there are as many bytes as before, those behind it are left so,
-- and it is read from its own bytes alone.
pub record IsReadBack {S : Type 0} (size : ℕ) (IsWhole IsFit : S → Type 0) (left : List ℕ → List ℕ) (put : S → List ℕ → List ℕ) (read : List ℕ → Result S LayoutFault) : Type 0 where
  pub back : (s : S) (bytes : List ℕ) → size ≤ length bytes → All (λ byte. byte < 256) bytes → IsWhole s → IsFit s → read (put s bytes) ≡ Ok s
  pub as_long : (s : S) (bytes : List ℕ) → size ≤ length bytes → IsWhole s → length (put s bytes) ≡ length bytes
  pub behind : (s : S) (bytes : List ℕ) → size ≤ length bytes → IsWhole s → drop size (put s bytes) ≡ left (drop size bytes)
  pub own : (a b : List ℕ) → size ≤ length a → size ≤ length b → take size a ≡ take size b → read a ≡ read b

-- as they were
abbrev pub stay : List ℕ → List ℕ
stay bytes = bytes

abbrev pub cleared : List ℕ → List ℕ
cleared bytes = replicate (length bytes) 0

abbrev pub IsAny : {S : Type 0} → S → Type 0
IsAny s = ⊤

-- the parts of a superblock that are bytes have the lengths of their places
pub record HasTextLengths (s : SuperBlock) : Type 0 where
  pub lock_protocol : length s.lock_protocol ≡ 64
  pub lock_table : length s.lock_table ≡ 64
  pub uuid : length s.uuid ≡ 16

-- a record's head has numbers of their widths, and a kind that is read
pub record IsFitDirent (d : Dirent) : Type 0 where
  pub widths : HaveWidths (dirent_fields d)
  pub kind : kind_fault d ≡ None

-- every structure is read as it was written
pub record StructuresReadBack : Type 0 where
  pub header : IsReadBack 24 IsAny (λ (h : MetaHeader). HaveWidths (header_fields h)) stay header_put header_read
  pub superblock : IsReadBack 272 HasTextLengths (λ (s : SuperBlock). HaveWidths (superblock_fields s)) stay superblock_put superblock_read
  pub dinode : IsReadBack dinode_length IsAny (λ (d : Dinode). HaveWidths (dinode_fields d)) stay dinode_put dinode_read
  pub dirent : IsReadBack 40 IsAny IsFitDirent stay dirent_put dirent_read
  pub rindex : IsReadBack 96 IsAny (λ (r : Rindex). HaveWidths (rindex_fields r)) stay rindex_put rindex_read
  pub group : IsReadBack 128 IsAny (λ (g : GroupHeader). HaveWidths (group_fields g)) stay group_put group_read
  pub leaf : IsReadBack 104 IsAny (λ (l : Leaf). HaveWidths (leaf_fields l)) stay leaf_put leaf_read
  pub log : IsReadBack 48 IsAny (λ (h : LogHeader). HaveWidths (log_fields h)) cleared log_put log_read

-- an area of nothing, of one record, and of two areas one behind the other
pub record AreasJoin : Type 0 where
  pub empty : (slots_of [] ≡ []) × IsArea []
  pub one : (bytes : List ℕ) → 40 ≤ length bytes → u16_at 20 bytes ≡ length bytes → HasItsName (slot_at bytes) → (slots_of bytes ≡ slot_at bytes ∷ []) × IsArea bytes
  pub both : (a b : List ℕ) → IsArea a → IsArea b → (slots_of (a ++ b) ≡ slots_of a ++ slots_of b) × IsArea (a ++ b)
