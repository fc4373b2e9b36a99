-- What a write makes of a file: of its dinode, and of its content.
use Rattle.std.specs.Prelude.{ℕ, ◌≡◌, ◌≢◌, ◌⊎◌, ◌+◌, ◌-◌, ◌<◌, ◌≤◌, nat_lt, if◌then◌else◌, true, false, Ok, List, ◌++◌, length, take, drop, replicate}
use Rattle.file_tree.specs.Apply.{file_limit, overwritten}
use Rattle.file_tree.specs.declared.reply.Reply.{Reply}
use Rattle.file_tree.specs.declared.reply.Reply.TheVariants as reply
use Rattle.gfs2_layout.specs.Holding.{Holding}
use Rattle.gfs2_layout.specs.Inode.{IsInode, dinode_in, head_of, content_of}
use Rattle.gfs2_layout.specs.Structures.{dinode_length, dinode_read, is_directory}
use Rattle.gfs2_layout.specs.declared.dinode.Dinode.{Dinode}
use Rattle.dinode_tree.specs.Pads.{dinode_over}
use Rattle.writing_calls.specs.declared.aims.Aim.{Aim}
use Rattle.writing_calls.specs.declared.aims.Aim.TheVariants as aim

-- ---- a file after a write

-- a file of this size has so many bytes after a write that ends here
abbrev pub size_after : ℕ → ℕ → ℕ
size_after size end = if nat_lt size end then end else size

-- the dinode after a write that ends here: the size, and the time of the last change of the content and of the inode
abbrev pub dinode_after : Dinode → ℕ → ℕ → Dinode
dinode_after d end time = record d { size = size_after d.size end; mtime = time; ctime = time }

-- An inode after a write: the bytes stand over the old content, with zeros between its end and their place, whatever stood there. It keeps
-- what records say of it, and is sound if it was.
pub record IsWrittenOver (h h' : Holding) (at : ℕ) (new : List ℕ) (time : ℕ) : Type 0 where
  pub dinode : dinode_in h' ≡ dinode_after (dinode_in h) (at + length new) time
  pub content : content_of h' ≡ overwritten at new (content_of h)
  pub head : head_of h' ≡ head_of h
  pub sound : IsInode h → IsInode h'

-- ---- content in the dinode's block

-- the bytes of the block have room for so many of content behind the dinode
abbrev pub HasRoom : ℕ → ℕ → Type 0
HasRoom size count = dinode_length + count ≤ size

-- of an area whose front of this size is content: the content after the write, and behind it what stood there
abbrev pub area_after : ℕ → List ℕ → ℕ → List ℕ → List ℕ
area_after at new size area = let content = overwritten at new (take size area) in content ++ drop (length content) area

-- zeros from one place to another, where that is behind it
abbrev pub cleared_between : ℕ → ℕ → List ℕ → List ℕ
cleared_between from to area = if nat_lt from to then take from area ++ replicate (to - from) 0 ++ drop to area else area

-- these bytes from a place on
abbrev pub put_over : ℕ → List ℕ → List ℕ → List ℕ
put_over at new area = take at area ++ new ++ drop (at + length new) area

-- ---- what a write makes of the inode with this dinode

-- a file's write goes into blocks: its content isn't in the dinode's block, or won't have room there
abbrev pub NeedsBlocks : ℕ → Dinode → ℕ → Type 0
NeedsBlocks size d end = (d.height ≢ 0) ⊎ (size < dinode_length + end)

-- a file whose content stands in the dinode's block and has room there after a write that ends here
pub record StaysStuffed (size : ℕ) (d : Dinode) (end : ℕ) : Type 0 where
  pub file : is_directory d ≡ false
  pub height : d.height ≡ 0
  pub short : end ≤ file_limit
  pub room : HasRoom size end
  pub fits : HasRoom size d.size

-- the bytes of that block before the write and after it: the dinode is written over the old one, and the content behind it
pub record IsBlockWritten (size : ℕ) (d : Dinode) (at : ℕ) (new : List ℕ) (time : ℕ) (before now : List ℕ) : Type 0 where
  pub was : length before ≡ size
  pub whole : length now ≡ size
  pub read : dinode_read now ≡ Ok (dinode_after d (at + length new) time)
  pub area : drop dinode_length now ≡ area_after at new d.size (drop dinode_length before)
  pub bytes : now ≡ dinode_over (dinode_after d (at + length new) time) before (area_after at new d.size (drop dinode_length before))

-- why nothing is written into the inode of this dinode, of whose content a call makes so much at least
abbrev pub IsRefusedAim : Dinode → ℕ → Reply → Type 0
IsRefusedAim d end reply.IsDir = is_directory d ≡ true
IsRefusedAim d end reply.TooBig = (is_directory d ≡ false) × (file_limit < end)
IsRefusedAim d end r = ⊥

-- Why nothing is written into the inode, or where the bytes go: into the dinode's block, or into blocks. Of a broken one the content that it has would need
-- more room than that block has.
abbrev pub IsAimOf : ℕ → Dinode → ℕ → Aim → Type 0
IsAimOf size d end (aim.Refused r) = IsRefusedAim d end r
IsAimOf size d end aim.Blocks = (is_directory d ≡ false) × (end ≤ file_limit) × NeedsBlocks size d end
IsAimOf size d end aim.Broken = (d.height ≡ 0) × (size < dinode_length + d.size)
IsAimOf size d end aim.Stuffed = StaysStuffed size d end
IsAimOf size d end a = ⊥

-- Why a file isn't cut to so many bytes, or what becomes of it: it gets longer, or is cut.
abbrev pub IsCutAimOf : Dinode → ℕ → Aim → Type 0
IsCutAimOf d end (aim.Refused r) = IsRefusedAim d end r
IsCutAimOf d end aim.Blocks = (is_directory d ≡ false) × (end ≤ file_limit) × (d.size < end)
IsCutAimOf d end aim.Cut = (is_directory d ≡ false) × (end ≤ file_limit) × (end ≤ d.size)
IsCutAimOf d end a = ⊥
