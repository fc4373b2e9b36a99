-- The structures as they are written: the bytes after it, from those before. Pads and reserved bytes are no field, and keep what they hold.
use Rattle.std.specs.Prelude.{ℕ, ◌-◌, List, [], ◌∷◌, ◌++◌, length, take, replicate, if◌then◌else◌}
use Rattle.gfs2_layout.specs.Bytes.{put_at}
use Rattle.gfs2_layout.specs.Fields.{Field, with_fields}
use Rattle.gfs2_layout.specs.Checksum.{with_checksum}
use Rattle.gfs2_layout.specs.Structures.{magic}
use Rattle.gfs2_layout.specs.declared.fields.Number.TheVariants.{U16, U32, U64}
use Rattle.gfs2_layout.specs.declared.header.MetaHeader.{MetaHeader}
use Rattle.gfs2_layout.specs.declared.superblock.SuperBlock.{SuperBlock}
use Rattle.gfs2_layout.specs.declared.dinode.Dinode.{Dinode}
use Rattle.gfs2_layout.specs.declared.dirent.Dirent.{Dirent}
use Rattle.gfs2_layout.specs.declared.rindex.Rindex.{Rindex}
use Rattle.gfs2_layout.specs.declared.group_header.GroupHeader.{GroupHeader}
use Rattle.gfs2_layout.specs.declared.leaf.Leaf.{Leaf}
use Rattle.gfs2_layout.specs.declared.log_header.LogHeader.{LogHeader}

abbrev pub header_fields : MetaHeader → List Field
header_fields h =
    (0, U32 magic) ∷
    (4, U32 h.kind) ∷
    (16, U32 h.format) ∷
    (20, U32 h.jid) ∷ []

abbrev pub header_put : MetaHeader → List ℕ → List ℕ
header_put h bytes = with_fields (header_fields h) bytes

abbrev pub superblock_fields : SuperBlock → List Field
superblock_fields s =
    (0, U32 magic) ∷
    (4, U32 1) ∷
    (16, U32 100) ∷
    (20, U32 0) ∷
    (24, U32 s.fs_format) ∷
    (28, U32 s.multihost_format) ∷
    (36, U32 s.bsize) ∷
    (40, U32 s.bsize_shift) ∷
    (48, U64 s.master.number) ∷
    (56, U64 s.master.address) ∷
    (80, U64 s.root.number) ∷
    (88, U64 s.root.address) ∷ []

-- the parts of a superblock that are bytes and no numbers
abbrev pub texts_put : SuperBlock → List ℕ → List ℕ
texts_put s bytes = put_at 256 s.uuid (put_at 160 s.lock_table (put_at 96 s.lock_protocol bytes))

abbrev pub superblock_put : SuperBlock → List ℕ → List ℕ
superblock_put s bytes = with_fields (superblock_fields s) (texts_put s bytes)

abbrev pub dinode_fields : Dinode → List Field
dinode_fields d =
    (0, U32 magic) ∷
    (4, U32 4) ∷
    (16, U32 400) ∷
    (20, U32 0) ∷
    (24, U64 d.num.number) ∷
    (32, U64 d.num.address) ∷
    (40, U32 d.mode) ∷
    (44, U32 d.uid) ∷
    (48, U32 d.gid) ∷
    (52, U32 d.nlink) ∷
    (56, U64 d.size) ∷
    (64, U64 d.blocks) ∷
    (72, U64 d.atime) ∷
    (80, U64 d.mtime) ∷
    (88, U64 d.ctime) ∷
    (96, U32 d.major) ∷
    (100, U32 d.minor) ∷
    (104, U64 d.goal_meta) ∷
    (112, U64 d.goal_data) ∷
    (120, U64 d.generation) ∷
    (128, U32 d.flags) ∷
    (132, U32 d.payload_format) ∷
    (138, U16 d.height) ∷
    (146, U16 d.depth) ∷
    (148, U32 d.entries) ∷
    (168, U64 d.eattr) ∷
    (176, U32 d.atime_nsec) ∷
    (180, U32 d.mtime_nsec) ∷
    (184, U32 d.ctime_nsec) ∷ []

abbrev pub dinode_put : Dinode → List ℕ → List ℕ
dinode_put d bytes = with_fields (dinode_fields d) bytes

abbrev pub dirent_fields : Dirent → List Field
dirent_fields d =
    (0, U64 d.inum.number) ∷
    (8, U64 d.inum.address) ∷
    (16, U32 d.hash) ∷
    (20, U16 d.rec_len) ∷
    (22, U16 d.name_len) ∷
    (24, U16 d.kind) ∷
    (26, U16 d.rahead) ∷ []

abbrev pub dirent_put : Dirent → List ℕ → List ℕ
dirent_put d bytes = with_fields (dirent_fields d) bytes

abbrev pub rindex_fields : Rindex → List Field
rindex_fields r =
    (0, U64 r.address) ∷
    (8, U32 r.length) ∷
    (16, U64 r.data0) ∷
    (24, U32 r.data_blocks) ∷
    (28, U32 r.bitbytes) ∷ []

abbrev pub rindex_put : Rindex → List ℕ → List ℕ
rindex_put r bytes = with_fields (rindex_fields r) bytes

abbrev pub group_fields : GroupHeader → List Field
group_fields g =
    (0, U32 magic) ∷
    (4, U32 2) ∷
    (16, U32 200) ∷
    (20, U32 0) ∷
    (24, U32 g.flags) ∷
    (28, U32 g.free) ∷
    (32, U32 g.dinodes) ∷
    (36, U32 g.skip) ∷
    (40, U64 g.igeneration) ∷
    (48, U64 g.data0) ∷
    (56, U32 g.data_blocks) ∷
    (60, U32 g.bitbytes) ∷ []

abbrev pub group_put : GroupHeader → List ℕ → List ℕ
group_put g bytes = with_checksum 128 64 (with_fields (group_fields g) bytes)

-- what is behind its numbers is written as zeros
abbrev pub leaf_fields : Leaf → List Field
leaf_fields l =
    (0, U32 magic) ∷
    (4, U32 6) ∷
    (16, U32 600) ∷
    (20, U32 0) ∷
    (24, U16 l.depth) ∷
    (26, U16 l.entries) ∷
    (28, U32 1200) ∷
    (32, U64 l.next) ∷
    (40, U64 0) ∷
    (48, U64 0) ∷
    (56, U64 0) ∷
    (64, U64 0) ∷
    (72, U64 0) ∷
    (80, U64 0) ∷
    (88, U64 0) ∷
    (96, U64 0) ∷ []

abbrev pub leaf_put : Leaf → List ℕ → List ℕ
leaf_put l bytes = with_fields (leaf_fields l) bytes

abbrev pub log_flags : LogHeader → ℕ
log_flags h = if h.clean then 1 else 0

abbrev pub log_fields : LogHeader → List Field
log_fields h =
    (0, U32 magic) ∷
    (4, U32 8) ∷
    (16, U32 800) ∷
    (20, U32 h.jid) ∷
    (24, U64 h.sequence) ∷
    (32, U32 (log_flags h)) ∷
    (36, U32 h.tail) ∷
    (40, U32 h.blkno) ∷ []

-- zeros from a place on, to the end
abbrev pub zeros_from : ℕ → List ℕ → List ℕ
zeros_from at bytes = take at bytes ++ replicate (length bytes - at) 0

-- behind a log header its block has zeros
abbrev pub log_put : LogHeader → List ℕ → List ℕ
log_put h bytes = with_checksum 48 44 (with_fields (log_fields h) (zeros_from 48 bytes))
