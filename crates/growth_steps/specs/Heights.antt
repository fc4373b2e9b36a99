-- A file's dinode at another height, and what lets it have that: the bytes that are put, and the blocks afterwards.
use Rattle.std.specs.Prelude.{ℕ, suc, ◌≡◌, ◌≢◌, ◌+◌, ◌-◌, ◌*◌, ◌<◌, ◌≤◌, ◌==◌, if◌then◌else◌, List, ◌++◌, length, take, drop, replicate, Option, None, Some, Ok}
use Rattle.gfs2_layout.specs.Bytes.{u64_at, put_at}
use Rattle.gfs2_layout.specs.Holding.{Part, Pointed, Cell, Holding, part_at}
use Rattle.gfs2_layout.specs.Inode.{dinode_in, height_in, header_length, fan, span, pointer, content_count}
use Rattle.gfs2_layout.specs.Structures.{dinode_length, dinode_read}
use Rattle.gfs2_layout.specs.Writing.{dinode_put, zeros_from}
use Rattle.gfs2_layout.specs.declared.dinode.Dinode.{Dinode}
use Rattle.growth_laws.specs.Blocks.{with_pointer, rewritten_cells}
use Rattle.growth_laws.specs.Steps.{moved_from}
use Rattle.growth_steps.specs.New.{new_bytes}

-- ---- bytes

-- a dinode with no pointer behind it
abbrev pub bare_bytes : Dinode → List ℕ → List ℕ
bare_bytes d bytes = dinode_put d (zeros_from dinode_length bytes)

-- a dinode with one pointer behind it, the first, to block b
abbrev pub led_bytes : Dinode → ℕ → List ℕ → List ℕ
led_bytes d b bytes = dinode_put d (with_pointer dinode_length 0 b (zeros_from dinode_length bytes))

-- a whole block that says the dinode, and behind it one pointer, the first, to block b; with 0 none
pub record IsLedBlock (size : ℕ) (d : Dinode) (b : ℕ) (bytes : List ℕ) : Type 0 where
  pub whole : length bytes ≡ size
  pub read : dinode_read bytes ≡ Ok d
  pub first : u64_at dinode_length bytes ≡ b
  pub rest : (j : ℕ) → j ≢ 0 → u64_at (dinode_length + 8 * j) bytes ≡ 0

-- an indirect block with the pointers that stand behind a dinode
abbrev pub raised_bytes : List ℕ → List ℕ
raised_bytes bytes = put_at header_length (drop dinode_length bytes) (new_bytes (length bytes) 1)

-- a block of content with so many bytes that stand behind a dinode, and zeros behind them
abbrev pub moved_bytes : ℕ → List ℕ → List ℕ
moved_bytes size bytes = take size (drop dinode_length bytes) ++ replicate (length bytes - size) 0

-- ---- blocks

-- a part whose pointer stood in the dinode has it in the new block
abbrev pub moved_part : ℕ → ℕ → Part → Part
moved_part own b (Pointed from k level first) = Pointed (moved_from own b from) k level first
moved_part own b part = part

abbrev pub moved_cell : ℕ → ℕ → Option Cell → Option Cell
moved_cell own b None = None
moved_cell own b (Some c) = Some (record { part = moved_part own b c.part; bytes = c.bytes })

-- with block b between the dinode and all that it led to, of these bytes both
abbrev pub raised_cells : Holding → ℕ → ℕ → List ℕ → List ℕ → ℕ → Option Cell
raised_cells h level b own new x =
    if x == b then Some (record { part = Pointed h.own 0 (suc level) 0; bytes = new })
    else moved_cell h.own b (rewritten_cells h h.own own x)

-- with the first block of content, of these bytes, and others in the dinode's block
abbrev pub unstuffed_cells : Holding → ℕ → List ℕ → List ℕ → ℕ → Option Cell
unstuffed_cells h b own new x =
    if x == b then Some (record { part = Pointed h.own 0 0 0; bytes = new })
    else rewritten_cells h h.own own x

-- ---- what a file has to be for each

-- the block is none of the file's, and one of the image's
pub record IsNewTo (h : Holding) (b : ℕ) : Type 0 where
  pub new : h.cell b ≡ None
  pub some : b ≢ 0
  pub inside : b < h.count

-- the height can rise: one of the dinode's pointers leads somewhere
pub record CanRise (h : Holding) (level : ℕ) : Type 0 where
  pub high : height_in h ≡ suc level
  pub low : level < 9
  pub leads : (k : ℕ) × (k < fan h.size dinode_length) × (pointer h dinode_length h.own k ≢ 0)

-- content stands behind the dinode
pub record HasStuffed (h : Holding) : Type 0 where
  pub stuffed : height_in h ≡ 0
  pub content : (dinode_in h).size ≢ 0

-- no other block is there, and no content where one of the heights is 0; the height reaches the size
pub record CanBeBare (h : Holding) (height : ℕ) : Type 0 where
  pub bare : (b from k level first : ℕ) → part_at h b ≢ Some (Pointed from k level first)
  pub low : height ≤ 10
  pub enough : (level : ℕ) → height ≡ suc level → content_count h ≤ fan h.size dinode_length * span h.size level
  pub from_stuffed : height_in h ≡ 0 → (dinode_in h).size ≡ 0
  pub to_stuffed : height ≡ 0 → (dinode_in h).size ≡ 0
