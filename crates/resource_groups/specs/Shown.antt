-- A resource group as a view shows it: what its header and bitmap blocks say.
use Rattle.std.specs.Prelude.{ℕ, zero, suc, ◌≡◌, ◌≢◌, ◌+◌, ◌-◌, ◌<◌, ◌≤◌, false, List, length, drop, map, None, Some}
use Rattle.std.specs.List.{range_with_len}
use Rattle.gfs2_layout.specs.Bitmap.{state_at, bitmap_room}
use Rattle.gfs2_layout.specs.Groups.{bitmap_of, group_header, states_in, count_of}
use Rattle.gfs2_layout.specs.Headers.{HasHeader}
use Rattle.glock_names.specs.Views.{Seen, end_of}
use Rattle.glock_names.specs.declared.LockName.{LockName}
use Rattle.glock_names.specs.declared.steps.Missing.{Missing}
use Rattle.glock_names.specs.declared.views.Group.{Group}

-- the lock that covers a group's own blocks and its free ones
abbrev pub group_lock : Group → LockName
group_lock g = record { kind = 3; number = g.addr }

-- ---- its blocks

-- the block is its header, or one of its bitmap
pub record IsHeaderOf (g : Group) (b : ℕ) : Type 0 where
  pub low : g.addr ≤ b
  pub high : b < g.addr + g.length

-- the block is one of its data blocks
pub record IsDataOf (g : Group) (b : ℕ) : Type 0 where
  pub low : g.first ≤ b
  pub high : b < end_of g

-- The group's header and bitmap blocks may hold these bytes, as far as the view tells: whole blocks, and those that the view has hold what
-- they hold there.
pub record IsShown (v : Seen) (g : Group) (at : ℕ → List ℕ) : Type 0 where
  pub whole : (b : ℕ) → IsHeaderOf g b → length (at b) ≡ v.size
  pub same : (b : ℕ) (bytes : List ℕ) → IsHeaderOf g b → v.block_at b ≡ Some bytes → at b ≡ bytes

-- its header and bitmap blocks, in order
abbrev pub blocks_of : (ℕ → List ℕ) → Group → List (List ℕ)
blocks_of at g = map at (range_with_len g.addr g.length)

-- the state that its bits say of a data block
abbrev pub said : (ℕ → List ℕ) → Group → ℕ → ℕ
said at g b = state_at (bitmap_of (blocks_of at g)) (b - g.first)

-- the first place, among those of its data blocks, whose bits stand in its block k
abbrev pub first_place : ℕ → ℕ → ℕ
first_place size zero = 0
first_place size (suc k) = bitmap_room size (suc k)

-- the bits of a place stand in the group's block k
pub record HasBitsIn (size place k : ℕ) : Type 0 where
  pub low : first_place size k ≤ place
  pub high : place < first_place size (k + 1)

-- the header that block k needs: the group's, or that of a further block of bits
abbrev pub kind_of : ℕ → ℕ
kind_of zero = 2
kind_of (suc k) = 3

abbrev pub format_of : ℕ → ℕ
format_of zero = 200
format_of (suc k) = 300

-- the bits in the group's block k
abbrev pub bits_at : (ℕ → List ℕ) → Group → ℕ → List ℕ
bits_at at g zero = drop 128 (at g.addr)
bits_at at g (suc k) = drop 24 (at (g.addr + suc k))

-- ---- what is missing, and what is broken

-- a block of the group that the view hasn't, with the lock that covers it
pub record IsMissing (v : Seen) (g : Group) (missing : Missing) : Type 0 where
  pub own : IsHeaderOf g missing.block
  pub absent : v.block_at missing.block ≡ None
  pub lock : missing.lock ≡ group_lock g
  pub plain : missing.plain ≡ false
  pub from : missing.from ≡ missing.block

-- `IsBroken at g rule b`: block b of the group breaks this rule
pub data IsBroken (at : ℕ → List ℕ) (g : Group) : ℕ → ℕ → Type 0 where
  -- 1: a block lacks the header that its place needs
  no_header : (k : ℕ) → k < g.length → ¬ (HasHeader (kind_of k) (format_of k) (at (g.addr + k))) → IsBroken at g 1 (g.addr + k)
  -- 6: the header's counts aren't those of the bits
  wrong_free : (group_header (blocks_of at g)).free ≢ count_of 0 (states_in (blocks_of at g) g.count) → IsBroken at g 6 g.addr
  wrong_dinodes : (group_header (blocks_of at g)).dinodes ≢ count_of 3 (states_in (blocks_of at g) g.count) → IsBroken at g 6 g.addr
