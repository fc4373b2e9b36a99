-- The formal number of a new inode, which its group's header counts.
use Rattle.std.specs.Prelude.{ℕ, ◌≡◌, ◌+◌, ◌<◌, ◌^◌, ◌==◌, if◌then◌else◌, List, [], slice_index_or}
use Rattle.gfs2_layout.specs.Groups.{bitmap_of, group_header}
use Rattle.gfs2_layout.specs.Headers.{HasHeader}
use Rattle.gfs2_layout.specs.Writing.{group_put}
use Rattle.glock_names.specs.declared.views.Group.{Group}
use Rattle.resource_groups.specs.Shown.{blocks_of}

-- the number after the last one; no formal number is zero, so 1 comes after the greatest
abbrev pub next_number : ℕ → ℕ
next_number last = if last + 1 == 2 ^ 64 then 1 else last + 1

-- the group's header is written over the old one with another number of its last inode; all bits stay, and each further block
pub record IsNumberPut (at at' : ℕ → List ℕ) (g : Group) (number : ℕ) : Type 0 where
  pub kind : HasHeader 2 200 (slice_index_or (blocks_of at' g) 0 [])
  pub header : group_header (blocks_of at' g) ≡ record (group_header (blocks_of at g)) { igeneration = number }
  pub put : at' g.addr ≡ group_put (group_header (blocks_of at' g)) (at g.addr)
  pub bits : bitmap_of (blocks_of at' g) ≡ bitmap_of (blocks_of at g)
  pub more : (k : ℕ) → 0 < k → slice_index_or (blocks_of at' g) k [] ≡ slice_index_or (blocks_of at g) k []
