-- What the fields of a region stand for.
use Rattle.std.specs.Prelude.{◌≡◌, ℕ, List, Some, map, length}
use Rattle.frame_pool.specs.declared.region.Region.TheInside.{Inside}
use Rattle.frame_pool.specs.Places.{somes}

abbrev pub bytes_in : Inside → List ℕ
bytes_in r = somes r.cells.slots

-- the cells are those of the block, the deed is the right to free it, and each place holds a byte
pub record IsRegion (r : Inside) : Type 0 where
  pub cells_at : r.cells.at ≡ r.base.ptr
  pub deed_at : r.deed.at ≡ r.base.ptr
  pub deed_len : r.deed.len ≡ r.len
  pub deed_alloc : r.deed.alloc ≡ r.alloc
  pub full : r.cells.slots ≡ map Some (bytes_in r)
  pub whole : length (bytes_in r) ≡ r.len
