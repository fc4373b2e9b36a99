-- The least free block of a group above another.
use Rattle.std.specs.Prelude.{ℕ, ◌≡◌, ◌≢◌, ◌+◌, ◌-◌, ◌<◌, ◌≤◌, List}
use Rattle.gfs2_layout.specs.Bitmap.{state_at}
use Rattle.glock_names.specs.Views.{Seen}
use Rattle.glock_names.specs.declared.steps.Missing.{Missing}
use Rattle.glock_names.specs.declared.views.Group.{Group}
use Rattle.resource_groups.specs.Shown.{IsDataOf, IsMissing, HasBitsIn, said, first_place}

-- no data block between these two is free
abbrev pub NoneIsFree : (ℕ → List ℕ) → Group → ℕ → ℕ → Type 0
NoneIsFree at g after end = (b : ℕ) → IsDataOf g b → after < b → b < end → said at g b ≢ 0

-- the block is the least free data block above this one
pub record IsLeastFree (at : ℕ → List ℕ) (g : Group) (after b : ℕ) : Type 0 where
  pub own : IsDataOf g b
  pub above : after < b
  pub free : said at g b ≡ 0
  pub least : NoneIsFree at g after b

-- A block is asked for only where it has bits of a data block above `after` and none of the bits before it is of a free one: so it is the first
-- such block, in order, that the view hasn't.
pub record IsNeeded (v : Seen) (at : ℕ → List ℕ) (g : Group) (after : ℕ) (missing : Missing) : Type 0 where
  pub block : IsMissing v g missing
  pub some : (b : ℕ) × IsDataOf g b × (after < b) × HasBitsIn v.size (b - g.first) (missing.block - g.addr)
  pub before : NoneIsFree at g after (g.first + first_place v.size (missing.block - g.addr))

-- ---- in one block's bits

-- none of the states from one place up to another is free
abbrev pub NoneFrom : List ℕ → ℕ → ℕ → Type 0
NoneFrom bits from end = (i : ℕ) → from ≤ i → i < end → state_at bits i ≢ 0

-- the first place from one up to another whose state is free
pub record IsFirstFree (bits : List ℕ) (from end i : ℕ) : Type 0 where
  pub low : from ≤ i
  pub high : i < end
  pub free : state_at bits i ≡ 0
  pub first : NoneFrom bits from i
