-- What a region is once a part of it was written.
use Rattle.std.specs.Prelude.{ℕ, List}
use Rattle.std.specs.Borrow.{Lends, MutBor, Fml, Array, u8}
use Rattle.frame_pool.specs.Parts.{with_part}
use Rattle.frame_pool.specs.contracts.region.Region.{the_row}

-- the region ends with the last bytes behind the borrow in that part
abbrev pub LendsPart : MutBor (List ℕ) → ℕ → ℕ → MutBor (List ℕ) → Fml
LendsPart region at len bytes = Lends the_row (Array u8 0) region bytes (with_part region.now at len)
