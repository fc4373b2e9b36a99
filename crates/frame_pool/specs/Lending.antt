-- What a pool is once a frame's bytes were written.
use Rattle.std.specs.Prelude.{ℕ, List, [], unwrap_or}
use Rattle.std.specs.List.{refill}
use Rattle.std.specs.Borrow.{Lends, MutBor, Fml, Array, u8}
use Rattle.std.specs.FinMap.{get}
use Rattle.frame_pool.specs.Frames.{Frames, with_bytes}
use Rattle.frame_pool.specs.contracts.pool.Pool.{the_row}

-- the pool, with these bytes laid over those of a frame from its front on: as many as the frame has take their place
abbrev pub with_bytes_over : Frames → ℕ → List ℕ → Frames
with_bytes_over pool frame bytes = with_bytes pool frame (refill pool.size (unwrap_or (get pool.out frame) []) bytes)

-- the pool ends with the last bytes behind the borrow in the frame
abbrev pub LendsFrame : MutBor Frames → ℕ → MutBor (List ℕ) → Fml
LendsFrame pool frame bytes = Lends the_row (Array u8 0) pool bytes (with_bytes_over pool.now frame)
