-- Numbers in bytes, the highest byte first.
use Rattle.std.specs.Prelude.{ℕ, ◌+◌, List, ◌++◌, length, take, drop}
use Rattle.std.specs.Int.{Width, w16, w32, w64, byte_len, from_be_bytes, to_be_bytes}

-- so many bytes from a place on
abbrev pub slice : ℕ → ℕ → List ℕ → List ℕ
slice at n bytes = take n (drop at bytes)

-- the number of this width at this place
unfoldable pub number_at : Width → ℕ → List ℕ → ℕ
number_at w at bytes = from_be_bytes w (slice at (byte_len w) bytes)

abbrev pub u16_at : ℕ → List ℕ → ℕ
u16_at = number_at w16

abbrev pub u32_at : ℕ → List ℕ → ℕ
u32_at = number_at w32

abbrev pub u64_at : ℕ → List ℕ → ℕ
u64_at = number_at w64

-- these bytes over those from a place on, and all others as they were
abbrev pub put_at : ℕ → List ℕ → List ℕ → List ℕ
put_at at part bytes = take at bytes ++ (part ++ drop (at + length part) bytes)

-- a number of this width over the bytes at this place
unfoldable pub with_number : Width → ℕ → ℕ → List ℕ → List ℕ
with_number w at number bytes = put_at at (to_be_bytes w number) bytes
