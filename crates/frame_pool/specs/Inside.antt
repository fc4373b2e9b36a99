-- What the fields of a pool stand for.
use Rattle.std.specs.Prelude.{◌≡◌, ℕ, ◌*◌, ◌<◌, ◌≤◌, List, length, Option, None, Some, nat_lt, if◌then◌else◌, slice_index, vec_len}
use Rattle.finite_maps.specs.Below.{map_below}
use Rattle.frame_pool.specs.declared.pool.Pool.TheInside.{Inside}
use Rattle.frame_pool.specs.Frames.{Frames}
use Rattle.frame_pool.specs.Parts.{part}

-- the bytes of the frame with that number: frames of one length lie side by side in the region
abbrev pub frame_at : List ℕ → ℕ → ℕ → List ℕ
frame_at region size n = part region (n * size) size

-- the bytes of a frame where it is out: where its place in the order is one of those that are out
abbrev pub bytes_of : Inside → ℕ → Option (List ℕ)
bytes_of p frame = if nat_lt (slice_index p.place.items frame) p.out then Some (frame_at p.region p.size frame) else None

abbrev pub frames_of : Inside → Frames
frames_of p = record { count = vec_len p.order; size = p.size; out = map_below (bytes_of p) (vec_len p.order) }

-- the region has room for the frames and no more; `place` says where each frame stands in `order`, and each stands there once
pub record IsPool (p : Inside) : Type 0 where
  pub few : vec_len p.order ≤ 4096
  pub short : p.size ≤ 4096
  pub region : length p.region ≡ vec_len p.order * p.size
  pub placed : vec_len p.place ≡ vec_len p.order
  pub some_out : p.out ≤ vec_len p.order
  pub stands : (i : ℕ) → i < vec_len p.order → (slice_index p.order.items i < vec_len p.order) × (slice_index p.place.items (slice_index p.order.items i) ≡ i)
  pub has_place : (n : ℕ) → n < vec_len p.order → (slice_index p.place.items n < vec_len p.order) × (slice_index p.order.items (slice_index p.place.items n) ≡ n)
