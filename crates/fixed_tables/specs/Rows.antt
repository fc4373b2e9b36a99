-- Rows by rising number: where one stands, or would.
use Rattle.std.specs.Prelude.{ℕ, ◌≡◌, ◌<◌, ◌≤◌, List, length, slice_index_or}

pub record IsAt {V : Type 0} (rows : List (ℕ × V)) (place key : ℕ) : Type 0 where
  pub inside : place < length rows
  pub here : (d : ℕ × V) → (slice_index_or rows place d).0 ≡ key

pub record IsBetween {V : Type 0} (rows : List (ℕ × V)) (place key : ℕ) : Type 0 where
  pub inside : place ≤ length rows
  pub below : (k : ℕ) (d : ℕ × V) → k < place → (slice_index_or rows k d).0 < key
  pub above : (k : ℕ) (d : ℕ × V) → place ≤ k → k < length rows → key < (slice_index_or rows k d).0
