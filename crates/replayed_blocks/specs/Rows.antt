-- Blocks in a row, and writes that fit it.
use Rattle.std.specs.Prelude.{ℕ, ◌≡◌, ◌<◌, List, length, Option}
use Rattle.std.specs.List.{AllByRecursion}
use Rattle.std.specs.Option.{option_map}
use Rattle.drafts.specs.declared.change.Written.{Written}
use Rattle.log_layout.specs.Chunks.{Logged}
use Rattle.peer_replay.specs.Plans.{put_home}

-- the bytes that one of these writes puts in a block's place
abbrev pub bytes_home : List Written → ℕ → Option (List ℕ)
bytes_home home block = option_map (λ (e : Logged). e.bytes) (put_home home block)

-- they are whole blocks of a row of so many
abbrev pub FitRow : ℕ → ℕ → List Written → Type 0
FitRow count size home = AllByRecursion (λ (w : Written). (w.block < count) × (length w.bytes ≡ size)) home
