-- Laws of what a replay puts home.
use Rattle.std.specs.Prelude.{ℕ, ◌≡◌, ◌≤◌, List, length, Some}
use Rattle.log_layout.specs.Journal.{IsWhole, Ring}
use Rattle.log_layout.specs.Live.{live_in}

-- what is live in a journal of whole blocks is whole blocks
abbrev pub LiveIsWhole : Type 0
LiveIsWhole = (ring : Ring) → 4 ≤ ring.size → IsWhole ring → (block : ℕ) (bytes : List ℕ) → live_in ring block ≡ Some bytes → length bytes ≡ ring.size
