-- A scan on its way: what is read so far, and what the blocks to come make of it.
use Rattle.std.specs.Prelude.{ℕ, ◌≡◌, ◌≤◌, ⊤, List, [], ◌∷◌, length, map, Result}
use Rattle.log_layout.specs.Chunks.{further_room}
use Rattle.log_layout.specs.Journal.{Placed}
use Rattle.log_layout.specs.Transactions.{Sequenced, and_then, reading}
use Rattle.log_layout.specs.declared.due.Due.{Due}
use Rattle.log_layout.specs.declared.due.Due.TheVariants as due
use Rattle.journal_scan.specs.Said.{says, says_at}
use Rattle.journal_scan.specs.declared.scanning.Scan.{Scan}

-- what was read before, and then this
abbrev pub behind : List Sequenced → Result (List Sequenced) ℕ → Result (List Sequenced) ℕ
behind [] read = read
behind (t ∷ ts) read = and_then t (behind ts read)

-- what a scan makes of the blocks that are left
abbrev pub makes : ℕ → Scan → List Placed → Result (List Sequenced) ℕ
makes size s blocks = behind (map says_at s.done.items) (reading size s.due.items s.last (says s.begun) blocks)

-- a block was taken: what follows it makes the same as before
abbrev pub Takes : ℕ → Scan → Scan → ℕ → ℕ → List ℕ → Type 0
Takes size old new left place block = (bs : List Placed) → length bs ≡ left → makes size old (record { place = place; bytes = block } ∷ bs) ≡ makes size new bs

-- a block with further revokes holds them
abbrev pub IsFit : ℕ → Due → Type 0
IsFit size (due.Further count) = count ≤ further_room size
IsFit size _ = ⊤
