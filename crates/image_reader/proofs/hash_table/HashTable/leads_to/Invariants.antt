use Rattle.std.proofs.Common.{◌≡◌, ◌≤◌, ◌<◌, ◌*◌, ℕ}
use Rattle.gfs2_layout.specs.Bytes.{u64_at}
use Rattle.image_reader.proofs.hash_table.HashTable.leads_to.Given as goal

abbrev pub invariant-loop-i : goal.invariant-loop-i
invariant-loop-i l = (j : ℕ) → l.first ≤ j → j < l.i → u64_at (8 * j) l.self.bytes.items ≡ l.number
