use Rattle.std.proofs.Common.{◌+◌, ◌*◌, ◌≤◌, List, length, vec_len}
use Rattle.std.specs.Vec.{vec_capacity}
use Rattle.shared_disk.specs.Disk.{Operation}
use Rattle.disk_turns.specs.Turns.{AreBrought}
use Rattle.journal_replays.proofs.Brought.{IsLeft}
use Rattle.journal_replays.proofs.items.put_turns.Given as goal

abbrev pub invariant-loop-rest : goal.invariant-loop-rest
invariant-loop-rest l = record {
  goes : (operations : List Operation) → AreBrought l.node l.blocks operations → IsLeft l.node l.rest l.initial.items.items l.items.items operations;
  len : vec_len l.items + 2 * length l.rest ≤ vec_len l.initial.items + 2 * length l.blocks;
  capacity : vec_capacity l.initial.items ≤ vec_capacity l.items;
}

abbrev pub decreases-loop-rest : goal.decreases-loop-rest
decreases-loop-rest l = length l.rest
