use Rattle.std.proofs.Common.{◌≡◌, ◌+◌, ◌-◌, vec_len}
use Rattle.image_reader.specs.Going.{ClaimsOnly}
use Rattle.image_reader.specs.Untouched.{IsOfSome}
use Rattle.image_reader.specs.Walking.{IsSound}
use Rattle.image_reader.proofs.WalkedTree.{IsWalked}
use Rattle.image_reader.proofs.walk.Walk.tree.Given as goal

abbrev pub invariant-loop-next : goal.invariant-loop-next
invariant-loop-next l = record {
  sound : IsSound l.self;
  same : l.self.image ≡ l.fn.self.image;
  walked : IsWalked l.fn.self.image l.fn.top.inode l.self.owners.entries.items l.found.items (l.next + 1);
  claims : ClaimsOnly IsOfSome l.fn.self.owners.entries.items l.self.owners.entries.items;
}

abbrev pub decreases-loop-next : goal.decreases-loop-next
decreases-loop-next l = (vec_len l.found + l.self.owners.free) - l.next
