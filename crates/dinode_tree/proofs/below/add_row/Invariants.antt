use Rattle.std.proofs.Common.{ℕ, ◌≡◌, ◌<◌, ◌≤◌, length, get_or}
use Rattle.glock_names.specs.Views.{HasBlock}
use Rattle.dinode_tree.specs.Below.{AreAdded}
use Rattle.dinode_tree.specs.declared.ways.Link.{Link}
use Rattle.dinode_tree.proofs.Rows.{Upto, UnderAt}
use Rattle.dinode_tree.proofs.below.add_row.Given as goal

abbrev pub invariant-loop-link : goal.invariant-loop-link
invariant-loop-link g l = record {
  within : l.link-index ≤ length l.row;
  added : AreAdded l.initial.below l.below (Upto (UnderAt (g.V.View.seen l.view) l.row) l.link-index);
  there : (j : ℕ) (over : Link) → j < l.link-index → get_or l.row j over ≡ over → HasBlock (g.V.View.seen l.view) over.block;
}
