use Rattle.std.proofs.Common.{◌≡◌, ◌<◌, ℕ, length, take}
use Rattle.std.specs.Prelude.{if◌then◌else◌}
use Rattle.replay_marks.specs.Marking.{mark_of}
use Rattle.replay_marks.specs.declared.marks.Mark.TheVariants.{Open}
use Rattle.replayed_trees.specs.Marking.{is_in_groups}
use Rattle.replayed_trees.proofs.marking.open_groups.Given as goal

abbrev pub invariant-loop-group : goal.invariant-loop-group
invariant-loop-group l = record {
  long : length l.marks ≡ length l.fn.marks;
  marks : (b : ℕ) → b < length l.fn.marks → mark_of l.marks b ≡ (if is_in_groups (take l.group-index l.groups) b then Open else mark_of l.fn.marks b);
}
