use Rattle.std.proofs.Common.{◌≡◌, ◌<◌, ℕ, length, take}
use Rattle.std.specs.Prelude.{if◌then◌else◌}
use Rattle.replay_marks.specs.Marking.{mark_of}
use Rattle.replay_marks.specs.declared.marks.Mark.TheVariants.{Barred}
use Rattle.replayed_trees.specs.Marking.{is_place}
use Rattle.replayed_trees.proofs.marking.bar_journals.Given as goal

abbrev pub invariant-loop-journal : goal.invariant-loop-journal
invariant-loop-journal l = record {
  long : length l.marks ≡ length l.fn.marks;
  marks : (b : ℕ) → b < length l.fn.marks → mark_of l.marks b ≡ (if is_place (take l.journal-index l.journals) b then Barred else mark_of l.fn.marks b);
}
