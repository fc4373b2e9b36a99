use Rattle.std.proofs.Common.{◌≡◌, ℕ, length, take}
use Rattle.std.specs.Prelude.{if◌then◌else◌}
use Rattle.replay_marks.specs.Marking.{is_among, mark_of}
use Rattle.replay_marks.specs.declared.marks.Mark.TheVariants.{Barred}
use Rattle.replay_marks.proofs.marks.Marks.bar.Given as goal

abbrev pub invariant-loop-block : goal.invariant-loop-block
invariant-loop-block l = record {
  long : length l.self-inside.marks.items ≡ length l.fn.self;
  marks : (b : ℕ) → mark_of l.self-inside.marks.items b ≡ (if is_among (take l.block-index l.blocks) b then Barred else mark_of l.fn.self b);
}
