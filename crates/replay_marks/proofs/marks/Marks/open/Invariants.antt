use Rattle.std.proofs.Common.{◌≡◌, ℕ, length}
use Rattle.std.specs.Prelude.{if◌then◌else◌}
use Rattle.replay_marks.specs.Marking.{is_between, mark_of}
use Rattle.replay_marks.specs.declared.marks.Mark.TheVariants.{Open}
use Rattle.replay_marks.proofs.marks.Marks.open.Given as goal

abbrev pub invariant-loop-block : goal.invariant-loop-block
invariant-loop-block l = record {
  long : length l.self-inside.marks.items ≡ length l.fn.self;
  marks : (b : ℕ) → mark_of l.self-inside.marks.items b ≡ (if is_between l.from l.block b then Open else mark_of l.fn.self b);
}
