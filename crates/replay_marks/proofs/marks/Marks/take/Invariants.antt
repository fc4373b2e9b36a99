use Rattle.std.proofs.Common.{◌≡◌, ◌<◌, ℕ, length, take}
use Rattle.std.specs.Prelude.{if◌then◌else◌}
use Rattle.std.specs.List.{AllByRecursion}
use Rattle.drafts.specs.declared.change.Written.{Written}
use Rattle.replay_marks.specs.Marking.{has_block, mark_of}
use Rattle.replay_marks.specs.declared.marks.Mark.TheVariants.{Live, Open}
use Rattle.replay_marks.proofs.marks.Marks.take.Given as goal

abbrev pub invariant-loop-written : goal.invariant-loop-written
invariant-loop-written l = record {
  long : length l.self ≡ length l.fn.self;
  open_all : AllByRecursion (λ (w : Written). (w.block < length l.fn.self) × (mark_of l.fn.self w.block ≡ Open)) (take l.written-index l.home);
  marks : (b : ℕ) → mark_of l.self b ≡ (if has_block (take l.written-index l.home) b then Live else mark_of l.fn.self b);
}
