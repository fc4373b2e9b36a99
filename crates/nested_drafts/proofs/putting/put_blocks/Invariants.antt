use Rattle.std.proofs.Common.{◌≡◌, ◌≤◌, length, take}
use Rattle.nested_drafts.specs.Nested.{with_blocks}
use Rattle.nested_drafts.proofs.putting.put_blocks.Given as goal

abbrev pub invariant-loop-one : goal.invariant-loop-one
invariant-loop-one g l = record {
  within : l.one-index ≤ length l.blocks;
  put : l.draft ≡ record l.fn.draft { fates = with_blocks l.lock (take l.one-index l.blocks) l.fn.draft.fates };
}
