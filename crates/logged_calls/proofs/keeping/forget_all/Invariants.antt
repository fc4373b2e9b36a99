use Rattle.std.proofs.Common.{◌≡◌, take}
use Rattle.logged_calls.specs.Keeping.{without_blocks}
use Rattle.logged_calls.proofs.keeping.forget_all.Given as goal

abbrev pub invariant-loop-block : goal.invariant-loop-block
invariant-loop-block l = record {
  left : l.view ≡ record l.initial.view { blocks = without_blocks l.initial.view.blocks (take l.block-index l.blocks) };
}
