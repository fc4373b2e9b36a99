use Rattle.std.proofs.Common.{◌≡◌, take}
use Rattle.logged_calls.specs.Keeping.{with_blocks}
use Rattle.logged_calls.proofs.keeping.keep_all.Given as goal

abbrev pub invariant-loop-written : goal.invariant-loop-written
invariant-loop-written l = record {
  kept : l.view ≡ record l.initial.view { blocks = with_blocks l.initial.view.blocks (take l.written-index l.blocks) };
}
