use Rattle.std.proofs.Common.{◌≡◌, take}
use Rattle.trace_text.specs.Text.{print}
use Rattle.trace_text.proofs.text.print.Given as goal

abbrev pub invariant-loop-item : goal.invariant-loop-item
invariant-loop-item l = l.text.items ≡ print (take l.item-index l.items)
