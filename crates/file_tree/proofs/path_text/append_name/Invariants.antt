use Rattle.std.proofs.Common.{◌≡◌, ◌++◌, take}
use Rattle.file_tree.specs.PathText.{name_text}
use Rattle.file_tree.proofs.path_text.append_name.Given as goal

abbrev pub invariant-loop-byte : goal.invariant-loop-byte
invariant-loop-byte l = l.text.items ≡ l.initial.text.items ++ name_text (take l.byte-index l.byte-items)
