use Rattle.std.proofs.Common.{◌≡◌, ◌++◌, take}
use Rattle.file_tree.specs.PathText.{names_text}
use Rattle.show_text.proofs.append_names.Given as goal

abbrev pub invariant-loop-name : goal.invariant-loop-name
invariant-loop-name l = l.text.items ≡ l.initial.text.items ++ names_text (take l.name-index l.names)
