use Rattle.std.proofs.Common.{◌≡◌, ◌++◌, take}
use Rattle.std.specs.List.{flat_map}
use Rattle.text_words.specs.Words.{word}
use Rattle.file_tree.specs.PathText.{name_text}
use Rattle.file_tree.proofs.call_text.append_listed.Given as goal

abbrev pub invariant-loop-name : goal.invariant-loop-name
invariant-loop-name l = l.text.items ≡ l.initial.text.items ++ flat_map (λ name. word (name_text name)) (take l.name-index l.names)
