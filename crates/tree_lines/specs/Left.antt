-- What is left to be put of a tree, while some of its directories are open.
use Rattle.std.specs.Prelude.{ℕ, ◌+◌, ◌*◌, List, [], ◌∷◌, ◌++◌, take, drop}
use Rattle.file_tree.specs.Apply.{entries_of}
use Rattle.file_tree.specs.Parts.{entries_from}
use Rattle.file_tree.specs.Tree.{Entries, entry_count}
use Rattle.show_text.specs.Show.{entry_lines}
use Rattle.tree_lines.specs.declared.Open.{Open}

-- the names of an open directory that are to come
abbrev pub names_left : Open → Entries
names_left o = entries_from o.place (entries_of o.tree.now)

-- The lines that are left of open directories, each of them below the one before it by the next of these names, where the first
-- stands at this path: the last directory's come first.
abbrev pub lines_left : List (List ℕ) → List Open → List (List ℕ) → List ℕ
lines_left path [] names = []
lines_left path (o ∷ os) names = lines_left (path ++ take 1 names) os (drop 1 names) ++ entry_lines path (names_left o)

-- how much there is to do: each file and directory that is to come counts twice, and each open directory once
abbrev pub work_left : List Open → ℕ
work_left [] = 0
work_left (o ∷ os) = 1 + 2 * entry_count (names_left o) + work_left os
