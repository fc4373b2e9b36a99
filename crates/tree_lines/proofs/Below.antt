-- The names of a directory one after another, and their lines.
use Rattle.std.proofs.Common.{◌≡◌, ℕ, zero, suc, ◌+◌, ◌<◌, ◌≤◌, List, ◌++◌, refl, arith}
use Rattle.file_tree.specs.Apply.{entries_of}
use Rattle.file_tree.specs.Parts.{entries_from}
use Rattle.file_tree.specs.Tree.{Tree, Entries, file, dir, none, entry, count_in, node_count, entry_count, IsDir}
use Rattle.show_text.specs.Show.{dir_line, tree_lines, entry_lines}

-- before the last there is one more
pub some_left : (es : Entries) (place : ℕ) → place < count_in es → entries_from place es ≡ none → ⊥
some_left none place low e = absurd (omega arith)
some_left (entry n t es) zero low e = cc
some_left (entry n t es) (suc place) low e = some_left es place (omega arith) e

-- behind the last there is none
pub none_left : (es : Entries) (place : ℕ) → count_in es ≤ place → entries_from place es ≡ none
none_left none zero past = refl
none_left none (suc place) past = refl
none_left (entry n t es) zero past = absurd (omega arith)
none_left (entry n t es) (suc place) past = none_left es place (omega arith)

-- a directory is one more than what it names
pub dir_more : (t : Tree) → IsDir t → node_count t ≡ 1 + entry_count (entries_of t)
dir_more (file bytes) is = absurd is
dir_more (dir es) is = refl

-- its line stands before those
pub dir_lines : (t : Tree) (path : List (List ℕ)) → IsDir t → tree_lines path t ≡ dir_line path ++ entry_lines path (entries_of t)
dir_lines (file bytes) path is = absurd is
dir_lines (dir es) path is = refl
