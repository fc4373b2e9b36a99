-- What `show` prints of an image: a line for each journal, and then the tree, depth first with names in rising order.
use Rattle.std.specs.Prelude.{ℕ, suc, List, [], ◌∷◌, ◌++◌, length, codes, Bool, if◌then◌else◌}
use Rattle.std.specs.Int.{to_be_bytes, w32}
use Rattle.hex.specs.Hex.{encode_lower}
use Rattle.crc_words.specs.Remainder.{crc32_of}
use Rattle.text_words.specs.Words.{word, number}
use Rattle.file_tree.specs.PathText.{path_text}
use Rattle.file_tree.specs.Tree.{Tree, Entries, file, dir, none, entry}

abbrev pub line : List ℕ → List ℕ
line words = words ++ (10 ∷ [])

-- whether the journal of this number was left clean
abbrev pub journal_line : ℕ → Bool → List ℕ
journal_line j clean = line (codes "journal" ++ number j ++ word (if clean then codes "clean" else codes "dirty"))

-- the journals from this number on
abbrev pub journal_lines : ℕ → List Bool → List ℕ
journal_lines j [] = []
journal_lines j (clean ∷ more) = journal_line j clean ++ journal_lines (suc j) more

abbrev pub dir_line : List (List ℕ) → List ℕ
dir_line path = line (codes "dir" ++ word (path_text path))

-- the content's checksum, in eight hexadecimal digits
abbrev pub checksum_text : List ℕ → List ℕ
checksum_text bytes = encode_lower (to_be_bytes w32 (crc32_of bytes))

abbrev pub file_line : List (List ℕ) → List ℕ → List ℕ
file_line path bytes = line (codes "file" ++ word (path_text path) ++ number (length bytes) ++ word (checksum_text bytes))

-- the tree at a path
abbrev mutual
  pub tree_lines : List (List ℕ) → Tree → List ℕ
  tree_lines path (file bytes) = file_line path bytes
  tree_lines path (dir es) = dir_line path ++ entry_lines path es

  pub entry_lines : List (List ℕ) → Entries → List ℕ
  entry_lines path none = []
  entry_lines path (entry name t es) = tree_lines (path ++ (name ∷ [])) t ++ entry_lines path es
