-- The names of a directory one after another.
use Rattle.std.specs.Prelude.{ℕ, zero, suc}
use Rattle.file_tree.specs.Tree.{Entries, none, entry}

-- the names from this place on, with what they stand for
abbrev pub entries_from : ℕ → Entries → Entries
entries_from zero es = es
entries_from (suc place) none = none
entries_from (suc place) (entry n t es) = entries_from place es
