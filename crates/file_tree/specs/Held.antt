-- The tree that a node in memory stands for.
use Rattle.std.specs.Prelude.{ℕ, zero, suc, ◌≡◌, ⊤, List, [], ◌∷◌}
use Rattle.std.specs.declared.cmp.Ordering.TheVariants.{Less, Equal, Greater}
use Rattle.file_tree.specs.Tree.{Tree, Entries, file, dir, none, entry, name_order, IsBelowFirst}
use Rattle.file_tree.specs.declared.tree.Node.{Node}
use Rattle.file_tree.specs.declared.tree.Node.TheVariants.{File, Dir}
use Rattle.file_tree.specs.declared.tree.Entry.{Entry}

abbrev pub entries_held : List Entry → Entries
entries_held [] = none
entries_held (e ∷ es) = entry e.name e.tree (entries_held es)

abbrev pub tree_held : Node → Tree
tree_held (File content) = file content
tree_held (Dir entries) = dir (entries_held entries.items)

-- each name is below the next
abbrev pub NamesRise : Entries → Type 0
NamesRise none = ⊤
NamesRise (entry n t es) = IsBelowFirst n es × NamesRise es

abbrev pub NodeRises : Node → Type 0
NodeRises (File content) = ⊤
NodeRises (Dir entries) = NamesRise (entries_held entries.items)

-- the place among the entries where this new name belongs
abbrev pub IsPlace : List Entry → ℕ → List ℕ → Type 0
IsPlace [] zero name = ⊤
IsPlace [] (suc place) name = ⊥
IsPlace (e ∷ es) zero name = name_order name e.name ≡ Less
IsPlace (e ∷ es) (suc place) name = (name_order name e.name ≡ Greater) × IsPlace es place name

-- the entry at this place has the name, and all before it lower ones
abbrev pub IsEntryAt : List Entry → ℕ → List ℕ → Type 0
IsEntryAt [] place name = ⊥
IsEntryAt (e ∷ es) zero name = name_order name e.name ≡ Equal
IsEntryAt (e ∷ es) (suc place) name = (name_order name e.name ≡ Greater) × IsEntryAt es place name
