-- A tree is a file with its bytes, or a directory with its names in rising byte order.
use Rattle.std.specs.Prelude.{ℕ, ◌≡◌, ◌+◌, List, [], ◌∷◌, Option, None, Some, ⊤}
use Rattle.std.specs.Ordering.{nat_cmp}
use Rattle.std.specs.Cmp.Lexicographic.{slice_cmp}
use Rattle.std.specs.declared.cmp.Ordering.{Ordering}
use Rattle.std.specs.declared.cmp.Ordering.TheVariants.{Less, Equal, Greater}
use Rattle.file_tree.specs.Names.{IsName}

mutual
  pub data Tree : Type 0 where
    file : List ℕ → Tree
    dir : Entries → Tree

  pub data Entries : Type 0 where
    none : Entries
    entry : List ℕ → Tree → Entries → Entries

abbrev pub name_order : List ℕ → List ℕ → Ordering
name_order n m = slice_cmp nat_cmp n m

-- ---- a directory as a finite map

abbrev pub if_equal : {A : Type 0} → Ordering → A → A → A
if_equal Less a b = b
if_equal Equal a b = a
if_equal Greater a b = b

abbrev pub by_order : {A : Type 0} → Ordering → A → A → A → A
by_order Less a b c = a
by_order Equal a b c = b
by_order Greater a b c = c

abbrev pub look : Entries → List ℕ → Option Tree
look none name = None
look (entry n t es) name = if_equal (name_order name n) (Some t) (look es name)

-- the name stands for this tree, and every other name for what it stood for
abbrev pub set : Entries → List ℕ → Tree → Entries
set none name tree = entry name tree none
set (entry n t es) name tree = by_order (name_order name n) (entry name tree (entry n t es)) (entry name tree es) (entry n t (set es name tree))

abbrev pub without : Entries → List ℕ → Entries
without none name = none
without (entry n t es) name = if_equal (name_order name n) es (entry n t (without es name))

abbrev pub names_in : Entries → List (List ℕ)
names_in none = []
names_in (entry n t es) = n ∷ names_in es

-- the name in its place among these, once
abbrev pub with_name : List (List ℕ) → List ℕ → List (List ℕ)
with_name [] m = m ∷ []
with_name (n ∷ ns) m = by_order (name_order m n) (m ∷ n ∷ ns) (m ∷ ns) (n ∷ with_name ns m)

-- all of these names put in their places, one after another
abbrev pub all_put : List (List ℕ) → List (List ℕ) → List (List ℕ)
all_put names [] = names
all_put names (n ∷ more) = all_put (with_name names n) more

abbrev pub count_in : Entries → ℕ
count_in none = 0
count_in (entry n t es) = 1 + count_in es

abbrev pub IsDir : Tree → Type 0
IsDir (file bytes) = ⊥
IsDir (dir es) = ⊤

-- ---- trees that are well formed: names are names, and rise

abbrev pub IsBelowFirst : List ℕ → Entries → Type 0
IsBelowFirst name none = ⊤
IsBelowFirst name (entry n t es) = name_order name n ≡ Less

abbrev mutual
  pub IsTree : Tree → Type 0
  IsTree (file bytes) = ⊤
  IsTree (dir es) = AreEntries es

  pub AreEntries : Entries → Type 0
  AreEntries none = ⊤
  AreEntries (entry n t es) = IsName n × IsBelowFirst n es × IsTree t × AreEntries es

-- ---- how many files and directories a tree has

abbrev mutual
  pub node_count : Tree → ℕ
  node_count (file bytes) = 1
  node_count (dir es) = 1 + entry_count es

  pub entry_count : Entries → ℕ
  entry_count none = 0
  entry_count (entry n t es) = node_count t + entry_count es
