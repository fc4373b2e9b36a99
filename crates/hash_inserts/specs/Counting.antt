-- What the code that counts the blocks of an insertion holds, as what it stands for.
use Rattle.std.specs.Prelude.{ℕ, List, [], ◌∷◌}
use Rattle.gfs2_layout.specs.Area.{Slot}
use Rattle.hash_inserts.specs.Needing.{Chain}
use Rattle.hash_inserts.specs.declared.counting.OneLeaf.{OneLeaf}

-- the chain with one leaf, which has these records, in blocks of this size
abbrev pub chain_with : ℕ → OneLeaf → List Slot → Chain
chain_with size one slots = record { size = size; height = one.height; table = one.table; depth = one.depth; leaves = slots ∷ [] }
