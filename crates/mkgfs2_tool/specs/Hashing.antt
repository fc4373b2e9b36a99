-- The directory of journals where it is a hashed one: its table, and the records of its leaves.
use Rattle.std.specs.Prelude.{ℕ, ◌+◌, ◌-◌, ◌^◌, ◌==◌, ◌&&◌, nat_lt, if◌then◌else◌, List}
use Rattle.std.specs.List.{range_with_len, flat_map}
use Rattle.std.specs.Int.{w64, to_be_bytes}
use Rattle.gfs2_layout.specs.Inode.{leaf_length}
use Rattle.gfs2_layout.specs.declared.leaf.Leaf.{Leaf}
use Rattle.mkgfs2_tool.specs.Groups.{data_address}
use Rattle.mkgfs2_tool.specs.Order.{is_split, leaf_place}
use Rattle.mkgfs2_tool.specs.Directories.{journals_entries, lower_entries, upper_entries}
use Rattle.mkgfs2_tool.specs.declared.directory.Entry.{Entry}
use Rattle.mkgfs2_tool.specs.declared.plan.Plan.{Plan}

-- ---- the table: pointers for the first five bits of a hash

abbrev pub table_depth : ℕ
table_depth = 5

-- of two leaves the lower half of the pointers leads to the one that was taken last
abbrev pub leaf_of_pointer : Plan → ℕ → ℕ
leaf_of_pointer p i = if is_split p && nat_lt i (2 ^ (table_depth - 1)) then 1 else 0

unfoldable pub table_bytes : Plan → List ℕ
table_bytes p = flat_map (λ i. to_be_bytes w64 (data_address p (leaf_place p (leaf_of_pointer p i)))) (range_with_len 0 (2 ^ table_depth))

-- ---- the leaves

abbrev pub leaf_room : Plan → ℕ
leaf_room p = p.size - leaf_length

abbrev pub leaf_entries : Plan → ℕ → List Entry
leaf_entries p n = if is_split p then (if n == 0 then upper_entries p else lower_entries p) else journals_entries p

-- how many of its records are in use
abbrev pub leaf_records : Plan → ℕ → ℕ
leaf_records p n = if is_split p then (if n == 0 then 5 else p.journals - 3) else 2 + p.journals

-- its names have so many first bits of their hashes alike
abbrev pub leaf_depth : Plan → ℕ
leaf_depth p = if is_split p then 1 else 0

abbrev pub leaf_head : Plan → ℕ → Leaf
leaf_head p n = record { depth = leaf_depth p; entries = leaf_records p n; next = 0 }
