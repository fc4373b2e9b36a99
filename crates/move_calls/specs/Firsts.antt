-- Which groups have a number or some blocks, as a test, and these groups as a list.
use Rattle.std.specs.Prelude.{ℕ, ◌+◌, ◌==◌, ◌&&◌, ◌||◌, not, nat_lt, Bool, false, List, filter, Option, None, Some}
use Rattle.std.specs.List.{list_any}
use Rattle.glock_names.specs.declared.views.Group.{Group}

-- it is this number, where there is one
abbrev pub is_number : Option ℕ → ℕ → Bool
is_number None n = false
is_number (Some k) n = k == n

-- the block is a data block of the group
abbrev pub is_data_block : Group → ℕ → Bool
is_data_block g b = not (nat_lt b g.first) && nat_lt b (g.first + g.count)

-- the group has this number, or has some of these blocks as data blocks
abbrev pub is_one_or_has : Option ℕ → List ℕ → Group → Bool
is_one_or_has number blocks g = is_number number g.addr || list_any (is_data_block g) blocks

-- of these groups those that do, in their order
abbrev pub those_of : Option ℕ → List ℕ → List Group → List Group
those_of number blocks groups = filter (is_one_or_has number blocks) groups
