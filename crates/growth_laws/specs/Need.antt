-- How many blocks a write needs: those of the places on its way that have none.
use Rattle.std.specs.Prelude.{ℕ, zero, suc, ◌+◌, ◌-◌, ◌*◌, ◌==◌, ◌&&◌, ◌||◌, not, nat_lt, Bool, if◌then◌else◌, max, count_by}
use Rattle.std.specs.List.{range_with_len}
use Rattle.gfs2_layout.specs.Holding.{Holding}
use Rattle.gfs2_layout.specs.Inode.{dinode_in, height_in, fan, span, pointer, pieces}
use Rattle.gfs2_layout.specs.Structures.{dinode_length}
use Rattle.growth_laws.specs.Files.{places_on, block_on}

-- ---- the height

-- how many bytes of content a file of this height may have
abbrev pub capacity : ℕ → ℕ → ℕ
capacity size zero = size - dinode_length
capacity size (suc level) = fan size dinode_length * span size level * size

-- The height of a file with so many bytes afterwards: the least one from the height on, so many more at most, that has room for them.
abbrev pub raised_to : ℕ → ℕ → ℕ → ℕ → ℕ
raised_to size height bytes zero = height
raised_to size height bytes (suc more) = if nat_lt (capacity size height) bytes then raised_to size (suc height) bytes more else height

-- a file is never lower than it was
abbrev pub height_for : Holding → ℕ → ℕ
height_for h bytes = raised_to h.size (height_in h) bytes (10 - height_in h)

-- ---- places

-- the file has content that goes along when it grows: a block that the dinode leads to, or bytes in the dinode's block
abbrev pub has_content : Holding → Bool
has_content h =
    if height_in h == 0 then not ((dinode_in h).size == 0)
    else not (count_by (λ k. not (pointer h dinode_length h.own k == 0)) (range_with_len 0 (fan h.size dinode_length)) == 0)

-- a block stands at the place, of the tree as it is
abbrev pub is_there : Holding → ℕ → ℕ → Bool
is_there h level j = nat_lt level (height_in h) && nat_lt j (places_on h level) && not (block_on h level j == 0)

-- the content below the place, on this level, has bytes from `at` up to `end`
abbrev pub is_over : ℕ → ℕ → ℕ → ℕ → ℕ → Bool
is_over size at end level j = nat_lt at end && nat_lt (j * span size level * size) end && nat_lt at ((j + 1) * span size level * size)

-- On the way of a write: a place over its bytes; or the first place of a level that is new, where the file has content.
abbrev pub is_on_way : Holding → ℕ → ℕ → ℕ → ℕ → Bool
is_on_way h at end level j = is_over h.size at end level j || (not (nat_lt level (height_in h)) && j == 0 && has_content h)

-- a write from `at` up to `end` needs a block at the place
abbrev pub is_needed : Holding → ℕ → ℕ → ℕ → ℕ → Bool
is_needed h at end level j = is_on_way h at end level j && not (is_there h level j)

-- so many on a level; no place on the way is past the end
abbrev pub needed_on : Holding → ℕ → ℕ → ℕ → ℕ
needed_on h at end level = count_by (is_needed h at end level) (range_with_len 0 (max 1 (pieces end (span h.size level * h.size))))

-- How many blocks a write from `at` up to `end` needs on the levels below this one.
abbrev pub needed_below : Holding → ℕ → ℕ → ℕ → ℕ
needed_below h at end zero = 0
needed_below h at end (suc level) = needed_on h at end level + needed_below h at end level

-- How many blocks a write of so many bytes from a place on needs: on all levels of the file as high as it is afterwards.
abbrev pub needed : Holding → ℕ → ℕ → ℕ
needed h at len = needed_below h at (at + len) (height_for h (max (dinode_in h).size (at + len)))
