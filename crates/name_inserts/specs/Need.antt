-- How many blocks a name takes that comes into a directory, whatever its form.
use Rattle.std.specs.Prelude.{ℕ, suc, zero, ◌+◌, ◌-◌, ◌*◌, ◌^◌, ◌==◌, ◌&&◌, nat_le, nat_lt, Bool, if◌then◌else◌, List, [], ◌∷◌, length, map, slice_get, unwrap_or}
use Rattle.std.specs.List.{list_any}
use Rattle.crc_words.specs.Remainder.{crc32_of}
use Rattle.gfs2_layout.specs.Area.{Slot, slots_of}
use Rattle.gfs2_layout.specs.Holding.{Holding}
use Rattle.gfs2_layout.specs.Inode.{depth_in, dinode_in, entry, is_hashed_in, leaf_area, leaf_in, leaf_length, linear_area}
use Rattle.leaf_areas.specs.Moving.{in_use, packed}
use Rattle.hash_inserts.specs.Tables.{doubling_need}
use Rattle.hash_inserts.specs.Shown.{index_for}
use Rattle.hash_inserts.specs.Leaves.{has_room_for, leaf_depth}
use Rattle.hash_inserts.specs.Needing.{Chain, doubled, split_for}

-- ---- of a hashed directory

-- the chain has one leaf
abbrev pub has_one : Chain → Bool
has_one c = length c.leaves == 1

-- the table may be doubled: it isn't as deep as one may be
abbrev pub is_growable : Chain → Bool
is_growable c = nat_le (2 * 2 ^ c.table) (8 * c.size)

-- the records of the first leaf
abbrev pub first_leaf : Chain → List Slot
first_leaf c = unwrap_or (slice_get c.leaves 0) []

-- How many blocks a name of this length and hash takes, in so many steps at most. Of three rules the first that fits is followed, until a leaf has
-- room: the one leaf is split; the table is doubled; a leaf is added.
unfoldable pub need_within : ℕ → ℕ → ℕ → Chain → ℕ
need_within zero len hash c = 0
need_within (suc steps) len hash c =
    if list_any (has_room_for len) c.leaves then 0
    else if has_one c && nat_lt c.depth c.table then need_within steps len hash (split_for hash (first_leaf c) c) + 1
    else if has_one c && is_growable c then need_within steps len hash (doubled c) + doubling_need c.size c.height (2 ^ c.table)
    else 1

-- A split makes a leaf one deeper, and a doubling the table; neither gets deeper than 15: so 31 steps are enough.
abbrev pub most_steps : ℕ
most_steps = 31

-- so many leaves of a chain at most, from this one on
unfoldable pub leaves_from : ℕ → Holding → ℕ → List ℕ
leaves_from zero h x = []
leaves_from (suc more) h x = x ∷ (if (leaf_in h x).next == 0 then [] else leaves_from more h (leaf_in h x).next)

-- the chain of a name: no chain has more leaves than the image has blocks
abbrev pub chain_of : Holding → List ℕ → Chain
chain_of h name = record {
  size = h.size;
  height = (dinode_in h).height;
  table = depth_in h;
  depth = leaf_depth h (index_for h name);
  leaves = map (λ x. slots_of (leaf_area h x)) (leaves_from h.count h (entry h (index_for h name)));
}

abbrev pub need_in_hashed : Holding → List ℕ → ℕ
need_in_hashed h name = need_within most_steps (length name) (crc32_of name) (chain_of h name)

-- ---- of a linear directory

-- how deep the first table of a directory is, by the size of a block: half a block of pointers
abbrev pub first_depth : ℕ → ℕ
first_depth size = if size == 512 then 5 else if size == 1024 then 6 else if size == 2048 then 7 else 8

-- the one chain that it has once it is a hashed one: a leaf of depth 0 with all its records
abbrev pub first_chain : Holding → Chain
first_chain h = record {
  size = h.size;
  height = 0;
  table = first_depth h.size;
  depth = 0;
  leaves = packed (h.size - leaf_length) (in_use (slots_of (linear_area h))) ∷ [];
}

-- some record of it has room for that of the name
abbrev pub has_linear_room : Holding → List ℕ → Bool
has_linear_room h name = has_room_for (length name) (slots_of (linear_area h))

-- none where it has room; else a leaf, and what the name takes in the hashed directory that it becomes
abbrev pub need_in_linear : Holding → List ℕ → ℕ
need_in_linear h name = if has_linear_room h name then 0 else need_within most_steps (length name) (crc32_of name) (first_chain h) + 1

-- ---- of a directory

-- how many blocks a name takes that the directory hasn't
abbrev pub name_need : Holding → List ℕ → ℕ
name_need h name = if is_hashed_in h then need_in_hashed h name else need_in_linear h name
