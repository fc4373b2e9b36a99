-- Where the resource groups of a new image lie.
use Rattle.std.specs.Prelude.{ℕ, ◌+◌, ◌-◌, ◌*◌, ◌/◌, ◌≤◌, ◌==◌, min, if◌then◌else◌}
use Rattle.gfs2_layout.specs.Device.{superblock_place}
use Rattle.mkgfs2_tool.specs.declared.plan.Plan.{Plan}

-- how many parts of this size the whole makes, the last of them maybe smaller
abbrev pub parts : ℕ → ℕ → ℕ
parts whole size = (whole + size - 1) / size

-- the superblock's block
abbrev pub super_block : Plan → ℕ
super_block p = superblock_place p.size

-- The blocks behind the superblock are shared among the groups evenly, and the last group also has what is left over.
abbrev pub share : Plan → ℕ
share p = (p.count - super_block p - 1) / p.groups

abbrev pub last_group : Plan → ℕ
last_group p = p.groups - 1

abbrev pub group_address : Plan → ℕ → ℕ
group_address p group = super_block p + 1 + group * share p

abbrev pub group_blocks : Plan → ℕ → ℕ
group_blocks p group = if group == last_group p then p.count - group_address p group else share p

-- the bitmap of a group's first block stands behind 128 bytes, that of each further one behind 24, and a byte is for four blocks
abbrev pub first_bitmap : ℕ → ℕ
first_bitmap size = 4 * (size - 128)

abbrev pub further_bitmap : ℕ → ℕ
further_bitmap size = 4 * (size - 24)

-- the bitmaps of so many blocks of header hold the states of all other blocks of a group
abbrev pub Suffice : ℕ → ℕ → ℕ → Type 0
Suffice size blocks headers = blocks - headers ≤ first_bitmap size + (headers - 1) * further_bitmap size

-- A group begins with as few blocks of header and bitmap as suffice: beyond the first, each makes room for its bitmap and for itself.
abbrev pub header_blocks : ℕ → ℕ → ℕ
header_blocks size blocks = 1 + parts (blocks - 1 - first_bitmap size) (further_bitmap size + 1)

abbrev pub headers_of : Plan → ℕ → ℕ
headers_of p group = header_blocks p.size (group_blocks p group)

-- then come its data blocks, a multiple of four of them; up to three blocks at its end are nobody's
abbrev pub first_data : Plan → ℕ → ℕ
first_data p group = group_address p group + headers_of p group

abbrev pub data_blocks : Plan → ℕ → ℕ
data_blocks p group = (group_blocks p group - headers_of p group) / 4 * 4

-- ---- the data blocks of all groups, one after another; every group but the last has as many as the first

abbrev pub data_before : Plan → ℕ → ℕ
data_before p group = group * data_blocks p 0

abbrev pub all_data : Plan → ℕ
all_data p = data_before p (last_group p) + data_blocks p (last_group p)

abbrev pub group_of_data : Plan → ℕ → ℕ
group_of_data p k = min (k / data_blocks p 0) (last_group p)

-- the address of data block k
unfoldable pub data_address : Plan → ℕ → ℕ
data_address p k = let group = group_of_data p k in first_data p group + (k - data_before p group)
