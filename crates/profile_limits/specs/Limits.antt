-- The numbers of the profile that several crates share.
use Rattle.std.specs.Prelude.{ℕ}

-- how many blocks a device has at most
abbrev pub most_blocks : ℕ
most_blocks = 131072

-- how many journals an image has at most
abbrev pub most_journals : ℕ
most_journals = 8

-- how many blocks a journal has, from the least to the greatest number
abbrev pub least_journal_blocks : ℕ
least_journal_blocks = 512

abbrev pub most_journal_blocks : ℕ
most_journal_blocks = 65536

-- how many groups an image has at most
abbrev pub most_groups : ℕ
most_groups = 64

-- how many blocks the headers and bitmaps of all groups have at most
abbrev pub most_group_blocks : ℕ
most_group_blocks = 128

-- how many frames a node's pool has, from the least to the greatest number
abbrev pub least_frames : ℕ
least_frames = 512

abbrev pub most_frames : ℕ
most_frames = 4096
