-- The marks with which a replay begins, as the code has them.
use Rattle.std.specs.Prelude.{ℕ, ◌+◌, ◌||◌, Bool, if◌then◌else◌, List}
use Rattle.std.specs.List.{list_any}
use Rattle.glock_names.specs.declared.views.Group.{Group}
use Rattle.image_mount.specs.Mounted.{Journal}
use Rattle.peer_replay.specs.declared.planned.Plan.{Plan}
use Rattle.replay_marks.specs.Marking.{has_block, is_among, is_between}
use Rattle.replay_marks.specs.declared.marks.Mark.{Mark}
use Rattle.replay_marks.specs.declared.marks.Mark.TheVariants.{Barred, Open}

-- the block is one of the group's header and bitmap, or of its data blocks
abbrev pub is_of_group : ℕ → Group → Bool
is_of_group block g = is_between g.addr (g.addr + g.length) block || is_between g.first (g.first + g.count) block

abbrev pub is_in_groups : List Group → ℕ → Bool
is_in_groups groups block = list_any (is_of_group block) groups

-- the block is at a place of one of these journals
abbrev pub is_place : List Journal → ℕ → Bool
is_place journals block = list_any (λ (j : Journal). is_among j.blocks block) journals

-- a block of a group may be written, but for one of the system files and a place of a journal
abbrev pub first_mark : List Group → List Journal → List ℕ → ℕ → Mark
first_mark groups journals system block = if is_among system block then Barred else if is_place journals block then Barred else if is_in_groups groups block then Open else Barred

-- one of these plans writes the block
abbrev pub is_planned : List Plan → ℕ → Bool
is_planned plans block = list_any (λ (p : Plan). has_block p.home.items block) plans
