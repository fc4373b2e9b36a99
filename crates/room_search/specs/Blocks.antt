-- The free blocks that a node takes for a call, and the locks of groups under which it finds them.
use Rattle.std.specs.Prelude.{ℕ, ◌-◌, ◌%◌, ◌==◌, nat_lt, Bool, if◌then◌else◌, List, [], ◌∷◌, ◌++◌, length, map, filter, flat_map, take, slice_get, Option, None, Some}
use Rattle.std.specs.List.{range_with_len}
use Rattle.glock_names.specs.Views.{group_of_entry}
use Rattle.glock_names.specs.declared.views.Group.{Group}
use Rattle.image_model.specs.Groups.{state_of}
use Rattle.image_model.specs.Owners.{Owners}
use Rattle.image_model.specs.Stands.{Layout}
use Rattle.path_walks.specs.Holds.{Hold, hold_of_group}

-- ---- free blocks

-- what is said of the state of a data block of a group
abbrev pub States : Type 0
States = Group → ℕ → ℕ

-- what a table of owners says
abbrev pub states_by : Owners → States
states_by o g b = state_of (o b)

-- a group's free data blocks, by rising number
abbrev pub free_in : States → Group → List ℕ
free_in says g = filter (λ b. says g b == 0) (range_with_len g.first g.count)

-- those of these groups, one group after another
abbrev pub free_in_all : States → List Group → List ℕ
free_in_all says groups = flat_map (free_in says) groups

-- the group that a node, from 1, goes to first: node after node the groups in turn
abbrev pub group_of_node : List Group → ℕ → Option Group
group_of_node groups node = slice_get groups ((node - 1) % length groups)

-- these groups have fewer free blocks than are needed
abbrev pub have_too_few : States → List Group → ℕ → Bool
have_too_few says first need = nat_lt (length (free_in_all says first)) need

-- the blocks that are taken where these groups come first: the least free ones of these, and where they have too few, of all groups in order
abbrev pub free_first : States → List Group → List Group → ℕ → List ℕ
free_first says groups first need = take need (if have_too_few says first need then free_in_all says groups else free_in_all says first)

-- those that a node with this group takes, which comes first alone
abbrev pub free_for : States → List Group → Group → ℕ → List ℕ
free_for says groups own need = free_first says groups (own ∷ []) need

-- ---- the locks

-- none where no block is needed; else those of the groups that come first; and where these have too few free blocks, those of all groups in order
abbrev pub first_holds : States → List Group → List Group → ℕ → List Hold
first_holds says groups first need = if need == 0 then [] else map hold_of_group first ++ (if have_too_few says first need then map hold_of_group groups else [])

-- where the node's own group comes first alone
abbrev pub group_holds : States → List Group → Group → ℕ → List Hold
group_holds says groups own need = first_holds says groups (own ∷ []) need

-- ---- in an image with these owners

-- the locks that are taken for so many blocks, where these groups come first
abbrev pub holds_of_first : Owners → Layout → List Group → ℕ → List Hold
holds_of_first o l first need = first_holds (states_by o) (map group_of_entry l.groups) first need

-- and the blocks that are taken
abbrev pub blocks_of_first : Owners → Layout → List Group → ℕ → List ℕ
blocks_of_first o l first need = free_first (states_by o) (map group_of_entry l.groups) first need

-- the group, where there is one
abbrev pub group_or_none : Option Group → List Group
group_or_none None = []
group_or_none (Some own) = own ∷ []

-- a node's own group, which comes first alone
abbrev pub own_first : Layout → ℕ → List Group
own_first l node = group_or_none (group_of_node (map group_of_entry l.groups) node)

-- the locks that a node takes for so many blocks
abbrev pub room_holds : Owners → Layout → ℕ → ℕ → List Hold
room_holds o l node need = holds_of_first o l (own_first l node) need

-- the blocks that it takes
abbrev pub room_blocks : Owners → Layout → ℕ → ℕ → List ℕ
room_blocks o l node need = blocks_of_first o l (own_first l node) need
