-- The blocks that a call takes which makes a name, and the locks under which they are found.
use Rattle.std.specs.Prelude.{ℕ, nat_lt, if◌then◌else◌, List, [], ◌++◌, length, map, slice_get, Option, None, Some}
use Rattle.glock_names.specs.Views.{group_of_entry}
use Rattle.glock_names.specs.declared.State.TheVariants.{Ex}
use Rattle.glock_names.specs.declared.views.Group.{Group}
use Rattle.image_model.specs.Owners.{Owners}
use Rattle.image_model.specs.Stands.{Layout}
use Rattle.name_drafts.specs.Holds.{Hold, hold_for}
use Rattle.room_search.specs.Blocks.{States, free_for, group_holds, group_of_node, states_by}

-- the first of these blocks, where they are as many as are needed
abbrev pub first_of : ℕ → List ℕ → Option ℕ
first_of need blocks = if nat_lt (length blocks) need then None else slice_get blocks 0

-- the locks under which a node with this group finds so many blocks, and then, where enough are free, that of the first of them, which is the new inode's
abbrev pub block_holds : States → List Group → Group → ℕ → List Hold
block_holds says groups own need = group_holds says groups own need ++ hold_for (first_of need (free_for says groups own need)) Ex

abbrev pub holds_from : States → List Group → Option Group → ℕ → List Hold
holds_from says groups None need = []
holds_from says groups (Some own) need = block_holds says groups own need

-- the locks that a node takes for a new inode and so many blocks in all, in an image with these owners
abbrev pub new_holds : Owners → Layout → ℕ → ℕ → List Hold
new_holds o l node need = holds_from (states_by o) (map group_of_entry l.groups) (group_of_node (map group_of_entry l.groups) node) need
