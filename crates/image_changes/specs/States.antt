-- Groups: those that a change leaves alone, and one in which the state of a block is put.
use Rattle.std.specs.Prelude.{ℕ, ◌≡◌, ◌+◌, ◌*◌, ◌<◌, ◌≤◌, Contains, List, [], length, slice_index_or, slice_set}
use Rattle.gfs2_layout.specs.Headers.{HasHeader}
use Rattle.gfs2_layout.specs.declared.rindex.Rindex.{Rindex}
use Rattle.gfs2_layout.specs.Groups.{bitmap_of, group_header, IsStatePut}
use Rattle.gfs2_layout.specs.States.{AreStatesPut, places_in}
use Rattle.image_model.specs.Groups.{IsHeaderOf, IsDataOf, group_blocks, states_of, state_of, IsGroup}
use Rattle.image_model.specs.Image.{Image}
use Rattle.image_model.specs.Owners.{Owners}

-- a group whose header and bitmap are as before, and whose data blocks keep their states, says what the table does
abbrev pub GroupsStay : Type 0
GroupsStay = (im im' : Image) (o o' : Owners) (g : Rindex) → ((b : ℕ) → IsHeaderOf g b → im'.at b ≡ im.at b) → ((b : ℕ) → IsDataOf g b → state_of (o' b) ≡ state_of (o b))
    → IsGroup g (group_blocks im.at g) (states_of o g) → IsGroup g (group_blocks im'.at g) (states_of o' g)

-- a group with the state of a data block put says the states with that one put
abbrev pub StateIsPut : Type 0
StateIsPut = (g : Rindex) (old new : List (List ℕ)) (states : List ℕ) (i state : ℕ) → IsGroup g old states → i < g.data_blocks → i < 4 * length (bitmap_of old) → state < 4
    → IsStatePut old new i state → IsGroup g new (slice_set states i state)

-- a group's header is written with another number of its last inode, and all else of the group stays: it says the same states
abbrev pub OtherGeneration : Type 0
OtherGeneration = (g : Rindex) (old new : List (List ℕ)) (states : List ℕ) (n : ℕ) → IsGroup g old states → HasHeader 2 200 (slice_index_or new 0 [])
    → ((k : ℕ) → 0 < k → slice_index_or new k [] ≡ slice_index_or old k []) → group_header new ≡ record (group_header old) { igeneration = n }
    → bitmap_of new ≡ bitmap_of old → IsGroup g new states

-- states that are, block by block, those of the owners are the table's
abbrev pub TableSays : Type 0
TableSays = (o : Owners) (g : Rindex) (states : List ℕ) → length states ≡ g.data_blocks
    → ((i : ℕ) → i < g.data_blocks → slice_index_or states i 0 ≡ state_of (o (g.data0 + i))) → states ≡ states_of o g

-- A group some of whose data blocks are freed, one after another, says what the table does in which these are free and the group's other
-- data blocks have the states of before.
abbrev pub BlocksAreFreed : Type 0
BlocksAreFreed = (im im' : Image) (o o' : Owners) (g : Rindex) (blocks : List ℕ) → g.data_blocks ≤ 4 * length (bitmap_of (group_blocks im.at g))
    → ((b : ℕ) → IsDataOf g b → Contains blocks b → state_of (o' b) ≡ 0) → ((b : ℕ) → IsDataOf g b → ¬ (Contains blocks b) → state_of (o' b) ≡ state_of (o b))
    → AreStatesPut (group_blocks im.at g) (group_blocks im'.at g) (places_in g.data0 g.data_blocks blocks) 0
    → IsGroup g (group_blocks im.at g) (states_of o g) → IsGroup g (group_blocks im'.at g) (states_of o' g)

-- A group at some of whose data blocks one state is put, one after another, says what the table does in which these have that state and
-- the group's other data blocks those of before: so where blocks are taken, state 1, or freed, state 0.
abbrev pub BlocksAreSet : Type 0
BlocksAreSet = (im im' : Image) (o o' : Owners) (g : Rindex) (blocks : List ℕ) (state : ℕ) → state < 4 → g.data_blocks ≤ 4 * length (bitmap_of (group_blocks im.at g))
    → ((b : ℕ) → IsDataOf g b → Contains blocks b → state_of (o' b) ≡ state) → ((b : ℕ) → IsDataOf g b → ¬ (Contains blocks b) → state_of (o' b) ≡ state_of (o b))
    → AreStatesPut (group_blocks im.at g) (group_blocks im'.at g) (places_in g.data0 g.data_blocks blocks) state
    → IsGroup g (group_blocks im.at g) (states_of o g) → IsGroup g (group_blocks im'.at g) (states_of o' g)
