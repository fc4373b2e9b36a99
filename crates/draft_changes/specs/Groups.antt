-- What a call's draft makes of a resource group.
use Rattle.std.specs.Prelude.{ℕ, ◌≡◌, ◌⊎◌, ◌-◌, ◌*◌, ◌<◌, ◌≤◌, false, List, length, slice_set, None, Some}
use Rattle.std.specs.Ordering.{nat_cmp}
use Rattle.std.specs.FinMap.{FinMap, get}
use Rattle.drafts.specs.Fates.{seen_with}
use Rattle.drafts.specs.declared.fate.Fate.{Fate}
use Rattle.drafts.specs.declared.fate.Fate.TheVariants.{Put}
use Rattle.gfs2_layout.specs.declared.rindex.Rindex.{Rindex}
use Rattle.gfs2_layout.specs.Groups.{bitmap_of}
use Rattle.glock_names.specs.Views.{Seen, HasBlock, group_of_entry}
use Rattle.resource_groups.specs.Putting.{IsPutIn, overlaid}
use Rattle.image_model.specs.Groups.{IsHeaderOf, IsDataOf, group_blocks, IsGroup}
use Rattle.image_model.specs.Image.{Image}
use Rattle.image_changes.specs.Drafted.{with_draft}
use Rattle.draft_changes.specs.Shown.{AgreesWith}

-- the block is put under the group's lock, as no content
abbrev pub IsPutUnder : FinMap nat_cmp Fate → Rindex → ℕ → Type 0
IsPutUnder fates g b = (bytes : List ℕ) × (get fates b ≡ Some (Put (record { kind = 3; number = g.address }) false bytes))

-- with the draft the group's blocks say these states: some of its header and bitmap is put, each such block under the group's lock, and
-- none of them is freed
pub record PutsGroup (im : Image) (fates : FinMap nat_cmp Fate) (g : Rindex) (states : List ℕ) : Type 0 where
  pub says : IsGroup g (group_blocks (with_draft im fates).at g) states
  pub some : (b : ℕ) × IsHeaderOf g b × IsPutUnder fates g b
  pub blocks : (b : ℕ) → IsHeaderOf g b → (get fates b ≡ None) ⊎ IsPutUnder fates g b

-- after a draft in which a group said some states, a later one in which the state of a data block is put says the states with that one put
abbrev pub StatesArePut : Type 0
StatesArePut = (v : Seen) (fates later : FinMap nat_cmp Fate) (im : Image) (g : Rindex) (states : List ℕ) (b state : ℕ) → AgreesWith v im
    → ((c : ℕ) → HasBlock (seen_with v fates) c → HasBlock (seen_with v later) c)
    → IsPutIn (with_draft im fates).at (overlaid (seen_with v later) (with_draft im fates).at) (group_of_entry g) b state
    → IsDataOf g b → state < 4 → g.data_blocks ≤ 4 * length (bitmap_of (group_blocks (with_draft im fates).at g))
    → IsGroup g (group_blocks (with_draft im fates).at g) states
    → IsGroup g (group_blocks (with_draft im later).at g) (slice_set states (b - g.data0) state)

-- a later draft that makes of each block of the group's header and bitmap what the first one made puts the group as that did
abbrev pub GroupsStayPut : Type 0
GroupsStayPut = (fates later : FinMap nat_cmp Fate) (im : Image) (g : Rindex) (states : List ℕ) → ((b : ℕ) → IsHeaderOf g b → get later b ≡ get fates b)
    → PutsGroup im fates g states → PutsGroup im later g states
