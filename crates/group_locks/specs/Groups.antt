-- The locks of the resource groups that have given blocks.
use Rattle.std.specs.Prelude.{ℕ, ◌≡◌, ◌⊎◌, Bool, true, false, is_some, List, ◌∷◌, ◌++◌, map, filter, Contains, Option, Some}
use Rattle.std.specs.List.{list_any, range_with_len}
use Rattle.gfs2_layout.specs.Holding.{Holding}
use Rattle.gfs2_layout.specs.declared.rindex.Rindex.{Rindex}
use Rattle.glock_names.specs.Views.{Seen, group_of_entry}
use Rattle.glock_names.specs.declared.LockName.{LockName}
use Rattle.glock_names.specs.declared.views.Group.{Group}
use Rattle.resource_groups.specs.Shown.{group_lock}
use Rattle.resource_groups.specs.Freeing.{HasSome}
use Rattle.path_walks.specs.Holds.{Hold, holds, hold_of_group}

-- ---- in an image

-- some data block of the group passes the test
abbrev pub has_some : (ℕ → Bool) → Rindex → Bool
has_some test g = list_any test (range_with_len g.data0 g.data_blocks)

-- of the groups the locks of those that pass, as they are listed: one behind another, by rising number
abbrev pub holds_of_those : (Rindex → Bool) → List Rindex → List Hold
holds_of_those passes groups = map (λ g. hold_of_group (group_of_entry g)) (filter passes groups)

-- of those of which some data block passes the test
abbrev pub holds_of_groups : (ℕ → Bool) → List Rindex → List Hold
holds_of_groups test groups = holds_of_those (has_some test) groups

-- the block is one of the inode's
abbrev pub is_block_of : Holding → ℕ → Bool
is_block_of h b = is_some (h.cell b)

-- ---- in a view

-- of the view's groups of which this holds, this is the lock of the first that isn't held exclusive
pub record IsFirstLackOf (v : Seen) (P : Group → Type 0) (lock : LockName) : Type 0 where
  pub front : List Group
  pub group : Group
  pub back : List Group
  pub split : v.groups ≡ front ++ group ∷ back
  pub some : P group
  pub is : lock ≡ group_lock group
  pub lacks : holds v (hold_of_group group) ≡ false
  pub held : (g : Group) → Contains front g → P g → holds v (hold_of_group g) ≡ true

-- each of the groups of which this holds is held exclusive
abbrev pub AreHeldOf : Seen → (Group → Type 0) → Type 0
AreHeldOf v P = (g : Group) → Contains v.groups g → P g → holds v (hold_of_group g) ≡ true

-- of the view's groups that have some of these blocks as data blocks, this is the lock of the first that isn't held exclusive
abbrev pub IsFirstGroupLack : Seen → List ℕ → LockName → Type 0
IsFirstGroupLack v blocks lock = IsFirstLackOf v (λ g. HasSome g blocks) lock

-- each of the groups that have some of these blocks as data blocks is held exclusive
abbrev pub GroupsAreHeld : Seen → List ℕ → Type 0
GroupsAreHeld v blocks = AreHeldOf v (λ g. HasSome g blocks)

-- the group has this number, or has some of these blocks as data blocks
abbrev pub IsOneOrHas : Option ℕ → List ℕ → Group → Type 0
IsOneOrHas number blocks g = (number ≡ Some g.addr) ⊎ HasSome g blocks
