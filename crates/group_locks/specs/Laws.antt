-- How the locks of groups stand in a call's list.
use Rattle.std.specs.Prelude.{ℕ, ◌≡◌, ◌↔◌, Bool, true, List, ◌++◌, Contains}
use Rattle.file_tree.specs.Tree.{Tree}
use Rattle.gfs2_layout.specs.declared.rindex.Rindex.{Rindex}
use Rattle.glock_names.specs.Views.{Seen, group_of_entry}
use Rattle.glock_names.specs.declared.LockName.{LockName}
use Rattle.glock_names.specs.declared.State.TheVariants.{Ex}
use Rattle.glock_names.specs.declared.steps.Missing.{Missing}
use Rattle.resource_groups.specs.Freeing.{BreaksSome, IsNeededFor}
use Rattle.image_model.specs.Groups.{IsListed, IsDataOf}
use Rattle.image_model.specs.Image.{Image}
use Rattle.image_model.specs.Owners.{Owners}
use Rattle.image_model.specs.Stands.{Layout}
use Rattle.image_changes.specs.Does.{IsOf}
use Rattle.path_walks.specs.Holds.{Hold, AreHeld, IsAskedFor, IsFirstLack, hold_of_group}
use Rattle.group_locks.specs.Groups.{GroupsAreHeld, IsFirstGroupLack, holds_of_groups}

-- exactly these blocks pass the test
abbrev pub AreThose : (ℕ → Bool) → List ℕ → Type 0
AreThose test blocks = (b : ℕ) → Contains blocks b ↔ (test b ≡ true)

-- where the locks before are held, and each group that has some of the blocks is, the list is held
abbrev pub HeldGroupsHoldTheList : Type 0
HeldGroupsHoldTheList = (v : Seen) (im : Image) (o : Owners) (l : Layout) (t : Tree) (test : ℕ → Bool) (blocks : List ℕ) (list : List Hold) → IsOf v im o l t → AreThose test blocks
    → AreHeld v list → GroupsAreHeld v blocks → AreHeld v (list ++ holds_of_groups test l.groups)

-- the first such group that isn't held has the first lock of the list that isn't
abbrev pub FirstGroupLacksAreFirst : Type 0
FirstGroupLacksAreFirst = (v : Seen) (im : Image) (o : Owners) (l : Layout) (t : Tree) (test : ℕ → Bool) (blocks : List ℕ) (list : List Hold) (lock : LockName) → IsOf v im o l t → AreThose test blocks
    → AreHeld v list → IsFirstGroupLack v blocks lock → IsFirstLack v (list ++ holds_of_groups test l.groups) lock Ex

-- a block that is needed of such a group, where each of them is held, is asked for under its lock
abbrev pub BlocksOfGroupsAreAskedFor : Type 0
BlocksOfGroupsAreAskedFor = (v : Seen) (im : Image) (o : Owners) (l : Layout) (t : Tree) (test : ℕ → Bool) (blocks : List ℕ) (list : List Hold) (m : Missing) → IsOf v im o l t → AreThose test blocks
    → AreHeld v list → GroupsAreHeld v blocks → IsNeededFor v blocks m → IsAskedFor v im o l (list ++ holds_of_groups test l.groups) m

-- a group of which a data block passes the test has its lock in the list
abbrev pub GroupsWithBlocksAreListed : Type 0
GroupsWithBlocksAreListed = (test : ℕ → Bool) (groups : List Rindex) (g : Rindex) (b : ℕ) (list : List Hold) → IsListed groups g → IsDataOf g b → test b ≡ true
    → Contains (list ++ holds_of_groups test groups) (hold_of_group (group_of_entry g))

-- no group of an image that stands breaks a rule, as far as the view shows it
abbrev pub GroupsBreakNothing : Type 0
GroupsBreakNothing = (v : Seen) (im : Image) (o : Owners) (l : Layout) (t : Tree) (blocks : List ℕ) (rule b : ℕ) → IsOf v im o l t → ¬ (BreaksSome v blocks rule b)
