-- A search for free blocks in parts: of some groups alone.
use Rattle.std.specs.Prelude.{ℕ, ◌≡◌, ◌<◌, ◌≤◌, List, length, take, Contains}
use Rattle.glock_names.specs.Views.{Seen, HasGroup}
use Rattle.glock_names.specs.declared.steps.Missing.{Missing}
use Rattle.glock_names.specs.declared.views.Group.{Group}
use Rattle.resource_groups.specs.Shown.{IsShown, IsMissing, IsBroken}
use Rattle.room_search.specs.declared.search.Taken.{Taken}
use Rattle.room_search.specs.declared.search.Taken.TheVariants as taken

-- each of these groups is one of the view's
abbrev pub AreGroupsOf : Seen → List Group → Type 0
AreGroupsOf v groups = (g : Group) → Contains groups g → HasGroup v g

-- of these free blocks the first are taken, as many as are needed; or they are too few
abbrev pub IsFrontOf : List ℕ → ℕ → Taken → Type 0
IsFrontOf free need (taken.Is blocks) = (blocks.items ≡ take need free) × (need ≤ length free)
IsFrontOf free need (taken.TooFew count) = (count ≡ length free) × (count < need)

-- a block of one of these groups that the view hasn't
pub record IsMissingIn (v : Seen) (groups : List Group) (m : Missing) : Type 0 where
  pub group : Group
  pub one : Contains groups group
  pub missing : IsMissing v group m

-- one of these groups breaks this rule, as far as the view shows
pub record IsBrokenIn (v : Seen) (groups : List Group) (rule b : ℕ) : Type 0 where
  pub group : Group
  pub one : Contains groups group
  pub broken : (at : ℕ → List ℕ) → IsShown v group at → IsBroken at group rule b
