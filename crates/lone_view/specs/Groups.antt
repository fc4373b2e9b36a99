-- Groups that a node can work with on a disk.
use Rattle.std.specs.Prelude.{ℕ, ◌≤◌, List, length}
use Rattle.std.specs.List.{AllByRecursion}
use Rattle.glock_names.specs.Views.{AreGroups, end_of}
use Rattle.glock_names.specs.declared.views.Group.{Group}

-- some groups, such as every view has, each of which ends on a disk of so many blocks
pub record AreGroupsOn (size count : ℕ) (groups : List Group) : Type 0 where
  pub some : 1 ≤ length groups
  pub are : AreGroups size groups
  pub inside : AllByRecursion (λ g. end_of g ≤ count) groups
